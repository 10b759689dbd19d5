-- What is claimed of the check: the rules alone decide its answer.
use Rattle.std.specs.Prelude.{ℕ, ◌≤◌, ◌<◌, ◌≡◌, List, length}
use Rattle.outcome.specs.Outcome.{answer}
use Rattle.block.specs.Block.{Block}
use Rattle.block.specs.Survey.{ordinary, records_of}
use Rattle.checker.specs.declared.Checked.{Checked}
use Rattle.checker.specs.Check.{accept_of}
use Rattle.theorems_check.specs.Rules.{Rules}

-- the file is accepted with these blocks: it keeps the rules, each ordinary block has a place on the work list, and blocks and records are
-- counted
pub record AcceptedWith (file : List ℕ) (places : ℕ) (r : Checked) (bs : List Block) : Type 0 where
  pub accepted : accept_of file ≡ answer bs
  pub rules : Rules file bs
  pub enough : length (ordinary bs) ≤ places
  pub counted : r ≡ record { number = 0; place = 0; blocks = length (ordinary bs); records = length (records_of bs) }

-- Demand 2, checking: r is the answer of a check of the file with a work list of so many places.
pub record CheckedByRules (file : List ℕ) (places : ℕ) (r : Checked) : Type 0 where
  -- only a file that keeps the rules is accepted
  pub only : r.number ≡ 0 → (bs : List Block) × AcceptedWith file places r bs
  -- and every such file is, with a place for each ordinary block; with fewer places it is refused as 18
  pub every : (bs : List Block) → Rules file bs → length (ordinary bs) ≤ places → r.number ≡ 0
  pub too_few : (bs : List Block) → Rules file bs → places < length (ordinary bs) → r.number ≡ 18
