-- 25 as it is checked: on the blocks as they lie in the file, whether or not they have passed their tests.
use Rattle.std.specs.Prelude.{ℕ, ◌^◌, List, leb, length}
use Rattle.outcome.specs.Outcome.{Outcome, ◌>>◌, must}
use Rattle.block.specs.Laid.{laid_from}
use Rattle.tree.specs.Stages.{hash_rule_of}

-- 1 for a file that is too long, then 25 for its blocks from an offset on
unfoldable pub hash_of : List ℕ → (from : ℕ) → Outcome (Unit {0})
hash_of file from = must (leb (length file) (2 ^ 30)) 1 0 >> hash_rule_of file (laid_from file from)
