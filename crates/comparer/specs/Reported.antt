-- What the results within a comparison say.
use Rattle.std.specs.Prelude.{ℕ, ◌≡◌, List, length, pos, Option, Some, None, Result, Ok, Err}
use Rattle.outcome.specs.Outcome.{Outcome, answer, refused}
use Rattle.block.specs.Block.{Block}
use Rattle.block.specs.Survey.{records_of}
use Rattle.shown.specs.declared.place.Which.{Which}
use Rattle.shown.specs.Which.{number}
use Rattle.comparer.specs.declared.Refused.{Refused}
use Rattle.comparer.specs.declared.Compared.{Compared}

-- the number of a file, 0 for none
unfoldable pub number_of_file : Option Which → ℕ
number_of_file None = 0
number_of_file (Some w) = number w

-- a refusal: nothing is counted
unfoldable pub refused_as : Refused → Compared
refused_as r = record { number = r.number; place = r.place; which = number_of_file r.file; differences = 0; sum = pos 0 }

unfoldable pub reported : Result Compared Refused → Compared
reported (Ok compared) = compared
reported (Err r) = refused_as r

-- the check of a file: how many records it has, or its refusal
unfoldable pub CheckSaid : Which → Result ℕ Refused → Outcome (List Block) → Type 0
CheckSaid which (Ok count) o = (blocks : List Block) × (o ≡ answer blocks) × (count ≡ length (records_of blocks))
CheckSaid which (Err r) o = (o ≡ refused r.number r.place) × (r.file ≡ Some which)
