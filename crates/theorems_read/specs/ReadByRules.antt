-- What is claimed of reading front to back: on a file that keeps the rules it gives exactly the records that match.
use Rattle.std.specs.Prelude.{ℕ, ◌≤◌, ◌<◌, ◌≡◌, length}
use mathlib.Core.List.{List, map, Memᴰ}
use Rattle.output_list.specs.OutputList.{padded}
use Rattle.outcome.specs.Outcome.{answer}
use Rattle.payload.specs.Payload.{Text}
use Rattle.block.specs.Block.{Block}
use Rattle.block.specs.Survey.{records_of}
use Rattle.query.specs.Query.{Query}
use Rattle.matching.specs.Matching.{matching}
use Rattle.matching.specs.Packing.{offset_of, length_of}
use Rattle.matching.specs.ResultList.{room_for, match_number, numbers_of}
use Rattle.reader.specs.declared.ReadAnswer.{ReadAnswer}
use Rattle.checker.specs.Check.{accept_of}
use Rattle.theorems_check.specs.Rules.{StandsIn, Rising}

-- the number of a match says where it lies, and isn't 0 as the places without a match are
pub record Unpacks (m : Text) : Type 0 where
  pub offset : offset_of (match_number m) ≡ m.at
  pub size : length_of (match_number m) ≡ length m.bytes
  pub some : 0 < match_number m

-- r is the answer, and `results` the list of so many places at exit, for these matches
pub record GivesMatches (file : List ℕ) (ms : List Text) (room : ℕ) (r : ReadAnswer) (results : List ℕ) : Type 0 where
  -- not refused, and as many as there are
  pub answered : r ≡ record { number = 0; place = 0; matches = length ms }
  -- the list holds the number of each in file order, then zeros
  pub listed : results ≡ padded room (numbers_of ms)
  -- a number unpacks to the offset and the length of its record, and is never 0
  pub unpack : (m : Text) → Memᴰ m ms → Unpacks m
  -- the part of the file there is the record's bytes
  pub stand : (m : Text) → Memᴰ m ms → StandsIn file m
  -- offsets rise strictly
  pub rising : Rising (map (λ m. m.at) ms)

-- Demand 2, reading: r is the answer, and `results` the list of so many places at exit. An accepted file, with room for those of
-- its records that match, gives exactly these.
unfoldable pub ReadByRules : (file : List ℕ) → Query → (room : ℕ) (r : ReadAnswer) (results : List ℕ) → Type 0
ReadByRules file q room r results =
    (bs : List Block) → accept_of file ≡ answer bs → room_for (length (matching q (records_of bs))) ≤ room
    → GivesMatches file (matching q (records_of bs)) room r results
