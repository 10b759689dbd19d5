-- What is claimed of comparing two files: the differences are exactly the byte strings that have more copies in one of them.
use Rattle.std.specs.Prelude.{ℕ, ◌≤◌, ◌<◌, ◌≡◌, ◌≢◌, pos, ◌-ℤ◌, length}
use mathlib.Core.List.{List, map, Memᴰ}
use Rattle.output_list.specs.OutputList.{padded, zeros}
use Rattle.outcome.specs.Outcome.{answer, refused}
use Rattle.payload.specs.Payload.{Text}
use Rattle.block.specs.Block.{Block}
use Rattle.block.specs.Survey.{ordinary, records_of}
use Rattle.checker.specs.Check.{accept_of, check_of}
use Rattle.differences.specs.Differences.{copies, Difference, numbers_of, room_for, sum_of}
use Rattle.byte_string.specs.Rising.{Strict}
use Rattle.shown.specs.Shown.{part_shown, shown_bytes}
use Rattle.comparer.specs.declared.Compared.{Compared}

-- one of the records has these bytes and this offset, and none that has these bytes has a lower offset
unfoldable pub FirstCopy : List Text → (bytes : List ℕ) (offset : ℕ) → Type 0
FirstCopy rs bytes offset =
    ((r : Text) × Memᴰ r rs × (r.bytes ≡ bytes) × (r.at ≡ offset)) × ((r : Text) → Memᴰ r rs → r.bytes ≡ bytes → offset ≤ r.at)

-- d is a difference of files with the records xs and ys, with what is listed of it
pub record IsDifference (first second : List ℕ) (xs ys : List Text) (d : Difference) : Type 0 where
  -- its copies in both files are counted, and are not as many
  pub copies-first : d.first ≡ copies xs d.bytes
  pub copies_second : d.second ≡ copies ys d.bytes
  pub differ : d.first ≢ d.second
  -- it is shown from the first file where it is stored there, with its first copy; else from the second
  pub from_first : 0 < d.first → (d.which ≡ 1) × FirstCopy xs d.bytes d.offset
  pub from_second : d.first ≡ 0 → (d.which ≡ 2) × FirstCopy ys d.bytes d.offset
  -- the part that is handed back for its first three numbers has these numbers and its bytes
  pub placed : part_shown first second d.which d.offset (length d.bytes) ≡ record { which = d.which; offset = d.offset; length = length d.bytes }
  pub handed : shown_bytes first second (part_shown first second d.which d.offset (length d.bytes)) ≡ d.bytes

-- these are all differences, rising and once each
pub record AreDifferences (first second : List ℕ) (xs ys : List Text) (ds : List Difference) : Type 0 where
  pub rising : Strict (map (λ d. d.bytes) ds)
  pub only : (d : Difference) → Memᴰ d ds → IsDifference first second xs ys d
  pub every : (x : List ℕ) → copies xs x ≢ copies ys x → (d : Difference) × Memᴰ d ds × (d.bytes ≡ x)
  -- the sum is the second number of records less the first
  pub added : sum_of ds ≡ pos (length ys) -ℤ pos (length xs)

-- r is a refusal, and the list zeros
unfoldable pub Refuses : (number place which room : ℕ) → Compared → List ℕ → Type 0
Refuses number place which room r list = (r ≡ record { number = number; place = place; which = which; differences = 0; sum = pos 0 }) × (list ≡ zeros room)

-- with room for the differences they are listed, and otherwise it is 35
pub record Lists (room : ℕ) (ds : List Difference) (r : Compared) (list : List ℕ) : Type 0 where
  pub fits : room_for (length ds) ≤ room
      → (r ≡ record { number = 0; place = 0; which = 0; differences = length ds; sum = sum_of ds }) × (list ≡ padded room (numbers_of ds))
  pub too_short : room < room_for (length ds) → Refuses 35 0 0 room r list

-- r is the answer, and `list` the list of so much room at exit, for two files and a work list of so many places
pub record ComparedByRules (first second : List ℕ) (places room : ℕ) (r : Compared) (list : List ℕ) : Type 0 where
  -- the first file's refusal, then the second's
  pub refused_first : (number place : ℕ) → check_of first places ≡ refused number place → Refuses number place 1 room r list
  pub refused_second : (xs : List Block) (number place : ℕ) → check_of first places ≡ answer xs → check_of second places ≡ refused number place
      → Refuses number place 2 room r list
  -- only two accepted files, with a place for each ordinary block of either, are compared
  pub only : r.number ≡ 0
      → (xs : List Block) × (ys : List Block) × (accept_of first ≡ answer xs) × (length (ordinary xs) ≤ places) × (accept_of second ≡ answer ys)
      × (length (ordinary ys) ≤ places)
  -- and all such files are
  pub compared : (xs ys : List Block) → accept_of first ≡ answer xs → length (ordinary xs) ≤ places → accept_of second ≡ answer ys
      → length (ordinary ys) ≤ places → (ds : List Difference) × AreDifferences first second (records_of xs) (records_of ys) ds × Lists room ds r list
