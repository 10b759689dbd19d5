-- The result list: what a match is on it, how many places matches take, and how one is put there. Nothing else says so.
use Rattle.std.specs.Prelude.{ℕ, ◌+◌, List, [], ◌∷◌, map, length}
use Rattle.output_list.specs.OutputList.{with_number}
use Rattle.payload.specs.Payload.{Text}
use Rattle.matching.specs.Packing.{packed}

-- the places that n matches take
unfoldable pub room_for : ℕ → ℕ
room_for n = n

-- the number of a match
unfoldable pub match_number : Text → ℕ
match_number m = packed m.at (length m.bytes)

-- one number for each match
unfoldable pub numbers_of : List Text → List ℕ
numbers_of ms = map match_number ms

-- the list with a record put after `count` matches, where there is room, or as it is
unfoldable pub with_record : List ℕ → (count offset length : ℕ) → List ℕ
with_record list count offset length = with_number list count (packed offset length)

-- how many matches there were, and the list
pub record Stored : Type 0 where
  pub count : ℕ
  pub list : List ℕ

-- one match more: counted, and put where there is room
unfoldable pub put : Stored → Text → Stored
put s m = record { count = s.count + 1; list = with_record s.list s.count m.at (length m.bytes) }

unfoldable pub put_all : Stored → List Text → Stored
put_all s [] = s
put_all s (m ∷ ms) = put_all (put s m) ms
