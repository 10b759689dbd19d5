-- A lent list of 64-bit numbers (an opened, result or work list): the numbers put, in order, at its front, and
-- zeros after them.
use Rattle.std.specs.Prelude.{ℕ, ◌+◌, ◌-◌, Bool, cond, List, [], ◌∷◌, ◌++◌, ltb, length, set, replicate}

-- a list of `room` places that holds these numbers at the front and zeros after them
unfoldable pub padded : ℕ → List ℕ → List ℕ
padded room numbers = numbers ++ replicate (room - length numbers) 0

-- a list of `room` places that holds nothing but zeros
unfoldable pub zeros : ℕ → List ℕ
zeros room = padded room []

-- there is room for a number after `count` numbers
unfoldable pub has_place : List ℕ → ℕ → Bool
has_place list count = ltb count (length list)

-- the list with a number stored after `count` numbers, where there is room, or as it is
unfoldable pub with_number : List ℕ → (count number : ℕ) → List ℕ
with_number list count number = cond (has_place list count) (set list count number) list

-- the list with numbers put after `count` numbers, as far as there is room
unfoldable pub with_numbers : List ℕ → (count : ℕ) → List ℕ → List ℕ
with_numbers list count [] = list
with_numbers list count (n ∷ ns) = with_numbers (with_number list count n) (count + 1) ns
