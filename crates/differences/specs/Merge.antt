-- The differences of two lists of records that rise, found by going through both at once. Where both rise, these are `differences`
-- (`merged_differences`).
use Rattle.std.specs.Prelude.{ℕ, zero, suc, ◌+◌, cond, List, [], ◌∷◌, ◌++◌, eqb, length, drop}
use Rattle.byte_string.specs.Order.{at_most, same}
use Rattle.payload.specs.Payload.{Text}
use Rattle.differences.specs.Differences.{Difference}

-- how many records at the front are copies of x
unfoldable pub leading : List ℕ → List Text → ℕ
leading x [] = 0
leading x (r ∷ rs) = cond (same r.bytes x) (suc (leading x rs)) 0

-- the record that comes next, and from which file
pub data Next : Type 0 where
  none : Next
  next : (which : ℕ) → Text → Next

-- the lesser of the first records of both; the first file's where they are the same
unfoldable pub next_of : List Text → List Text → Next
next_of [] [] = none
next_of [] (y ∷ ys) = next 2 y
next_of (x ∷ xs) [] = next 1 x
next_of (x ∷ xs) (y ∷ ys) = cond (at_most x.bytes y.bytes) (next 1 x) (next 2 y)

-- a record with so many copies in each, where it is a difference
unfoldable pub listed : (which : ℕ) → Text → (first second : ℕ) → List Difference
listed which r first second =
    cond (eqb first second) []
    (record { which = which; offset = r.at; bytes = r.bytes; first = first; second = second } ∷ [])

-- the record that comes next, and then what follows its copies
unfoldable pub merged_by : (List Text → List Text → List Difference) → Next → List Text → List Text → List Difference
merged_by more none xs ys = []
merged_by more (next which r) xs ys =
    let m = leading r.bytes xs in
    let n = leading r.bytes ys in
    listed which r m n ++ more (drop m xs) (drop n ys)

-- at most `fuel` records come next
unfoldable pub merged_with : (fuel : ℕ) → List Text → List Text → List Difference
merged_with zero xs ys = []
merged_with (suc fuel) xs ys = merged_by (merged_with fuel) (next_of xs ys) xs ys

-- each has a copy that is passed, so this is fuel enough
unfoldable pub merged : List Text → List Text → List Difference
merged xs ys = merged_with (length xs + length ys) xs ys
