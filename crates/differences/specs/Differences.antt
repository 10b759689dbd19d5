-- What differs between the records of two files: the byte strings that are stored a different number of times in them.
use Rattle.std.specs.Prelude.{ℕ, ◌*◌, not, cond, eqb, ℤ, pos, ◌+ℤ◌, ◌-ℤ◌, length}
use mathlib.Core.List.{List, [], ◌∷◌, ◌++◌, map, flat_map}
use Rattle.lists.specs.Lists.{keep}
use Rattle.byte_string.specs.Order.{same}
use Rattle.sorting.specs.Sorting.{sorted}
use Rattle.payload.specs.Payload.{Text}

-- ---- the records of one file

-- their byte strings
unfoldable pub strings : List Text → List (List ℕ)
strings rs = map (λ r. r.bytes) rs

-- how many of the records are copies of x
unfoldable pub copies : List Text → List ℕ → ℕ
copies rs x = length (keep (λ r. same r.bytes x) rs)

-- the offset of the first copy of x; 0 where there is none
unfoldable pub first_copy : List Text → List ℕ → ℕ
first_copy [] x = 0
first_copy (r ∷ rs) x = cond (same r.bytes x) r.at (first_copy rs x)

-- ---- the records of both files

-- each of the byte strings once
unfoldable pub once : List (List ℕ) → List (List ℕ)
once [] = []
once (x ∷ xs) = x ∷ keep (λ y. not (same x y)) (once xs)

-- a difference: the file from which it is shown (1 or 2), the offset of its first copy there, its bytes, and the copies in both files
pub record Difference : Type 0 where
  pub which : ℕ
  pub offset : ℕ
  pub bytes : List ℕ
  pub first : ℕ
  pub second : ℕ

module _ (first second : List Text) where
  -- the byte strings that are stored a different number of times, rising and once each
  unfoldable pub differing : List (List ℕ)
  differing = keep (λ x. not (eqb (copies first x) (copies second x))) (once (sorted (strings first ++ strings second)))

  -- x as a difference: shown from the first file where it is stored there
  unfoldable pub difference_of : List ℕ → Difference
  difference_of x =
      record {
        which = cond (eqb (copies first x) 0) 2 1;
        offset = cond (eqb (copies first x) 0) (first_copy second x) (first_copy first x);
        bytes = x;
        first = copies first x;
        second = copies second x;
      }

  unfoldable pub differences : List Difference
  differences = map difference_of differing

-- ---- as they are listed and added up

-- five numbers for each difference
unfoldable pub numbers_of : List Difference → List ℕ
numbers_of ds = flat_map (λ d. d.which ∷ d.offset ∷ length d.bytes ∷ d.first ∷ d.second ∷ []) ds

-- the places that n differences take
unfoldable pub room_for : ℕ → ℕ
room_for n = 5 * n

-- the copies in the second file less those in the first, added up
unfoldable pub sum_of : List Difference → ℤ
sum_of [] = pos 0
sum_of (d ∷ ds) = (pos d.second -ℤ pos d.first) +ℤ sum_of ds
