-- Lists: in groups, and the first and the last element.
use Rattle.std.specs.Prelude.{ℕ, zero, suc, List, [], ◌∷◌, length, take, drop}

module _ {A : Type 0} where
  -- the list in groups of n, one after the other, each full but the last; at most `fuel` groups
  unfoldable pub groups_with : (fuel n : ℕ) → List A → List (List A)
  groups_with zero n xs = []
  groups_with (suc fuel) n [] = []
  groups_with (suc fuel) n (x ∷ xs) = take n (x ∷ xs) ∷ groups_with fuel n (drop n (x ∷ xs))

  unfoldable pub groups : (n : ℕ) → List A → List (List A)
  groups n xs = groups_with (length xs) n xs

  -- the first and the last element, or `none` of an empty list
  unfoldable pub first_or : A → List A → A
  first_or none [] = none
  first_or none (x ∷ xs) = x

  unfoldable pub last_or : A → List A → A
  last_or none [] = none
  last_or none (x ∷ xs) = last_or x xs
