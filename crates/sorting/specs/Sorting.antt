-- Sorting: the byte strings of a list in rising order, each as often as it stands there.
use Rattle.std.specs.Prelude.{ℕ, ◌≡◌, cond, List, [], ◌∷◌, map}
use Rattle.byte_string.specs.Order.{at_most}

-- x put in before the first that is not less
unfoldable pub insert : List ℕ → List (List ℕ) → List (List ℕ)
insert x [] = x ∷ []
insert x (y ∷ ys) = cond (at_most x y) (x ∷ (y ∷ ys)) (y ∷ insert x ys)

unfoldable pub sorted : List (List ℕ) → List (List ℕ)
sorted [] = []
sorted (x ∷ xs) = insert x (sorted xs)

-- the same elements, each as often, in any order
pub data Permutation {A : Type 0} : List A → List A → Type 0 where
  empty : Permutation [] []
  skip : {x : A} {xs ys : List A} → Permutation xs ys → Permutation (x ∷ xs) (x ∷ ys)
  swap : {x y : A} {xs : List A} → Permutation (x ∷ (y ∷ xs)) (y ∷ (x ∷ xs))
  trans : {xs ys zs : List A} → Permutation xs ys → Permutation ys zs → Permutation xs zs

-- numbers, sorted by the byte strings that they stand for
pub record Sorted (key : ℕ → List ℕ) (before after : List ℕ) : Type 0 where
  pub same : Permutation after before
  pub strings : map key after ≡ sorted (map key before)
