-- Laws of sorted byte strings: parts, and the last one.
-- Assumes nothing.
use mathlib.Core.Path.{◌≡◌, sym, subst}
use mathlib.Core.Logic.{◌⊎◌, inl, inr}
use mathlib.Core.Bool.{true}
use mathlib.Core.List.Memᴰ
use mathlib.Core.List.{List, [], ◌∷◌, ◌++◌, Memᴰ}
use Prim.Native.Nat.{ℕ}
use Rattle.byte_string.specs.Order.{at_most}
use Rattle.byte_string.proofs.OrderLaws.{at_most_refl}
use Rattle.lists.specs.Groups.{last_or}
use Rattle.theorems_check.specs.Rules.{Sorted, no_string, one_string}
use Rattle.theorems_layout.proofs.IndexNames.{last_or_member}

-- the first is at most the others, and these are sorted
pub sorted-first : (x : List ℕ) (xs : List (List ℕ)) → Sorted (x ∷ xs) → ((y : List ℕ) → Memᴰ y xs → at_most x y ≡ true) × Sorted xs
sorted-first x xs (one_string h s) = (h, s)

pub sorted_left : (xs ys : List (List ℕ)) → Sorted (xs ++ ys) → Sorted xs
sorted_left [] ys s = no_string
sorted_left (x ∷ xs) ys s =
    let parts = sorted-first x (xs ++ ys) s in
    one_string (λ y m. parts.0 y (Memᴰ.append_left ys m)) (sorted_left xs ys parts.1)

pub sorted_right : (xs ys : List (List ℕ)) → Sorted (xs ++ ys) → Sorted ys
sorted_right [] ys s = s
sorted_right (x ∷ xs) ys s = sorted_right xs ys (sorted-first x (xs ++ ys) s).1

-- what stands in front is at most what stands after it
pub sorted_apart : (xs ys : List (List ℕ)) → Sorted (xs ++ ys) → (x y : List ℕ) → Memᴰ x xs → Memᴰ y ys → at_most x y ≡ true
sorted_apart [] ys s x y m n = absurd (Memᴰ.not-nil m)
sorted_apart (z ∷ xs) ys s x y m n = go (Memᴰ.cases_cons m) (λ i. sorted_apart xs ys parts.1 x y i n)
  where
    parts : ((w : List ℕ) → Memᴰ w (xs ++ ys) → at_most z w ≡ true) × Sorted (xs ++ ys)
    parts = sorted-first z (xs ++ ys) s

    go : (x ≡ z) ⊎ Memᴰ x xs → (Memᴰ x xs → at_most x y ≡ true) → at_most x y ≡ true
    go (inl same) rest = subst (λ (w : List ℕ). at_most w y ≡ true) (sym same) (parts.0 y (Memᴰ.append_right xs n))
    go (inr inside) rest = rest inside

-- each is at most the last
pub sorted_last : (z : List ℕ) (xs : List (List ℕ)) → Sorted xs → (x : List ℕ) → Memᴰ x xs → at_most x (last_or z xs) ≡ true
unfolding last_or
sorted_last z [] s x m = absurd (Memᴰ.not-nil m)
sorted_last z (y ∷ xs) s x m = go (Memᴰ.cases_cons m) (λ i. sorted_last y xs (sorted-first y xs s).1 x i)
  where
    last : (w : List ℕ) → (w ≡ y) ⊎ Memᴰ w xs → at_most y w ≡ true
    last w (inl same) = subst (λ (v : List ℕ). at_most y v ≡ true) (sym same) (at_most_refl y)
    last w (inr inside) = (sorted-first y xs s).0 w inside

    go : (x ≡ y) ⊎ Memᴰ x xs → (Memᴰ x xs → at_most x (last_or y xs) ≡ true) → at_most x (last_or y xs) ≡ true
    go (inl same) rest =
        subst (λ (w : List ℕ). at_most w (last_or y xs) ≡ true) (sym same) (last (last_or y xs) (Memᴰ.cases_cons (last_or_member y xs)))
    go (inr inside) rest = rest inside
