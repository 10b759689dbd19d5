-- The laws of `Permutation`: it keeps the length, members and counts, and an exchange of two elements meets it.
-- Assumes nothing.
use Prim.Native.Nat.{ℕ, zero, suc, ◌<◌}
use native.Mathlib.Nat.{not-suc-le-zero, le_of_suc-le-suc}
use mathlib.Core.Path.{◌≡◌, refl, ap, ◌∙◌}
use mathlib.Core.Logic.{◌⊎◌, inl, inr}
use mathlib.Core.Bool.{Bool, true, false, cond}
use mathlib.Core.List.Memᴰ
use mathlib.Core.List.{List, [], ◌∷◌, map, Memᴰ}
use lib.ListN.{length, get_or, set}
use Rattle.lists.specs.Lists.{keep}
use Rattle.sorting.specs.Sorting.{Permutation, empty, skip, swap, trans}
use Rattle.sorting.specs.Heap.{swapped}

module _ {A : Type 0} where
  pub permutation_refl : (xs : List A) → Permutation xs xs
  permutation_refl [] = empty
  permutation_refl (x ∷ xs) = skip (permutation_refl xs)

  pub permutation_back : {xs ys : List A} → Permutation xs ys → Permutation ys xs
  permutation_back empty = empty
  permutation_back (skip s) = skip (permutation_back s)
  permutation_back swap = swap
  permutation_back (trans s t) = trans (permutation_back t) (permutation_back s)

  pub permutation_length : {xs ys : List A} → Permutation xs ys → length xs ≡ length ys
  permutation_length empty = refl
  permutation_length (skip s) = ap suc (permutation_length s)
  permutation_length swap = refl
  permutation_length (trans s t) = permutation_length s ∙ permutation_length t

  pub permutation_map : {B : Type 0} (f : A → B) {xs ys : List A} → Permutation xs ys → Permutation (map f xs) (map f ys)
  permutation_map f empty = empty
  permutation_map f (skip s) = skip (permutation_map f s)
  permutation_map f swap = swap
  permutation_map f (trans s t) = trans (permutation_map f s) (permutation_map f t)

-- one for another
permutation_set : (xs : List ℕ) (i v : ℕ) → i < length xs → Permutation (get_or xs i 0 ∷ set xs i v) (v ∷ xs)
permutation_set [] i v h = absurd (not-suc-le-zero h)
permutation_set (x ∷ xs) zero v h = swap
permutation_set (x ∷ xs) (suc i) v h = trans swap (trans (skip (permutation_set xs i v (le_of_suc-le-suc h))) swap)

pub permutation_swapped : (i j : ℕ) (xs : List ℕ) → i < length xs → j < length xs → Permutation (swapped i j xs) xs
unfolding swapped
permutation_swapped i j [] h k = absurd (not-suc-le-zero h)
permutation_swapped zero zero (x ∷ xs) h k = permutation_refl (x ∷ xs)
permutation_swapped zero (suc j) (x ∷ xs) h k = permutation_set xs j x (le_of_suc-le-suc k)
permutation_swapped (suc i) zero (x ∷ xs) h k = permutation_set xs i x (le_of_suc-le-suc h)
permutation_swapped (suc i) (suc j) (x ∷ xs) h k = skip (permutation_swapped i j xs (le_of_suc-le-suc h) (le_of_suc-le-suc k))

-- what stands in one stands in the other
pub permutation_member : {A : Type 0} (a : A) {xs ys : List A} → Permutation xs ys → Memᴰ a xs → Memᴰ a ys
permutation_member a empty m = m
permutation_member a (skip {x = x} {xs = xs} {ys = ys} s) m = go (Memᴰ.cases_cons m) (permutation_member a s)
  where
    go : (a ≡ x) ⊎ Memᴰ a xs → (Memᴰ a xs → Memᴰ a ys) → Memᴰ a (x ∷ ys)
    go (inl e) later = Memᴰ.head e
    go (inr n) later = Memᴰ.tail (later n)
permutation_member a (swap {x = x} {y = y} {xs = xs}) m = go (Memᴰ.cases_cons m)
  where
    next : (a ≡ y) ⊎ Memᴰ a xs → Memᴰ a (y ∷ (x ∷ xs))
    next (inl e) = Memᴰ.head e
    next (inr n) = Memᴰ.tail (Memᴰ.tail n)

    go : (a ≡ x) ⊎ Memᴰ a (y ∷ xs) → Memᴰ a (y ∷ (x ∷ xs))
    go (inl e) = Memᴰ.tail (Memᴰ.head e)
    go (inr n) = next (Memᴰ.cases_cons n)
permutation_member a (trans s t) m = permutation_member a t (permutation_member a s m)

-- as many pass a test
pub permutation_count : {A : Type 0} (test : A → Bool) {xs ys : List A} → Permutation xs ys → length (keep test xs) ≡ length (keep test ys)
unfolding keep
permutation_count test empty = refl
permutation_count test (skip {x = x} {xs = xs} {ys = ys} s) = go (test x) (permutation_count test s)
  where
    go : (b : Bool) → length (keep test xs) ≡ length (keep test ys)
        → length (cond b (x ∷ keep test xs) (keep test xs)) ≡ length (cond b (x ∷ keep test ys) (keep test ys))
    go true same = ap suc same
    go false same = same
permutation_count {A} test (swap {x = x} {y = y} {xs = xs}) = go (test x) (test y)
  where
    go : (b c : Bool) → length (cond b (x ∷ cond c (y ∷ keep test xs) (keep test xs)) (cond c (y ∷ keep test xs) (keep test xs)))
        ≡ length (cond c (y ∷ cond b (x ∷ keep test xs) (keep test xs)) (cond b (x ∷ keep test xs) (keep test xs)))
    go true true = refl
    go true false = refl
    go false true = refl
    go false false = refl
permutation_count test (trans s t) = permutation_count test s ∙ permutation_count test t
