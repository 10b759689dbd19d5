-- Laws of lists in groups.
-- Assumes nothing.
use mathlib.Core.Path.{◌≡◌, refl, ap, ◌∙◌, subst}
use mathlib.Core.Logic.{◌⊎◌, inl, inr}
use mathlib.Core.List.Memᴰ
use mathlib.Core.List.{List, [], ◌∷◌, flat_map, Memᴰ}
use Prim.Native.Nat.{ℕ, zero, suc, ◌+◌, ◌-◌, ◌/◌, ◌≤◌}
use native.Mathlib.Omega.{arith}
use lib.ListN.{length, take, drop, length-take, length-drop, take-append-drop, drop_of_length-le}
use lib.Seq.{take_all}
use Rattle.lists.specs.Groups.{groups_with, groups}
use Rattle.lists.proofs.ListsLaws.{flat_map_append}

module _ {A : Type 0} (n : ℕ) (some : 1 ≤ n) where
  fewer : (x : A) (xs : List A) (fuel : ℕ) → length (x ∷ xs) ≤ suc fuel → length (drop n (x ∷ xs)) ≤ fuel
  fewer x xs fuel h = rw (length-drop n (x ∷ xs)) (omega arith)

  -- fuel for each element is enough
  groups_fuel : (fuel more : ℕ) (xs : List A) → length xs ≤ fuel → length xs ≤ more → groups_with fuel n xs ≡ groups_with more n xs
  unfolding groups_with
  groups_fuel zero zero xs h k = refl
  groups_fuel zero (suc more) [] h k = refl
  groups_fuel zero (suc more) (x ∷ xs) h k = absurd (omega arith)
  groups_fuel (suc fuel) zero [] h k = refl
  groups_fuel (suc fuel) zero (x ∷ xs) h k = absurd (omega arith)
  groups_fuel (suc fuel) (suc more) [] h k = refl
  groups_fuel (suc fuel) (suc more) (x ∷ xs) h k =
      ap (λ l. take n (x ∷ xs) ∷ l) (groups_fuel fuel more (drop n (x ∷ xs)) (fewer x xs fuel h) (fewer x xs more k))

  pub groups_nil : groups {A = A} n [] ≡ []
  unfolding groups groups_with
  groups_nil = refl

  -- the first group, and the others
  pub groups_cons : (x : A) (xs : List A) → groups n (x ∷ xs) ≡ take n (x ∷ xs) ∷ groups n (drop n (x ∷ xs))
  unfolding groups groups_with
  groups_cons x xs =
      ap (λ l. take n (x ∷ xs) ∷ l)
      (groups_fuel (length xs) (length (drop n (x ∷ xs))) (drop n (x ∷ xs)) (fewer x xs (length xs) (omega arith)) (omega arith))

  -- induction over the groups
  module _ (P : List A → Type 0) (none : P []) (more : (x : A) (xs : List A) → P (drop n (x ∷ xs)) → P (x ∷ xs)) where
    by_groups_fuel : (fuel : ℕ) (xs : List A) → length xs ≤ fuel → P xs
    by_groups_fuel zero [] h = none
    by_groups_fuel zero (x ∷ xs) h = absurd (omega arith)
    by_groups_fuel (suc fuel) [] h = none
    by_groups_fuel (suc fuel) (x ∷ xs) h = more x xs (by_groups_fuel fuel (drop n (x ∷ xs)) (fewer x xs fuel h))

    pub by_groups : (xs : List A) → P xs
    by_groups xs = by_groups_fuel (length xs) xs (omega arith)

  -- joined they are the list
  pub groups_join : {B : Type 0} (f : A → List B) (xs : List A) → flat_map (flat_map f) (groups n xs) ≡ flat_map f xs
  unfolding flat_map
  groups_join f = by_groups (λ xs. flat_map (flat_map f) (groups n xs) ≡ flat_map f xs)
      (rw groups_nil)
      (λ x xs ih. rw (groups_cons x xs, ih, ← flat_map_append f (take n (x ∷ xs)) (drop n (x ∷ xs)), take-append-drop n (x ∷ xs)))

  -- a group isn't empty, and has at most n elements
  pub groups_member : (xs : List A) (g : List A) → Memᴰ g (groups n xs) → (1 ≤ length g) × (length g ≤ n)
  groups_member xs g = by_groups (λ xs. Memᴰ g (groups n xs) → (1 ≤ length g) × (length g ≤ n))
      (λ m. absurd (Memᴰ.not-nil (subst (λ l. Memᴰ g l) groups_nil m)))
      (λ x xs ih m. go x xs ih (Memᴰ.cases_cons (subst (λ l. Memᴰ g l) (groups_cons x xs) m)))
      xs
    where
      go : (x : A) (xs : List A) → (Memᴰ g (groups n (drop n (x ∷ xs))) → (1 ≤ length g) × (length g ≤ n))
          → (g ≡ take n (x ∷ xs)) ⊎ Memᴰ g (groups n (drop n (x ∷ xs))) → (1 ≤ length g) × (length g ≤ n)
      go x xs ih (inl same) =
          let long : length g ≡ _ = ap length same ∙ length-take n (x ∷ xs) in
          (omega arith, omega arith)
      go x xs ih (inr later) = ih later

  -- a list that isn't empty has a group
  pub groups_some : (x : A) (xs : List A) → 1 ≤ length (groups n (x ∷ xs))
  groups_some x xs = rw (groups_cons x xs) (omega arith)

  -- one group holds a list of at most n elements
  pub groups_one : (x : A) (xs : List A) → length (x ∷ xs) ≤ n → groups n (x ∷ xs) ≡ (x ∷ xs) ∷ []
  groups_one x xs h = rw (groups_cons x xs, take_all n (x ∷ xs) h, drop_of_length-le (x ∷ xs) h, groups_nil)

  -- there are at most as many groups as elements
  pub groups_count : (xs : List A) → (length (groups n xs) ≤ length xs)
  groups_count = by_groups (λ xs. length (groups n xs) ≤ length xs)
      (rw groups_nil (omega arith))
      (λ x xs ih. rw (groups_cons x xs) (let left = length-drop n (x ∷ xs) in omega arith))

-- groups of two or more are at most half as many, rounded up
pub groups_half : {A : Type 0} (n : ℕ) → 2 ≤ n → (xs : List A) → length (groups n xs) ≤ (length xs + 1) / 2
groups_half n h = by_groups n (omega arith) (λ xs. length (groups n xs) ≤ (length xs + 1) / 2)
    (rw (groups_nil n (omega arith)) (omega arith))
    (λ x xs ih. rw (groups_cons n (omega arith) x xs) (let left = length-drop n (x ∷ xs) in omega arith))
