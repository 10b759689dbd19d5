-- The laws of `sorted`: it is a permutation of its list, it rises, and no other list is both.
-- Assumes nothing.
use Prim.Native.Nat.{ℕ, suc, ◌<◌, suc-le-suc, zero-le}
use mathlib.Core.Path.{◌≡◌, refl, sym, ap, ◌∙◌}
use mathlib.Core.Logic.{◌⊎◌, inl, inr}
use mathlib.Core.Bool.{Bool, true, false, and-eq-true_iff}
use mathlib.Core.List.{List, [], ◌∷◌, map}
use lib.ListN.{length, get_or}
use Rattle.byte_string.specs.Order.{at_most}
use Rattle.byte_string.specs.Rising.{rising, rising_from}
use Rattle.byte_string.proofs.OrderLaws.{at_most_antisym, at_most_trans, at_most_total, at_most_of_less, less_of_not_at_most}
use Rattle.sorting.specs.Sorting.{insert, sorted, Permutation, empty, skip, swap, trans}
use Rattle.sorting.proofs.PermutationLaws.{permutation_refl}

-- Putting one in.

insert_front : (x y : List ℕ) (ys : List (List ℕ)) → at_most x y ≡ true → insert x (y ∷ ys) ≡ x ∷ y ∷ ys
unfolding insert
insert_front x y ys e = rw e

insert_behind : (x y : List ℕ) (ys : List (List ℕ)) → at_most x y ≡ false → insert x (y ∷ ys) ≡ y ∷ insert x ys
unfolding insert
insert_behind x y ys e = rw e

insert_nil : (x : List ℕ) → insert x [] ≡ x ∷ []
unfolding insert
insert_nil x = refl

-- what is not at most is at least
pub turned : (x y : List ℕ) → at_most x y ≡ false → at_most y x ≡ true
turned x y e = at_most_of_less y x (less_of_not_at_most x y e)

-- x is at most the first, if there is one
unfoldable first : List ℕ → List (List ℕ) → Bool
first x [] = true
first x (y ∷ ys) = at_most x y

insert-first : (x : List ℕ) (xs : List (List ℕ)) → first x xs ≡ true → insert x xs ≡ x ∷ xs
unfolding first
insert-first x [] e = insert_nil x
insert-first x (y ∷ ys) e = insert_front x y ys e

-- a larger one goes behind
insert-after : (x y : List ℕ) (zs : List (List ℕ)) → at_most x y ≡ true → first y zs ≡ true → insert y (x ∷ zs) ≡ x ∷ y ∷ zs
insert-after x y zs l f = go (at_most y x) refl
  where
    go : (b : Bool) → at_most y x ≡ b → insert y (x ∷ zs) ≡ x ∷ y ∷ zs
    go true e = insert_front y x zs e ∙ rw (at_most_antisym x y l e)
    go false e = insert_behind y x zs e ∙ ap (λ (l : List (List ℕ)). x ∷ l) (insert-first y zs f)

insert_turn_le : (x y : List ℕ) (zs : List (List ℕ)) → at_most x y ≡ true → insert x (insert y zs) ≡ insert y (insert x zs)
unfolding first
insert_turn_le x y [] l = rw (insert_nil x, insert_nil y) (insert_front x y [] l ∙ sym (insert-after x y [] l refl))
insert_turn_le x y (z ∷ zs) l = go (at_most y z) (at_most x z) refl refl (insert_turn_le x y zs l)
  where
    go : (b c : Bool) → at_most y z ≡ b → at_most x z ≡ c → insert x (insert y zs) ≡ insert y (insert x zs)
        → insert x (insert y (z ∷ zs)) ≡ insert y (insert x (z ∷ zs))
    go true c e d ih =
        ap (insert x) (insert_front y z zs e) ∙ insert_front x y (z ∷ zs) l
        ∙ sym (ap (insert y) (insert_front x z zs (at_most_trans x y z l e)) ∙ insert-after x y (z ∷ zs) l e)
    go false true e d ih =
        ap (insert x) (insert_behind y z zs e) ∙ insert_front x z (insert y zs) d
        ∙ sym (ap (insert y) (insert_front x z zs d) ∙ behind (at_most y x) refl)
      where
        behind : (b : Bool) → at_most y x ≡ b → insert y (x ∷ z ∷ zs) ≡ x ∷ z ∷ insert y zs
        behind true k = cc (at_most_trans y x z k d)
        behind false k = insert_behind y x (z ∷ zs) k ∙ ap (λ (l : List (List ℕ)). x ∷ l) (insert_behind y z zs e)
    go false false e d ih =
        ap (insert x) (insert_behind y z zs e) ∙ insert_behind x z (insert y zs) d
        ∙ ap (λ (l : List (List ℕ)). z ∷ l) ih
        ∙ sym (ap (insert y) (insert_behind x z zs d) ∙ insert_behind y z (insert x zs) e)

-- two may be put in in either order
insert_turn : (x y : List ℕ) (zs : List (List ℕ)) → insert x (insert y zs) ≡ insert y (insert x zs)
insert_turn x y zs = go (at_most_total x y)
  where
    go : (at_most x y ≡ true) ⊎ (at_most y x ≡ true) → insert x (insert y zs) ≡ insert y (insert x zs)
    go (inl l) = insert_turn_le x y zs l
    go (inr l) = sym (insert_turn_le y x zs l)

-- Rising, by the first and the rest.

rising_cons : (x : List ℕ) (xs : List (List ℕ)) → first x xs ≡ true → rising xs ≡ true → rising (x ∷ xs) ≡ true
unfolding rising rising_from first
rising_cons x [] f r = refl
rising_cons x (y ∷ ys) f r = (and-eq-true_iff (at_most x y) (rising_from y ys)).1 (f, r)

rising_parts : (x : List ℕ) (xs : List (List ℕ)) → rising (x ∷ xs) ≡ true → (first x xs ≡ true) × (rising xs ≡ true)
unfolding rising rising_from first
rising_parts x [] e = (refl, refl)
rising_parts x (y ∷ ys) e = (and-eq-true_iff (at_most x y) (rising_from y ys)).0 e

-- a list rises where each place is at most the next
pub rising_of : (f : ℕ → List ℕ) (xs : List ℕ)
    → ((k : ℕ) → suc k < length xs → at_most (f (get_or xs k 0)) (f (get_or xs (suc k) 0)) ≡ true) → rising (map f xs) ≡ true
unfolding rising first
rising_of f [] h = refl
rising_of f (x ∷ []) h = rising_cons (f x) [] refl refl
rising_of f (x ∷ y ∷ xs) h =
    rising_cons (f x) (map f (y ∷ xs)) (h 0 (suc-le-suc (suc-le-suc zero-le))) (rising_of f (y ∷ xs) (λ k l. h (suc k) (suc-le-suc l)))

-- The sorted list.

-- it goes by the elements alone
pub sorted-same : {xs ys : List (List ℕ)} → Permutation xs ys → sorted xs ≡ sorted ys
unfolding sorted
sorted-same empty = refl
sorted-same (skip {x} s) = ap (insert x) (sorted-same s)
sorted-same (swap {x} {y} {xs}) = insert_turn x y (sorted xs)
sorted-same (trans s t) = sorted-same s ∙ sorted-same t

-- a rising list is sorted
pub sorted-rising : (xs : List (List ℕ)) → rising xs ≡ true → sorted xs ≡ xs
unfolding sorted
sorted-rising [] e = refl
sorted-rising (x ∷ xs) e =
    let h = rising_parts x xs e in
    ap (insert x) (sorted-rising xs h.1) ∙ insert-first x xs h.0

-- a rising permutation is the sorted list
pub sorted_unique : (xs ys : List (List ℕ)) → Permutation ys xs → rising ys ≡ true → ys ≡ sorted xs
sorted_unique xs ys s e = sym (sorted-rising ys e) ∙ sorted-same s

insert_permutation : (x : List ℕ) (xs : List (List ℕ)) → Permutation (insert x xs) (x ∷ xs)
insert_permutation x [] = rw (insert_nil x) (permutation_refl (x ∷ []))
insert_permutation x (y ∷ ys) = go (at_most x y) refl (insert_permutation x ys)
  where
    go : (b : Bool) → at_most x y ≡ b → Permutation (insert x ys) (x ∷ ys) → Permutation (insert x (y ∷ ys)) (x ∷ y ∷ ys)
    go true e ih = rw (insert_front x y ys e) (permutation_refl (x ∷ y ∷ ys))
    go false e ih = rw (insert_behind x y ys e) (trans (skip ih) swap)

pub sorted_permutation : (xs : List (List ℕ)) → Permutation (sorted xs) xs
unfolding sorted
sorted_permutation [] = empty
sorted_permutation (x ∷ xs) = trans (insert_permutation x (sorted xs)) (skip (sorted_permutation xs))

first-insert : (z x : List ℕ) (xs : List (List ℕ)) → at_most z x ≡ true → first z xs ≡ true → first z (insert x xs) ≡ true
unfolding first
first-insert z x [] l f = rw (insert_nil x) l
first-insert z x (y ∷ ys) l f = go (at_most x y) refl
  where
    go : (b : Bool) → at_most x y ≡ b → first z (insert x (y ∷ ys)) ≡ true
    go true e = rw (insert_front x y ys e) l
    go false e = rw (insert_behind x y ys e) f

rising-insert : (x : List ℕ) (xs : List (List ℕ)) → rising xs ≡ true → rising (insert x xs) ≡ true
unfolding rising first
rising-insert x [] e = rw (insert_nil x) (rising_cons x [] refl refl)
rising-insert x (y ∷ ys) e = go (at_most x y) refl (rising_parts y ys e) (rising-insert x ys)
  where
    go : (b : Bool) → at_most x y ≡ b → (first y ys ≡ true) × (rising ys ≡ true) → (rising ys ≡ true → rising (insert x ys) ≡ true)
        → rising (insert x (y ∷ ys)) ≡ true
    go true l h ih = rw (insert_front x y ys l) (rising_cons x (y ∷ ys) l e)
    go false l h ih =
        rw (insert_behind x y ys l) (rising_cons y (insert x ys) (first-insert y x ys (turned x y l) h.0) (ih h.1))

pub rising-sorted : (xs : List (List ℕ)) → rising (sorted xs) ≡ true
unfolding sorted rising
rising-sorted [] = refl
rising-sorted (x ∷ xs) = rising-insert x (sorted xs) (rising-sorted xs)
