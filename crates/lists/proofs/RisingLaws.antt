-- Laws of lists: members, lists joined by a function, numbers that ascend, and numbers that are all different.
-- Assumes nothing.
use mathlib.Core.Path.{◌≡◌, refl, sym, ap, ◌∙◌, subst}
use mathlib.Core.Bool.{Bool, true, false, cond}
use mathlib.Core.Logic.{◌⊎◌, inl, inr}
use mathlib.Core.List.Memᴰ
use mathlib.Core.List.{List, [], ◌∷◌, ◌++◌, flat_map, map, append-nil, Memᴰ}
use Prim.Native.Nat.{ℕ, ◌≤◌, ◌<◌}
use native.Mathlib.Omega.{arith}
use lib.Dec.{eqb}
use lib.ListN.{length}
use borrow.Author.Tests.{eq-eqb, ne_eqb}
use Rattle.lists.proofs.ListsLaws.{keep_member}
use Rattle.lists.specs.Lists.{keep}
use Rattle.lists.proofs.ListsLaws.{Below, Ascending, below_member, flat_map_append}
pub use Rattle.lists.proofs.ListsLaws.{below_each}

-- ---- members

module _ {A : Type 0} where
  -- a member splits the list
  pub member_split : (xs : List A) (x : A) → Memᴰ x xs → (before : List A) × (after : List A) × (xs ≡ before ++ (x ∷ after))
  member_split [] x m = absurd (Memᴰ.not-nil m)
  member_split (y ∷ xs) x m = go (Memᴰ.cases_cons m) (λ (i : Memᴰ x xs). member_split xs x i)
    where
      go : (x ≡ y) ⊎ Memᴰ x xs → (Memᴰ x xs → (before : List A) × (after : List A) × (xs ≡ before ++ (x ∷ after)))
          → (before : List A) × (after : List A) × (y ∷ xs ≡ before ++ (x ∷ after))
      go (inl same) rest = ([], xs, ap (λ (z : A). z ∷ xs) (sym same))
      go (inr inside) rest = let r = rest inside in (y ∷ r.0, r.1, ap (λ (l : List A). y ∷ l) r.2)

  -- and what splits a list is a member
  pub split_member : (xs before : List A) (x : A) (after : List A) → xs ≡ before ++ (x ∷ after) → Memᴰ x xs
  split_member xs before x after e = subst (Memᴰ x) (sym e) (Memᴰ.append_right before (Memᴰ.head refl))

  -- a list that is not empty has a member
  pub some_member : (xs : List A) → 0 < length xs → (x : A) × Memᴰ x xs
  some_member [] h = absurd (omega arith)
  some_member (x ∷ xs) h = (x, Memᴰ.head refl)

  pub member_some : (xs : List A) (x : A) → Memᴰ x xs → 0 < length xs
  member_some [] x m = absurd (Memᴰ.not-nil m)
  member_some (y ∷ xs) x m = omega arith

-- ---- lists joined by a function

-- two functions that agree on the members
pub flat_map_same : {A B : Type 0} (f g : A → List B) (xs : List A) → ((x : A) → Memᴰ x xs → f x ≡ g x) → flat_map f xs ≡ flat_map g xs
unfolding flat_map
flat_map_same f g [] h = refl
flat_map_same {A} {B} f g (x ∷ xs) h =
    ap (λ (l : List B). l ++ flat_map f xs) (h x (Memᴰ.head refl))
    ∙ ap (λ (l : List B). g x ++ l) (flat_map_same f g xs (λ (y : A) (m : Memᴰ y xs). h y (Memᴰ.tail m)))

pub flat_map_map : {A B C : Type 0} (f : B → List C) (g : A → B) (xs : List A) → flat_map f (map g xs) ≡ flat_map (λ x. f (g x)) xs
unfolding flat_map
flat_map_map f g [] = refl
flat_map_map {A} {B} {C} f g (x ∷ xs) = ap (λ (l : List C). f (g x) ++ l) (flat_map_map f g xs)

pub flat_map_flat_map : {A B C : Type 0} (f : B → List C) (g : A → List B) (xs : List A) → flat_map f (flat_map g xs) ≡ flat_map (λ x. flat_map f (g x)) xs
unfolding flat_map
flat_map_flat_map f g [] = refl
flat_map_flat_map {A} {B} {C} f g (x ∷ xs) = flat_map_append f (g x) (flat_map g xs) ∙ ap (λ (l : List C). flat_map f (g x) ++ l) (flat_map_flat_map f g xs)

-- lists of one, joined
pub each-once : {A : Type 0} (xs : List A) → flat_map (λ x. x ∷ []) xs ≡ xs
unfolding flat_map
each-once [] = refl
each-once (x ∷ xs) = ap (λ l. x ∷ l) (each-once xs)

-- elements that add nothing may be left out
pub flat_map_keep : {A B : Type 0} (f : A → List B) (test : A → Bool) (xs : List A) → ((x : A) → Memᴰ x xs → test x ≡ false → f x ≡ [])
    → flat_map f (keep test xs) ≡ flat_map f xs
unfolding flat_map keep
flat_map_keep f test [] h = refl
flat_map_keep {A} {B} f test (x ∷ xs) h = go (test x) refl (flat_map_keep f test xs (λ (y : A) (m : Memᴰ y xs). h y (Memᴰ.tail m)))
  where
    go : (b : Bool) → test x ≡ b → flat_map f (keep test xs) ≡ flat_map f xs → flat_map f (cond b (x ∷ keep test xs) (keep test xs)) ≡ f x ++ flat_map f xs
    go true p ih = ap (λ (l : List B). f x ++ l) ih
    go false p ih = ih ∙ ap (λ (l : List B). l ++ flat_map f xs) (sym (h x (Memᴰ.head refl) p))

-- around one element
pub flat_map_split : {A B : Type 0} (f : A → List B) (xs before : List A) (x : A) (after : List A) → xs ≡ before ++ (x ∷ after)
    → flat_map f xs ≡ flat_map f before ++ (f x ++ flat_map f after)
unfolding flat_map
flat_map_split f xs before x after e = ap (flat_map f) e ∙ flat_map_append f before (x ∷ after)

-- ---- numbers that ascend

-- a number is below each of these where it is below each member
pub member_below : (x : ℕ) (ys : List ℕ) → ((y : ℕ) → Memᴰ y ys → x < y) → Below x ys
unfolding Below
member_below x [] h = tt
member_below x (y ∷ ys) h = (h y (Memᴰ.head refl), member_below x ys (λ (z : ℕ) (m : Memᴰ z ys). h z (Memᴰ.tail m)))

-- the first is the least
pub ascending_least : (x : ℕ) (xs : List ℕ) → Ascending (x ∷ xs) → (y : ℕ) → Memᴰ y (x ∷ xs) → x ≤ y
unfolding Ascending
ascending_least x xs h y m = go (Memᴰ.cases_cons m)
  where
    go : (y ≡ x) ⊎ Memᴰ y xs → x ≤ y
    go (inl same) = omega arith
    go (inr inside) = let less = below_each x xs h.0 y inside in omega arith

pub ascending_left : (xs ys : List ℕ) → Ascending (xs ++ ys) → Ascending xs
unfolding Ascending
ascending_left [] ys h = tt
ascending_left (x ∷ xs) ys h =
    (member_below x xs (λ (z : ℕ) (m : Memᴰ z xs). below_each x (xs ++ ys) h.0 z (Memᴰ.append_left ys m)), ascending_left xs ys h.1)

pub ascending_right : (xs ys : List ℕ) → Ascending (xs ++ ys) → Ascending ys
unfolding Ascending
ascending_right [] ys h = h
ascending_right (x ∷ xs) ys h = ascending_right xs ys h.1

-- what stands in front is below what stands after it
pub ascending_apart : (xs ys : List ℕ) → Ascending (xs ++ ys) → (x y : ℕ) → Memᴰ x xs → Memᴰ y ys → x < y
unfolding Ascending
ascending_apart [] ys h x y m n = absurd (Memᴰ.not-nil m)
ascending_apart (z ∷ xs) ys h x y m n = go (Memᴰ.cases_cons m) (λ (i : Memᴰ x xs). ascending_apart xs ys h.1 x y i n)
  where
    go : (x ≡ z) ⊎ Memᴰ x xs → (Memᴰ x xs → x < y) → x < y
    go (inl same) rest = let first = below_each z (xs ++ ys) h.0 y (Memᴰ.append_right xs n) in omega arith
    go (inr inside) rest = rest inside

-- ascending lists with the same members are equal
pub ascending-same : (xs ys : List ℕ) → Ascending xs → Ascending ys → ((x : ℕ) → Memᴰ x xs → Memᴰ x ys)
    → ((y : ℕ) → Memᴰ y ys → Memᴰ y xs) → xs ≡ ys
unfolding Ascending
ascending-same [] [] h k to from = refl
ascending-same [] (y ∷ ys) h k to from = absurd (Memᴰ.not-nil (from y (Memᴰ.head refl)))
ascending-same (x ∷ xs) [] h k to from = absurd (Memᴰ.not-nil (to x (Memᴰ.head refl)))
ascending-same (x ∷ xs) (y ∷ ys) h k to from =
    joined (ascending-same xs ys h.1 k.1 (inner x y xs ys h.0 same to) (inner y x ys xs k.0 (sym same) from))
  where
    first : (x ≡ y) ⊎ Memᴰ x ys → (y ≡ x) ⊎ Memᴰ y xs → x ≡ y
    first (inl p) q = p
    first (inr p) (inl q) = sym q
    first (inr p) (inr q) = let a = below_each y ys k.0 x p in let b = below_each x xs h.0 y q in absurd (omega arith)

    same : x ≡ y
    same = first (Memᴰ.cases_cons (to x (Memᴰ.head refl))) (Memᴰ.cases_cons (from y (Memᴰ.head refl)))

    past : (v w z : ℕ) (vs ws : List ℕ) → Below v vs → v ≡ w → Memᴰ z vs → (z ≡ w) ⊎ Memᴰ z ws → Memᴰ z ws
    past v w z vs ws below e m (inl p) = let a = below_each v vs below z m in absurd (omega arith)
    past v w z vs ws below e m (inr p) = p

    inner : (v w : ℕ) (vs ws : List ℕ) → Below v vs → v ≡ w → ((z : ℕ) → Memᴰ z (v ∷ vs) → Memᴰ z (w ∷ ws)) → (z : ℕ) → Memᴰ z vs
        → Memᴰ z ws
    inner v w vs ws below e all z m = past v w z vs ws below e m (Memᴰ.cases_cons (all z (Memᴰ.tail m)))

    joined : xs ≡ ys → x ∷ xs ≡ y ∷ ys
    joined e = ap (λ (z : ℕ). z ∷ xs) same ∙ ap (λ (l : List ℕ). y ∷ l) e

module _ {A : Type 0} (number : A → ℕ) where
  pub ascending_keep : (test : A → Bool) (xs : List A) → Ascending (map number xs) → Ascending (map number (keep test xs))
  unfolding keep Ascending
  ascending_keep test [] h = tt
  ascending_keep test (x ∷ xs) h = go (test x) (ascending_keep test xs h.1)
    where
      inside : (y : ℕ) → Memᴰ y (map number (keep test xs)) → number x < y
      inside y m =
          let p = Memᴰ.of_map number (keep test xs) m in
          let q = p.2 in
          let b = below_member number (number x) xs h.0 p.0 (keep_member test xs p.0 p.1).0 in
          omega arith

      go : (b : Bool) → Ascending (map number (keep test xs)) → Ascending (map number (cond b (x ∷ keep test xs) (keep test xs)))
      go true rest = (member_below (number x) (map number (keep test xs)) inside, rest)
      go false rest = rest

  -- what is chosen by a number below all others is nothing
  choose_none : {B : Type 0} (f : A → List B) (n : ℕ) (xs : List A) → Below n (map number xs) → flat_map (λ y. cond (eqb (number y) n) (f y) []) xs ≡ []
  unfolding flat_map Below
  choose_none f n [] h = refl
  choose_none f n (x ∷ xs) h = let first = h.0 in rw (ne_eqb (number x) n (λ e. omega arith)) (choose_none f n xs h.1)

  -- what is chosen by a member's number is that member's
  pub choose_one : {B : Type 0} (f : A → List B) (xs : List A) → Ascending (map number xs) → (x : A) → Memᴰ x xs
      → flat_map (λ y. cond (eqb (number y) (number x)) (f y) []) xs ≡ f x
  unfolding flat_map Ascending
  choose_one f [] h x m = absurd (Memᴰ.not-nil m)
  choose_one {B} f (z ∷ xs) h x m = go (Memᴰ.cases_cons m) (λ (i : Memᴰ x xs). choose_one f xs h.1 x i)
    where
      here : (n : ℕ) → number z ≡ n → Below n (map number xs) → cond (eqb (number z) n) (f z) [] ++ flat_map (λ y. cond (eqb (number y) n) (f y) []) xs ≡ f z
      here n e below = rw (eq-eqb (number z) n e) (ap (λ (l : List B). f z ++ l) (choose_none f n xs below) ∙ append-nil (f z))

      go : (x ≡ z) ⊎ Memᴰ x xs → (Memᴰ x xs → flat_map (λ y. cond (eqb (number y) (number x)) (f y) []) xs ≡ f x)
          → cond (eqb (number z) (number x)) (f z) [] ++ flat_map (λ y. cond (eqb (number y) (number x)) (f y) []) xs ≡ f x
      go (inl same) rest = here (number x) (sym (ap number same)) (subst (λ (w : A). Below (number w) (map number xs)) (sym same) h.0) ∙ ap f (sym same)
      go (inr inside) rest = let later = below_member number (number z) xs h.0 x inside in rw (ne_eqb (number z) (number x) (λ e. omega arith)) (rest inside)

-- ---- numbers that are all different

-- none occurs twice
unfoldable pub Distinct : List ℕ → Type 0
Distinct [] = Unit {0}
Distinct (x ∷ xs) = (Memᴰ x xs → ⊥) × Distinct xs

pub distinct_append : (xs ys : List ℕ) → Distinct xs → Distinct ys → ((x : ℕ) → Memᴰ x xs → Memᴰ x ys → ⊥) → Distinct (xs ++ ys)
unfolding Distinct
distinct_append [] ys h k apart = k
distinct_append (x ∷ xs) ys h k apart =
    let rest = distinct_append xs ys h.1 k (λ (z : ℕ) (m : Memᴰ z xs). apart z (Memᴰ.tail m)) in
    (λ (m : Memᴰ x (xs ++ ys)). once (Memᴰ.append_cases xs m), rest)
  where
    once : Memᴰ x xs ⊎ Memᴰ x ys → ⊥
    once (inl m) = h.0 m
    once (inr m) = apart x (Memᴰ.head refl) m

pub ascending_distinct : (xs : List ℕ) → Ascending xs → Distinct xs
unfolding Ascending Distinct
ascending_distinct [] h = tt
ascending_distinct (x ∷ xs) h = (λ (m : Memᴰ x xs). let less = below_each x xs h.0 x m in omega arith, ascending_distinct xs h.1)

-- what is no member is counted 0 times, and a member once
pub absent_count : (xs : List ℕ) (n : ℕ) → (Memᴰ n xs → ⊥) → length (keep (λ x. eqb x n) xs) ≡ 0
unfolding keep
absent_count [] n h = refl
absent_count (x ∷ xs) n h = rw (ne_eqb x n (λ e. h (Memᴰ.head (sym e)))) (absent_count xs n (λ (m : Memᴰ n xs). h (Memᴰ.tail m)))

pub distinct_count : (xs : List ℕ) → Distinct xs → (n : ℕ) → Memᴰ n xs → length (keep (λ x. eqb x n) xs) ≡ 1
unfolding keep Distinct
distinct_count [] h n m = absurd (Memᴰ.not-nil m)
distinct_count (x ∷ xs) h n m = go (Memᴰ.cases_cons m) (λ (i : Memᴰ n xs). distinct_count xs h.1 n i)
  where
    go : (n ≡ x) ⊎ Memᴰ n xs → (Memᴰ n xs → length (keep (λ y. eqb y n) xs) ≡ 1)
        → length (cond (eqb x n) (x ∷ keep (λ y. eqb y n) xs) (keep (λ y. eqb y n) xs)) ≡ 1
    go (inl same) rest = rw (eq-eqb x n (sym same)) (let none = absent_count xs n (λ (i : Memᴰ n xs). h.0 (Memᴰ.cast (sym same) i)) in omega arith)
    go (inr inside) rest = rw (ne_eqb x n (λ e. h.0 (Memᴰ.cast e inside))) (rest inside)
