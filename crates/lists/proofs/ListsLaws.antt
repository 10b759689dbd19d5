-- Laws of lists: the elements that pass a test, whether any or all do, lists joined, and numbers that ascend.
-- Assumes nothing.
use mathlib.Core.Path.{◌≡◌, refl, sym, ap, ◌∙◌, subst}
use mathlib.Core.Bool.{Bool, true, false, ◌&&◌, ◌||◌, cond, and-eq-true_iff, or_assoc, or-true, true≢false, false≢true, and_assoc}
use mathlib.Core.Logic.{◌⊎◌, inl, inr}
use mathlib.Core.List.Memᴰ
use mathlib.Core.List.{List, [], ◌∷◌, ◌++◌, flat_map, map, append_assoc, Memᴰ}
use Prim.Native.Nat.{ℕ, zero, suc, ◌+◌, ◌≤◌, ◌<◌}
use native.Mathlib.Omega.{arith}
use lib.ListN.{length, get_or, replicate}
use Rattle.lists.specs.Lists.{keep, any, all}

pub keep_append : {A : Type 0} (test : A → Bool) (xs ys : List A) → keep test (xs ++ ys) ≡ keep test xs ++ keep test ys
unfolding keep
keep_append test [] ys = refl
keep_append test (x ∷ xs) ys = ap (λ l. cond (test x) (x ∷ l) l) (keep_append test xs ys) ∙ both (test x)
  where
    both : (b : Bool) → cond b (x ∷ (keep test xs ++ keep test ys)) (keep test xs ++ keep test ys) ≡ cond b (x ∷ keep test xs) (keep test xs) ++ keep test ys
    both true = refl
    both false = refl

pub any_append : {A : Type 0} (test : A → Bool) (xs ys : List A) → any test (xs ++ ys) ≡ (any test xs || any test ys)
unfolding any
any_append test [] ys = refl
any_append test (x ∷ xs) ys = ap (λ (b : Bool). test x || b) (any_append test xs ys) ∙ sym (or_assoc (test x) (any test xs) (any test ys))

pub flat_map_append : {A B : Type 0} (f : A → List B) (xs ys : List A) → flat_map f (xs ++ ys) ≡ flat_map f xs ++ flat_map f ys
unfolding flat_map
flat_map_append f [] ys = refl
flat_map_append f (x ∷ xs) ys = ap (λ l. f x ++ l) (flat_map_append f xs ys) ∙ sym (append_assoc (f x) (flat_map f xs) (flat_map f ys))

-- a member of the joined lists is a member of one of them, and the other way round
pub flat_map_member : {A B : Type 0} (f : A → List B) (xs : List A) (y : B) → Memᴰ y (flat_map f xs) → (x : A) × Memᴰ x xs × Memᴰ y (f x)
unfolding flat_map
flat_map_member f [] y m = absurd (Memᴰ.not-nil m)
flat_map_member {A} f (x ∷ xs) y m = go (Memᴰ.append_cases (f x) m) (λ (i : Memᴰ y (flat_map f xs)). flat_map_member f xs y i)
  where
    go : Memᴰ y (f x) ⊎ Memᴰ y (flat_map f xs) → (Memᴰ y (flat_map f xs) → (z : A) × Memᴰ z xs × Memᴰ y (f z))
        → (z : A) × Memᴰ z (x ∷ xs) × Memᴰ y (f z)
    go (inl here) rest = (x, Memᴰ.head refl, here)
    go (inr there) rest = let r = rest there in (r.0, Memᴰ.tail r.1, r.2)

pub member_flat_map : {A B : Type 0} (f : A → List B) (xs : List A) (x : A) (y : B) → Memᴰ x xs → Memᴰ y (f x) → Memᴰ y (flat_map f xs)
unfolding flat_map
member_flat_map f [] x y m n = absurd (Memᴰ.not-nil m)
member_flat_map f (z ∷ xs) x y m n = go (Memᴰ.cases_cons m) (λ (i : Memᴰ x xs). member_flat_map f xs x y i n)
  where
    go : (x ≡ z) ⊎ Memᴰ x xs → (Memᴰ x xs → Memᴰ y (flat_map f xs)) → Memᴰ y (f z ++ flat_map f xs)
    go (inl same) rest = Memᴰ.append_left (flat_map f xs) (subst (λ w. Memᴰ y (f w)) same n)
    go (inr inside) rest = Memᴰ.append_right (f z) (rest inside)

-- ---- numbers that ascend

-- x is below every one of these
unfoldable pub Below : ℕ → List ℕ → Type 0
Below x [] = Unit {0}
Below x (y ∷ ys) = (x < y) × Below x ys

-- each is below every later one
unfoldable pub Ascending : List ℕ → Type 0
Ascending [] = Unit {0}
Ascending (x ∷ xs) = Below x xs × Ascending xs

-- they ascend from `from` on and stay below `end`
unfoldable pub AscendingIn : (from end : ℕ) → List ℕ → Type 0
AscendingIn from end [] = from ≤ end
AscendingIn from end (x ∷ xs) = (from ≤ x) × AscendingIn (x + 1) end xs

pub ascending_bounds : (from end : ℕ) (xs : List ℕ) → AscendingIn from end xs → from ≤ end
unfolding AscendingIn
ascending_bounds from end [] h = h
ascending_bounds from end (x ∷ xs) h = let first = h.0 in let rest = ascending_bounds (x + 1) end xs h.1 in omega arith

-- there are no more of them than numbers between the bounds
pub ascending_few : {A : Type 0} (number : A → ℕ) (from end : ℕ) (xs : List A) → AscendingIn from end (map number xs) → length xs ≤ end
unfolding AscendingIn
ascending_few number from end xs h = let few = go number from end xs h in omega arith
  where
    go : {A : Type 0} (number : A → ℕ) (from end : ℕ) (xs : List A) → AscendingIn from end (map number xs) → from + length xs ≤ end
    go number from end [] h = omega arith
    go number from end (x ∷ xs) h = let first = h.0 in let rest = go number (number x + 1) end xs h.1 in omega arith

-- also within wider bounds
pub ascending_wider : (from end low high : ℕ) (xs : List ℕ) → low ≤ from → end ≤ high → AscendingIn from end xs → AscendingIn low high xs
unfolding AscendingIn
ascending_wider from end low high [] a b h = omega arith
ascending_wider from end low high (x ∷ xs) a b h = let first = h.0 in (omega arith, ascending_wider (x + 1) end (x + 1) high xs (omega arith) b h.1)

-- one list after another
pub ascending-append : (from middle end : ℕ) (xs ys : List ℕ) → AscendingIn from middle xs → AscendingIn middle end ys → AscendingIn from end (xs ++ ys)
unfolding AscendingIn
ascending-append from middle end [] ys h k = ascending_wider middle end from end ys h (omega arith) k
ascending-append from middle end (x ∷ xs) ys h k = (h.0, ascending-append (x + 1) middle end xs ys h.1 k)

pub ascending_below : (x from end : ℕ) (ys : List ℕ) → x < from → AscendingIn from end ys → Below x ys
unfolding AscendingIn Below
ascending_below x from end [] h k = tt
ascending_below x from end (y ∷ ys) h k = let first = k.0 in (omega arith, ascending_below x (y + 1) end ys (omega arith) k.1)

pub ascending_all : (from end : ℕ) (xs : List ℕ) → AscendingIn from end xs → Ascending xs
unfolding AscendingIn Ascending
ascending_all from end [] h = tt
ascending_all from end (x ∷ xs) h = (ascending_below x (x + 1) end xs (omega arith) h.1, ascending_all (x + 1) end xs h.1)

-- a member lies within the bounds
pub ascending_member : (from end : ℕ) (xs : List ℕ) → AscendingIn from end xs → (x : ℕ) → Memᴰ x xs → (from ≤ x) × (x < end)
unfolding AscendingIn
ascending_member from end [] h x m = absurd (Memᴰ.not-nil m)
ascending_member from end (y ∷ xs) h x m = go (Memᴰ.cases_cons m) (λ (i : Memᴰ x xs). ascending_member (y + 1) end xs h.1 x i)
  where
    go : (x ≡ y) ⊎ Memᴰ x xs → (Memᴰ x xs → (y + 1 ≤ x) × (x < end)) → (from ≤ x) × (x < end)
    go (inl same) rest = let first = h.0 in let bound = ascending_bounds (y + 1) end xs h.1 in (omega arith, omega arith)
    go (inr inside) rest = let first = h.0 in let r = rest inside in (omega arith, r.1)

-- by index: of two the earlier is the smaller
pub below_at : (x : ℕ) (ys : List ℕ) (i : ℕ) → Below x ys → i < length ys → x < get_or ys i 0
unfolding Below
below_at x [] i h k = absurd (omega arith)
below_at x (y ∷ ys) zero h k = h.0
below_at x (y ∷ ys) (suc i) h k = below_at x ys i h.1 (omega arith)

pub ascending_at : (xs : List ℕ) (i j : ℕ) → Ascending xs → i < j → j < length xs → get_or xs i 0 < get_or xs j 0
unfolding Ascending
ascending_at [] i j h k l = absurd (omega arith)
ascending_at (x ∷ xs) zero zero h k l = absurd (omega arith)
ascending_at (x ∷ xs) zero (suc j) h k l = below_at x xs j h.0 (omega arith)
ascending_at (x ∷ xs) (suc i) zero h k l = absurd (omega arith)
ascending_at (x ∷ xs) (suc i) (suc j) h k l = ascending_at xs i j h.1 (omega arith) (omega arith)

-- by member
pub below_each : (x : ℕ) (ys : List ℕ) → Below x ys → (y : ℕ) → Memᴰ y ys → x < y
unfolding Below
below_each x [] h y m = absurd (Memᴰ.not-nil m)
below_each x (z ∷ ys) h y m = go (Memᴰ.cases_cons m) (λ (i : Memᴰ y ys). below_each x ys h.1 y i)
  where
    go : (y ≡ z) ⊎ Memᴰ y ys → (Memᴰ y ys → x < y) → x < y
    go (inl same) rest = let first = h.0 in omega arith
    go (inr inside) rest = rest inside

-- where the numbers of the elements ascend, elements with the same number are the same
module _ {A : Type 0} (number : A → ℕ) where
  pub below_member : (x : ℕ) (ys : List A) → Below x (map number ys) → (y : A) → Memᴰ y ys → x < number y
  below_member x ys h y m = below_each x (map number ys) h (number y) (Memᴰ.map number m)

  pub ascending_unique : (xs : List A) → Ascending (map number xs) → (x y : A) → Memᴰ x xs → Memᴰ y xs → number x ≡ number y → x ≡ y
  unfolding Ascending
  ascending_unique [] h x y m n e = absurd (Memᴰ.not-nil m)
  ascending_unique (z ∷ xs) h x y m n e =
      go (Memᴰ.cases_cons m) (Memᴰ.cases_cons n) (λ (i : Memᴰ x xs) (j : Memᴰ y xs). ascending_unique xs h.1 x y i j e)
    where
      first : (v w : A) → v ≡ z → Memᴰ w xs → number v ≡ number w → ⊥
      first v w same inside equal = let later = below_member (number z) xs h.0 w inside in let moved = ap number same in omega arith

      go : (x ≡ z) ⊎ Memᴰ x xs → (y ≡ z) ⊎ Memᴰ y xs → (Memᴰ x xs → Memᴰ y xs → x ≡ y) → x ≡ y
      go (inl p) (inl q) rest = p ∙ sym q
      go (inl p) (inr q) rest = absurd (first x y p q e)
      go (inr p) (inl q) rest = absurd (first y x q p (sym e))
      go (inr p) (inr q) rest = rest p q

-- ---- truth

pub both : (a b : Bool) → a ≡ true → b ≡ true → (a && b) ≡ true
both a b p q = (and-eq-true_iff a b).1 (p, q)

pub both⁻¹ : (a b : Bool) → (a && b) ≡ true → (a ≡ true) × (b ≡ true)
both⁻¹ a b e = (and-eq-true_iff a b).0 e

-- the first decides where it is false, and the second where the first is true
pub both_false : (a b : Bool) → a ≡ false → (a && b) ≡ false
both_false a b e = rw e

pub both_rest : (a b : Bool) → a ≡ true → (a && b) ≡ b
both_rest a b e = rw e

-- two tests that imply each other
pub same_tests : (a b : Bool) → (a ≡ true → b ≡ true) → (b ≡ true → a ≡ true) → a ≡ b
same_tests true true h k = refl
same_tests true false h k = sym (h refl)
same_tests false true h k = k refl
same_tests false false h k = refl

-- ---- tests over the members: what holds of the whole list holds of each, and back

module _ {A : Type 0} (test : A → Bool) where
  -- all

  pub all_member : (xs : List A) → all test xs ≡ true → (x : A) → Memᴰ x xs → test x ≡ true
  unfolding all
  all_member xs h x m = go x xs m h
    where
      go : (x : A) (xs : List A) → Memᴰ x xs → all test xs ≡ true → test x ≡ true
      go x xs (Memᴰ.head {x = y} {xs = ys} e) h = ap test e ∙ (both⁻¹ (test y) (all test ys) h).0
      go x xs (Memᴰ.tail {x = y} {xs = ys} m) h = go x ys m (both⁻¹ (test y) (all test ys) h).1

  pub member_all : (xs : List A) → ((x : A) → Memᴰ x xs → test x ≡ true) → all test xs ≡ true
  unfolding all
  member_all [] h = refl
  member_all (x ∷ xs) h = both (test x) (all test xs) (h x (Memᴰ.head refl)) (member_all xs (λ y m. h y (Memᴰ.tail m)))

  pub all_append : (xs ys : List A) → all test (xs ++ ys) ≡ (all test xs && all test ys)
  unfolding all
  all_append [] ys = refl
  all_append (x ∷ xs) ys = ap (λ (b : Bool). test x && b) (all_append xs ys) ∙ sym (and_assoc (test x) (all test xs) (all test ys))

  -- one that fails, where not all pass, and back
  pub not_all : (xs : List A) → all test xs ≡ false → (x : A) × Memᴰ x xs × (test x ≡ false)
  unfolding all
  not_all [] h = absurd (true≢false h)
  not_all (x ∷ xs) h = go (test x) refl h (not_all xs)
    where
      go : (b : Bool) → test x ≡ b → (b && all test xs) ≡ false → (all test xs ≡ false → (y : A) × Memᴰ y xs × (test y ≡ false))
          → (y : A) × Memᴰ y (x ∷ xs) × (test y ≡ false)
      go true e k rest = let r = rest k in (r.0, Memᴰ.tail r.1, r.2)
      go false e k rest = (x, Memᴰ.head refl, e)

  pub false_all : (xs : List A) (x : A) → Memᴰ x xs → test x ≡ false → all test xs ≡ false
  false_all xs x m e = go (all test xs) refl
    where
      go : (b : Bool) → all test xs ≡ b → b ≡ false
      go true p = absurd (false≢true (sym e ∙ all_member xs p x m))
      go false p = refl

  -- any

  pub any_member : (xs : List A) → any test xs ≡ true → (x : A) × Memᴰ x xs × (test x ≡ true)
  unfolding any
  any_member [] h = absurd (false≢true h)
  any_member (x ∷ xs) h = go (test x) refl h (λ (k : any test xs ≡ true). any_member xs k)
    where
      go : (b : Bool) → test x ≡ b → (b || any test xs) ≡ true → (any test xs ≡ true → (y : A) × Memᴰ y xs × (test y ≡ true))
          → (y : A) × Memᴰ y (x ∷ xs) × (test y ≡ true)
      go true e k rest = (x, Memᴰ.head refl, e)
      go false e k rest = let r = rest k in (r.0, Memᴰ.tail r.1, r.2)

  pub member_any : (xs : List A) (x : A) → Memᴰ x xs → test x ≡ true → any test xs ≡ true
  unfolding any
  member_any xs x m h = go x xs m h
    where
      go : (x : A) (xs : List A) → Memᴰ x xs → test x ≡ true → any test xs ≡ true
      go x xs (Memᴰ.head {x = y} {xs = ys} e) h = ap (λ (b : Bool). b || any test ys) (sym (ap test e) ∙ h)
      go x xs (Memᴰ.tail {x = y} {xs = ys} m) h = ap (λ (b : Bool). test y || b) (go x ys m h) ∙ or-true (test y)

  pub any_false : (xs : List A) → ((x : A) → Memᴰ x xs → test x ≡ false) → any test xs ≡ false
  unfolding any
  any_false [] h = refl
  any_false (y ∷ xs) h = ap (λ (b : Bool). b || any test xs) (h y (Memᴰ.head refl)) ∙ any_false xs (λ x m. h x (Memᴰ.tail m))

  -- keep

  pub keep_member : (xs : List A) (x : A) → Memᴰ x (keep test xs) → Memᴰ x xs × (test x ≡ true)
  unfolding keep
  keep_member [] x m = absurd (Memᴰ.not-nil m)
  keep_member (y ∷ ys) x m = go (test y) refl m (λ (i : Memᴰ x (keep test ys)). keep_member ys x i)
    where
      later : Memᴰ x ys × (test x ≡ true) → Memᴰ x (y ∷ ys) × (test x ≡ true)
      later r = (Memᴰ.tail r.0, r.1)

      first : test y ≡ true → Memᴰ x (y ∷ keep test ys) → (Memᴰ x (keep test ys) → Memᴰ x ys × (test x ≡ true))
          → Memᴰ x (y ∷ ys) × (test x ≡ true)
      first e (Memᴰ.head same) rest = (Memᴰ.head same, ap test same ∙ e)
      first e (Memᴰ.tail i) rest = later (rest i)

      go : (b : Bool) → test y ≡ b → Memᴰ x (cond b (y ∷ keep test ys) (keep test ys))
          → (Memᴰ x (keep test ys) → Memᴰ x ys × (test x ≡ true)) → Memᴰ x (y ∷ ys) × (test x ≡ true)
      go true e i rest = first e i rest
      go false e i rest = later (rest i)

  pub member_keep : (xs : List A) (x : A) → Memᴰ x xs → test x ≡ true → Memᴰ x (keep test xs)
  unfolding keep
  member_keep xs x m h = go x xs m h
    where
      later : (x y : A) (ys : List A) (b : Bool) → Memᴰ x (keep test ys) → Memᴰ x (cond b (y ∷ keep test ys) (keep test ys))
      later x y ys true i = Memᴰ.tail i
      later x y ys false i = i

      go : (x : A) (xs : List A) → Memᴰ x xs → test x ≡ true → Memᴰ x (keep test xs)
      go x xs (Memᴰ.head {x = y} {xs = ys} e) h =
          subst (λ (b : Bool). Memᴰ x (cond b (y ∷ keep test ys) (keep test ys))) (sym (sym (ap test e) ∙ h)) (Memᴰ.head e)
      go x xs (Memᴰ.tail {x = y} {xs = ys} m) h = later x y ys (test y) (go x ys m h)

  pub keep_first : (x : A) (xs : List A) → test x ≡ true → keep test (x ∷ xs) ≡ x ∷ keep test xs
  unfolding keep
  keep_first x xs h = rw h

  pub keep_later : (x : A) (xs : List A) → test x ≡ false → keep test (x ∷ xs) ≡ keep test xs
  unfolding keep
  keep_later x xs h = rw h

-- ---- zeros

-- past their end a list is read as 0 too
pub zeros_at : (n i : ℕ) → ◌≡◌ {A = ℕ} (get_or (replicate n 0) i 0) 0
zeros_at zero i = refl
zeros_at (suc n) zero = refl
zeros_at (suc n) (suc i) = zeros_at n i
