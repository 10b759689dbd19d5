-- Laws of the elements of a list that pass a test, and of counting them: where at most one does, it has one place.
-- Assumes nothing.
use mathlib.Core.Path.{◌≡◌, refl, sym, ap, ◌∙◌, subst}
use mathlib.Core.Bool.{Bool, true, false, cond, true≢false}
use mathlib.Core.Logic.{◌⊎◌, inl, inr}
use mathlib.Core.List.Memᴰ
use mathlib.Core.List.{List, [], ◌∷◌, ◌++◌, flat_map, map, Memᴰ}
use mathlib.Core.List.{head-eq_of_cons-eq, tail-eq_of_cons-eq}
use Prim.Native.Nat.{◌+◌, ◌≤◌, suc}
use native.Mathlib.Omega.{arith}
use lib.ListN.{length, length-append}
use Rattle.lists.specs.Lists.{keep}
use Rattle.lists.proofs.ListsLaws.{keep_append, member_flat_map, member_keep, keep_first}
use Rattle.lists.proofs.RisingLaws.{member_some}

-- ---- what is kept

-- of lists joined by a function
pub keep_flat_map : {A B : Type 0} (test : B → Bool) (f : A → List B) (xs : List A) → keep test (flat_map f xs) ≡ flat_map (λ x. keep test (f x)) xs
unfolding keep flat_map
keep_flat_map test f [] = refl
keep_flat_map {A} {B} test f (x ∷ xs) = keep_append test (f x) (flat_map f xs) ∙ ap (λ (l : List B). keep test (f x) ++ l) (keep_flat_map test f xs)

-- of a list with a function of each
pub keep_map : {A B : Type 0} (test : B → Bool) (f : A → B) (xs : List A) → map f (keep (λ x. test (f x)) xs) ≡ keep test (map f xs)
unfolding keep
keep_map test f [] = refl
keep_map {A} {B} test f (x ∷ xs) = go (test (f x)) (keep_map test f xs)
  where
    go : (b : Bool) → map f (keep (λ y. test (f y)) xs) ≡ keep test (map f xs)
        → map f (cond b (x ∷ keep (λ y. test (f y)) xs) (keep (λ y. test (f y)) xs)) ≡ cond b (f x ∷ keep test (map f xs)) (keep test (map f xs))
    go true same = ap (λ (l : List B). f x ∷ l) same
    go false same = same

pub keep_none : {A : Type 0} (test : A → Bool) (xs : List A) → ((x : A) → Memᴰ x xs → test x ≡ false) → keep test xs ≡ []
unfolding keep
keep_none test [] h = refl
keep_none {A} test (x ∷ xs) h = rw (h x (Memᴰ.head refl)) (keep_none test xs (λ (y : A) (m : Memᴰ y xs). h y (Memᴰ.tail m)))

pub keep_all : {A : Type 0} (test : A → Bool) (xs : List A) → ((x : A) → Memᴰ x xs → test x ≡ true) → keep test xs ≡ xs
unfolding keep
keep_all test [] h = refl
keep_all {A} test (x ∷ xs) h =
    rw (h x (Memᴰ.head refl)) (ap (λ (l : List A). x ∷ l) (keep_all test xs (λ (y : A) (m : Memᴰ y xs). h y (Memᴰ.tail m))))

module _ {A : Type 0} (test : A → Bool) where
  -- around one that passes
  pub keep_split : (xs front : List A) (x : A) (back : List A) → xs ≡ front ++ (x ∷ back) → test x ≡ true
      → keep test xs ≡ keep test front ++ (x ∷ keep test back)
  keep_split xs front x back e h = ap (keep test) e ∙ keep_append test front (x ∷ back) ∙ ap (λ (l : List A). keep test front ++ l) (keep_first test x back h)

  -- at most as many as there are
  pub keep_few : (xs : List A) → length (keep test xs) ≤ length xs
  unfolding keep
  keep_few [] = omega arith
  keep_few (x ∷ xs) = go (test x) (keep_few xs)
    where
      go : (b : Bool) → length (keep test xs) ≤ length xs → length (cond b (x ∷ keep test xs) (keep test xs)) ≤ suc (length xs)
      go true few = omega arith
      go false few = omega arith

  -- what a narrower test keeps of those kept is what it keeps of all
  pub keep_narrower : (narrow : A → Bool) → ((x : A) → narrow x ≡ true → test x ≡ true) → (xs : List A) → keep narrow (keep test xs) ≡ keep narrow xs
  unfolding keep
  keep_narrower narrow h [] = refl
  keep_narrower narrow h (x ∷ xs) = go (narrow x) (test x) refl refl (keep_narrower narrow h xs)
    where
      go : (n b : Bool) → narrow x ≡ n → test x ≡ b → keep narrow (keep test xs) ≡ keep narrow xs
          → keep narrow (cond b (x ∷ keep test xs) (keep test xs)) ≡ cond n (x ∷ keep narrow xs) (keep narrow xs)
      go true true p e same = rw p (ap (λ l. x ∷ l) same)
      go true false p e same = absurd (true≢false (sym (h x p) ∙ e))
      go false true p e same = rw p same
      go false false p e same = same

-- ---- counts

pub count_append : {A : Type 0} (test : A → Bool) (xs ys : List A) → length (keep test (xs ++ ys)) ≡ length (keep test xs) + length (keep test ys)
count_append test xs ys = ap length (keep_append test xs ys) ∙ length-append (keep test xs) (keep test ys)

pub count_member : {A : Type 0} (test : A → Bool) (xs : List A) (x : A) → Memᴰ x xs → test x ≡ true → 1 ≤ length (keep test xs)
count_member test xs x m p = member_some (keep test xs) x (member_keep test xs x m p)

pub count_within : {A B : Type 0} (test : B → Bool) (f : A → List B) (xs : List A) (x : A) → Memᴰ x xs
    → length (keep test (f x)) ≤ length (keep test (flat_map f xs))
unfolding flat_map
count_within test f [] x m = absurd (Memᴰ.not-nil m)
count_within {A} {B} test f (y ∷ xs) x m = go (Memᴰ.cases_cons m) (λ (i : Memᴰ x xs). count_within test f xs x i)
  where
    go : (x ≡ y) ⊎ Memᴰ x xs → (Memᴰ x xs → length (keep test (f x)) ≤ length (keep test (flat_map f xs)))
        → length (keep test (f x)) ≤ length (keep test (f y ++ flat_map f xs))
    go (inl same) rest = let sum = count_append test (f y) (flat_map f xs) in let moved = ap (λ (z : A). length (keep test (f z))) same in omega arith
    go (inr inside) rest = let sum = count_append test (f y) (flat_map f xs) in let less = rest inside in omega arith

-- ---- at most one passes

module _ {A B : Type 0} (f : A → List B) (test : B → Bool) where
  -- two that pass have the same holder
  pub one_holder : (xs : List A) → length (keep test (flat_map f xs)) ≤ 1 → (x y : A) → Memᴰ x xs → Memᴰ y xs → (u v : B)
      → Memᴰ u (f x) → Memᴰ v (f y) → test u ≡ true → test v ≡ true → x ≡ y
  unfolding flat_map
  one_holder [] few x y m n u v i j p q = absurd (Memᴰ.not-nil m)
  one_holder (z ∷ xs) few x y m n u v i j p q =
      go (Memᴰ.cases_cons m) (Memᴰ.cases_cons n)
      (λ (few' : length (keep test (flat_map f xs)) ≤ 1) (k : Memᴰ x xs) (l : Memᴰ y xs). one_holder xs few' x y k l u v i j p q)
    where
      sum : length (keep test (f z ++ flat_map f xs)) ≡ length (keep test (f z)) + length (keep test (flat_map f xs))
      sum = count_append test (f z) (flat_map f xs)

      -- one here and one later are two
      two : (a b : A) (c d : B) → a ≡ z → Memᴰ b xs → Memᴰ c (f a) → Memᴰ d (f b) → test c ≡ true → test d ≡ true → ⊥
      two a b c d same inside k l r s =
          let here = count_member test (f z) c (subst (λ (w : A). Memᴰ c (f w)) same k) r in
          let later = count_member test (flat_map f xs) d (member_flat_map f xs b d inside l) s in
          let all = sum in
          omega arith

      go : (x ≡ z) ⊎ Memᴰ x xs → (y ≡ z) ⊎ Memᴰ y xs → (length (keep test (flat_map f xs)) ≤ 1 → Memᴰ x xs → Memᴰ y xs → x ≡ y) → x ≡ y
      go (inl a) (inl b) rest = a ∙ sym b
      go (inl a) (inr b) rest = absurd (two x y u v a b i j p q)
      go (inr a) (inl b) rest = absurd (two y x v u b a j i q p)
      go (inr a) (inr b) rest = rest (let all = sum in omega arith) a b

module _ {A : Type 0} (test : A → Bool) where
  count_cons : (x : A) (xs : List A) → length (keep test (x ∷ xs)) ≡ length (keep test (x ∷ [])) + length (keep test xs)
  count_cons x xs = count_append test (x ∷ []) xs

  -- one in front and one later are two
  two : (x : A) (xs front : List A) (y : A) (back : List A) → xs ≡ front ++ (y ∷ back) → length (keep test (x ∷ xs)) ≤ 1 → test x ≡ true → test y ≡ true → ⊥
  two x xs front y back e few p q =
      let sum = count_cons x xs in
      let here = count_member test (x ∷ []) x (Memᴰ.head refl) p in
      let later = count_member test xs y (subst (Memᴰ y) (sym e) (Memᴰ.append_right front (Memᴰ.head refl))) q in
      omega arith

  -- it has one place in the list
  pub one_place : (front : List A) (x : A) (back : List A) (front' : List A) (x' : A) (back' : List A) → front ++ (x ∷ back) ≡ front' ++ (x' ∷ back')
      → length (keep test (front ++ (x ∷ back))) ≤ 1
      → test x ≡ true → test x' ≡ true → (front ≡ front') × (x ≡ x') × (back ≡ back')
  one_place [] x back [] x' back' same few p q = (refl, head-eq_of_cons-eq same, tail-eq_of_cons-eq same)
  one_place [] x back (z ∷ front') x' back' same few p q = absurd (two x back front' x' back' (tail-eq_of_cons-eq same) few p q)
  one_place (z ∷ front) x back [] x' back' same few p q =
      absurd (two z (front ++ (x ∷ back)) front x back refl few (ap test (head-eq_of_cons-eq same) ∙ q) p)
  one_place (z ∷ front) x back (z' ∷ front') x' back' same few p q =
      let sum = count_cons z (front ++ (x ∷ back)) in
      let rest = one_place front x back front' x' back' (tail-eq_of_cons-eq same) (omega arith) p q in
      (ap (λ (l : List A). z ∷ l) rest.0 ∙ ap (λ (w : A). w ∷ front') (head-eq_of_cons-eq same), rest.1, rest.2)
