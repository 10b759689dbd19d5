-- The laws of `begins`: what a list begins with, and how beginnings lie in the order.
-- Assumes nothing.
use Prim.Native.Nat.{ℕ, zero, suc, ◌≤◌, ◌<◌, zero-le, suc-le-suc}
use native.Mathlib.Nat.{not-suc-le-zero, le_of_suc-le-suc}
use native.Mathlib.Omega.{arith}
use mathlib.Core.Path.{◌≡◌, refl, sym, ap, ◌∙◌}
use mathlib.Core.Logic.{◌⊎◌, inl, inr}
use mathlib.Core.Bool.{Bool, true, false, ◌&&◌, false≢true, and-eq-true_iff}
use mathlib.Core.List.{List, [], ◌∷◌, ◌++◌}
use lib.Dec.{eqb}
use lib.ListN.{length, take, drop, take-append-drop}
use lib.Seq.{take_all}
use borrow.Author.Tests.{eqb-true, eq-eqb}
use Rattle.byte_string.specs.Order.{less, at_most, begins}
use Rattle.byte_string.proofs.OrderLaws.{order_same, at_most_cons, nil_at_most, at_most_nil, not_less_of_at_most}

-- A first element on both sides, and on one.

pub begins_cons : (a b : ℕ) (p x : List ℕ) → begins (a ∷ p) (b ∷ x) ≡ true → (a ≡ b) × (begins p x ≡ true)
unfolding begins
begins_cons a b p x e =
    let h = (and-eq-true_iff (eqb a b) (begins p x)).0 e in
    (eqb-true a b h.0, h.1)

pub begins_cons_of : (a b : ℕ) (p x : List ℕ) → a ≡ b → begins p x ≡ true → begins (a ∷ p) (b ∷ x) ≡ true
unfolding begins
begins_cons_of a b p x s e = rw (eq-eqb a b s, e)

-- the empty list begins with nothing but itself
pub begins_none : (a : ℕ) (p : List ℕ) → begins (a ∷ p) [] ≡ true → ⊥
unfolding begins
begins_none a p e = false≢true e

-- Which lists begin which.

pub begins_nil : (x : List ℕ) → begins [] x ≡ true
unfolding begins
begins_nil x = refl

pub begins-append : (p x : List ℕ) → begins p (p ++ x) ≡ true
begins-append [] x = begins_nil x
begins-append (a ∷ p) x = begins_cons_of a a p (p ++ x) refl (begins-append p x)

pub begins_refl : (p : List ℕ) → begins p p ≡ true
begins_refl [] = begins_nil []
begins_refl (a ∷ p) = begins_cons_of a a p p refl (begins_refl p)

-- what is taken from the front begins the list
pub begins-take : (k : ℕ) (x : List ℕ) → begins (take k x) x ≡ true
begins-take k x = rw take-append-drop at (begins-append (take k x) (drop k x))

-- a list that begins with p is p and the rest
pub take_begins : (p x : List ℕ) → begins p x ≡ true → take (length p) x ≡ p
take_begins [] x e = refl
take_begins (a ∷ p) [] e = absurd (begins_none a p e)
take_begins (a ∷ p) (b ∷ x) e =
    let h = begins_cons a b p x e in
    rw (h.0, take_begins p x h.1)

pub append-begins : (p x : List ℕ) → begins p x ≡ true → p ++ drop (length p) x ≡ x
append-begins p x e = rw (take_begins p x e) at (take-append-drop (length p) x)

-- and the other way round; that p is no longer than x follows
pub begins_of_take : (p x : List ℕ) → take (length p) x ≡ p → begins p x ≡ true
begins_of_take p x e = rw e at (begins-take (length p) x)

pub length-begins : (p x : List ℕ) → begins p x ≡ true → length p ≤ length x
length-begins [] x e = zero-le
length-begins (a ∷ p) [] e = absurd (begins_none a p e)
length-begins (a ∷ p) (b ∷ x) e = suc-le-suc (length-begins p x (begins_cons a b p x e).1)

-- a shorter list doesn't begin with p
pub begins_short : (p x : List ℕ) → length x < length p → begins p x ≡ false
begins_short p x few = go (begins p x) refl
  where
    go : (b : Bool) → begins p x ≡ b → begins p x ≡ false
    go true e = absurd (omega (arith, few, length-begins p x e))
    go false e = e

-- a beginning that is as long as the list is the list
pub begins_whole : (p x : List ℕ) → begins p x ≡ true → length x ≤ length p → p ≡ x
begins_whole p x e h = sym (take_begins p x e) ∙ take_all (length p) x h

pub begins_trans : (p q x : List ℕ) → begins p q ≡ true → begins q x ≡ true → begins p x ≡ true
begins_trans [] q x e f = begins_nil x
begins_trans (a ∷ p) [] x e f = absurd (begins_none a p e)
begins_trans (a ∷ p) (b ∷ q) [] e f = absurd (begins_none b q f)
begins_trans (a ∷ p) (b ∷ q) (c ∷ x) e f =
    let h = begins_cons a b p q e in
    let k = begins_cons b c q x f in
    begins_cons_of a c p x (h.0 ∙ k.0) (begins_trans p q x h.1 k.1)

-- of two beginnings of one list the shorter begins the longer
pub begins_both : (p q x : List ℕ) → begins p x ≡ true → begins q x ≡ true → length p ≤ length q → begins p q ≡ true
begins_both [] q x e f n = begins_nil q
begins_both (a ∷ p) [] x e f n = absurd (not-suc-le-zero n)
begins_both (a ∷ p) (b ∷ q) [] e f n = absurd (begins_none a p e)
begins_both (a ∷ p) (b ∷ q) (c ∷ x) e f n =
    let h = begins_cons a c p x e in
    let k = begins_cons b c q x f in
    begins_cons_of a b p q (h.0 ∙ sym k.0) (begins_both p q x h.1 k.1 (le_of_suc-le-suc n))

-- whether a list begins with p is seen in a front that is as long as p
pub begins_front : (p s : List ℕ) (n : ℕ) → length p ≤ n → begins p (take n s) ≡ begins p s
unfolding begins
begins_front [] s n h = refl
begins_front (a ∷ p) s zero h = absurd (not-suc-le-zero h)
begins_front (a ∷ p) [] (suc n) h = refl
begins_front (a ∷ p) (b ∷ s) (suc n) h = ap (◌&&◌ (eqb a b)) (begins_front p s n (le_of_suc-le-suc h))

-- Beginnings in the order: what begins with p stands together, and p comes first.

pub begins-at_most : (p x : List ℕ) → begins p x ≡ true → at_most p x ≡ true
unfolding at_most
begins-at_most [] x e = nil_at_most x
begins-at_most (a ∷ p) [] e = absurd (begins_none a p e)
begins-at_most (a ∷ p) (b ∷ x) e =
    let h = begins_cons a b p x e in
    rw (order_same a b p x h.0) (begins-at_most p x h.1)

pub begins_between : (p y x : List ℕ) → at_most p y ≡ true → at_most y x ≡ true → begins p x ≡ true → begins p y ≡ true
begins_between [] y x l m e = begins_nil y
begins_between (a ∷ p) [] x l m e = cc (at_most_nil (a ∷ p) l)
begins_between (a ∷ p) (b ∷ y) [] l m e = absurd (begins_none a p e)
begins_between (a ∷ p) (b ∷ y) (c ∷ x) l m e =
    go (begins_between p y x) (begins_cons a c p x e) (at_most_cons a b p y l) (at_most_cons b c y x m)
  where
    go : (at_most p y ≡ true → at_most y x ≡ true → begins p x ≡ true → begins p y ≡ true)
        → (a ≡ c) × (begins p x ≡ true) → (a < b) ⊎ ((a ≡ b) × (at_most p y ≡ true)) → (b < c) ⊎ ((b ≡ c) × (at_most y x ≡ true))
        → begins (a ∷ p) (b ∷ y) ≡ true
    go ih s (inl h) (inl k) = absurd (omega arith)
    go ih s (inl h) (inr k) = absurd (omega arith)
    go ih s (inr h) (inl k) = absurd (omega arith)
    go ih s (inr h) (inr k) = begins_cons_of a b p y h.0 (ih h.1 k.1 s.1)

-- nothing before p begins with p
pub not_begins_before : (p x : List ℕ) → less x p ≡ true → begins p x ≡ false
not_begins_before p x l = go (begins p x) refl
  where
    go : (b : Bool) → begins p x ≡ b → begins p x ≡ false
    go true e = cc (not_less_of_at_most p x (begins-at_most p x e))
    go false e = e

-- past p, where one list does not begin with p, none after it does
pub not_begins_past : (p x y : List ℕ) → at_most p x ≡ true → begins p x ≡ false → at_most x y ≡ true → begins p y ≡ false
not_begins_past p x y l n m = go (begins p y) refl
  where
    go : (b : Bool) → begins p y ≡ b → begins p y ≡ false
    go true e = cc (begins_between p x y l m e)
    go false e = e
