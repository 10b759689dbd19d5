-- The laws of `order`, `less` and `at_most`: a total order of lists of numbers, in which a proper beginning comes first.
-- Assumes nothing.
use Prim.Native.Nat.{ℕ, zero, suc, ◌<◌, suc-le-suc, zero-le}
use native.Mathlib.Omega.{arith}
use mathlib.Core.Path.{◌≡◌, refl, sym, ap, ◌∙◌}
use mathlib.Core.Logic.{◌⊎◌, inl, inr}
use mathlib.Core.Bool.{Bool, true, false, not, false≢true}
use mathlib.Core.List.{List, [], ◌∷◌, ◌++◌}
use Rattle.std.proofs.Common.{Ordering, Less, Equal, Greater}
use Rattle.std.specs.Ordering.{nat_cmp, is_lt, is_le, ordering_reverse}
use Rattle.std.proofs.lemmas.Bool.Decides.{nat_tests}
use Rattle.std.proofs.lemmas.Cmp.{nat_list_cmp_total, tied_itself}
use Rattle.byte_string.specs.Order.{order, less, at_most}

-- Three examples, computed.

-- bytes are unsigned: 127 comes before 128
pub unsigned : order (127 ∷ []) (128 ∷ []) ≡ Less
unfolding order
unsigned = refl

-- a proper beginning comes first
pub beginning_first : order (97 ∷ []) (97 ∷ 98 ∷ []) ≡ Less
unfolding order
beginning_first = refl

-- the first difference decides, not the length
pub difference_first : order (97 ∷ 98 ∷ []) (98 ∷ []) ≡ Less
unfolding order
difference_first = refl

-- Two numbers.

-- `nat_cmp` goes by which of the two is below the other
pub cmp_lt : (a b : ℕ) → a < b → nat_cmp a b ≡ Less
cmp_lt a b h = grind (arith, nat_tests)

pub cmp_eq : (a b : ℕ) → a ≡ b → nat_cmp a b ≡ Equal
cmp_eq a b e = grind (arith, nat_tests)

pub cmp_gt : (a b : ℕ) → b < a → nat_cmp a b ≡ Greater
cmp_gt a b h = grind (arith, nat_tests)

-- the first is below the second, is the second, or is above it
abbrev pub Ways : ℕ → ℕ → Type 0
Ways a b = (a < b) ⊎ ((a ≡ b) ⊎ (b < a))

pub ways : (a b : ℕ) → Ways a b
ways zero zero = inr (inl refl)
ways zero (suc b) = inl (suc-le-suc zero-le)
ways (suc a) zero = inr (inr (suc-le-suc zero-le))
ways (suc a) (suc b) = go (ways a b)
  where
    go : Ways a b → Ways (suc a) (suc b)
    go (inl h) = inl (suc-le-suc h)
    go (inr (inl e)) = inr (inl (ap suc e))
    go (inr (inr h)) = inr (inr (suc-le-suc h))

-- The three-way order, where both lists have a first element: it decides, or the rest does.

pub order_below : (a b : ℕ) (x y : List ℕ) → a < b → order (a ∷ x) (b ∷ y) ≡ Less
unfolding order
order_below a b x y h = rw (cmp_lt a b h)

pub order_same : (a b : ℕ) (x y : List ℕ) → a ≡ b → order (a ∷ x) (b ∷ y) ≡ order x y
unfolding order
order_same a b x y e = rw (cmp_eq a b e)

pub order_above : (a b : ℕ) (x y : List ℕ) → b < a → order (a ∷ x) (b ∷ y) ≡ Greater
unfolding order
order_above a b x y h = rw (cmp_gt a b h)

-- a common beginning does not count
pub order-append : (p x y : List ℕ) → order (p ++ x) (p ++ y) ≡ order x y
order-append [] x y = refl
order-append (a ∷ p) x y = order_same a a (p ++ x) (p ++ y) refl ∙ order-append p x y

-- The three-way order is an order.

pub order_refl : (x : List ℕ) → order x x ≡ Equal
unfolding order
order_refl x = tied_itself nat_list_cmp_total x

-- the answer for the operands swapped
pub order_flip : (x y : List ℕ) → order y x ≡ ordering_reverse (order x y)
unfolding order
order_flip x y = nat_list_cmp_total.antisymm y x

-- only equal lists compare as equal
pub order_eq : (x y : List ℕ) → order x y ≡ Equal → x ≡ y
unfolding order
order_eq [] [] e = refl
order_eq [] (b ∷ y) e = cc
order_eq (a ∷ x) [] e = cc
order_eq (a ∷ x) (b ∷ y) e = go (order_eq x y) (ways a b)
  where
    go : (order x y ≡ Equal → x ≡ y) → Ways a b → a ∷ x ≡ b ∷ y
    go ih (inl h) = cc (order_below a b x y h)
    go ih (inr (inl s)) = rw (s, ih (sym (order_same a b x y s) ∙ e))
    go ih (inr (inr h)) = cc (order_above a b x y h)

-- two comparisons in a row with the answer "less"
order_trans_lt : (x y z : List ℕ) → order x y ≡ Less → order y z ≡ Less → order x z ≡ Less
unfolding order
order_trans_lt x y z p q = nat_list_cmp_total.trans x y z p q

-- two comparisons in a row with one answer
pub order_trans : (x y z : List ℕ) (o : Ordering) → order x y ≡ o → order y z ≡ o → order x z ≡ o
order_trans x y z Less p q = order_trans_lt x y z p q
order_trans x y z Equal p q = rw (order_eq x y p) q
order_trans x y z Greater p q =
    order_flip z x ∙ ap ordering_reverse (order_trans_lt z y x (order_flip y z ∙ ap ordering_reverse q) (order_flip x y ∙ ap ordering_reverse p))

-- `less` and `at_most`, each by the other.

pub less_not_at_most : (x y : List ℕ) → less x y ≡ not (at_most y x)
unfolding less at_most
less_not_at_most x y = rw (order_flip x y) (go (order x y))
  where
    go : (o : Ordering) → is_lt o ≡ not (is_le (ordering_reverse o))
    go Less = refl
    go Equal = refl
    go Greater = refl

pub at_most_not_less : (x y : List ℕ) → at_most x y ≡ not (less y x)
unfolding less at_most
at_most_not_less x y = rw (order_flip x y) (go (order x y))
  where
    go : (o : Ordering) → is_le o ≡ not (is_lt (ordering_reverse o))
    go Less = refl
    go Equal = refl
    go Greater = refl

pub less_of_not_at_most : (x y : List ℕ) → at_most x y ≡ false → less y x ≡ true
less_of_not_at_most x y e = less_not_at_most y x ∙ ap not e

pub not_less_of_at_most : (x y : List ℕ) → at_most x y ≡ true → less y x ≡ false
not_less_of_at_most x y e = less_not_at_most y x ∙ ap not e

pub at_most_of_not_less : (x y : List ℕ) → less x y ≡ false → at_most y x ≡ true
at_most_of_not_less x y e = at_most_not_less y x ∙ ap not e

pub not_at_most_of_less : (x y : List ℕ) → less x y ≡ true → at_most y x ≡ false
not_at_most_of_less x y e = at_most_not_less y x ∙ ap not e

-- `less` and `at_most` by the three-way order.

pub less_of_lt : (x y : List ℕ) → order x y ≡ Less → less x y ≡ true
unfolding less
less_of_lt x y e = rw e

pub lt_of_less : (x y : List ℕ) → less x y ≡ true → order x y ≡ Less
unfolding less
lt_of_less x y = go (order x y)
  where
    go : (o : Ordering) → is_lt o ≡ true → o ≡ Less
    go Less e = refl
    go Equal e = cc
    go Greater e = cc

pub at_most_of_less : (x y : List ℕ) → less x y ≡ true → at_most x y ≡ true
unfolding at_most
at_most_of_less x y e = rw (lt_of_less x y e)

-- at most is before or the same
pub at_most_cases : (x y : List ℕ) → at_most x y ≡ true → (less x y ≡ true) ⊎ (x ≡ y)
unfolding at_most
at_most_cases x y e = go (order x y) refl
  where
    go : (o : Ordering) → order x y ≡ o → (less x y ≡ true) ⊎ (x ≡ y)
    go Less p = inl (less_of_lt x y p)
    go Equal p = inr (order_eq x y p)
    go Greater p = absurd (false≢true (rw p at e))

-- `less` and `at_most` are orders.

pub less_irrefl : (x : List ℕ) → less x x ≡ false
unfolding less
less_irrefl x = rw (order_refl x)

pub less_trans : (x y z : List ℕ) → less x y ≡ true → less y z ≡ true → less x z ≡ true
less_trans x y z p q = less_of_lt x z (order_trans_lt x y z (lt_of_less x y p) (lt_of_less y z q))

pub less-at_most_trans : (x y z : List ℕ) → less x y ≡ true → at_most y z ≡ true → less x z ≡ true
less-at_most_trans x y z p q = go (at_most_cases y z q)
  where
    go : (less y z ≡ true) ⊎ (y ≡ z) → less x z ≡ true
    go (inl h) = less_trans x y z p h
    go (inr e) = rw e at p

pub at_most-less_trans : (x y z : List ℕ) → at_most x y ≡ true → less y z ≡ true → less x z ≡ true
at_most-less_trans x y z p q = go (at_most_cases x y p)
  where
    go : (less x y ≡ true) ⊎ (x ≡ y) → less x z ≡ true
    go (inl h) = less_trans x y z h q
    go (inr e) = rw e q

pub at_most_refl : (x : List ℕ) → at_most x x ≡ true
unfolding at_most
at_most_refl x = rw (order_refl x)

pub at_most_antisym : (x y : List ℕ) → at_most x y ≡ true → at_most y x ≡ true → x ≡ y
at_most_antisym x y p q = go (at_most_cases x y p)
  where
    go : (less x y ≡ true) ⊎ (x ≡ y) → x ≡ y
    go (inl h) = cc (not_at_most_of_less x y h)
    go (inr e) = e

pub at_most_trans : (x y z : List ℕ) → at_most x y ≡ true → at_most y z ≡ true → at_most x z ≡ true
at_most_trans x y z p q = go (at_most_cases x y p)
  where
    go : (less x y ≡ true) ⊎ (x ≡ y) → at_most x z ≡ true
    go (inl h) = at_most_of_less x z (less-at_most_trans x y z h q)
    go (inr e) = rw e q

pub at_most_total : (x y : List ℕ) → (at_most x y ≡ true) ⊎ (at_most y x ≡ true)
at_most_total x y = go (less x y) refl
  where
    go : (b : Bool) → less x y ≡ b → (at_most x y ≡ true) ⊎ (at_most y x ≡ true)
    go true e = inl (at_most_of_less x y e)
    go false e = inr (at_most_of_not_less x y e)

-- The empty list.

pub nil_at_most : (x : List ℕ) → at_most [] x ≡ true
unfolding at_most order
nil_at_most [] = refl
nil_at_most (a ∷ x) = refl

pub at_most_nil : (x : List ℕ) → at_most x [] ≡ true → x ≡ []
at_most_nil x e = at_most_antisym x [] e (nil_at_most x)

-- A first element on both sides.

-- what "at most" says of the first elements and the rests
pub at_most_cons : (a b : ℕ) (x y : List ℕ) → at_most (a ∷ x) (b ∷ y) ≡ true → (a < b) ⊎ ((a ≡ b) × (at_most x y ≡ true))
unfolding at_most
at_most_cons a b x y e = go (ways a b)
  where
    go : Ways a b → (a < b) ⊎ ((a ≡ b) × (at_most x y ≡ true))
    go (inl h) = inl h
    go (inr (inl s)) = inr (s, rw (order_same a b x y s) at e)
    go (inr (inr h)) = absurd (false≢true (rw (order_above a b x y h) at e))
