-- The laws of `Strict` and `once`: byte strings that rise strictly are known by their members, and each of a rising list once rises strictly.
-- Assumes nothing.
use Prim.Native.Nat.{ℕ}
use mathlib.Core.Path.{◌≡◌, refl, sym, ap, ◌∙◌, subst}
use mathlib.Core.Bool.{Bool, true, false, not, false≢true}
use mathlib.Core.Logic.{◌⊎◌, inl, inr}
use mathlib.Core.List.Memᴰ
use mathlib.Core.List.{List, [], ◌∷◌, Memᴰ}
use borrow.Author.Tests.{not-true}
use Rattle.lists.specs.Lists.{keep}
use Rattle.lists.proofs.ListsLaws.{both⁻¹, keep_member, member_keep, keep_first, keep_later}
use Rattle.byte_string.specs.Order.{less, at_most}
use Rattle.byte_string.specs.Rising.{rising, rising_from}
use Rattle.byte_string.proofs.OrderLaws.{less_irrefl, less_trans, at_most_cases}
use Rattle.payload.proofs.ScanLaws.{rising_from-each}
use Rattle.byte_string.specs.Order.{same}
use Rattle.differences.specs.Differences.{once}
use Rattle.byte_string.specs.Rising.{Strict, no_string, one_string}
use Rattle.byte_string.proofs.SameLaws.{same_eq, not_same}

-- ---- strings that rise strictly

pub less_not_eq : (x y : List ℕ) → less x y ≡ true → x ≡ y → ⊥
less_not_eq x y l e = false≢true (sym (less_irrefl y) ∙ subst (λ (v : List ℕ). less v y ≡ true) e l)

less_not_both : (x y : List ℕ) → less x y ≡ true → less y x ≡ true → ⊥
less_not_both x y l k = less_not_eq x x (less_trans x y x l k) refl

strict_least : (x : List ℕ) (xs : List (List ℕ)) → Strict (x ∷ xs) → (y : List ℕ) → Memᴰ y xs → less x y ≡ true
strict_least x xs (one_string h s) = h

strict_rest : (x : List ℕ) (xs : List (List ℕ)) → Strict (x ∷ xs) → Strict xs
strict_rest x xs (one_string h s) = s

-- two such lists with the same members are the same
pub strict_unique : (xs ys : List (List ℕ)) → Strict xs → Strict ys → ((x : List ℕ) → Memᴰ x xs → Memᴰ x ys)
    → ((x : List ℕ) → Memᴰ x ys → Memᴰ x xs) → xs ≡ ys
strict_unique [] [] h k to from = refl
strict_unique [] (y ∷ ys) h k to from = absurd (Memᴰ.not-nil (from y (Memᴰ.head refl)))
strict_unique (x ∷ xs) [] h k to from = absurd (Memᴰ.not-nil (to x (Memᴰ.head refl)))
strict_unique (x ∷ xs) (y ∷ ys) h k to from =
    joined (strict_unique xs ys (strict_rest x xs h) (strict_rest y ys k)
    (inner x y xs ys (strict_least x xs h) firsts to) (inner y x ys xs (strict_least y ys k) (sym firsts) from))
  where
    first : (x ≡ y) ⊎ Memᴰ x ys → (y ≡ x) ⊎ Memᴰ y xs → x ≡ y
    first (inl p) q = p
    first (inr p) (inl q) = sym q
    first (inr p) (inr q) = absurd (less_not_both x y (strict_least x xs h y q) (strict_least y ys k x p))

    firsts : x ≡ y
    firsts = first (Memᴰ.cases_cons (to x (Memᴰ.head refl))) (Memᴰ.cases_cons (from y (Memᴰ.head refl)))

    past : (v w z : List ℕ) (ws : List (List ℕ)) → less v z ≡ true → v ≡ w → (z ≡ w) ⊎ Memᴰ z ws → Memᴰ z ws
    past v w z ws l e (inl p) = absurd (less_not_eq v z l (e ∙ sym p))
    past v w z ws l e (inr p) = p

    inner : (v w : List ℕ) (vs ws : List (List ℕ)) → ((z : List ℕ) → Memᴰ z vs → less v z ≡ true) → v ≡ w
        → ((z : List ℕ) → Memᴰ z (v ∷ vs) → Memᴰ z (w ∷ ws)) → (z : List ℕ) → Memᴰ z vs → Memᴰ z ws
    inner v w vs ws least e all z m = past v w z ws (least z m) e (Memᴰ.cases_cons (all z (Memᴰ.tail m)))

    joined : xs ≡ ys → x ∷ xs ≡ y ∷ ys
    joined e = ap (λ (v : List ℕ). v ∷ xs) firsts ∙ ap (λ (l : List (List ℕ)). y ∷ l) e

pub strict_keep : (test : List ℕ → Bool) (xs : List (List ℕ)) → Strict xs → Strict (keep test xs)
unfolding keep
strict_keep test xs no_string = no_string
strict_keep test xs (one_string {x = x} {xs = ys} h s) = go (test x) refl (strict_keep test ys s)
  where
    go : (b : Bool) → test x ≡ b → Strict (keep test ys) → Strict (keep test (x ∷ ys))
    go true e rest =
        subst Strict (sym (keep_first test x ys e)) (one_string (λ (y : List ℕ) (m : Memᴰ y (keep test ys)). h y (keep_member test ys y m).0) rest)
    go false e rest = subst Strict (sym (keep_later test x ys e)) rest

-- ---- each once

pub once_member : (xs : List (List ℕ)) (x : List ℕ) → Memᴰ x (once xs) → Memᴰ x xs
unfolding once
once_member [] x m = m
once_member (y ∷ xs) x m = go (Memᴰ.cases_cons m) (once_member xs x)
  where
    go : (x ≡ y) ⊎ Memᴰ x (keep (λ z. not (same y z)) (once xs)) → (Memᴰ x (once xs) → Memᴰ x xs) → Memᴰ x (y ∷ xs)
    go (inl own) rest = Memᴰ.head own
    go (inr later) rest = Memᴰ.tail (rest (keep_member (λ (z : List ℕ). not (same y z)) (once xs) x later).0)

pub member_once : (xs : List (List ℕ)) (x : List ℕ) → Memᴰ x xs → Memᴰ x (once xs)
unfolding once
member_once [] x m = m
member_once (y ∷ xs) x m = go (same y x) refl (Memᴰ.cases_cons m) (member_once xs x)
  where
    go : (b : Bool) → same y x ≡ b → (x ≡ y) ⊎ Memᴰ x xs → (Memᴰ x xs → Memᴰ x (once xs))
        → Memᴰ x (y ∷ keep (λ z. not (same y z)) (once xs))
    go true e c rest = Memᴰ.head (sym (same_eq y x e))
    go false e (inl own) rest = Memᴰ.head own
    go false e (inr later) rest = Memᴰ.tail (member_keep (λ (z : List ℕ). not (same y z)) (once xs) x (rest later) (ap not e))

pub rising_rest : (x : List ℕ) (xs : List (List ℕ)) → rising (x ∷ xs) ≡ true → rising xs ≡ true
unfolding rising rising_from
rising_rest x [] h = refl
rising_rest x (y ∷ ys) h = (both⁻¹ (at_most x y) (rising_from y ys) h).1

pub rising_least : (x : List ℕ) (xs : List (List ℕ)) → rising (x ∷ xs) ≡ true → (y : List ℕ) → Memᴰ y xs → at_most x y ≡ true
unfolding rising
rising_least x xs h = rising_from-each x xs h

-- at most and not the same is less
pub at_most-less : (x y : List ℕ) → at_most x y ≡ true → (x ≡ y → ⊥) → less x y ≡ true
at_most-less x y l h = go (at_most_cases x y l)
  where
    go : (less x y ≡ true) ⊎ (x ≡ y) → less x y ≡ true
    go (inl k) = k
    go (inr e) = absurd (h e)

pub once_strict : (xs : List (List ℕ)) → rising xs ≡ true → Strict (once xs)
unfolding once
once_strict [] h = no_string
once_strict (x ∷ xs) h =
    one_string above (strict_keep (λ (y : List ℕ). not (same x y)) (once xs) (once_strict xs (rising_rest x xs h)))
  where
    above : (y : List ℕ) → Memᴰ y (keep (λ z. not (same x z)) (once xs)) → less x y ≡ true
    above y m =
        let held = keep_member (λ (z : List ℕ). not (same x z)) (once xs) y m in
        at_most-less x y (rising_least x xs h y (once_member xs y held.0)) (not_same x y (not-true (same x y) held.1))
