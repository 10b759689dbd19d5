-- The laws of `same`: it tells whether two byte strings are equal.
-- Assumes nothing.
use Prim.Native.Nat.{ℕ}
use mathlib.Core.Path.{◌≡◌, refl, sym, ap, ◌∙◌}
use mathlib.Core.Bool.{Bool, true, false, true≢false}
use mathlib.Core.List.{List}
use Rattle.byte_string.specs.declared.Comparison.{Comparison}
use Rattle.byte_string.specs.Order.{comparison, says_equal, same}
use Rattle.byte_string.proofs.ComparisonLaws.{compared_equal, compared_same}

pub same_refl : (x : List ℕ) → same x x ≡ true
unfolding same
same_refl x = compared_same x x (comparison x x) refl refl

pub same_eq : (x y : List ℕ) → same x y ≡ true → x ≡ y
unfolding same
same_eq x y h = compared_equal x y (comparison x y) refl h

pub eq_same : (x y : List ℕ) → x ≡ y → same x y ≡ true
unfolding same
eq_same x y e = compared_same x y (comparison x y) refl e

pub same_not : (x y : List ℕ) → (x ≡ y → ⊥) → same x y ≡ false
same_not x y h = go (same x y) refl
  where
    go : (b : Bool) → same x y ≡ b → b ≡ false
    go true e = absurd (h (same_eq x y e))
    go false e = refl

pub not_same : (x y : List ℕ) → same x y ≡ false → x ≡ y → ⊥
not_same x y h e = true≢false (sym (eq_same x y e) ∙ h)

-- what a comparison of the two says
pub same_of_compared : (x y : List ℕ) (c : Comparison) → c ≡ comparison x y → says_equal c ≡ same x y
unfolding same
same_of_compared x y c e = ap says_equal e
