-- The laws of `comparison`: how it is found, and what it says.
-- Assumes nothing.
use Prim.Native.Nat.{ℕ, ◌≤◌, ◌<◌}
use mathlib.Core.Path.{◌≡◌, refl, sym, ap, ◌∙◌}
use mathlib.Core.Bool.{true, not, ◌&&◌}
use mathlib.Core.List.{List}
use lib.Dec.{leb}
use lib.IntN.{pos, negsuc}
use lib.ListN.{length, get_or}
use lib.Signed.{lt_z, le_z}
use Rattle.std.proofs.Common.{Ordering, Less, Equal, Greater}
use Rattle.std.specs.Ordering.{is_lt, is_le}
use Rattle.byte_string.specs.declared.Comparison.{Comparison}
use Rattle.byte_string.specs.Order.{order, signed, less, at_most, begins, agreeing}
use Rattle.byte_string.specs.Order.{comparison, says_less, says_at_most, says_equal, says_begins}
use Rattle.byte_string.proofs.OrderLaws.{order_refl, order_eq}
use Rattle.byte_string.proofs.AgreeingLaws.{agreeing_comm, begins-agreeing, order_parted_below, order_parted_above}

-- with n the place at which x and y part, and o how they compare
pub comparison_of_lem : (x y : List ℕ) (n : ℕ) (o : Ordering) → n ≡ agreeing x y → order x y ≡ o → record { sign = signed o; agreeing = n } ≡ comparison x y
unfolding comparison
comparison_of_lem x y n o e f = rw (e, f)

-- where neither has ended, by the bytes there
module _ (x y : List ℕ) (n : ℕ) (e : n ≡ agreeing x y) (h : n < length x) (k : n < length y) where
  pub comparison_below : get_or x n 0 < get_or y n 0 → record { sign = negsuc 0; agreeing = n } ≡ comparison x y
  unfolding signed
  comparison_below s = comparison_of_lem x y n Less e (order_parted_below x y n e h k s)

  pub comparison_above : get_or y n 0 ≤ get_or x n 0 → record { sign = pos 1; agreeing = n } ≡ comparison x y
  unfolding signed
  comparison_above s = comparison_of_lem x y n Greater e (order_parted_above x y n e h k s)

-- What a comparison c of x with y says.

module _ (x y : List ℕ) (c : Comparison) (e : c ≡ comparison x y) where
  pub compared_agreeing : c.agreeing ≡ agreeing x y
  unfolding comparison
  compared_agreeing = rw e

  pub compared_less : says_less c ≡ less x y
  unfolding says_less comparison signed less
  compared_less = rw e (go (order x y))
    where
      go : (o : Ordering) → lt_z (signed o) (pos 0) ≡ is_lt o
      go Less = refl
      go Equal = refl
      go Greater = refl

  pub compared_at_most : says_at_most c ≡ at_most x y
  unfolding says_at_most comparison signed at_most
  compared_at_most = rw e (go (order x y))
    where
      go : (o : Ordering) → le_z (signed o) (pos 0) ≡ is_le o
      go Less = refl
      go Equal = refl
      go Greater = refl

  -- equal exactly if x is y
  pub compared_equal : says_equal c ≡ true → x ≡ y
  unfolding says_equal says_less says_at_most comparison signed
  compared_equal h = order_eq x y (go (order x y) (rw e at h))
    where
      go : (o : Ordering) → (le_z (signed o) (pos 0) && not (lt_z (signed o) (pos 0))) ≡ true → o ≡ Equal
      go Less f = cc
      go Equal f = refl
      go Greater f = cc

  pub compared_same : x ≡ y → says_equal c ≡ true
  unfolding says_equal says_less says_at_most comparison signed
  compared_same s = rw (e, s, order_refl y)

  -- y begins with x
  pub compared_begins : says_begins (length x) c ≡ begins x y
  unfolding says_begins
  compared_begins = ap (leb (length x)) compared_agreeing ∙ sym (begins-agreeing x y)

  -- x begins with y
  pub compared_begins_back : says_begins (length y) c ≡ begins y x
  unfolding says_begins
  compared_begins_back = ap (leb (length y)) (compared_agreeing ∙ agreeing_comm x y) ∙ sym (begins-agreeing y x)

-- The same, of the comparison itself.

pub says_less_of : (x y : List ℕ) → says_less (comparison x y) ≡ less x y
says_less_of x y = compared_less x y (comparison x y) refl

pub says_at_most_of : (x y : List ℕ) → says_at_most (comparison x y) ≡ at_most x y
says_at_most_of x y = compared_at_most x y (comparison x y) refl

pub says_begins_of : (x y : List ℕ) → says_begins (length x) (comparison x y) ≡ begins x y
says_begins_of x y = compared_begins x y (comparison x y) refl

pub says_begins_back : (x y : List ℕ) → says_begins (length y) (comparison x y) ≡ begins y x
says_begins_back x y = compared_begins_back x y (comparison x y) refl

pub ruleset compared = (says_less_of, says_at_most_of, says_begins_of, says_begins_back)
