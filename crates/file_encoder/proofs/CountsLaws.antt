-- Laws of the counts: records in a data block, entries in an index block.
-- Assumes nothing.
use mathlib.Core.Path.{◌≡◌, refl, sym, ap, ◌∙◌}
use mathlib.Core.Bool.{Bool, true, false, cond, ◌&&◌, false≢true}
use Prim.Native.Nat.{ℕ, ◌≤◌, ◌<◌}
use native.Mathlib.Omega.{arith}
use Rattle.std.specs.declared.cmp.Ordering.TheVariants.{Less, Equal, Greater}
use Rattle.std.specs.Ordering.{is_le, is_lt, nat_cmp}
use Rattle.std.specs.Cmp.{nat_cmp_is}
use lib.Dec.{leb}
use borrow.Author.Tests.{le-leb, lt-leb, leb-true}
use Rattle.layout.specs.File.{counts_fit}
use Rattle.index_encoder.proofs.StoredLaws.{by_order}

-- what the comparison of two numbers says
is_at_most : (a b : ℕ) → is_le (nat_cmp a b) ≡ leb a b
is_at_most a b =
    by_order a b (λ h. ap is_le (sym (nat_cmp_is a b Less h)) ∙ sym (le-leb a b (omega arith)))
    (λ h. by_order b a (λ k. ap is_le (sym (nat_cmp_is a b Greater k)) ∙ sym (lt-leb a b k))
    (λ k. ap is_le (sym (nat_cmp_is a b Equal (omega arith))) ∙ sym (le-leb a b (omega arith))))

-- whether a number is in a range, which has its end
pub in_range : (least most n : ℕ) {from end : ℕ} {spent found : Bool}
    → found ≡ (is_le (nat_cmp from n) && cond spent (is_lt (nat_cmp n end)) (is_le (nat_cmp n end)))
    → from ≡ least → end ≡ most → spent ≡ false → found ≡ (leb least n && leb n most)
in_range least most n e f g h = e ∙ rw (f, g, h, is_at_most least n, is_at_most n most)

-- the records in a data block are out of range
pub counts_block : (b i : ℕ) → false ≡ (leb 1 b && leb b 65535) → false ≡ counts_fit b i
unfolding counts_fit
counts_block b i e = rw (← e)

-- they are in range, so the entries in an index block decide
pub counts_index : (b i : ℕ) {fit : Bool} → true ≡ (leb 1 b && leb b 65535) → fit ≡ (leb 2 i && leb i 65535) → fit ≡ counts_fit b i
unfolding counts_fit
counts_index b i e f = rw (← e) f

pub counts_block_low : (b i : ℕ) → b < 1 → false ≡ counts_fit b i
unfolding counts_fit
counts_block_low b i h = rw (lt-leb 1 b h)

pub counts_block_high : (b i : ℕ) → 1 ≤ b → 65535 < b → false ≡ counts_fit b i
unfolding counts_fit
counts_block_high b i h k = rw (le-leb 1 b h, lt-leb b 65535 k)

pub counts_index_low : (b i : ℕ) → 1 ≤ b → b ≤ 65535 → i < 2 → false ≡ counts_fit b i
unfolding counts_fit
counts_index_low b i h k l = rw (le-leb 1 b h, le-leb b 65535 k, lt-leb 2 i l)

pub counts_asked : (b i : ℕ) → 1 ≤ b → b ≤ 65535 → 2 ≤ i → leb i 65535 ≡ counts_fit b i
unfolding counts_fit
counts_asked b i h k l = rw (le-leb 1 b h, le-leb b 65535 k, le-leb 2 i l)

-- counts in range: a block holds a record and at most 65,535, an index block two entries
pub counts⁻¹ : (b i : ℕ) → counts_fit b i ≡ true → (1 ≤ b) × (2 ≤ i) × (b ≤ 65535)
unfolding counts_fit
counts⁻¹ b i e = go (leb 1 b) (leb b 65535) (leb 2 i) (leb i 65535) refl refl refl e
  where
    go : (p q r s : Bool) → leb 1 b ≡ p → leb b 65535 ≡ q → leb 2 i ≡ r → ((p && q) && (r && s)) ≡ true → (1 ≤ b) × (2 ≤ i) × (b ≤ 65535)
    go true true true s e f g h = (leb-true 1 b e, leb-true 2 i g, leb-true b 65535 f)
    go true true false s e f g h = absurd (false≢true h)
    go true false r s e f g h = absurd (false≢true h)
    go false q r s e f g h = absurd (false≢true h)
