-- The lowest bit in which two little-endian numbers differ stands in the first byte in which their bytes differ.
-- Assumes nothing.
use mathlib.Core.Path.{◌≡◌, refl, sym, ap, ◌∙◌}
use mathlib.Core.Logic.{◌⊎◌, inl, inr}
use mathlib.Core.List.{List, [], ◌∷◌}
use Prim.Native.Nat.{ℕ, zero, suc, ◌+◌, ◌*◌, ◌/◌, ◌%◌, ◌^◌, ◌<◌, zero-le, suc-le-suc}
use native.Mathlib.Nat.{pow-suc, add-suc, add-zero, mul-one}
use native.Mathlib.Omega.{arith}
use lib.Bits.{bit_xor, xor_block, xor_self, xor_lt, xor_add_and, and_le_l, and_le_r, block_half, block_odd, shifted_half, shifted_even}
use lib.Count.{count_trailing_zeros, under}
use lib.ListN.{length}
use Rattle.part.specs.Bytes.{AreBytes}
use Rattle.endian.specs.FixedWidth.{little_endian}
use Rattle.byte_string.specs.Order.{agreeing}
use Rattle.byte_string.proofs.AgreeingLaws.{agreeing-same, agreeing_differ, agreeing_nil_left, same_or_not}

-- The lowest bit that is set.

-- numbers whose bits differ nowhere are the same
xor_zero : (a b : ℕ) → bit_xor a b ≡ 0 → a ≡ b
xor_zero a b z =
    let sum = xor_add_and a b in
    let left = and_le_l a b in
    let right = and_le_r a b in
    omega arith

-- below it, j zeros more
trailing_shifted : (j k e : ℕ) → count_trailing_zeros (k + j) (e * 2 ^ j) ≡ count_trailing_zeros k e + j
unfolding count_trailing_zeros
trailing_shifted zero k e = rw (add-zero k, mul-one e) (omega arith)
trailing_shifted (suc j) k e = rw (add-suc k j, shifted_even e j, shifted_half e j) (omega (arith, trailing_shifted j k e))

-- among the lowest j bits, where one of these is set
trailing_within : (j k e r : ℕ) → 0 < r → r < 2 ^ j → count_trailing_zeros (k + j) (e * 2 ^ j + r) < j
unfolding count_trailing_zeros
trailing_within zero k e r some h = absurd (omega arith)
trailing_within (suc j) k e r some h = rw (add-suc k j, block_odd e j r, block_half e j r) (go (r % 2) refl (trailing_within j k e (r / 2)))
  where
    half_below : r / 2 < 2 ^ j
    half_below = let twice : r < 2 ^ j * 2 = rw pow-suc at h in omega arith

    go : (d : ℕ) → r % 2 ≡ d → (0 < r / 2 → r / 2 < 2 ^ j → count_trailing_zeros (k + j) (e * 2 ^ j + r / 2) < j)
        → under d (count_trailing_zeros (k + j) (e * 2 ^ j + r / 2)) < suc j
    go zero z ih = let below = ih (omega arith) half_below in omega arith
    go (suc d) z ih = suc-le-suc zero-le

-- in bytes: one more where the lowest byte is zero, none where it isn't
byte_zero : (k e : ℕ) → count_trailing_zeros (suc k * 8) (e * 2 ^ 8 + 0) / 8 ≡ suc (count_trailing_zeros (k * 8) e / 8)
byte_zero k e =
    let wider : suc k * 8 ≡ k * 8 + 8 = omega arith in
    let shifted = trailing_shifted 8 (k * 8) e in
    rw (wider, add-zero (e * 2 ^ 8), shifted) (omega arith)

byte_set : (k e r : ℕ) → 0 < r → r < 2 ^ 8 → count_trailing_zeros (suc k * 8) (e * 2 ^ 8 + r) / 8 ≡ 0
byte_set k e r some h =
    let wider : suc k * 8 ≡ k * 8 + 8 = omega arith in
    let within = trailing_within 8 (k * 8) e r some h in
    rw wider (omega arith)

-- the bytes below the one with the lowest bit that differs are those that agree
pub agreeing_word : (x y : List ℕ) → AreBytes x → AreBytes y → length x ≡ length y
    → agreeing x y ≡ count_trailing_zeros (length x * 8) (bit_xor (little_endian x) (little_endian y)) / 8
unfolding little_endian AreBytes count_trailing_zeros
agreeing_word [] y hx hy e = agreeing_nil_left y
agreeing_word (a ∷ x) [] hx hy e = absurd (omega arith)
agreeing_word (a ∷ x) (b ∷ y) hx hy e = go (agreeing_word x y hx.1 hy.1 (omega arith)) (same_or_not a b)
  where
    differing : bit_xor (a + 256 * little_endian x) (b + 256 * little_endian y) ≡ bit_xor (little_endian x) (little_endian y) * 2 ^ 8 + bit_xor a b
    differing =
        let left : a + 256 * little_endian x ≡ little_endian x * 2 ^ 8 + a = omega arith in
        let right : b + 256 * little_endian y ≡ little_endian y * 2 ^ 8 + b = omega arith in
        rw (left, right) (xor_block 8 (little_endian x) (little_endian y) a b hx.0 hy.0)

    go : agreeing x y ≡ count_trailing_zeros (length x * 8) (bit_xor (little_endian x) (little_endian y)) / 8 → (a ≡ b) ⊎ (a ≡ b → ⊥)
        → agreeing (a ∷ x) (b ∷ y) ≡ count_trailing_zeros (suc (length x) * 8) (bit_xor (a + 256 * little_endian x) (b + 256 * little_endian y)) / 8
    go ih (inl s) =
        let none : bit_xor a b ≡ 0 = ap (bit_xor a) (sym s) ∙ xor_self a in
        agreeing-same a b x y s
        ∙ ap suc ih
        ∙ sym (byte_zero (length x) (bit_xor (little_endian x) (little_endian y)))
        ∙ ap (λ (d : ℕ). count_trailing_zeros (suc (length x) * 8) d / 8)
        (sym (differing ∙ ap (λ (r : ℕ). bit_xor (little_endian x) (little_endian y) * 2 ^ 8 + r) none))
    go ih (inr n) =
        agreeing_differ a b x y n
        ∙ sym (byte_set (length x) (bit_xor (little_endian x) (little_endian y)) (bit_xor a b) (some (bit_xor a b) refl) (xor_lt 8 a b hx.0 hy.0))
        ∙ ap (λ (d : ℕ). count_trailing_zeros (suc (length x) * 8) d / 8) (sym differing)
      where
        some : (r : ℕ) → bit_xor a b ≡ r → 0 < r
        some zero z = absurd (n (xor_zero a b z))
        some (suc r) z = suc-le-suc zero-le
