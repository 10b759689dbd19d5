-- The product of registers: with what m zero bits make of the highest bit, it takes a register through m zero bits.
-- Assumes nothing.
use mathlib.Core.Path.{◌≡◌, refl, sym, ap, ap₂, ◌∙◌}
use mathlib.Core.Bool.{true, ◌&&◌, and-eq-true_iff, false≢true}
use mathlib.Core.List.{List, [], ◌∷◌}
use Prim.Native.Nat.{ℕ, zero, suc, ◌+◌, ◌-◌, ◌*◌, ◌/◌, ◌%◌, ◌^◌, ◌≤◌, ◌<◌}
use native.Mathlib.Nat.{add-mul, add-suc, div-add-mod', le_of_suc-le-suc, mul_assoc, mul_comm, mul-lt-mul_of_pos_right, mul-one, eq-or-lt_of_le}
use native.Mathlib.Nat.{not-suc-le-zero, one-mul, pow-suc, suc-add, zero-mul}
use native.Mathlib.Numerals.{add-one}
use native.Mathlib.Omega.{arith}
use borrow.Author.Tests.{eqb-true}
use lib.Bits.{bit_xor, xor_comm, xor_shifted, xor_zero_r}
use lib.Dec.{eqb, lit<}
use lib.ListN.{length, get_or}
use lib.Pow.{pow-add, pow_pos}
use Rattle.crc64_register.specs.Crc64.{bit_step, bit_steps}
use Rattle.crc64_lanes.specs.Product.{shifted, product_from, product, are_squares, are_powers}
use Rattle.crc64_register.proofs.Crc64Laws.{polynomial_value, bit_steps_lt}
use Rattle.crc64_register.proofs.LinearLaws.{digit_lt, digit_cases, xor_assoc, bit_steps_xor, bit_steps-add, bit_steps_swap, bit_steps_low, bit_steps_zero}
use mathlib.Core.Logic.{◌⊎◌, inl, inr}

-- ---- a product with what m zero bits make of the highest bit

digit_steps : (d m n x : ℕ) → d < 2 → bit_steps n (d * bit_steps m x) ≡ bit_steps m (bit_steps n (d * x))
digit_steps d m n x h =
    digit_cases (λ d. bit_steps n (d * bit_steps m x) ≡ bit_steps m (bit_steps n (d * x)))
    (rw (zero-mul (bit_steps m x), zero-mul x, bit_steps_zero n, bit_steps_zero m))
    (rw (one-mul (bit_steps m x), one-mul x) (bit_steps_swap n m x)) d h

-- the low digit and the rest, each in its place
digits_sum : (b q : ℕ) → b / 2 * 2 ^ suc q + b % 2 * 2 ^ q ≡ b * 2 ^ q
digits_sum b q =
    let high : b / 2 * 2 ^ suc q ≡ b / 2 * 2 * 2 ^ q =
    ap (λ (x : ℕ). b / 2 * x) (pow-suc 2 q ∙ mul_comm (2 ^ q) 2) ∙ sym (mul_assoc (b / 2) 2 (2 ^ q)) in
    ap (λ (x : ℕ). x + b % 2 * 2 ^ q) high ∙ sym (add-mul (b / 2 * 2) (b % 2) (2 ^ q)) ∙ ap (λ (x : ℕ). x * 2 ^ q) (div-add-mod' b 2)

digits_join : (b q : ℕ) → bit_xor (b % 2 * 2 ^ q) (b / 2 * 2 ^ suc q) ≡ b * 2 ^ q
digits_join b q =
    let low : b % 2 * 2 ^ q < 2 ^ suc q = rw (pow-suc 2 q, mul_comm (2 ^ q) 2) (mul-lt-mul_of_pos_right (digit_lt b) (pow_pos q)) in
    xor_comm (b % 2 * 2 ^ q) (b / 2 * 2 ^ suc q) ∙ xor_shifted (b / 2) (suc q) (b % 2 * 2 ^ q) low ∙ digits_sum b q

-- `top` is the highest of n + q bits; with n bits of the product to come, it has gone down to 2^q behind them
product_shift : (n q m r b top : ℕ) → top * 2 ≡ 2 ^ (n + q) → b < 2 ^ n
    → product_from n (bit_steps m top) r b ≡ bit_xor (bit_steps n r) (bit_steps m (b * 2 ^ q))
unfolding product_from bit_steps
product_shift zero q m r b top e h =
    let none : b ≡ 0 = omega (arith, h) in
    sym (ap (λ (x : ℕ). bit_xor r (bit_steps m (x * 2 ^ q))) none
    ∙ ap (λ (x : ℕ). bit_xor r (bit_steps m x)) (zero-mul (2 ^ q)) ∙ ap (bit_xor r) (bit_steps_zero m) ∙ xor_zero_r r)
product_shift (suc n) q m r b top e h =
    let d : ℕ = b % 2 in
    let rest : ℕ = bit_steps m (b / 2 * 2 ^ suc q) in
    let twice : top * 2 ≡ 2 ^ (n + q) * 2 = e ∙ ap (λ (k : ℕ). 2 ^ k) (suc-add n q) ∙ pow-suc 2 (n + q) in
    let once : top ≡ 2 ^ (n + q) = omega (arith, twice) in
    let top-is : top ≡ 2 ^ q * 2 ^ n = once ∙ pow-add 2 n q ∙ mul_comm (2 ^ n) (2 ^ q) in
    let below : b < 2 ^ n * 2 = rw (pow-suc 2 n) at h in
    let goes : bit_steps n (d * top) ≡ d * 2 ^ q =
    ap (bit_steps n) (ap (λ (x : ℕ). d * x) top-is ∙ sym (mul_assoc d (2 ^ q) (2 ^ n))) ∙ bit_steps_low n (d * 2 ^ q) in
    let further : top * 2 ≡ 2 ^ (n + suc q) = e ∙ ap (λ (k : ℕ). 2 ^ k) (suc-add n q ∙ sym (add-suc n q)) in
    product_shift n (suc q) m (bit_xor (bit_step r) (d * bit_steps m top)) (b / 2) top further (omega (arith, below))
    ∙ ap (λ (x : ℕ). bit_xor x rest) (bit_steps_xor n (bit_step r) (d * bit_steps m top))
    ∙ xor_assoc (bit_steps n (bit_step r)) (bit_steps n (d * bit_steps m top)) rest
    ∙ ap (bit_xor (bit_steps n (bit_step r)))
    (ap (λ (x : ℕ). bit_xor x rest) (digit_steps d m n top (digit_lt b) ∙ ap (bit_steps m) goes)
    ∙ sym (bit_steps_xor m (d * 2 ^ q) (b / 2 * 2 ^ suc q)) ∙ ap (bit_steps m) (digits_join b q))

-- m bits leave by one product
pub product_steps : (m b : ℕ) → b < 2 ^ 64 → product (shifted m) b ≡ bit_steps m b
unfolding product shifted
product_steps m b h =
    product_shift 64 0 m 0 b (2 ^ 63) refl h ∙ ap₂ bit_xor (bit_steps_zero 64) (ap (bit_steps m) (mul-one b))

-- ---- powers

shifted_lt : (m : ℕ) → shifted m < 2 ^ 64
unfolding shifted
shifted_lt m = bit_steps_lt m (2 ^ 63) (lit< tt)

shifted-add : (m n : ℕ) → product (shifted m) (shifted n) ≡ shifted (n + m)
unfolding shifted
shifted-add m n = product_steps m (shifted n) (shifted_lt n) ∙ sym (bit_steps-add n m (2 ^ 63))

-- squares double the bits
squares_at : (x n : ℕ) (ys : List ℕ) → are_squares x ys ≡ true → x ≡ shifted n → (k : ℕ) → k < suc (length ys) → get_or (x ∷ ys) k 0 ≡ shifted (n * 2 ^ k)
unfolding are_squares
squares_at x n ys e is zero h = is ∙ ap shifted (sym (mul-one n))
squares_at x n [] e is (suc k) h = absurd (not-suc-le-zero (le_of_suc-le-suc h))
squares_at x n (y ∷ ys) e is (suc k) h =
    let parts = (and-eq-true_iff (eqb y (product x x)) (are_squares y ys)).0 e in
    let squared : y ≡ shifted (n + n) = eqb-true y (product x x) parts.0 ∙ rw (is) (shifted-add n n) in
    let double : (n + n) * 2 ^ k ≡ n * 2 ^ suc k = rw (pow-suc 2 k) (omega arith) in
    squares_at y (n + n) ys parts.1 squared k (le_of_suc-le-suc h) ∙ ap shifted double

-- entry k of the powers is what 64 times 2^k zero bits make of the highest bit
pub powers_at : (t : List ℕ) → are_powers t ≡ true → (k : ℕ) → k < 25 → get_or t k 0 ≡ shifted (64 * 2 ^ k)
unfolding are_powers
powers_at [] e k h = absurd (false≢true e)
powers_at (p ∷ ps) e k h =
    let parts = (and-eq-true_iff (eqb (length ps) 24) (eqb p (shifted 64) && are_squares p ps)).0 e in
    let numbers = (and-eq-true_iff (eqb p (shifted 64)) (are_squares p ps)).0 parts.1 in
    let long : length ps ≡ 24 = eqb-true (length ps) 24 parts.0 in
    squares_at p 64 ps numbers.1 (eqb-true p (shifted 64) numbers.0) k (omega arith)

-- ---- the loop of a product

-- with i bits of b gone, the product is r, and the bits that are left lead to the whole
pub record Multiplied (a b i r left : ℕ) : Type 0 where
  pub within : i ≤ 64
  pub leads : product_from (64 - i) a r left ≡ product a b

pub multiplied_none : (a b : ℕ) → Multiplied a b 0 0 b
unfolding product
multiplied_none a b = record { within = omega arith; leads = refl }

pub multiplied_more : (a b i r left : ℕ) → Multiplied a b i r left → i < 64
    → Multiplied a b (i + 1) (bit_xor (bit_xor (r / 2) (r % 2 * 0xc96c_5795_d787_0f42)) (left % 2 * a)) (left / 2)
unfolding product_from bit_step
multiplied_more a b i r left done h =
    let more : 64 - i ≡ suc (64 - (i + 1)) = omega arith in
    record { within = omega arith; leads = rw (← polynomial_value) (rw more at done.leads) }

pub multiplied_all : (a b i r left : ℕ) → Multiplied a b i r left → 64 ≤ i → r ≡ product a b
unfolding product_from
multiplied_all a b i r left done h =
    let none : 64 - i ≡ 0 = omega arith in
    rw none at done.leads

-- what a bit adds fits 64 bits
pub digit_times_lt : (d a : ℕ) → d < 2 → a < 2 ^ 64 → d * a < 2 ^ 64
digit_times_lt d a hd ha = digit_cases (λ d. d * a < 2 ^ 64) (rw (zero-mul a) (lit< tt)) (rw (one-mul a) ha) d hd

-- ---- the loop of a power

-- with k bits of the count gone, r is what 64 times `gone` zero bits make of the highest bit, and `left` times 2^k are to come
pub record Powered (count k left r : ℕ) : Type 0 where
  pub gone : ℕ
  pub within : k ≤ 25
  pub small : left < 2 ^ (25 - k)
  pub sum : gone + left * 2 ^ k ≡ count
  pub holds : r ≡ shifted (64 * gone)

pub powered_none : (count r : ℕ) → count < 2 ^ 25 → r ≡ 2 ^ 63 → Powered count 0 count r
unfolding shifted bit_steps
powered_none count r h e = record { gone = 0; within = omega arith; small = h; sum = omega arith; holds = e }

-- where some are to come, there is an entry
pub powered_entry : (count k left r : ℕ) → Powered count k left r → 0 < left → k < 25
powered_entry count k left r done some = go (eq-or-lt_of_le done.within)
  where
    go : (k ≡ 25) ⊎ (k < 25) → k < 25
    go (inl h) =
        let none : 25 - k ≡ 0 = omega arith in
        let few : left < 1 = rw none at done.small in
        absurd (omega arith)
    go (inr h) = h

module _ (count k left r : ℕ) (done : Powered count k left r) (below : k < 25) where
  halved : left / 2 < 2 ^ (25 - (k + 1))
  halved =
      let more : 25 - k ≡ suc (25 - (k + 1)) = omega arith in
      let twice : left < 2 ^ (25 - (k + 1)) * 2 = rw (more, pow-suc 2 (25 - (k + 1))) at done.small in
      omega (arith, twice)

  summed : done.gone + left % 2 * 2 ^ k + left / 2 * 2 ^ (k + 1) ≡ count
  summed =
      let digits : left / 2 * 2 ^ suc k + left % 2 * 2 ^ k ≡ left * 2 ^ k = digits_sum left k in
      rw (add-one k) (omega (arith, digits, done.sum))

  -- a bit 1: one entry more
  pub powered_one : (t : List ℕ) (next : ℕ) → are_powers t ≡ true → left % 2 ≡ 1 → next ≡ product (get_or t k 0) r → Powered count (k + 1) (left / 2) next
  powered_one t next right one e =
      let bits : 64 * done.gone + 64 * 2 ^ k ≡ 64 * (done.gone + left % 2 * 2 ^ k) = rw (one) (omega arith) in
      record {
        gone = done.gone + left % 2 * 2 ^ k;
        within = omega arith;
        small = halved;
        sum = summed;
        holds = e ∙ rw (powers_at t right k below, done.holds) (shifted-add (64 * 2 ^ k) (64 * done.gone)) ∙ ap shifted bits;
      }

  -- a bit 0: nothing
  pub powered_zero : (next : ℕ) → (left % 2 ≡ 1 → ⊥) → next ≡ r → Powered count (k + 1) (left / 2) next
  powered_zero next other e =
      let none : left % 2 ≡ 0 = omega arith in
      let same : done.gone ≡ done.gone + left % 2 * 2 ^ k = rw (none) (omega arith) in
      record {
        gone = done.gone + left % 2 * 2 ^ k;
        within = omega arith;
        small = halved;
        sum = summed;
        holds = e ∙ done.holds ∙ ap (λ (g : ℕ). shifted (64 * g)) same;
      }

-- where none are to come, the whole power is made
pub powered_all : (count k left r : ℕ) → Powered count k left r → left ≤ 0 → r ≡ shifted (64 * count)
powered_all count k left r done h =
    let none : left ≡ 0 = omega arith in
    let all : done.gone ≡ count = omega (arith, rw none at done.sum, zero-mul (2 ^ k)) in
    done.holds ∙ ap (λ (g : ℕ). shifted (64 * g)) all

-- none are to come behind the last power
pub powered_end : (count k left r : ℕ) → Powered count k left r → 25 ≤ k → r ≡ shifted (64 * count)
powered_end count k left r done h =
    let gone : 25 - k ≡ 0 = omega (arith, done.within) in
    let few : left < 1 = rw gone at done.small in
    powered_all count k left r done (omega arith)
