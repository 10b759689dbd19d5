-- The one-bit steps of the register are linear over exclusive or.
-- Assumes nothing.
use mathlib.Core.Path.{◌≡◌, refl, sym, ap, ap₂, ◌∙◌}
use Prim.Native.Nat.{ℕ, zero, suc, ◌+◌, ◌*◌, ◌/◌, ◌%◌, ◌^◌, ◌<◌}
use native.Mathlib.Nat.{add_comm, div-add-mod', le_of_suc-le-suc, mod-lt, mul_assoc, mul-div_cancel, mul-mod_left, mul-one, not-suc-le-zero}
use native.Mathlib.Nat.{pow-suc, suc-add, zero-add, zero-mul}
use native.Mathlib.Omega.{arith}
use lib.Arith.{bin_ind}
use lib.Dec.{lit<}
use lib.Pow.{pow_pos}
use lib.Bits.{bit_xor, xor_comm, xor_mod, xor_self, xor_shifted, xor_shr, xor_zero_r}
use Rattle.crc64_register.specs.Crc64.{polynomial, bit_step, bit_steps}

-- ---- exclusive or of digits

two_pos : 0 < 2
two_pos = lit< tt

pub digit_lt : (a : ℕ) → a % 2 < 2
digit_lt a = mod-lt a two_pos

-- what holds of 0 and of 1 holds of every digit
pub digit_cases : (P : ℕ → Type 0) → P 0 → P 1 → (x : ℕ) → x < 2 → P x
digit_cases P p0 p1 zero h = p0
digit_cases P p0 p1 (suc zero) h = p1
digit_cases P p0 p1 (suc (suc x)) h = absurd (not-suc-le-zero (le_of_suc-le-suc (le_of_suc-le-suc h)))

digit_assoc : (x y z : ℕ) → x < 2 → y < 2 → z < 2 → bit_xor (bit_xor x y) z ≡ bit_xor x (bit_xor y z)
digit_assoc x y z hx hy hz =
    digit_cases (λ x. bit_xor (bit_xor x y) z ≡ bit_xor x (bit_xor y z)) refl
    (digit_cases (λ y. bit_xor (bit_xor 1 y) z ≡ bit_xor 1 (bit_xor y z)) refl
    (digit_cases (λ z. bit_xor (bit_xor 1 1) z ≡ bit_xor 1 (bit_xor 1 z)) refl refl z hz) y hy) x hx

-- digits as factors
digit_times : (x y p : ℕ) → x < 2 → y < 2 → bit_xor x y * p ≡ bit_xor (x * p) (y * p)
digit_times x y p hx hy =
    digit_cases (λ x. bit_xor x y * p ≡ bit_xor (x * p) (y * p)) (ap (λ (z : ℕ). bit_xor z (y * p)) (sym (zero-mul p)))
    (digit_cases (λ y. bit_xor 1 y * p ≡ bit_xor (1 * p) (y * p)) (sym (ap (bit_xor (1 * p)) (zero-mul p) ∙ xor_zero_r (1 * p)))
    (zero-mul p ∙ sym (xor_self (1 * p))) y hy) x hx

-- ---- exclusive or of numbers

half : (a b : ℕ) → bit_xor a b / 2 ≡ bit_xor (a / 2) (b / 2)
half a b = xor_shr a b 1

odd : (a b : ℕ) → bit_xor a b % 2 ≡ bit_xor (a % 2) (b % 2)
odd a b = xor_mod a b 1

-- the halves associate, and the digits do
assoc_step : (n b c : ℕ) → bit_xor (bit_xor (n / 2) (b / 2)) (c / 2) ≡ bit_xor (n / 2) (bit_xor (b / 2) (c / 2))
    → bit_xor (bit_xor n b) c ≡ bit_xor n (bit_xor b c)
assoc_step n b c e =
    let halves : bit_xor (bit_xor n b) c / 2 ≡ bit_xor n (bit_xor b c) / 2 = rw (half (bit_xor n b) c, half n b, half n (bit_xor b c), half b c) e in
    let digits : bit_xor (bit_xor n b) c % 2 ≡ bit_xor n (bit_xor b c) % 2 =
    rw (odd (bit_xor n b) c, odd n b, odd n (bit_xor b c), odd b c) (digit_assoc (n % 2) (b % 2) (c % 2) (digit_lt n) (digit_lt b) (digit_lt c)) in
    omega arith

pub xor_assoc : (a b c : ℕ) → bit_xor (bit_xor a b) c ≡ bit_xor a (bit_xor b c)
xor_assoc =
    bin_ind (λ (n : ℕ). (b c : ℕ) → bit_xor (bit_xor n b) c ≡ bit_xor n (bit_xor b c)) (λ b c. refl)
    (λ n ih b c. assoc_step n b c (ih (b / 2) (c / 2)))

-- the two inner ones change places
xor_cross : (a b c d : ℕ) → bit_xor (bit_xor a b) (bit_xor c d) ≡ bit_xor (bit_xor a c) (bit_xor b d)
xor_cross a b c d =
    xor_assoc a b (bit_xor c d)
    ∙ ap (bit_xor a) (sym (xor_assoc b c d) ∙ ap (λ (x : ℕ). bit_xor x d) (xor_comm b c) ∙ xor_assoc c b d)
    ∙ sym (xor_assoc a c (bit_xor b d))

-- ---- the steps

bit_step_xor : (a b : ℕ) → bit_step (bit_xor a b) ≡ bit_xor (bit_step a) (bit_step b)
unfolding bit_step
bit_step_xor a b =
    ap₂ bit_xor (half a b) (ap (λ (x : ℕ). x * polynomial) (odd a b) ∙ digit_times (a % 2) (b % 2) polynomial (digit_lt a) (digit_lt b))
    ∙ xor_cross (a / 2) (b / 2) (a % 2 * polynomial) (b % 2 * polynomial)

-- the steps of an exclusive or
pub bit_steps_xor : (n a b : ℕ) → bit_steps n (bit_xor a b) ≡ bit_xor (bit_steps n a) (bit_steps n b)
unfolding bit_steps
bit_steps_xor zero a b = refl
bit_steps_xor (suc n) a b = ap (bit_steps n) (bit_step_xor a b) ∙ bit_steps_xor n (bit_step a) (bit_step b)

-- m bits leave, then n
pub bit_steps-add : (m n r : ℕ) → bit_steps (m + n) r ≡ bit_steps n (bit_steps m r)
unfolding bit_steps
bit_steps-add zero n r = rw (zero-add n)
bit_steps-add (suc m) n r = rw (suc-add m n) (bit_steps-add m n (bit_step r))

pub bit_steps_swap : (m n r : ℕ) → bit_steps m (bit_steps n r) ≡ bit_steps n (bit_steps m r)
bit_steps_swap m n r = sym (bit_steps-add n m r) ∙ ap (λ (k : ℕ). bit_steps k r) (add_comm n m) ∙ bit_steps-add m n r

-- a zero bit leaves: the register is halved
bit_step_even : (x : ℕ) → bit_step (x * 2) ≡ x
unfolding bit_step
bit_step_even x = rw (mul-mod_left, mul-div_cancel x two_pos, zero-mul, xor_zero_r)

-- n zero bits leave
pub bit_steps_low : (n x : ℕ) → bit_steps n (x * 2 ^ n) ≡ x
unfolding bit_steps
bit_steps_low zero x = mul-one x
bit_steps_low (suc n) x =
    let even : x * 2 ^ suc n ≡ x * 2 ^ n * 2 = rw (pow-suc 2 n, ← mul_assoc) in
    rw (even, bit_step_even) (bit_steps_low n x)

pub bit_steps_zero : (n : ℕ) → bit_steps n 0 ≡ 0
bit_steps_zero n = ap (bit_steps n) (sym (zero-mul (2 ^ n))) ∙ bit_steps_low n 0

-- n bits leave: the steps of the low n bits, and the bits above them, moved down
pub bit_steps_split : (n r : ℕ) → bit_xor (bit_steps n (r % 2 ^ n)) (r / 2 ^ n) ≡ bit_steps n r
bit_steps_split n r =
    let high : ℕ = r / 2 ^ n in
    let low : ℕ = r % 2 ^ n in
    let parts : bit_xor (high * 2 ^ n) low ≡ r = xor_shifted high n low (mod-lt r (pow_pos n)) ∙ div-add-mod' r (2 ^ n) in
    xor_comm (bit_steps n low) high
    ∙ ap (λ (x : ℕ). bit_xor x (bit_steps n low)) (sym (bit_steps_low n high))
    ∙ sym (bit_steps_xor n (high * 2 ^ n) low)
    ∙ ap (bit_steps n) parts
