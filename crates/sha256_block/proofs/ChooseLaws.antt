-- Ch with one operation less: z, changed to y where x has a one. Assumes nothing.
use Rattle.std.proofs.Common.{◌≡◌, ℕ, zero, suc, ◌-◌, ◌/◌, ◌%◌, ◌^◌, ◌<◌, refl, pow-suc, arith}
use lib.Bits.{bit_and, bit_xor, and_shr, xor_shr, and_mod, xor_mod}
use Rattle.sha256_block.specs.Compression.{Ch, complement}

-- two numbers are equal where their last bits and the others are
bits_equal : (a b : ℕ) → a / 2 ≡ b / 2 → a % 2 ≡ b % 2 → a ≡ b
bits_equal a b high low = omega arith

-- one bit
choose_bit : (x y z : ℕ) → x < 2 → y < 2 → z < 2 → bit_xor z (bit_and x (bit_xor y z)) ≡ bit_xor (bit_and x y) (bit_and (1 - x) z)
choose_bit zero zero zero hx hy hz = refl
choose_bit zero zero (suc zero) hx hy hz = refl
choose_bit zero zero (suc (suc z)) hx hy hz = absurd (omega arith)
choose_bit zero (suc zero) zero hx hy hz = refl
choose_bit zero (suc zero) (suc zero) hx hy hz = refl
choose_bit zero (suc zero) (suc (suc z)) hx hy hz = absurd (omega arith)
choose_bit zero (suc (suc y)) z hx hy hz = absurd (omega arith)
choose_bit (suc zero) zero zero hx hy hz = refl
choose_bit (suc zero) zero (suc zero) hx hy hz = refl
choose_bit (suc zero) zero (suc (suc z)) hx hy hz = absurd (omega arith)
choose_bit (suc zero) (suc zero) zero hx hy hz = refl
choose_bit (suc zero) (suc zero) (suc zero) hx hy hz = refl
choose_bit (suc zero) (suc zero) (suc (suc z)) hx hy hz = absurd (omega arith)
choose_bit (suc zero) (suc (suc y)) z hx hy hz = absurd (omega arith)
choose_bit (suc (suc x)) y z hx hy hz = absurd (omega arith)

-- k bits
choose_bits : (k x y z : ℕ) → x < 2 ^ k → y < 2 ^ k → z < 2 ^ k
    → bit_xor z (bit_and x (bit_xor y z)) ≡ bit_xor (bit_and x y) (bit_and (2 ^ k - 1 - x) z)
choose_bits zero x y z hx hy hz =
    let x0 : x ≡ 0 = omega arith in
    let z0 : z ≡ 0 = omega arith in
    rw (x0, z0)
choose_bits (suc k) x y z hx hy hz =
    let twice = pow-suc 2 k in
    let ih = choose_bits k (x / 2) (y / 2) (z / 2) (omega arith) (omega arith) (omega arith) in
    let high : (2 ^ suc k - 1 - x) / 2 ≡ 2 ^ k - 1 - x / 2 = omega arith in
    let low : (2 ^ suc k - 1 - x) % 2 ≡ 1 - x % 2 = omega arith in
    bits_equal _ _
    (rw (xor_shr z (bit_and x (bit_xor y z)) 1, and_shr x (bit_xor y z) 1, xor_shr y z 1, xor_shr (bit_and x y) (bit_and (2 ^ suc k - 1 - x) z) 1, and_shr x y 1, and_shr (2 ^ suc k - 1 - x) z 1, high) ih)
    (rw (xor_mod z (bit_and x (bit_xor y z)) 1, and_mod x (bit_xor y z) 1, xor_mod y z 1, xor_mod (bit_and x y) (bit_and (2 ^ suc k - 1 - x) z) 1, and_mod x y 1, and_mod (2 ^ suc k - 1 - x) z 1, low)
    (choose_bit (x % 2) (y % 2) (z % 2) (omega arith) (omega arith) (omega arith)))

pub Ch_choose : (x y z : ℕ) → x < 2 ^ 32 → y < 2 ^ 32 → z < 2 ^ 32 → bit_xor z (bit_and x (bit_xor y z)) ≡ Ch x y z
unfolding Ch complement
Ch_choose x y z hx hy hz = choose_bits 32 x y z hx hy hz
