-- Products of CRC-64 registers as polynomials, and the powers that take a register through zero bits.
use Rattle.std.specs.Prelude.{Bool, true, false, ◌&&◌, List, [], ◌∷◌, ℕ, zero, suc, ◌*◌, ◌/◌, ◌%◌, ◌^◌, eqb, length}
use Rattle.std.specs.Int.Bits.{bit_xor}
use Rattle.crc64_register.specs.Crc64.{bit_step, bit_steps}

-- what n zero bits make of the highest bit, which stands for the polynomial 1: x^n modulo the CRC's polynomial
unfoldable pub shifted : ℕ → ℕ
shifted n = bit_steps n (2 ^ 63)

-- the product with n bits of b to come, the lowest first
unfoldable pub product_from : ℕ → ℕ → ℕ → ℕ → ℕ
product_from zero a r b = r
product_from (suc n) a r b = product_from n a (bit_xor (bit_step r) (b % 2 * a)) (b / 2)

-- the product of two registers as polynomials, modulo the CRC's polynomial
unfoldable pub product : ℕ → ℕ → ℕ
product a b = product_from 64 a 0 b

-- each number is the square of the one before it, and the first that of x
unfoldable pub are_squares : ℕ → List ℕ → Bool
are_squares x [] = true
are_squares x (y ∷ ys) = eqb y (product x x) && are_squares y ys

-- 25 numbers: what 64 zero bits make of the highest bit, and then squares
unfoldable pub are_powers : List ℕ → Bool
are_powers [] = false
are_powers (p ∷ ps) = eqb (length ps) 24 && (eqb p (shifted 64) && are_squares p ps)
