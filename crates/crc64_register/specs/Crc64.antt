-- CRC-64 with the parameters of the format (those of .xz): polynomial 42f0e1eba9ea3693 hex, bits reflected in and out,
-- start and final mask all ones.
-- Because bits are reflected, the register is held with its bits reversed: the lowest bit is the one that leaves it, and
-- the polynomial has its 64 bits reversed too.
use Rattle.std.specs.Prelude.{ℕ, zero, suc, ◌+◌, ◌-◌, ◌*◌, ◌/◌, ◌%◌, ◌^◌, List, [], ◌∷◌}
use Rattle.std.specs.Int.Bits.{bit_xor}

-- the lowest n bits of x in reverse order
unfoldable pub reversed : ℕ → ℕ → ℕ
reversed zero x = 0
reversed (suc n) x = x % 2 * 2 ^ n + reversed n (x / 2)

unfoldable pub polynomial : ℕ
polynomial = reversed 64 0x42f0e1eba9ea3693

unfoldable pub all_ones : ℕ
all_ones = 2 ^ 64 - 1

-- one bit leaves the register; where it is 1, the polynomial is added
unfoldable pub bit_step : ℕ → ℕ
bit_step r = bit_xor (r / 2) (r % 2 * polynomial)

-- n bits leave the register
unfoldable pub bit_steps : ℕ → ℕ → ℕ
bit_steps zero r = r
bit_steps (suc n) r = bit_steps n (bit_step r)

-- one byte goes in
unfoldable pub byte_step : ℕ → ℕ → ℕ
byte_step r b = bit_steps 8 (bit_xor r b)

-- before the first byte
unfoldable pub register_start : ℕ
register_start = all_ones

-- the register after a byte string, from any register
unfoldable pub register : ℕ → List ℕ → ℕ
register r [] = r
register r (b ∷ s) = register (byte_step r b) s

-- the CRC that a register gives
unfoldable pub crc_of : ℕ → ℕ
crc_of r = bit_xor r all_ones

-- the CRC of a byte string
unfoldable pub crc64 : List ℕ → ℕ
crc64 s = crc_of (register register_start s)
