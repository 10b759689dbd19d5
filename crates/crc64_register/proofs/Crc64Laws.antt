-- Laws of the CRC-64 register and checksum.
-- Assumes nothing.
use mathlib.Core.Path.{◌≡◌, refl, ap, ◌∙◌}
use mathlib.Core.List.{List, [], ◌∷◌, ◌++◌}
use Prim.Native.Nat.{ℕ, zero, suc, ◌+◌, ◌*◌, ◌/◌, ◌%◌, ◌^◌, ◌<◌}
use native.Mathlib.Nat.{zero-mul}
use native.Mathlib.Numerals.{add-one}
use native.Mathlib.Omega.{arith}
use Rattle.std.specs.List.{fold}
use lib.Bits.{bit_xor, xor_lt, xor_zero_r}
use lib.Dec.{lit<}
use lib.ListN.{take, drop, take-append-drop, length, get_or}
use Rattle.part.specs.Bytes.{AreBytes}
use Rattle.crc64_register.specs.Crc64.{reversed, polynomial, all_ones, bit_step, bit_steps, byte_step, register_start, register, crc_of, crc64}
use lib.Seq.{take-suc}

-- ---- the constants

-- the polynomial with its bits reversed is the constant of the code
pub polynomial_value : polynomial ≡ 0xc96c_5795_d787_0f42
unfolding polynomial reversed
polynomial_value = refl

-- the start and the final mask are the constant of the code
pub all_ones_value : all_ones ≡ 0xffff_ffff_ffff_ffff
unfolding all_ones
all_ones_value = refl

-- ---- bits

-- a bit 1 leaves: the polynomial is added
pub bit_step_one : (r : ℕ) → r % 2 ≡ 1 → bit_xor (r / 2) 0xc96c_5795_d787_0f42 ≡ bit_step r
unfolding bit_step
bit_step_one r one = rw (one, polynomial_value)

-- a bit 0 leaves: nothing is added
pub bit_step_zero : (r : ℕ) → (r % 2 ≡ 1 → ⊥) → r / 2 ≡ bit_step r
unfolding bit_step
bit_step_zero r other =
    let none : r % 2 ≡ 0 = omega arith in
    rw (none, zero-mul, xor_zero_r)

-- one bit more leaves
pub bit_steps_more : (n start r next : ℕ) → r ≡ bit_steps n start → next ≡ bit_step r → next ≡ bit_steps (n + 1) start
unfolding bit_steps
bit_steps_more zero start r next e f = f ∙ ap bit_step e
bit_steps_more (suc n) start r next e f = rw (add-one (suc n)) (rw (add-one n) at (bit_steps_more n (bit_step start) r next e f))

-- ---- the register over a byte string

-- the register goes through two strings one after the other
pub register-append : (r : ℕ) (s t : List ℕ) → register r (s ++ t) ≡ register (register r s) t
unfolding register
register-append r [] t = refl
register-append r (b ∷ s) t = register-append (byte_step r b) s t

-- the register as a fold of the step
pub register_fold : (r : ℕ) (s : List ℕ) → fold byte_step r s ≡ register r s
unfolding register
register_fold r [] = refl
register_fold r (b ∷ s) = register_fold (byte_step r b) s

-- one byte more goes in
pub register-take : (r : ℕ) (s : List ℕ) (i : ℕ) → i < length s → register r (take (i + 1) s) ≡ byte_step (register r (take i s)) (get_or s i 0)
unfolding register
register-take r s i h = rw (add-one i, take-suc s i 0, register-append)

-- the string may be parted at any place
pub register_split : (r : ℕ) (s : List ℕ) (i : ℕ) → register r s ≡ register (register r (take i s)) (drop i s)
register_split r s i = rw (← register-append, take-append-drop)

-- the checksum of two strings joined: the register that the first leaves goes on through the second
pub crc64-append : (s t : List ℕ) → crc64 (s ++ t) ≡ crc_of (register (register register_start s) t)
unfolding crc64
crc64-append s t = ap crc_of (register-append register_start s t)

-- ---- the three steps of the checksum

-- begun, absorbed and finished is the checksum
pub crc64_of : (s : List ℕ) (start r c : ℕ) → start ≡ register_start → r ≡ register start s → c ≡ crc_of r → c ≡ crc64 s
unfolding crc64
crc64_of s start r c begun absorbed finished = rw (finished, absorbed, begun)

-- ---- bounds

-- what a bit step adds fits 64 bits
feedback_lt : (r : ℕ) → r % 2 * polynomial < 2 ^ 64
feedback_lt r = rw polynomial_value (omega arith)

-- after one bit step the register still fits 64 bits
pub bit_step_lt : (r : ℕ) → r < 2 ^ 64 → bit_step r < 2 ^ 64
unfolding bit_step
bit_step_lt r h = xor_lt 64 (r / 2) (r % 2 * polynomial) (omega arith) (feedback_lt r)

-- after n bit steps too
pub bit_steps_lt : (n r : ℕ) → r < 2 ^ 64 → bit_steps n r < 2 ^ 64
unfolding bit_steps
bit_steps_lt zero r h = h
bit_steps_lt (suc n) r h = bit_steps_lt n (bit_step r) (bit_step_lt r h)

-- after one byte
pub byte_step_lt : (r b : ℕ) → r < 2 ^ 64 → b < 256 → byte_step r b < 2 ^ 64
unfolding byte_step
byte_step_lt r b hr hb = bit_steps_lt 8 (bit_xor r b) (xor_lt 64 r b hr (omega arith))

-- after a string of bytes
pub register_lt : (r : ℕ) (s : List ℕ) → r < 2 ^ 64 → AreBytes s → register r s < 2 ^ 64
unfolding register AreBytes
register_lt r [] h bytes = h
register_lt r (b ∷ s) h bytes = register_lt (byte_step r b) s (byte_step_lt r b h bytes.0) bytes.1

-- the checksum of a string of bytes fits 64 bits
pub crc64_lt : (s : List ℕ) → AreBytes s → crc64 s < 2 ^ 64
unfolding crc64 crc_of register_start
crc64_lt s bytes = xor_lt 64 (register all_ones s) all_ones (register_lt all_ones s ones bytes) ones
  where
    ones : all_ones < 2 ^ 64
    ones = rw all_ones_value (lit< tt)

-- ---- an example

-- the published check value: the checksum of the nine digits "123456789" is 995dc9bbdf1939fa hex
pub crc64_check : crc64 (0x31 ∷ 0x32 ∷ 0x33 ∷ 0x34 ∷ 0x35 ∷ 0x36 ∷ 0x37 ∷ 0x38 ∷ 0x39 ∷ []) ≡ 0x995d_c9bb_df19_39fa
unfolding crc64 crc_of register_start register byte_step bit_steps bit_step polynomial reversed all_ones
crc64_check = refl
