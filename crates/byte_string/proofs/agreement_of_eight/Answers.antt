-- `agreement_of_eight` meets its contract: eight bytes have 64 bits. Assumes nothing.
use Prim.Native.Nat.{ℕ, ◌*◌, ◌/◌}
use native.Mathlib.Omega.{arith}
use mathlib.Core.List.{List}
use mathlib.Core.Path.{◌≡◌, sym, ap, ◌∙◌}
use lib.Bits.{bit_xor}
use lib.Count.{count_trailing_zeros, trailing_le}
use lib.ListN.{length, take}
use lib.Seq.{take_all}
use Rattle.part.proofs.BytesLaws.{bytes_of_below}
use Rattle.endian.specs.FixedWidth.{little_endian}
use Rattle.byte_string.specs.Order.{agreeing}
use Rattle.byte_string.proofs.WordLaws.{agreeing_word}
use Rattle.byte_string.proofs.agreement_of_eight.Goals as goal

-- a word of a string of eight bytes
whole : (x : List ℕ) (v : ℕ) → v ≡ little_endian (take 8 x) → length x ≡ 8 → v ≡ little_endian x
whole x v e l = e ∙ ap little_endian (take_all 8 x (omega arith))

-- eight bytes have 64 bits
eight : (x y : List ℕ) (v w : ℕ) → v ≡ little_endian x → w ≡ little_endian y → length x ≡ 8
    → agreeing x y ≡ count_trailing_zeros (length x * 8) (bit_xor (little_endian x)
    (little_endian y)) / 8 → agreeing x y ≡ count_trailing_zeros 64 (bit_xor v w) / 8
eight x y v w e f l h = rw (e, f) (rw l at h)

pub overflow_cast-result : goal.overflow_cast-result
overflow_cast-result c = omega (arith, trailing_le 64 (bit_xor c.le64.result c.le64-2.result))

pub returns : goal.returns
returns c =
    let bytes-x = bytes_of_below c.args.x.now (λ (k : ℕ) _. (c.type_inv.x k).fits) in
    let bytes-y = bytes_of_below c.args.y.now (λ (k : ℕ) _. (c.type_inv.y k).fits) in
    let word-x = whole c.args.x.now _ c.le64.ensures (omega arith) in
    let word-y = whole c.args.y.now _ c.le64-2.ensures (omega arith) in
    sym (eight c.args.x.now c.args.y.now _ _ word-x word-y (omega arith) (agreeing_word c.args.x.now c.args.y.now bytes-x bytes-y (omega arith)))
