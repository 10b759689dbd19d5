-- Laws of packing: what was packed can be taken apart again, and is never 0.
-- Assumes nothing.
use mathlib.Core.Path.{◌≡◌}
use Prim.Native.Nat.{ℕ, ◌^◌, ◌<◌}
use native.Mathlib.Omega.{arith}
use Rattle.matching.specs.Packing.{packed, offset_of, length_of}

pub unpacked_offset : (offset size : ℕ) → size < 2 ^ 32 → offset_of (packed offset size) ≡ offset
unfolding packed offset_of
unpacked_offset offset size h = omega arith

pub unpacked-length : (offset size : ℕ) → size < 2 ^ 32 → length_of (packed offset size) ≡ size
unfolding packed length_of
unpacked-length offset size h = omega arith

-- an offset after the file's first byte
pub packed_some : (offset size : ℕ) → 0 < offset → 0 < packed offset size
unfolding packed
packed_some offset size h = omega arith
