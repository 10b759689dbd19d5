-- The loop's invariant: the value is the number of the bytes before `i`. It stays below 256 ^ i, so one byte more fits.
use mathlib.Core.Path.{◌≡◌}
use Prim.Native.Nat.{◌≤◌, ◌-◌}
use lib.ListN.{length, take}
use Rattle.endian.specs.FixedWidth.{big_endian}
use Rattle.endian.proofs.big.Given as goal

abbrev pub invariant-loop-i : goal.invariant-loop-i
invariant-loop-i l = (l.i ≤ length l.part) × (l.value ≡ big_endian (take l.i l.part))

abbrev pub decreases-loop-i : goal.decreases-loop-i
decreases-loop-i l = length l.part - l.i
