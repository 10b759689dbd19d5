-- The loop's invariant: the value is the number of the bytes from `i` on. Fewer than 8 of them leave room for one more.
use mathlib.Core.Path.{◌≡◌}
use Prim.Native.Nat.{◌≤◌}
use lib.ListN.{length, drop}
use Rattle.endian.specs.FixedWidth.{little_endian}
use Rattle.endian.proofs.little.Given as goal

abbrev pub invariant-loop-i : goal.invariant-loop-i
invariant-loop-i l = (l.i ≤ length l.part) × (l.value ≡ little_endian (drop l.i l.part))

abbrev pub decreases-loop-i : goal.decreases-loop-i
decreases-loop-i l = l.i
