-- `Cursor::record_in` meets its contract. The loop's invariant: what follows is what followed at first. The measure is what is left of the
-- file's blocks.
-- Assumes nothing.
use lib.ListN.{length}
use mathlib.Core.Path.{◌≡◌}
use Prim.Native.Nat.{◌-◌, ◌≤◌}
use Rattle.cursor.specs.Cursor.{following}
use Rattle.cursor.proofs.Cursor.record_in.Given as goal

abbrev pub invariant-loop-text : goal.invariant-loop-text
invariant-loop-text l = (l.here.end ≤ length l.file) × (following l.file l.here ≡ following l.file l.fn.self)

abbrev pub decreases-loop-text : goal.decreases-loop-text
decreases-loop-text l = length l.file - l.here.block
