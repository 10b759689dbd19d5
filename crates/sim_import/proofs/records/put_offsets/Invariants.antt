-- `put_offsets` meets its contract. The loop's invariant: the first k slots hold the offsets of the records before `at` that aren't free.
-- The measure is what is left of the dump. Assumes nothing.
use mathlib.Core.Path.{◌≡◌}
use Prim.Native.Nat.{◌-◌}
use lib.ListN.{length}
use Rattle.slots.specs.Slots.{slots}
use Rattle.sim_import.proofs.RecordLaws.{Placed}
use Rattle.sim_import.proofs.records.put_offsets.Given as goal

abbrev pub invariant-loop-at : goal.invariant-loop-at
invariant-loop-at l = (length l.s ≡ length l.initial.s) × Placed l.dump.name_length l.dump.bytes.now (slots 8 l.initial.s) (slots 8 l.s) l.k l.at

abbrev pub decreases-loop-at : goal.decreases-loop-at
decreases-loop-at l = l.at-end - l.at
