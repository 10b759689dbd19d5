-- `heapsort::sift_down` meets its contract. The loop's invariant: the slots are a heap but for the hole. The measure is how far the hole is from the end.
-- Assumes nothing.
use Prim.Native.Nat.{◌-◌}
use mathlib.Core.Path.{◌≡◌}
use lib.ListN.{length}
use Rattle.sim.specs.Adn.{record_at}
use Rattle.heapsort.proofs.HeapsortLaws.{Sifting}
use Rattle.slots.specs.Slots.{slots}
use Rattle.heapsort.proofs.sift_down.Given as goal

abbrev pub invariant-loop-hole : goal.invariant-loop-hole
invariant-loop-hole l =
    Sifting (record_at l.dump.name_length l.dump.bytes.now) l.start l.end (slots 8 l.initial.s) (slots 8 l.s) l.hole
    × (length l.s ≡ length l.initial.s)

abbrev pub decreases-loop-hole : goal.decreases-loop-hole
decreases-loop-hole l = l.end - l.hole
