-- `heapsort::build` meets its contract. The loop's invariant: the slots from `start` on are a heap.
-- Assumes nothing.
use mathlib.Core.Path.{◌≡◌}
use lib.ListN.{length}
use Rattle.sim.specs.Adn.{record_at}
use Rattle.heapsort.proofs.HeapsortLaws.{Building}
use Rattle.slots.specs.Slots.{slots}
use Rattle.heapsort.proofs.build.Given as goal

abbrev pub invariant-loop-start : goal.invariant-loop-start
invariant-loop-start l =
    Building (record_at l.dump.name_length l.dump.bytes.now) l.n (slots 8 l.initial.s) (slots 8 l.s) l.start × (length l.s ≡ length l.initial.s)
