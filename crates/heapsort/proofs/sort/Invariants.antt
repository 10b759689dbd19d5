-- `heapsort::sort` meets its contract. The loop's invariant: the slots before `end` are a heap, and each after them is at least all before it.
-- Assumes nothing.
use mathlib.Core.Path.{◌≡◌}
use lib.ListN.{length}
use Rattle.sim.specs.Adn.{record_at}
use Rattle.heapsort.proofs.HeapsortLaws.{Taking}
use Rattle.slots.specs.Slots.{slots}
use Rattle.heapsort.proofs.sort.Given as goal

abbrev pub invariant-loop-end : goal.invariant-loop-end
invariant-loop-end l = (Taking (record_at l.dump.name_length l.dump.bytes.now) (slots 8 l.initial.s) (slots 8 l.s) l.end) × (length l.s ≡ length l.initial.s)
