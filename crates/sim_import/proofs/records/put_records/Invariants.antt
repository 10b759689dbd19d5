-- `put_records` meets its contract. The loop's invariant: the first k records stand at the front, and the slots from k on are as they were. Assumes nothing.
use Prim.Native.Nat.{◌-◌, ◌*◌}
use mathlib.Core.List.{map}
use lib.ListN.{length}
use Rattle.sim.specs.Adn.{record_at}
use Rattle.sim_import.specs.Steps.{offsets}
use Rattle.sim_import.proofs.RecordLaws.{Writing}
use Rattle.sim_import.proofs.records.put_records.Given as goal

abbrev pub invariant-loop-k : goal.invariant-loop-k
invariant-loop-k l = Writing (map (record_at l.dump.name_length l.dump.bytes.now) (offsets l.count l.initial.output))
    (length l.initial.output - 8 * l.count) l.initial.output l.output l.used l.k
