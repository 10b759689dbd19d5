-- `put_data` meets its contract. The loop's invariant is `DataPutting`. Assumes nothing.
use mathlib.Core.List.{List}
use Prim.Native.Nat.{◌-◌}
use lib.ListN.{length}
use Rattle.items.proofs.ItemsLaws.{Row}
use Rattle.payload.specs.Payload.{Text, text_at}
use Rattle.writer.proofs.DataLaws.{DataPutting}
use Rattle.writer.proofs.data.put_data.Given as goal

abbrev pub invariant-loop-at : goal.invariant-loop-at
invariant-loop-at l = (xs : List Text) → Row (text_at 0 l.records)
    (length l.records) 0 xs → DataPutting l.initial.output l.from l.records l.per_block xs l.output l.at l.next

abbrev pub decreases-loop-at : goal.decreases-loop-at
decreases-loop-at l = length l.records - l.at
