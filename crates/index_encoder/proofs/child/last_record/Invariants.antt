-- `last_record` meets its contract. The loop's invariant: the records up to the end of `last` are passed. Assumes nothing.
use Prim.Native.Nat.{◌+◌, ◌-◌}
use lib.ListN.{length}
use Rattle.index_encoder.proofs.LastRecordLaws.{Passing}
use Rattle.index_encoder.proofs.child.last_record.Given as goal

abbrev pub invariant-loop-next : goal.invariant-loop-next
invariant-loop-next l = Passing l.s l.fn.first l.last (l.last.offset + l.last.length)

abbrev pub decreases-loop-next : goal.decreases-loop-next
decreases-loop-next l = length l.s - (l.last.offset + l.last.length)
