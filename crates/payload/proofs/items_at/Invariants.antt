-- `items_at` meets its contract. The loop's invariant is `Scanned`: the items seen, their count, whether they rise, and the last byte string.
-- Assumes nothing.
use Prim.Native.Nat.{◌-◌}
use lib.ListN.{length}
use Rattle.payload.proofs.ScanLaws.{Scanned}
use Rattle.payload.proofs.items_at.Given as goal

abbrev pub invariant-loop-at : goal.invariant-loop-at
invariant-loop-at g l = Scanned g.T.Item.step_at g.T.Item.text_of l.s l.from l.at l.count l.rising l.last.offset l.last.length

abbrev pub decreases-loop-at : goal.decreases-loop-at
decreases-loop-at g l = length l.s - l.at
