-- `heapsort::larger_below` meets its contract: the only slot below p, or the one that the comparison finds.
-- Assumes nothing.
use native.Mathlib.Omega.{arith}
use Rattle.sorting.proofs.HeapLaws.{larger_only, larger_left, larger_right}
use Rattle.heapsort.proofs.larger_below.Goals as goal
use Rattle.heapsort.proofs.larger_below.Goals.{else-right-end-via-then-right-end+else-slot_at_most, else-right-end-via-else-right-end}

pub returns-then-slot_at_most : goal.returns-then-slot_at_most
returns-then-slot_at_most c = larger_right _ _ _ (omega arith) _ (omega arith) c.slot_at_most.ensures c.if-slot_at_most.true

pub returns-else-right-end : goal.returns-else-right-end
returns-else-right-end c =
    elim c.else-right-end.branch [
      | else-right-end-via-then-right-end+else-slot_at_most w ↦ larger_left _ _ _ (omega arith) _ w.slot_at_most.ensures w.if-slot_at_most.false
      | else-right-end-via-else-right-end w ↦ larger_only _ _ _ (omega arith) (omega arith)
    ]
