-- `put_difference` meets its contract. The loop's invariant: the numbers so far are put, one after the other.
-- Assumes nothing.
use Rattle.std.proofs.Common.{◌≡◌, ◌*◌, take}
use Rattle.output_list.specs.OutputList.{with_numbers}
use Rattle.comparer.proofs.merge.put_difference.Given as goal

abbrev pub invariant-loop-i : goal.invariant-loop-i
invariant-loop-i l = l.list ≡ with_numbers l.initial.list (5 * l.count) (take l.i l.n-items)
