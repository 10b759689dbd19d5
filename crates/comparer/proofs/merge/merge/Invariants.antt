-- `merge` meets its contract. The loop's invariant is `Merging`; the records that follow both cursors get fewer.
-- Assumes nothing.
use lib.ListN.{length}
use Prim.Native.Nat.{◌+◌}
use Rattle.cursor.specs.Cursor.{following}
use Rattle.differences.specs.Merge.{merged}
use Rattle.comparer.proofs.StepLaws.{Merging}
use Rattle.comparer.proofs.merge.merge.Given as goal

abbrev pub invariant-loop-file : goal.invariant-loop-file
invariant-loop-file l = Merging l.initial.list (merged (following l.first l.initial.x) (following l.second l.initial.y))
    (length (following l.first l.initial.x) + length (following l.second l.initial.y)) l.count l.list
    (following l.first l.x) (following l.second l.y)

abbrev pub decreases-loop-file : goal.decreases-loop-file
decreases-loop-file l = length (following l.first l.x) + length (following l.second l.y)
