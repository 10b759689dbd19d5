-- `pass_copies` meets its contract. The loop's invariant is `Passed`; the records that follow get fewer.
-- Assumes nothing.
use lib.ListN.{length}
use Rattle.cursor.specs.Cursor.{following}
use Rattle.comparer.proofs.StepLaws.{Passed}
use Rattle.comparer.proofs.merge.pass_copies.Given as goal

abbrev pub invariant-loop-text : goal.invariant-loop-text
invariant-loop-text l = Passed l.x (following l.file l.initial.at) l.count (following l.file l.at)

abbrev pub decreases-loop-text : goal.decreases-loop-text
decreases-loop-text l = length (following l.file l.at)
