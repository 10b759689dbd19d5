-- `survey` meets its contract. The loop's invariant is `Surveyed`: the blocks seen, and what they add up to. Assumes
-- nothing.
use Prim.Native.Nat.{◌-◌}
use lib.ListN.{length}
use Rattle.block.proofs.SurveyLaws.{Surveyed}
use Rattle.block.proofs.pass.survey.Given as goal

abbrev pub invariant-loop-at : goal.invariant-loop-at
invariant-loop-at l = Surveyed l.file l.from l.root l.rootsize l.at l.seen.blocks l.seen.records l.seen.root

abbrev pub decreases-loop-at : goal.decreases-loop-at
decreases-loop-at l = length l.file - l.at
