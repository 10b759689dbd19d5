-- `collect` meets its contract. The loop's invariant is `FramesCollected`: going on from here gives what the whole gives.
-- Assumes nothing.
use Prim.Native.Nat.{◌-◌}
use lib.ListN.{length}
use Rattle.query.specs.Asked.{asked}
use Rattle.reader.proofs.FramesLaws.{FramesCollected}
use Rattle.reader.proofs.laid.collect.Given as goal

abbrev pub invariant-loop-at : goal.invariant-loop-at
invariant-loop-at l = FramesCollected l.file l.from (asked l.query)
    (record { count = 0; list = l.initial.results }) l.at (record { count = l.found; list = l.results })

abbrev pub decreases-loop-at : goal.decreases-loop-at
decreases-loop-at l = length l.file - l.at
