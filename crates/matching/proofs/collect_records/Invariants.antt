-- `collect_records` meets its contract. The loop's invariant is `RecordsCollected`: going on from here gives what the whole gives.
-- Assumes nothing.
use Prim.Native.Nat.{◌-◌}
use lib.ListN.{length}
use Rattle.query.specs.Asked.{asked}
use Rattle.matching.proofs.RecordsLaws.{RecordsCollected}
use Rattle.matching.proofs.collect_records.Given as goal

abbrev pub invariant-loop-text : goal.invariant-loop-text
invariant-loop-text l = RecordsCollected l.s l.from (asked l.query)
    (record { count = l.count; list = l.initial.results }) l.at (record { count = l.found; list = l.results })

abbrev pub decreases-loop-text : goal.decreases-loop-text
decreases-loop-text l = length l.s - l.at
