-- `walk` meets its contract: the cycle of one function, whose measure is the block's level. The loop's invariant: going on from here
-- gives what going through all entries gives. Assumes nothing.
use Prim.Native.Nat.{◌-◌}
use Rattle.query.specs.Asked.{asked}
use Rattle.search.proofs.OnwardLaws.{Onward}
use Rattle.search.proofs.walk.+walk.Given as goal

abbrev pub decreases-walk : goal.decreases-walk
decreases-walk l = l.f.level

-- what the calls are known by
abbrev pub invariant-loop-entry : goal.invariant-loop-entry
invariant-loop-entry l = Onward
    (record {
      file = l.file;
      query = asked l.query;
      from = l.from;
      frame = l.f;
      above = l.above;
      opened = l.initial.opened;
      results = l.initial.results;
      before = l.initial.so_far;
    })
    l.opened l.results l.at l.so_far

abbrev pub decreases-loop-entry : goal.decreases-loop-entry
decreases-loop-entry l = l.f.end - l.at
