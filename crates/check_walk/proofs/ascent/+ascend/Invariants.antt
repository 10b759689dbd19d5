-- What the recursion of `ascend` goes by: the level. The loop's invariant: going on from here gives what the whole walk gives.
use Rattle.std.proofs.Common.{◌-◌, length}
use Rattle.payload.specs.Payload.{entry_at}
use Rattle.items.proofs.GoingLaws.{Going}
use Rattle.check_walk.specs.Ascent.{ascent_over, ascent_of}
use Rattle.check_walk.proofs.ascent.+ascend.Given as goal

abbrev pub decreases-ascend : goal.decreases-ascend
decreases-ascend l = l.level

abbrev pub invariant-loop-step : goal.invariant-loop-step
invariant-loop-step l =
    Going (ascent_over (ascent_of l.file (l.level - 1))) (entry_at l.at l.entries) (length l.entries)
    (ascent_of l.file l.level l.at l.least) l.place l.low

abbrev pub decreases-loop-step : goal.decreases-loop-step
decreases-loop-step l = length l.entries - l.place
