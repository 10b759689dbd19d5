-- What the recursion of `keys_under` goes by: the level. The loop's invariant: going on from here gives what the whole walk gives, and the
-- span lies within the file.
use Rattle.std.proofs.Common.{◌-◌, length}
use Rattle.payload.specs.Payload.{entry_at}
use Rattle.items.proofs.GoingLaws.{Going}
use Rattle.check_walk.specs.Lookup.{entries_in}
use Rattle.check_walk.specs.Keys.{Within, over_keys, keys_of}
use Rattle.check_walk.proofs.keys.+keys_under.Given as goal

abbrev pub decreases-keys_under : goal.decreases-keys_under
decreases-keys_under l = l.level

abbrev pub invariant-loop-step : goal.invariant-loop-step
invariant-loop-step l = record {
  going : Going (over_keys l.file l.at (keys_of l.file (l.level - 1))) (entry_at l.at l.entries) (length l.entries)
      (over_keys l.file l.at (keys_of l.file (l.level - 1)) (entries_in l.file l.at) l.initial.met) l.place l.met;
  within : Within l.file l.met.span;
}

abbrev pub decreases-loop-step : goal.decreases-loop-step
decreases-loop-step l = length l.entries - l.place
