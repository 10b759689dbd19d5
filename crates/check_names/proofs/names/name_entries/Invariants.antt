-- `name_entries` meets its contract. The loop's invariant is `Marked`: the entries so far name fitting blocks and are seen.
-- Assumes nothing.
use Prim.Native.Nat.{◌+◌, ◌-◌}
use Rattle.check_names.proofs.EntriesLaws.{Marked}
use Rattle.check_names.proofs.names.name_entries.Given as goal

abbrev pub invariant-loop-step : goal.invariant-loop-step
invariant-loop-step l = Marked l.file l.frame.start l.frame.level (l.frame.body + 1) l.frame.end l.initial.work l.work l.at

abbrev pub decreases-loop-step : goal.decreases-loop-step
decreases-loop-step l = l.frame.end - l.at
