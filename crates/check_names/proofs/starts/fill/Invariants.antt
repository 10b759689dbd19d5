-- `fill` meets its contract. The loop's invariant is `Hopped`: the starts of the blocks so far are counted, and stored where there is
-- room for them. Assumes nothing.
use Prim.Native.Nat.{◌-◌}
use lib.ListN.{length}
use Rattle.check_names.proofs.HopLaws.{Hopped}
use Rattle.check_names.proofs.starts.fill.Given as goal

abbrev pub invariant-loop-frame : goal.invariant-loop-frame
invariant-loop-frame l = Hopped l.file l.from l.initial.work l.work l.at l.count

abbrev pub decreases-loop-frame : goal.decreases-loop-frame
decreases-loop-frame l = length l.file - l.at
