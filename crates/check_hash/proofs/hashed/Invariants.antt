-- `hashed` meets its contract. The loop's invariant is `Passed`: the state holds the payloads of the blocks seen. Assumes nothing.
use Prim.Native.Nat.{◌-◌}
use lib.ListN.{length}
use Rattle.check_hash.proofs.HashLaws.{Passed}
use Rattle.check_hash.proofs.hashed.Given as goal

abbrev pub invariant-loop-frame : goal.invariant-loop-frame
invariant-loop-frame l = Passed l.file l.from l.at l.state

abbrev pub decreases-loop-frame : goal.decreases-loop-frame
decreases-loop-frame l = length l.file - l.at
