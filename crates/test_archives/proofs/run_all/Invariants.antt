use Rattle.std.proofs.Common.{length, ◌≤◌}
use Rattle.test_archives.proofs.run_all.Given as goal

-- what is left is a part of what is stored
abbrev pub invariant-loop-rest : goal.invariant-loop-rest
invariant-loop-rest g l = length l.rest ≤ length l.stored

-- the next case begins after this one, so fewer bytes are left
abbrev pub decreases-loop-rest : goal.decreases-loop-rest
decreases-loop-rest g l = length l.rest
