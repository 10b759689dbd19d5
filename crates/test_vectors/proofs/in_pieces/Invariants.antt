use Rattle.std.proofs.Common.{◌≤◌}
use Rattle.test_vectors.proofs.in_pieces.Given as goal

abbrev pub invariant-loop-left : goal.invariant-loop-left
invariant-loop-left l = l.size ≤ 65521

abbrev pub decreases-loop-left : goal.decreases-loop-left
decreases-loop-left l = l.left
