-- The loop's invariant: from `fill` on, the first `i` bytes are those of the piece with zeros after, and the others are as they were.
use Rattle.std.proofs.Common.{◌≡◌}
use lib.Seq.{paste}
use Rattle.sha256.proofs.FillLaws.{zeroed}
use Rattle.sha256.proofs.filled.Given as goal

abbrev pub invariant-loop-i : goal.invariant-loop-i
invariant-loop-i l = l.out ≡ paste l.initial.out l.fill (zeroed l.fill l.piece) l.i
