-- `copy` meets its contract. The loop's invariant: the bytes of the part from `left` on are copied. Assumes nothing.
use Rattle.output_bytes.proofs.CopyLaws.{Copying}
use Rattle.output_bytes.proofs.copy.Given as goal

abbrev pub invariant-loop-left : goal.invariant-loop-left
invariant-loop-left l = Copying l.initial.output l.source.offset l.source.length l.at l.output l.left
