-- `put` meets its contract. The loop's invariant: the first i bytes are stored. Assumes nothing.
use Rattle.output_bytes.proofs.OutputBytesLaws.{Storing}
use Rattle.output_bytes.proofs.put.Given as goal

abbrev pub invariant-loop-i : goal.invariant-loop-i
invariant-loop-i l = Storing l.initial.output l.at l.bytes l.output l.i
