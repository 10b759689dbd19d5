-- `put_number` meets its contract. The loop's invariant: the first i bytes of the number are stored. Assumes nothing.
use Rattle.encoder.proofs.PutLaws.{Putting}
use Rattle.encoder.proofs.put_number.Given as goal

abbrev pub invariant-loop-i : goal.invariant-loop-i
invariant-loop-i l = Putting l.initial.output l.at l.value l.output l.rest l.i
