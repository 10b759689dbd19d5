-- `agreement_by_bytes` meets its contract. The loop's invariant: the first n bytes agree. Assumes nothing.
use Rattle.byte_string.proofs.AgreeingLaws.{Agreed}
use Rattle.byte_string.proofs.agreement_by_bytes.Given as goal

abbrev pub invariant-loop-n : goal.invariant-loop-n
invariant-loop-n l = Agreed l.x l.y l.n
