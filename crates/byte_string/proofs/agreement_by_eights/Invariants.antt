-- `agreement_by_eights` meets its contract. The loop's invariant: the first k eights agree. Assumes nothing.
use Prim.Native.Nat.{◌*◌}
use Rattle.byte_string.proofs.AgreeingLaws.{Agreed}
use Rattle.byte_string.proofs.agreement_by_eights.Given as goal

abbrev pub invariant-loop-k : goal.invariant-loop-k
invariant-loop-k l = Agreed l.x l.y (8 * l.k)
