-- `read_number` meets its contract. The loop's invariant: the n bytes passed are from 80 hex up, and value and scale are
-- what they stand for. Assumes nothing.
use Rattle.uleb128.proofs.PassedLaws.{Passed}
use Rattle.uleb128.proofs.read_number.Given as goal

abbrev pub invariant-loop-n : goal.invariant-loop-n
invariant-loop-n l = Passed l.part l.value l.scale l.n
