-- `group_end` meets its contract. The loop's invariant is `Taking`. Assumes nothing.
use Rattle.writer.proofs.DataLaws.{Taking}
use Rattle.writer.proofs.data.group_end.Given as goal

abbrev pub invariant-loop : goal.invariant-loop
invariant-loop l = Taking l.records l.from l.most l.at l.counter
