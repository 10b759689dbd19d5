-- `name_blocks` meets its contract. The loop's invariant is `Passing`: the blocks so far break no rule, and their entries
-- are seen. Assumes nothing.
use Rattle.check_names.proofs.BlockNamesLaws.{Passing}
use Rattle.check_names.proofs.names.name_blocks.Given as goal

abbrev pub invariant-loop-i : goal.invariant-loop-i
invariant-loop-i l = Passing l.file l.initial.work l.work l.i
