-- `count_names` meets its contract. The loop's invariant is `Counting`: the blocks so far are named rightly.
-- Assumes nothing.
use Rattle.check_names.proofs.CountLaws.{Counting}
use Rattle.check_names.proofs.names.count_names.Given as goal

abbrev pub invariant-loop-word : goal.invariant-loop-word
invariant-loop-word l = Counting l.work l.root l.word-index
