-- `put_level` meets its contract. The loop's invariant: the index blocks of the groups up to `at` are put. Assumes nothing.
use lib.ListN.{length, take}
use Rattle.index_encoder.specs.Children.{children_from}
use Rattle.index_encoder.proofs.LevelLaws.{Leveling}
use Rattle.index_encoder.proofs.level.put_level.Given as goal

abbrev pub invariant-loop-at : goal.invariant-loop-at
invariant-loop-at l = Leveling l.initial.output l.per_index l.level l.from l.to l.output l.at l.end l.blocks

abbrev pub decreases-loop-at : goal.decreases-loop-at
decreases-loop-at l = length (children_from (take l.to l.initial.output) l.at)
