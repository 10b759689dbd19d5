-- `put_levels` meets its contract. The loop's invariant: the levels below this one are put, and the last of them lies from `a` to `b`. Assumes nothing.
use Prim.Native.Nat.{◌-◌}
use Rattle.index_encoder.proofs.LevelsLaws.{Raising}
use Rattle.index_encoder.proofs.put_levels.Given as goal

abbrev pub invariant-loop-put : goal.invariant-loop-put
invariant-loop-put l = Raising l.initial.output l.per_index l.from l.to l.output l.level l.a l.b

abbrev pub decreases-loop-put : goal.decreases-loop-put
decreases-loop-put l = 32 - l.level
