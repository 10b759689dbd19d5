use mathlib.Core.Path.{refl, sym, ◌∙◌}
use native.Mathlib.Omega.{arith}
use Rattle.sim.proofs.AdnLaws.{filled_other, filled_more, filled_end}
use Rattle.sim.proofs.is_filled.Goals as goal

pub loop-i-init : goal.loop-i-init
loop-i-init c = refl

pub returns-then-s-i : goal.returns-then-s-i
returns-then-s-i c = sym (filled_other c.args.s.now c.loop-i.i (omega arith) c.if-s-i.true) ∙ c.loop-i.invariant

pub loop-i-preserved : goal.loop-i-preserved
loop-i-preserved c = sym (filled_more c.args.s.now c.loop-i.i (omega arith) c.if-s-i.false) ∙ c.loop-i.invariant

pub returns : goal.returns
returns c = sym (filled_end c.args.s.now c.loop-i.i (omega arith)) ∙ c.loop-i.invariant
