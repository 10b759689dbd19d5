-- `earlier` meets its contract by its test. Assumes nothing.
use mathlib.Core.Path.{◌∙◌}
use Rattle.check_walk.proofs.KeyLaws.{earlier_none, earlier_some}
use Rattle.check_walk.proofs.keys.earlier.Goals as goal

pub returns-then-m-eq0 : goal.returns-then-m-eq0
returns-then-m-eq0 c = earlier_none c.args.m c.args.at c.if-m-eq0.true

pub returns-else-m-eq0 : goal.returns-else-m-eq0
returns-else-m-eq0 c = c.min.ensures ∙ earlier_some c.args.m c.args.at c.if-m-eq0.false
