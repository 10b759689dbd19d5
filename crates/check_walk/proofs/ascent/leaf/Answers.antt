-- `leaf` meets its contract: its two tests are the definition's. Assumes nothing.
use mathlib.Core.Path.{sym}
use Rattle.outcome.specs.Fault.{number, said}
use Rattle.check_walk.proofs.AscentLaws.{leaf_low, leaf_past, leaf_risen}
use Rattle.check_walk.proofs.ascent.leaf.Goals.{else-least-at-via-then-least-at+else-at-long, else-least-at-via-else-least-at}
use Rattle.check_walk.proofs.ascent.leaf.Goals as goal

pub returns-then-at-long : goal.returns-then-at-long
unfolding said
returns-then-at-long c = sym (leaf_risen c.args.long c.args.at c.args.least c.if-least-at.true c.if-at-long.true)

pub returns-else-least-at : goal.returns-else-least-at
unfolding said number
returns-else-least-at c =
    elim c.else-least-at.branch [
      | else-least-at-via-then-least-at+else-at-long w ↦ sym (leaf_past c.args.long c.args.at c.args.least w.if-least-at.true w.if-at-long.false)
      | else-least-at-via-else-least-at w ↦ sym (leaf_low c.args.long c.args.at c.args.least w.if-least-at.false)
    ]
