-- A frame more is a block more, and where no frame can be read all blocks are passed.
use mathlib.Core.Path.{sym, ◌∙◌}
use native.Mathlib.Omega.{arith}
use Rattle.outcome.specs.Fault.{said_at}
use Rattle.framing.proofs.FrameLaws.{Framed, frame⇒Framed}
use Rattle.check_names.proofs.HopLaws.{hopped_start, hopped_over, hopped_ordinary, hopped_reserved}
use Rattle.check_names.proofs.starts.fill.Goals.{In-Ok, then-frame-le-LARGEST_LEVEL, else-frame-le-LARGEST_LEVEL}
use Rattle.check_names.proofs.starts.fill.Goals as goal

framed : (c : In-Ok) → Framed c.args.file.now c.loop-frame.at c.in-Ok.frame
unfolding said_at
framed c = frame⇒Framed c.args.file.now c.loop-frame.at c.in-Ok.frame (sym c.in-Ok.ensures)

pub loop-frame-init : goal.loop-frame-init
loop-frame-init c = hopped_start _ _ _

pub overflow_add-count : goal.overflow_add-count
overflow_add-count c =
    let f = framed (goal.at.overflow_add-count c).In-Ok in
    omega (arith, f.number, f.some, f.sized, f.within, c.loop-frame.invariant.few, c.well_formed)

pub overflow_add-at : goal.overflow_add-at
overflow_add-at c = let f = framed (goal.at.overflow_add-at c).In-Ok in omega (arith, f.within, c.well_formed)

pub loop-frame-smaller : goal.loop-frame-smaller
loop-frame-smaller c = let f = framed (goal.at.loop-frame-smaller c).In-Ok in omega (arith, f.number, f.some, f.sized, f.within)

pub loop-frame-preserved : goal.loop-frame-preserved
unfolding said_at
loop-frame-preserved c =
    elim c.if-frame-le-LARGEST_LEVEL.branch [
      | then-frame-le-LARGEST_LEVEL w ↦
          rw w.count-is
          (hopped_ordinary c.args.file.now c.args.from c.args.work.now c.loop-frame.work c.loop-frame.at c.loop-frame.count c.loop-frame.invariant c.in-Ok.frame
          (sym c.in-Ok.ensures) w.if-frame-le-LARGEST_LEVEL.true _ (w.work-is ∙ w.put.ensures.1))
      | else-frame-le-LARGEST_LEVEL w ↦
          rw (w.work-is, w.count-is)
          (hopped_reserved c.args.file.now c.args.from c.args.work.now c.loop-frame.work c.loop-frame.at c.loop-frame.count c.loop-frame.invariant c.in-Ok.frame
          (sym c.in-Ok.ensures) w.if-frame-le-LARGEST_LEVEL.false)
    ]

pub returns-clause-value : goal.returns-clause-value
unfolding said_at
returns-clause-value c = (hopped_over _ _ _ _ _ _ c.loop-frame.invariant _ _ (sym c.in_default.ensures)).0

pub returns-clause-begins : goal.returns-clause-begins
unfolding said_at
returns-clause-begins c = (hopped_over _ _ _ _ _ _ c.loop-frame.invariant _ _ (sym c.in_default.ensures)).1
