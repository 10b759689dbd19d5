-- `hashed` meets its contract: a frame more is a block more, and where no frame can be read all blocks are seen.
use mathlib.Core.Path.{sym, ◌∙◌, subst}
use native.Mathlib.Omega.{arith}
use borrow.Author.Tests.{eq-eqb, ne_eqb}
use Rattle.outcome.specs.Fault.{said_at}
use Rattle.part.specs.Part.{part}
use Rattle.block.specs.Block.{is_data}
use Rattle.framing.proofs.FrameLaws.{Framed, frame⇒Framed}
use Rattle.check_hash.proofs.HashLaws.{Passed, passed_start, passed_over, passed_more}
use Rattle.check_hash.proofs.hashed.Goals.{In-Ok, then-frame-eq0, else-frame-eq0}
use Rattle.check_hash.proofs.hashed.Goals as goal

framed : (c : In-Ok) → Framed c.args.file.now c.loop-frame.at c.in-Ok.frame
unfolding said_at
framed c = frame⇒Framed c.args.file.now c.loop-frame.at c.in-Ok.frame (sym c.in-Ok.ensures)

pub loop-frame-init : goal.loop-frame-init
loop-frame-init c =
    subst (Passed c.args.file.now c.args.from c.args.from) (sym c.begin-state.ensures) (passed_start c.args.file.now c.args.from)

pub overflow_add-frame : goal.overflow_add-frame
overflow_add-frame c = let f = framed (goal.at.overflow_add-frame c).In-Ok in omega (arith, f.some, f.sized, f.within)

pub slice_bounds-absorb-count : goal.slice_bounds-absorb-count
slice_bounds-absorb-count c = let f = framed (goal.at.slice_bounds-absorb-count c).In-Ok in omega (arith, f.some)

pub slice_bounds-absorb-start : goal.slice_bounds-absorb-start
slice_bounds-absorb-start c = let f = framed (goal.at.slice_bounds-absorb-start c).In-Ok in omega (arith, f.some, f.sized, f.within)

pub slice_bounds-absorb-end : goal.slice_bounds-absorb-end
slice_bounds-absorb-end c = let f = framed (goal.at.slice_bounds-absorb-end c).In-Ok in omega (arith, f.some, f.sized, f.within)

pub overflow_add-at : goal.overflow_add-at
overflow_add-at c = let f = framed (goal.at.overflow_add-at c).In-Ok in omega (arith, f.sized, f.within, c.well_formed)

pub loop-frame-smaller : goal.loop-frame-smaller
loop-frame-smaller c = let f = framed (goal.at.loop-frame-smaller c).In-Ok in omega (arith, f.number, f.some, f.sized, f.within)

pub loop-frame-preserved : goal.loop-frame-preserved
unfolding said_at is_data part
loop-frame-preserved c =
    passed_more c.args.file.now c.args.from c.loop-frame.at c.loop-frame.state c.loop-frame.invariant c.in-Ok.frame (sym c.in-Ok.ensures) _
    (elim c.if-frame-eq0.branch [
      | then-frame-eq0 w ↦ rw (eq-eqb _ _ w.if-frame-eq0.true) (w.state-is ∙ w.absorb-state.ensures)
      | else-frame-eq0 w ↦ rw (ne_eqb _ _ w.if-frame-eq0.false) w.state-is
    ])

pub returns : goal.returns
unfolding said_at
returns c = passed_over c.args.file.now c.args.from c.loop-frame.at c.loop-frame.state c.loop-frame.invariant _ _ (sym c.in_default.ensures)
