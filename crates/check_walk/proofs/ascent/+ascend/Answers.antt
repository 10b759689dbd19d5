-- `ascend` meets its contract: each return is one case of the definition, and each turn of the loop is one entry passed.
-- Assumes nothing.
use Rattle.std.proofs.Common.{arith, sym, ap, ◌∙◌, take}
use Rattle.std.proofs.lemmas.Result.{err_from_is_err_and}
use Rattle.outcome.specs.Fault.{said}
use Rattle.payload.specs.Answers.{entry_said, entry_in}
use Rattle.payload.proofs.PayloadLaws.{entry⇒Entered}
use Rattle.items.proofs.GoingLaws.{going_more, going_stop}
use Rattle.check_walk.proofs.LookupLaws.{going_over}
use Rattle.check_walk.proofs.AscentLaws.{ascent_leaf, ascent_start, over_end, over_risen, over_fallen}
use Rattle.check_walk.proofs.ascent.+ascend.Goals as goal

pub returns-then-level-eq0 : goal.returns-then-level-eq0
returns-then-level-eq0 t c =
    c.leaf.ensures ∙ ascent_leaf c.args.file.now c.args.level c.args.at c.args.least c.if-level-eq0.true

pub loop-step-init : goal.loop-step-init
loop-step-init t c =
    ascent_start c.args.file.now c.args.level c.args.at c.args.least c.if-level-eq0.false c.payload_at-payload.result
    c.payload_at-payload.ensures.value _ (ap (λ n. take n c.args.file.now) c.end.ensures)

pub returns-in_err-low : goal.returns-in_err-low
unfolding said entry_said entry_in
returns-in_err-low t c =
    let p = err_from_is_err_and c.from_residual.result c.from_residual.ensures.1 in
    let read = sym (c.in-Ok.ensures.by_index c.args.at) in
    let e = entry⇒Entered c.args.at (take c.end.result c.args.file.now) c.loop-step.place _ read in
    rw (p.1, p.2)
    (sym (going_stop _ _ _ _ _ _ (omega (arith, e.forward, e.within)) c.loop-step.invariant _ read _ (over_fallen _ _ _ _ _ (sym c.in_err-low.ensures))))

pub loop-step-smaller : goal.loop-step-smaller
unfolding entry_said
loop-step-smaller t c =
    let e = entry⇒Entered c.args.at (take c.end.result c.args.file.now) c.loop-step.place _ (sym (c.in-Ok.ensures.by_index c.args.at)) in
    omega (arith, e.forward, e.within)

pub loop-step-preserved : goal.loop-step-preserved
unfolding said entry_said entry_in
loop-step-preserved t c =
    let read = sym (c.in-Ok.ensures.by_index c.args.at) in
    let e = entry⇒Entered c.args.at (take c.end.result c.args.file.now) c.loop-step.place _ read in
    going_more _ _ _ _ _ _ (omega (arith, e.forward, e.within)) c.loop-step.invariant _ read e.forward _ (over_risen _ _ _ _ (sym c.in_ok-low.ensures))

pub returns : goal.returns
unfolding said entry_said
returns t c = sym (going_over _ _ _ _ _ _ c.loop-step.invariant _ _ (sym (c.in_default.ensures.by_index c.args.at)) ∙ over_end _ _)
