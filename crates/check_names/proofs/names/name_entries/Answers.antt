-- An entry more is marked, or names no fitting block; where no entry can be read, all are done.
use mathlib.Core.Path.{sym, ap}
use Prim.Native.Nat.{◌+◌}
use native.Mathlib.Omega.{arith}
use lib.ListN.{set}
use Rattle.payload.specs.Answers.{entry_said}
use Rattle.block.specs.Laid.{laid_items}
use Rattle.check_names.specs.Names.{Named}
use Rattle.check_names.proofs.EntriesLaws.{marked_start, marked_over, marked_unfit, marked_more, forward, inside}
use Rattle.check_names.proofs.names.name_entries.Goals as goal

pub loop-step-init : goal.loop-step-init
loop-step-init c =
    marked_start c.args.file.now c.args.frame.start c.args.frame.level (c.args.frame.body + 1) c.args.frame.end c.args.work.now

pub returns-in-None : goal.returns-in-None
unfolding entry_said laid_items Named
returns-in-None c =
    marked_unfit c.args.file.now c.args.frame.start _ (c.args.frame.body + 1) _ c.args.work.now c.loop-step.work c.loop-step.at c.loop-step.invariant _
    (sym (c.in-Ok.ensures.by_index c.args.frame.start)) (λ first seen k. c.in-None.ensures.value first seen _ k)

pub loop-step-smaller : goal.loop-step-smaller
unfolding entry_said
loop-step-smaller c =
    let reads = sym (c.in-Ok.ensures.by_index c.args.frame.start) in
    omega (
      arith,
      forward c.args.file.now c.args.frame.start _ (c.args.frame.body + 1) _ c.args.work.now c.loop-step.work c.loop-step.at c.loop-step.invariant _ reads,
      inside c.args.file.now c.args.frame.start _ (c.args.frame.body + 1) _ c.args.work.now c.loop-step.work c.loop-step.at c.loop-step.invariant _ reads,
    )

pub loop-step-preserved : goal.loop-step-preserved
unfolding entry_said Named
loop-step-preserved c =
    (marked_more c.args.file.now c.args.frame.start _ (c.args.frame.body + 1) _ c.args.work.now c.loop-step.work c.loop-step.at c.loop-step.invariant _
    (sym (c.in-Ok.ensures.by_index c.args.frame.start)) c.in-Some.i c.in-Some.ensures.inside
    (λ first seen k. c.in-Some.ensures.value first seen _ k) _ (ap (set c.loop-step.work c.in-Some.i) c.mark.ensures)).1

pub returns : goal.returns
unfolding entry_said laid_items
returns c =
    marked_over c.args.file.now c.args.frame.start _ (c.args.frame.body + 1) _ c.args.work.now c.loop-step.work c.loop-step.at c.loop-step.invariant _ _
    (sym (c.in_default.ensures.by_index c.args.frame.start))
