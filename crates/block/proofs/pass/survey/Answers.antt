use mathlib.Core.Path.{◌≡◌, sym, ap, ◌∙◌}
use Rattle.std.proofs.Common.{arith, rules}
use Rattle.outcome.proofs.ResultLaws.{refusal_on}
use Rattle.outcome.specs.Fault.{said_at, said}
use Rattle.std.specs.Int.{from_bool}
use mathlib.Core.Bool.{Bool, ◌||◌}
use Rattle.outcome.specs.Outcome.{answer}
use Rattle.block.specs.Block.{block_at}
use Rattle.block.specs.Answers.{tallied}
use Rattle.block.proofs.SurveyLaws.{surveyed_start, surveyed_more, surveyed_refused, surveyed_end, Reported, reported, placed}
use Rattle.block.proofs.pass.survey.Goals.{After-map_err, In_ok-block}
use Rattle.block.proofs.pass.survey.Goals as goal

pub loop-at-init : goal.loop-at-init
loop-at-init c = surveyed_start c.args.file.now c.args.from c.args.root c.args.rootsize

-- what the tests of the block report
told : (c : After-map_err) → said c.map_err.result ≡ said_at c.loop-at.at c.block_at.result
told c = placed _ _ _ _ (λ f x given. search rules) c.map_err.ensures.cases

pub returns-in_err-block : goal.returns-in_err-block
unfolding said
returns-in_err-block c =
    refusal_on _ _ c.from_residual.ensures.1
    ∙ sym (surveyed_refused c.args.file.now c.args.from c.args.root c.args.rootsize _ _ _ _ c.loop-at.invariant c.loop-at-test.true _ _
    (sym c.block_at.ensures ∙ sym (told ((goal.at.returns-in_err-block c).After-map_err)) ∙ ap said c.in_err-block.was))

-- a block that was read
read : (c : In_ok-block) → said c.map_err.result ≡ said_at c.loop-at.at c.block_at.result → tallied (block_at c.args.file.now c.loop-at.at) ≡ answer c.in_ok-block.block
unfolding said
read c e = sym c.block_at.ensures ∙ sym e ∙ ap said c.in_ok-block.was

-- where it lies
lies : (c : In_ok-block) → said c.map_err.result ≡ said_at c.loop-at.at c.block_at.result
    → Reported c.args.file.now c.loop-at.at c.in_ok-block.block.frame c.in_ok-block.block.records
lies c e = reported c.args.file.now c.loop-at.at _ _ (read c e)

pub overflow_add-seen-in-loop-at : goal.overflow_add-seen-in-loop-at
overflow_add-seen-in-loop-at c =
    let r = lies ((goal.at.overflow_add-seen-in-loop-at c).In_ok-block) (told ((goal.at.overflow_add-seen-in-loop-at c).After-map_err)) in
    omega (arith, c.well_formed)

pub overflow_add-at : goal.overflow_add-at
overflow_add-at c =
    let r = lies ((goal.at.overflow_add-at c).In_ok-block) (told ((goal.at.overflow_add-at c).After-map_err)) in
    omega (arith, c.well_formed)

pub loop-at-smaller : goal.loop-at-smaller
loop-at-smaller c =
    let r = lies ((goal.at.loop-at-smaller c).In_ok-block) (told ((goal.at.loop-at-smaller c).After-map_err)) in
    omega (arith, c.well_formed)

pub loop-at-preserved : goal.loop-at-preserved
loop-at-preserved c =
    surveyed_more c.args.file.now c.args.from c.args.root c.args.rootsize _ _ _ _ c.loop-at.invariant c.loop-at-test.true _ _ _ _
    (read ((goal.at.loop-at-preserved c).In_ok-block) (told ((goal.at.loop-at-preserved c).After-map_err)))
    (c.from.ensures ∙ ap from_bool c.is_ordinary.ensures)
    (ap (λ (b : Bool). c.loop-at.seen.root || b) c.is_root.ensures)

pub returns : goal.returns
unfolding said
returns c =
    sym (surveyed_end c.args.file.now c.args.from c.args.root c.args.rootsize _ _ _ _ c.loop-at.invariant c.loop-at-test.false)
