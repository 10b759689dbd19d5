use native.Mathlib.Omega.{arith}
use Rattle.std.proofs.lemmas.Result.{err_from_is_err_and}
use Rattle.outcome.specs.Fault.{said_at}
use Rattle.sim_import.proofs.SurveyLaws.{surveyed_none, surveyed_all, surveyed_refused, surveyed_more}
use Rattle.sim_import.proofs.survey.survey_dump.Goals as goal

pub loop-at-init : goal.loop-at-init
loop-at-init c = surveyed_none _ _ c.requires

pub returns-in_err-one : goal.returns-in_err-one
unfolding said_at
returns-in_err-one c =
    let p = err_from_is_err_and c.from_residual.result c.from_residual.ensures.1 in
    rw (p.1, p.2) (surveyed_refused _ _ _ _ _ c.loop-at.invariant c.loop-at-test.true _ c.in_err-one.ensures)

pub overflow_add-all : goal.overflow_add-all
unfolding said_at
overflow_add-all c =
    let more = surveyed_more _ _ _ _ _ c.loop-at.invariant c.loop-at-test.true c.in_ok-one.one (omega arith) c.in_ok-one.ensures in
    let few = more.few in let within = more.within in omega arith

pub overflow_add-all-in-loop-at : goal.overflow_add-all-in-loop-at
unfolding said_at
overflow_add-all-in-loop-at c =
    let more = surveyed_more _ _ _ _ _ c.loop-at.invariant c.loop-at-test.true c.in_ok-one.one (omega arith) c.in_ok-one.ensures in
    let small = more.small in let within = more.within in omega arith

pub loop-at-preserved : goal.loop-at-preserved
unfolding said_at
loop-at-preserved c =
    rw c.width-at-step.ensures (surveyed_more _ _ _ _ _ c.loop-at.invariant c.loop-at-test.true c.in_ok-one.one (omega arith) c.in_ok-one.ensures)

-- no record stands behind this one
pub returns-in_ok-one : goal.returns-in_ok-one
unfolding said_at
returns-in_ok-one c =
    let more = surveyed_more _ _ _ _ _ c.loop-at.invariant c.loop-at-test.true c.in_ok-one.one (omega arith) c.in_ok-one.ensures in
    surveyed_all _ _ _ _ _ more (omega arith)

pub returns : goal.returns
unfolding said_at
returns c = surveyed_all _ _ _ _ _ c.loop-at.invariant c.loop-at-test.false
