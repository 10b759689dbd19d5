use native.Mathlib.Omega.{arith}
use Rattle.outcome.proofs.ResultLaws.{err_on}
use Rattle.search.proofs.OnwardLaws.{onward_start, onward_index, onward_end}
use Rattle.search.proofs.StepLaws.{told_within, onward_passed, onward_unopened, child_place, child_asks, onward_stopped, onward_more}
use Rattle.search.proofs.walk.+walk.Goals as goal

pub find-requires : goal.find-requires
find-requires t c =
    record { small = c.requires.small; frame = c.requires.frame; leaf = c.if-f-eq0.true; fits = c.requires.fits.found }

pub returns-then-f-eq0 : goal.returns-then-f-eq0
returns-then-f-eq0 t c =
    c.find.ensures c.args.opened.now c.args.from c.args.above c.requires.fits.opened

pub overflow_add-at : goal.overflow_add-at
overflow_add-at t c =
    let some = c.requires.frame.body in let within = c.requires.frame.end in let small = c.requires.small in omega arith

pub loop-entry-init : goal.loop-entry-init
loop-entry-init t c =
    onward_start _ c.requires c.if-f-eq0.false

pub child_at-requires : goal.child_at-requires
child_at-requires t c = onward_index c.loop-entry.invariant

pub returns : goal.returns
returns t c =
    onward_end c.loop-entry.invariant c.child_at.ensures.child_said c.in_default.is

pub admits-requires : goal.admits-requires
admits-requires t c =
    let within = told_within c.in-Some.is c.child_at.ensures.child_stays in (within.key, within.upper)

pub returns-in_err-c : goal.returns-in_err-c
returns-in_err-c t c =
    rw (err_on _ _ c.from_residual.ensures.1)
    (onward_unopened c.loop-entry.invariant c.child_at.ensures.child_said c.in-Some.is c.child_at.ensures.child_stays
    c.admits.ensures c.if-admits.true
    c.open_block.ensures.result_value c.open_block.ensures.opened_after c.in_err-c.was)

pub overflow_add-so_far : goal.overflow_add-so_far
overflow_add-so_far t c =
    let few = child_place c.loop-entry.invariant c.child_at.ensures.child_said c.in-Some.is c.child_at.ensures.child_stays
    c.admits.ensures c.if-admits.true c.open_block.ensures.result_value c.open_block.ensures.opened_after
    c.in_ok-c.was in omega (arith, c.well_formed)

pub walk-requires : goal.walk-requires
walk-requires t c =
    let asks = child_asks c.loop-entry.invariant c.child_at.ensures.child_said c.in-Some.is c.child_at.ensures.child_stays
    c.admits.ensures
    c.if-admits.true c.open_block.ensures.result_value c.open_block.ensures.opened_after c.in_ok-c.was in
    let less = asks.0 in (
      omega arith,
      asks.1,
    )

pub returns-in_err-so_far : goal.returns-in_err-so_far
returns-in_err-so_far t c =
    rw (err_on _ _ c.from_residual-in_err-so_far.ensures.1, ← c.in_err-so_far.was)
    (onward_stopped c.loop-entry.invariant c.child_at.ensures.child_said c.in-Some.is c.child_at.ensures.child_stays
    c.admits.ensures c.if-admits.true
    c.open_block.ensures.result_value c.open_block.ensures.opened_after c.in_ok-c.was c.walk.ensures
    c.in_err-so_far.was)

pub loop-entry-smaller-then-admits : goal.loop-entry-smaller-then-admits
loop-entry-smaller-then-admits t c =
    let within = told_within c.in-Some.is c.child_at.ensures.child_stays in let forward = within.forward in let before = within.before in
    omega arith

pub loop-entry-preserved-then-admits : goal.loop-entry-preserved-then-admits
loop-entry-preserved-then-admits t c =
    onward_more c.loop-entry.invariant c.child_at.ensures.child_said c.in-Some.is c.child_at.ensures.child_stays c.admits.ensures
    c.if-admits.true
    c.open_block.ensures.result_value c.open_block.ensures.opened_after c.in_ok-c.was c.walk.ensures
    c.in_ok-so_far.was
    c.walk.auto.opened c.walk.auto.results

pub loop-entry-smaller : goal.loop-entry-smaller
loop-entry-smaller t c =
    let within = told_within c.in-Some.is c.child_at.ensures.child_stays in let forward = within.forward in let before = within.before in
    omega arith

pub loop-entry-preserved : goal.loop-entry-preserved
loop-entry-preserved t c =
    onward_passed c.loop-entry.invariant c.child_at.ensures.child_said c.in-Some.is c.child_at.ensures.child_stays c.admits.ensures
    c.if-admits.false
