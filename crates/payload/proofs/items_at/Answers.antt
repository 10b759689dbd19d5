use mathlib.Core.Path.{sym, ◌∙◌}
use native.Mathlib.Omega.{arith}
use Rattle.outcome.proofs.ResultLaws.{fault_on}
use Rattle.outcome.specs.Fault.{said_at, number}
use Rattle.payload.specs.Answers.{ItemRead}
use Rattle.payload.proofs.ScanLaws.{scanned_start, scanned_more, scanned_empty, scanned_refused, scanned_unsorted, scanned_sound}
use Rattle.payload.proofs.items_at.Goals as goal

pub returns-then-s-from : goal.returns-then-s-from
unfolding said_at number
returns-then-s-from g c place = sym (scanned_empty g.T.Item.step_at g.T.Item.text_of c.args.s.now c.args.from _ c.if-s-from.true place)

pub loop-at-init : goal.loop-at-init
loop-at-init g c = scanned_start g.T.Item.step_at g.T.Item.text_of c.args.s.now c.args.from (omega arith)

pub returns-in_err-next : goal.returns-in_err-next
unfolding ItemRead
returns-in_err-next g c place =
    fault_on place _ _ c.from_residual.ensures.1
    ∙ sym (scanned_refused g.T.Item.step_at g.T.Item.text_of c.args.s.now c.args.from _ _ _ _ _ _ c.if-s-from.false c.loop-at.invariant
    c.loop-at-test.true _ place (c.in_err-next.ensures place))

pub still_rising-rising-requires : goal.still_rising-rising-requires
unfolding ItemRead
still_rising-rising-requires g c = (c.loop-at.invariant.last_within, c.in_ok-next.ensures.inside)

pub overflow_add-count : goal.overflow_add-count
overflow_add-count g c = omega (arith, c.well_formed)

pub loop-at-smaller : goal.loop-at-smaller
unfolding ItemRead
loop-at-smaller g c = let i = c.in_ok-next.ensures in let forward = i.forward in let within = i.within in omega arith

pub loop-at-preserved : goal.loop-at-preserved
unfolding ItemRead
loop-at-preserved g c =
    let i = c.in_ok-next.ensures in
    scanned_more g.T.Item.step_at g.T.Item.text_of c.args.s.now c.args.from _ _ _ _ _ c.loop-at.invariant c.loop-at-test.true i.item _ _ _
    i.read i.text i.forward i.within i.inside _ c.still_rising-rising.ensures

pub returns-then-rising : goal.returns-then-rising
unfolding said_at
returns-then-rising g c place =
    sym (scanned_sound g.T.Item.step_at g.T.Item.text_of c.args.s.now c.args.from _ _ _ _ _ _ c.if-s-from.false c.loop-at.invariant
    c.loop-at-test.false c.if-rising.true place)

pub returns-else-rising : goal.returns-else-rising
unfolding said_at
returns-else-rising g c place =
    rw c.UNSORTED.ensures
    (sym (scanned_unsorted g.T.Item.step_at g.T.Item.text_of c.args.s.now c.args.from _ _ _ _ _ _ c.if-s-from.false c.loop-at.invariant
    c.loop-at-test.false c.if-rising.false place))
