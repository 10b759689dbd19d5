-- `text_by_number` meets its contract: a number, then the rule that its bytes are there. Assumes nothing.
use mathlib.Core.Path.{sym, ◌∙◌}
use native.Mathlib.Omega.{arith}
use Rattle.outcome.specs.Fault.{said_at, number}
use Rattle.framing.proofs.FrameLaws.{numbered}
use Rattle.payload.specs.Answers.{text_said}
use Rattle.payload.proofs.PayloadLaws.{text_fault, text_refused, text_short, text_found}
use Rattle.payload.proofs.text_by_number.Goals as goal

pub returns-in_err-number : goal.returns-in_err-number
unfolding said_at number
returns-in_err-number c place =
    text_fault place c.args.s.now _ _ c.from_residual.ensures.1
    ∙ sym (text_refused place c.args.s.now c.args.at _ place (sym (c.in_err-number.ensures place)))

pub overflow_sub-s : goal.overflow_sub-s
unfolding said_at number
overflow_sub-s c = let n = numbered 15 0 c.args.s.now c.args.at _ (sym (c.in_ok-number.ensures 0)) in omega arith

pub returns-then-s-number : goal.returns-then-s-number
unfolding said_at number text_said
returns-then-s-number c place = sym (text_short place c.args.s.now c.args.at _ (sym (c.in_ok-number.ensures place)) (omega arith))

pub returns : goal.returns
unfolding said_at number text_said
returns c place =
    let e = sym (c.in_ok-number.ensures place) in
    let n = numbered 15 place c.args.s.now c.args.at _ e in
    sym (text_found place c.args.s.now c.args.at _ e (omega arith))
