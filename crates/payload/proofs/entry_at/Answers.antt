-- `entry_at` meets its contract: a key, then two numbers. Assumes nothing.
use mathlib.Core.Path.{sym, ◌∙◌}
use native.Mathlib.Omega.{arith}
use Rattle.outcome.specs.Fault.{said_at, number}
use Rattle.payload.specs.Answers.{text_said, entry_said, entry_in, KeyWithin}
use Rattle.payload.proofs.PayloadLaws.{entry_fault, no_key, text⇒Placed, entry_keyless, entry_refused, entry_sizeless, entry_found}
use Rattle.payload.proofs.entry_at.Goals as goal

pub returns-in_err-key-clause-by_index : goal.returns-in_err-key-clause-by_index
unfolding text_said
returns-in_err-key-clause-by_index c place =
    entry_fault place c.args.s.now _ _ c.from_residual.ensures.1
    ∙ sym (entry_keyless place c.args.s.now c.args.at _ place (sym (c.in_err-key.ensures place)))

pub returns-in_err-key-clause-key_within : goal.returns-in_err-key-clause-key_within
returns-in_err-key-clause-key_within c = no_key _ _ _ c.from_residual.ensures.1

pub end-requires : goal.end-requires
unfolding text_said
end-requires c =
    let within = (text⇒Placed 0 c.args.s.now c.args.at _ (sym (c.in_ok-key.ensures 0))).within in
    omega (arith, c.well_formed)

pub returns-in_err-offset-clause-by_index : goal.returns-in_err-offset-clause-by_index
unfolding said_at number text_said
returns-in_err-offset-clause-by_index c place =
    entry_fault place c.args.s.now _ _ c.from_residual-in_err-offset.ensures.1
    ∙ sym (entry_refused place c.args.s.now c.args.at _ _ place (sym (c.in_ok-key.ensures place)) (sym (rw c.end.ensures at (c.in_err-offset.ensures place))))

pub returns-in_err-offset-clause-key_within : goal.returns-in_err-offset-clause-key_within
returns-in_err-offset-clause-key_within c = no_key _ _ _ c.from_residual-in_err-offset.ensures.1

pub returns-in_err-size-clause-by_index : goal.returns-in_err-size-clause-by_index
unfolding said_at number text_said
returns-in_err-size-clause-by_index c place =
    entry_fault place c.args.s.now _ _ c.from_residual-in_err-size.ensures.1
    ∙ sym (entry_sizeless place c.args.s.now c.args.at _ _ _ place (sym (c.in_ok-key.ensures place))
    (sym (rw c.end.ensures at (c.in_ok-offset.ensures place))) (sym (c.in_err-size.ensures place)))

pub returns-in_err-size-clause-key_within : goal.returns-in_err-size-clause-key_within
returns-in_err-size-clause-key_within c = no_key _ _ _ c.from_residual-in_err-size.ensures.1

pub returns-clause-by_index : goal.returns-clause-by_index
unfolding said_at number text_said entry_said entry_in
returns-clause-by_index c place =
    sym (entry_found place c.args.s.now c.args.at _ _ _ (sym (c.in_ok-key.ensures place))
    (sym (rw c.end.ensures at (c.in_ok-offset.ensures place))) (sym (c.in_ok-size.ensures place)))

pub returns-clause-key_within : goal.returns-clause-key_within
unfolding KeyWithin text_said
returns-clause-key_within c = (text⇒Placed 0 c.args.s.now c.args.at _ (sym (c.in_ok-key.ensures 0))).within
