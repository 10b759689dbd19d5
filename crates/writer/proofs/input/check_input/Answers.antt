-- `check_input` meets its contract. Assumes nothing.
use mathlib.Core.Path.{sym, ap, ◌∙◌}
use Rattle.outcome.specs.Outcome.{refused}
use Rattle.outcome.specs.Fault.{number, said_at}
use Rattle.writer.proofs.InputRuleLaws.{refused_30, refused_9, input_answer, input_refused}
use Rattle.writer.proofs.input.check_input.Goals as goal

pub returns-then-not-counts_fit : goal.returns-then-not-counts_fit
unfolding number said_at
returns-then-not-counts_fit c = refused_30 _ _ _ _ (sym c.if-not-counts_fit.ensures)

pub returns-then-not-is_metadata : goal.returns-then-not-is_metadata
unfolding number said_at
returns-then-not-is_metadata c = refused_9 _ _ _ _ (sym c.if-not-counts_fit.ensures) (sym c.if-not-is_metadata.ensures)

pub returns-in-Ok : goal.returns-in-Ok
unfolding said_at
returns-in-Ok c = input_answer _ _ _ _ (sym c.if-not-counts_fit.ensures) (sym c.if-not-is_metadata.ensures) _ (c.in-Ok.ensures 0)

pub returns-in-Err : goal.returns-in-Err
unfolding said_at
returns-in-Err c =
    ap (λ n. refused n 0) c.input_fault.ensures ∙ input_refused _ _ _ _ (sym c.if-not-counts_fit.ensures) (sym c.if-not-is_metadata.ensures) _
    (c.in-Err.ensures 0)
