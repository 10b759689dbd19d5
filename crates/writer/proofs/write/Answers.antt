-- `write` meets its contract. Assumes nothing.
use mathlib.Core.Path.{◌∙◌}
use Rattle.outcome.specs.Fault.{said_at}
use Rattle.writer.proofs.WriteLaws.{answers_length, answers_refusal}
use Rattle.writer.proofs.write.Goals as goal

pub returns-in-Ok-clause-value : goal.returns-in-Ok-clause-value
unfolding said_at
returns-in-Ok-clause-value c = answers_length _ _ (rw c.clear.auto.output at c.in-Ok.ensures.value)

pub returns-in-Err-clause-value : goal.returns-in-Err-clause-value
unfolding said_at
returns-in-Err-clause-value c = c.into.ensures ∙ answers_refusal _ _ (rw c.clear.auto.output at c.in-Err.ensures.value)
