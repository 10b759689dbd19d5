-- `fault_number` meets its contract, case by case. Assumes nothing.
use mathlib.Core.Path.{sym, ap, ◌∙◌}
use Rattle.std.specs.Prelude.{ℕ, Result}
use Rattle.outcome.specs.Outcome.{number_of}
use Rattle.outcome.specs.declared.Fault.{Fault}
use Rattle.outcome.specs.Fault.{said_at}
use Rattle.bench_exports.proofs.fault_number.Goals as goal

pub returns-in-Ok : goal.returns-in-Ok
unfolding number_of said_at
returns-in-Ok c = sym (ap (λ (r : Result ℕ Fault). number_of (said_at 0 r)) c.in-Ok.is)

pub returns-in-Err : goal.returns-in-Err
unfolding number_of said_at
returns-in-Err c = c.number.ensures ∙ sym (ap (λ (r : Result ℕ Fault). number_of (said_at 0 r)) c.in-Err.is)
