-- `import_sim` meets its contract, as `import` does. Assumes nothing.
use mathlib.Core.Path.{◌∙◌}
use Rattle.outcome.specs.Fault.{said_at}
use Rattle.sim_import.proofs.ImportLaws.{said_put, said_not}
use Rattle.sim_import.proofs.import_sim.Goals as goal

pub returns-in-Ok-clause-value : goal.returns-in-Ok-clause-value
unfolding said_at
returns-in-Ok-clause-value c = said_put _ _ c.in-Ok.ensures.value

pub returns-in-Err-clause-value : goal.returns-in-Err-clause-value
unfolding said_at
returns-in-Err-clause-value c =
    c.from.ensures ∙ said_not _ _ c.in-Err.ensures.value
