-- `bench_entries` meets its contract: the number that the tests of a payload report. Assumes nothing.
use mathlib.Core.Path.{ap, ◌∙◌}
use Rattle.outcome.specs.Outcome.{number_of}
use Rattle.bench_exports.proofs.ItemsLaws.{number_counted}
use Rattle.bench_exports.proofs.bench_entries.Goals as goal

pub returns : goal.returns
returns c = c.fault_number.ensures ∙ ap number_of (c.entries_at.ensures 0) ∙ number_counted _
