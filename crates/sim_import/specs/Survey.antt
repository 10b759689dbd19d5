-- What the first pass over a dump reports.
use Rattle.std.specs.Prelude.{List, ℕ, length}
use Rattle.outcome.specs.Outcome.{Outcome, answer, ◌>>=◌}
use Rattle.layout.specs.Blocks.{records_bytes}
use Rattle.sim_import.specs.declared.survey.Survey.{Survey}

-- how many records there are, and how many bytes they take in the writer's input form
unfoldable pub surveyed : List (List ℕ) → Survey
surveyed rs = record { count = length rs; length = length (records_bytes rs) }

-- the same of the records that are imported, or the refusal
unfoldable pub survey_of : Outcome (List (List ℕ)) → Outcome Survey
survey_of o = o >>= λ rs. answer (surveyed rs)
