-- What an answer of `number_at` says, where a number that is cut off gets the refusal `cut`, and refusals have this place.
use Rattle.std.specs.Prelude.{ℕ, Result, Ok, Err}
use Rattle.uleb128.specs.declared.NumberFault.{NumberFault}
use Rattle.uleb128.specs.declared.NumberFault.TheVariants.{CutOff, TooWide, NotShortest}
use Rattle.outcome.specs.Outcome.{Outcome, answer, refused}
use Rattle.items.specs.declared.Step.{Step}

unfoldable pub number_said : (cut place : ℕ) → Result (Step ℕ) NumberFault → Outcome (Step ℕ)
number_said cut place (Ok n) = answer n
number_said cut place (Err CutOff) = refused cut place
number_said cut place (Err TooWide) = refused 11 place
number_said cut place (Err NotShortest) = refused 12 place
