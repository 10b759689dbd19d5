-- A law of what the benchmark takes of a payload's tests. Assumes nothing.
use mathlib.Core.Path.{◌≡◌, refl}
use mathlib.Core.List.{List}
use Rattle.outcome.specs.Outcome.{Outcome, answer, refused, ◌>>=◌, number_of}
use Rattle.payload.specs.Answers.{counted}

-- counting the items keeps the refusal's number
pub number_counted : {A : Type 0} → (o : Outcome (List A)) → number_of (counted o) ≡ number_of o
unfolding number_of counted ◌>>=◌
number_counted (answer xs) = refl
number_counted (refused number place) = refl
