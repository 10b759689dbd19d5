-- A refused step changes neither session nor output.
-- Assumes nothing.
use mathlib.Core.Path.{◌≡◌, sym, ap, ◌∙◌}
use mathlib.Core.List.{List}
use Prim.Native.Nat.{ℕ}
use lib.ListN.{length}
use Rattle.outcome.specs.Outcome.{refused}
use Rattle.session_value.specs.declared.Session.{Session}
use Rattle.session_value.specs.declared.Stepped.{Stepped}
use Rattle.session_value.specs.Stage.{Stage, output_of}
use Rattle.session_value.specs.Steps.{after}
use Rattle.session_value.specs.Held.{Held, StepTaken, stepped_answer}

pub refused⇒unchanged : (stage : Stage) (session : Session) (output : List ℕ) → Held stage session output → (n p : ℕ) (r : Stepped) (exit : List ℕ)
    → StepTaken stage (refused n p) (length output) r exit → (r.session ≡ session) × (exit ≡ output)
unfolding stepped_answer after
refused⇒unchanged stage session output held n p r exit taken = (
  ap (λ (s : Stepped). s.session) taken.answered ∙ sym held.session_is,
  taken.held.output_is ∙ ap (λ (n : ℕ). output_of n stage) taken.long ∙ sym held.output_is,
)
