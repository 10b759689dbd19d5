-- What a step of a run leads to.
use Rattle.std.specs.Prelude.{ℕ, List}
use Rattle.session_value.specs.declared.Stepped.{Stepped}
use Rattle.session_value.specs.Stage.{Stage}
use Rattle.session_value.specs.Held.{Held}
use Rattle.theorems_session.specs.Run.{Run}

-- a run with these records added, whose session and output are those handed back
pub record LedTo (room : ℕ) (added : List (List ℕ)) (r : Stepped) (output : List ℕ) : Type 0 where
  pub stage : Stage
  pub run : Run room stage added
  pub held : Held stage r.session output
