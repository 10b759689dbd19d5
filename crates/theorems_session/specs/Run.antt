-- Any run of steps from starting afresh.
use Rattle.std.specs.Prelude.{ℕ, ◌+◌, ◌≡◌, List, [], ◌∷◌, ◌++◌}
use Rattle.outcome.specs.Outcome.{answer}
use Rattle.byte_string.specs.Order.{AreBytes}
use Rattle.session_value.specs.Stage.{Stage, afresh}
use Rattle.session_value.specs.Steps.{begin_of, add_of, close_of, finish_of}

-- What steps lead to, with an output of `room` bytes: a stage, and the records added since begin. A refused step leads nowhere else, and between
-- two steps the output may grow.
pub data Run : (room : ℕ) → Stage → (added : List (List ℕ)) → Type 0 where
  run_afresh : (room : ℕ) → Run room afresh []
  run_begin : {room : ℕ} {stage next : Stage} {added : List (List ℕ)} (metadata : List ℕ) (per_block per_index : ℕ) → Run room stage added
      → AreBytes metadata → begin_of stage metadata per_block per_index room ≡ answer next → Run room next []
  run_add : {room : ℕ} {stage next : Stage} {added : List (List ℕ)} (r : List ℕ) → Run room stage added
      → AreBytes r → add_of stage r room ≡ answer next → Run room next (added ++ (r ∷ []))
  run_close : {room : ℕ} {stage next : Stage} {added : List (List ℕ)} → Run room stage added → close_of stage ≡ answer next → Run room next added
  run_finish : {room : ℕ} {stage next : Stage} {added : List (List ℕ)} → Run room stage added → finish_of stage room ≡ answer next → Run room next added
  run_grown : {room : ℕ} {stage : Stage} {added : List (List ℕ)} (more : ℕ) → Run room stage added → Run (room + more) stage added
