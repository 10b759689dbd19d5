-- Runs in which no block was closed early.
use Rattle.std.specs.Prelude.{ℕ, ◌≡◌, List, [], ◌∷◌, ◌++◌, length}
use Rattle.session_value.specs.Stage.{Draft, Stage, begun}
use Rattle.theorems_session.specs.Run.{Run, run_afresh, run_begin, run_add, run_close, run_finish, run_grown}

-- where no block is open, the last one is full
unfoldable pub LastFull : Stage → Type 0
LastFull stage =
    (d : Draft) → stage ≡ begun d → d.current ≡ [] → (earlier : List (List (List ℕ))) (last : List (List ℕ)) → d.closed ≡ earlier ++ (last ∷ [])
    → length last ≡ d.per_block

-- the open block is full
unfoldable pub OpenFull : Stage → Type 0
OpenFull stage = (d : Draft) → stage ≡ begun d → length d.current ≡ d.per_block

-- no record was added behind a block that was closed with fewer records than it could hold
unfoldable pub NeverEarly : {room : ℕ} {stage : Stage} {added : List (List ℕ)} → Run room stage added → Type 0
NeverEarly (run_afresh room) = Unit {0}
NeverEarly (run_begin metadata per_block per_index run bytes e) = Unit {0}
NeverEarly (run_add {stage = stage} r run bytes e) = NeverEarly run × LastFull stage
NeverEarly (run_close run e) = NeverEarly run
NeverEarly (run_finish run e) = NeverEarly run
NeverEarly (run_grown more run) = NeverEarly run

-- only full blocks were closed
unfoldable pub ClosedFull : {room : ℕ} {stage : Stage} {added : List (List ℕ)} → Run room stage added → Type 0
ClosedFull (run_afresh room) = Unit {0}
ClosedFull (run_begin metadata per_block per_index run bytes e) = Unit {0}
ClosedFull (run_add r run bytes e) = ClosedFull run
ClosedFull (run_close {stage = stage} run e) = ClosedFull run × OpenFull stage
ClosedFull (run_finish run e) = ClosedFull run
ClosedFull (run_grown more run) = ClosedFull run

-- none was closed by a step of its own
unfoldable pub Unclosed : {room : ℕ} {stage : Stage} {added : List (List ℕ)} → Run room stage added → Type 0
Unclosed (run_afresh room) = Unit {0}
Unclosed (run_begin metadata per_block per_index run bytes e) = Unit {0}
Unclosed (run_add r run bytes e) = Unclosed run
Unclosed (run_close run e) = ⊥
Unclosed (run_finish run e) = Unclosed run
Unclosed (run_grown more run) = Unclosed run
