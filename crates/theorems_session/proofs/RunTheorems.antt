-- Any run of steps: what it leads to is sound and holds the records added, and once it is finished the file is as claimed.
-- Assumes nothing.
use mathlib.Core.Path.{◌≡◌, refl, sym, ap, ◌∙◌, subst}
use mathlib.Core.List.{List, [], ◌∷◌, ◌++◌, flat_map}
use Prim.Native.Nat.{ℕ, ◌≤◌}
use native.Mathlib.Omega.{arith}
use lib.ListN.{length}
use Rattle.output_list.specs.OutputList.{padded}
use Rattle.output_list.proofs.OutputListLaws.{length-zeros, length-padded}
use Rattle.byte_string.specs.Order.{AreBytes}
use Rattle.file_encoder.specs.Begun.{begun_file}
use Rattle.file_encoder.proofs.FitLaws.{fits⁻¹}
use Rattle.session_value.specs.Stage.{Draft, Stage, afresh, begun, finished, draft_records, data_end, draft_file, output_of}
use Rattle.session_value.specs.Held.{Sound, Held, session_of}
use Rattle.session_value.proofs.DraftLaws.{begin_keeps, add_keeps, close_keeps, records_add, records_close}
use Rattle.session_value.proofs.DraftFileLaws.{begun-length}
use Rattle.theorems_session.specs.Run.{Run, run_afresh, run_begin, run_add, run_close, run_finish, run_grown}
use Rattle.theorems_session.specs.SessionByRules.{FinishedByRules}
use Rattle.theorems_session.proofs.FinishedTheorem.{finished_by_rules}
use Rattle.theorems_session.proofs.GrownTheorem.{sound_wider}
use Rattle.theorems_session.proofs.AnsweredSteps.{empty_draft, BeginAnswered, AddAnswered, CloseAnswered, FinishAnswered}
use Rattle.theorems_session.proofs.AnsweredSteps.{begin⁻¹, add⁻¹, close⁻¹, finish⁻¹}

-- ---- it is sound

begin_sound : (metadata : List ℕ) (per_block per_index room : ℕ) (next : Stage) → AreBytes metadata
    → BeginAnswered metadata per_block per_index room next → Sound room next
unfolding empty_draft
begin_sound metadata per_block per_index room next bytes a =
    subst (Sound room) (sym a.leads) (begin_keeps room metadata per_block per_index a.counts a.rule a.fit bytes)

add_sound : (stage : Stage) (r : List ℕ) (room : ℕ) (next : Stage) → Sound room stage → AreBytes r → AddAnswered stage r room next → Sound room next
add_sound stage r room next s bytes a =
    subst (Sound room) (sym a.leads) (add_keeps room a.draft r (subst (Sound room) a.from s) bytes a.later a.fit)

close_sound : (stage : Stage) (room : ℕ) (next : Stage) → Sound room stage → CloseAnswered stage next → Sound room next
close_sound stage room next s a = subst (Sound room) (sym a.leads) (close_keeps room a.draft (subst (Sound room) a.from s) a.some)

finish_sound : (stage : Stage) (room : ℕ) (next : Stage) → Sound room stage → FinishAnswered stage room next → Sound room next
unfolding Sound
finish_sound stage room next s a = subst (Sound room) (sym a.leads) ((subst (Sound room) a.from s).0, a.some, a.fit)

pub run_sound : {room : ℕ} {stage : Stage} {added : List (List ℕ)} → Run room stage added → Sound room stage
unfolding Sound
run_sound (run_afresh room) = tt
run_sound (run_begin {room} {stage} {next} metadata per_block per_index run bytes e) =
    begin_sound metadata per_block per_index room next bytes (begin⁻¹ stage metadata per_block per_index room next e)
run_sound (run_add {room} {stage} {next} r run bytes e) = add_sound stage r room next (run_sound run) bytes (add⁻¹ stage r room next e)
run_sound (run_close {room} {stage} {next} run e) = close_sound stage room next (run_sound run) (close⁻¹ stage next e)
run_sound (run_finish {room} {stage} {next} run e) = finish_sound stage room next (run_sound run) (finish⁻¹ stage room next e)
run_sound (run_grown {room} {stage} more run) = sound_wider _ _ stage (run_sound run) (omega arith)

-- ---- it holds the records added

-- the records of a stage
unfoldable pub stage_records : Stage → List (List ℕ)
stage_records afresh = []
stage_records (begun d) = draft_records d
stage_records (finished d) = draft_records d

begin_records : (metadata : List ℕ) (per_block per_index room : ℕ) (next : Stage) → BeginAnswered metadata per_block per_index room next → stage_records next ≡ []
unfolding stage_records draft_records empty_draft flat_map
begin_records metadata per_block per_index room next a = ap stage_records a.leads

add_records : (stage : Stage) (r : List ℕ) (room : ℕ) (next : Stage) → AddAnswered stage r room next → stage_records next ≡ stage_records stage ++ (r ∷ [])
unfolding stage_records
add_records stage r room next a =
    ap stage_records a.leads ∙ records_add a.draft r ∙ ap (λ (s : Stage). stage_records s ++ (r ∷ [])) (sym a.from)

close_records : (stage next : Stage) → CloseAnswered stage next → stage_records next ≡ stage_records stage
unfolding stage_records
close_records stage next a = ap stage_records a.leads ∙ records_close a.draft ∙ ap stage_records (sym a.from)

finish_records : (stage : Stage) (room : ℕ) (next : Stage) → FinishAnswered stage room next → stage_records next ≡ stage_records stage
unfolding stage_records
finish_records stage room next a = ap stage_records a.leads ∙ ap stage_records (sym a.from)

pub run_records : {room : ℕ} {stage : Stage} {added : List (List ℕ)} → Run room stage added → stage_records stage ≡ added
unfolding stage_records
run_records (run_afresh room) = refl
run_records (run_begin {room} {stage} {next} metadata per_block per_index run bytes e) =
    begin_records metadata per_block per_index room next (begin⁻¹ stage metadata per_block per_index room next e)
run_records (run_add {room} {stage} {next} r run bytes e) =
    add_records stage r room next (add⁻¹ stage r room next e) ∙ ap (λ (rs : List (List ℕ)). rs ++ (r ∷ [])) (run_records run)
run_records (run_close {room} {stage} {next} run e) = close_records stage next (close⁻¹ stage next e) ∙ run_records run
run_records (run_finish {room} {stage} {next} run e) = finish_records stage room next (finish⁻¹ stage room next e) ∙ run_records run
run_records (run_grown more run) = run_records run

-- ---- its session and its output

-- an output has the room that there is
pub length_output : (room : ℕ) (stage : Stage) → Sound room stage → length (output_of room stage) ≡ room
unfolding Sound output_of begun_file
length_output room afresh s = length-zeros room
length_output room (begun d) s =
    length-padded room _ (subst (λ (n : ℕ). n ≤ room) (sym (begun-length d)) (fits⁻¹ room (data_end d) s.1).0)
length_output room (finished d) s = length-padded room (draft_file d) (fits⁻¹ room (length (draft_file d)) s.2).0

pub sound⇒held : (room : ℕ) (stage : Stage) → Sound room stage → Held stage (session_of stage) (output_of room stage)
sound⇒held room stage s =
    record {
      session_is = refl;
      output_is = ap (λ (n : ℕ). output_of n stage) (sym (length_output room stage s));
      sound = subst (λ (n : ℕ). Sound n stage) (sym (length_output room stage s)) s;
    }

pub run⇒held : {room : ℕ} {stage : Stage} {added : List (List ℕ)} → Run room stage added → Held stage (session_of stage) (output_of room stage)
run⇒held {room} {stage} run = sound⇒held room stage (run_sound run)

-- ---- once it is finished

pub sound_finished : (room : ℕ) (d : Draft) → Sound room (finished d) → FinishedByRules d (draft_file d)
unfolding Sound
sound_finished room d s = finished_by_rules d s.0 s.1 (fits⁻¹ room (length (draft_file d)) s.2).1

pub run_finished : {room : ℕ} {d : Draft} {added : List (List ℕ)} → Run room (finished d) added
    → FinishedByRules d (draft_file d) × (draft_records d ≡ added) × (output_of room (finished d) ≡ padded room (draft_file d))
unfolding stage_records output_of
run_finished {room} {d} run = (sound_finished room d (run_sound run), run_records run, refl)
