-- Laws of beginning a file in a session.
-- Assumes nothing.
use mathlib.Core.Path.{◌≡◌, sym, ap, ◌∙◌, subst}
use mathlib.Core.Bool.{true, false}
use mathlib.Core.List.{List, []}
use Prim.Native.Nat.{ℕ, ◌<◌}
use native.Mathlib.Omega.{arith}
use lib.ListN.{length}
use Rattle.std.specs.Prelude.{Some, None}
use Rattle.byte_string.specs.Order.{AreBytes}
use Rattle.outcome.specs.Outcome.{Outcome, refused}
use Rattle.outcome.proofs.OutcomeLaws.{kept, broken}
use Rattle.header.specs.Metadata.{is_metadata}
use Rattle.layout.specs.File.{blocks_start, counts_fit, file_fits}
use Rattle.file_encoder.specs.Begun.{blocks_begin, with_header, begun_file}
use Rattle.file_encoder.proofs.BeginLaws.{begun_not, begun_yes, begun_none, header_long}
use Rattle.session_value.specs.declared.Session.{Session}
use Rattle.session_value.specs.declared.Stepped.{Stepped}
use Rattle.session_value.specs.Stage.{Stage, afresh, begun, open_block, draft_blocks, output_of}
use Rattle.session_value.specs.Steps.{is_afresh, begin_of}
use Rattle.session_value.specs.Held.{Held, session_of, StepTaken}
use Rattle.session_value.specs.Values.{begun_session}
use Rattle.session_value.proofs.DraftLaws.{begin_keeps}
use Rattle.session_value.proofs.SessionLaws.{is_afresh_lem, not_afresh, begun_session_lem}
use Rattle.session.proofs.TakenLaws.{step_refused, step_answered}

module _ (stage : Stage) (session : Session) (output : List ℕ) (held : Held stage session output) (metadata : List ℕ) (b i : ℕ) where
  abbrev taken : Outcome Stage
  taken = begin_of stage metadata b i (length output)

  stage_now : session.stage ≡ (session_of stage).stage
  stage_now = ap (λ (s : Session). s.stage) held.session_is

  pub begin_late : {r : Stepped} → (session.stage ≡ 0 → ⊥) → r ≡ record { number = 28; place = 0; session = session }
      → StepTaken stage (begin_of stage metadata b i (length output)) (length output) r output
  unfolding begin_of
  begin_late h f = step_refused stage session output held taken 28 (broken (is_afresh stage) 28 0 _ (not_afresh stage (λ e. h (stage_now ∙ e)))) f

  module _ (zero : session.stage ≡ 0) where
    is : stage ≡ afresh
    is = is_afresh_lem stage (sym stage_now ∙ zero)

    fresh : is_afresh stage ≡ true
    unfolding is_afresh
    fresh = ap is_afresh is

    pub begin_counts : {r : Stepped} → counts_fit b i ≡ false → r ≡ record { number = 30; place = 0; session = session }
        → StepTaken stage (begin_of stage metadata b i (length output)) (length output) r output
    unfolding begin_of
    begin_counts h f = step_refused stage session output held taken 30 (kept (is_afresh stage) 28 0 _ fresh ∙ broken (counts_fit b i) 30 0 _ h) f

    pub begin_metadata : {r : Stepped} → counts_fit b i ≡ true → is_metadata metadata ≡ false → r ≡ record { number = 9; place = 0; session = session }
        → StepTaken stage (begin_of stage metadata b i (length output)) (length output) r output
    unfolding begin_of
    begin_metadata h k f =
        step_refused stage session output held taken 9
        (kept (is_afresh stage) 28 0 _ fresh ∙ kept (counts_fit b i) 30 0 _ h ∙ broken (is_metadata metadata) 9 0 _ k) f

    module _ (h : counts_fit b i ≡ true) (k : is_metadata metadata ≡ true) {then : List ℕ} (o : then ≡ with_header output metadata) where
      pub begin_full : {r : Stepped} → None ≡ blocks_begin (length output) metadata → r ≡ record { number = 31; place = 0; session = session }
          → StepTaken stage (begin_of stage metadata b i (length output)) (length output) r then
      unfolding begin_of with_header
      begin_full z f =
          let no : file_fits (length output) (blocks_start metadata) ≡ false = begun_not (length output) metadata z in
          subst (StepTaken stage taken (length output) _) (sym (o ∙ rw no))
          (step_refused stage session output held taken 31
          (kept (is_afresh stage) 28 0 _ fresh ∙ kept (counts_fit b i) 30 0 _ h ∙ kept (is_metadata metadata) 9 0 _ k
          ∙ broken (file_fits (length output) (blocks_start metadata)) 31 0 _ no) f)

      pub begin_done : {from : ℕ} {nothing : Session} {r : Stepped} → Some from ≡ blocks_begin (length output) metadata → AreBytes metadata → nothing ≡ begun_session from b i
          → r ≡ record { number = 0; place = 0; session = nothing } → StepTaken stage (begin_of stage metadata b i (length output)) (length output) r then
      unfolding begin_of output_of draft_blocks open_block
      begin_done e bytes n f =
          let yes : file_fits (length output) (blocks_start metadata) ≡ true = (begun_yes (length output) metadata e).1 in
          let stands = begun_none output metadata (held.output_is ∙ ap (output_of (length output)) is) e o in
          step_answered stage (begun (record { metadata = metadata; per_block = b; per_index = i; closed = []; current = [] })) taken (length output)
          (kept (is_afresh stage) 28 0 _ fresh ∙ kept (counts_fit b i) 30 0 _ h ∙ kept (is_metadata metadata) 9 0 _ k
          ∙ kept (file_fits (length output) (blocks_start metadata)) 31 0 _ yes)
          same_long (n ∙ ap (λ (from : ℕ). begun_session from b i) stands.begins ∙ begun_session_lem metadata b i)
          (stands.stands ∙ ap (λ (room : ℕ). begun_file room metadata []) same_long) (begin_keeps (length output) metadata b i h k yes bytes) f
        where
          same_long : length then ≡ length output
          same_long = ap length o ∙ header_long output metadata

-- begun, or once finished
pub begin_again : (stage : Stage) (metadata : List ℕ) (b i room : ℕ) → 0 < (session_of stage).stage → begin_of stage metadata b i room ≡ refused 28 0
unfolding begin_of
begin_again stage metadata b i room h = broken (is_afresh stage) 28 0 _ (not_afresh stage (λ e. omega arith))
