-- The number of a step that is taken tells whether it was answered, and a step of a run leads to a run.
-- Assumes nothing.
use mathlib.Core.Path.{◌≡◌, refl, sym, ap, ◌∙◌, subst}
use mathlib.Core.Logic.{◌≢◌}
use mathlib.Core.Bool.{Bool, true, false}
use mathlib.Core.List.{List, [], ◌∷◌, ◌++◌}
use Prim.Native.Nat.{ℕ}
use native.Mathlib.Omega.{arith}
use lib.Dec.{leb}
use lib.ListN.{length}
use Rattle.outcome.specs.Outcome.{Outcome, answer, refused, number_of, ◌>>=◌, ◌>>◌, must}
use Rattle.byte_string.specs.Order.{AreBytes}
use Rattle.header.specs.Metadata.{is_metadata}
use Rattle.layout.specs.File.{blocks_start, counts_fit, file_fits}
use Rattle.session_value.specs.declared.Stepped.{Stepped}
use Rattle.session_value.specs.Stage.{Draft, Stage, afresh, begun, finished, draft_records, data_end, draft_file}
use Rattle.session_value.specs.Steps.{is_afresh, draft_of, add_to, is_next, begin_of, add_of, close_of, finish_of, after}
use Rattle.session_value.specs.Held.{Held, StepTaken, stepped_answer}
use Rattle.theorems_session.specs.Run.{Run, run_begin, run_add, run_close, run_finish}
use Rattle.theorems_session.specs.StepRun.{LedTo}
use Rattle.theorems_session.proofs.AnsweredSteps.{finish⁻¹}

-- ---- a number of 0

-- the number 0 says that there is an answer
abbrev ZeroAnswers : {A : Type 0} → Outcome A → Type 0
ZeroAnswers {A} o = number_of o ≡ 0 → (a : A) × (o ≡ answer a)

zero_answer : {A : Type 0} (a : A) → ZeroAnswers (answer a)
zero_answer a e = (a, refl)

zero_must : {A : Type 0} (b : Bool) (n : ℕ) (o : Outcome A) → n ≢ 0 → ZeroAnswers o → ZeroAnswers (must b n 0 >> o)
unfolding must ◌>>◌ number_of
zero_must true n o some h e = h e
zero_must false n o some h e = absurd (some e)

zero_draft : {A : Type 0} (stage : Stage) (next : Draft → Outcome A) → ((d : Draft) → ZeroAnswers (next d)) → ZeroAnswers (draft_of stage >>= next)
unfolding draft_of ◌>>=◌ number_of
zero_draft afresh next h e = absurd (omega arith)
zero_draft (begun d) next h e = h d e
zero_draft (finished d) next h e = absurd (omega arith)

pub begin_zero : (stage : Stage) (metadata : List ℕ) (per_block per_index room : ℕ) → number_of (begin_of stage metadata per_block per_index room) ≡ 0
    → (next : Stage) × (begin_of stage metadata per_block per_index room ≡ answer next)
unfolding begin_of
begin_zero stage metadata per_block per_index room =
    zero_must (is_afresh stage) 28 _ (λ z. omega arith)
    (zero_must (counts_fit per_block per_index) 30 _ (λ z. omega arith)
    (zero_must (is_metadata metadata) 9 _ (λ z. omega arith)
    (zero_must (file_fits room (blocks_start metadata)) 31 _ (λ z. omega arith) (zero_answer _))))

pub add-zero : (stage : Stage) (r : List ℕ) (room : ℕ) → number_of (add_of stage r room) ≡ 0 → (next : Stage) × (add_of stage r room ≡ answer next)
unfolding add_of
add-zero stage r room =
    zero_draft stage _ (λ d. zero_must (is_next d r) 29 _ (λ z. omega arith)
    (zero_must (file_fits room (data_end (add_to d r))) 31 _ (λ z. omega arith) (zero_answer _)))

pub close_zero : (stage : Stage) → number_of (close_of stage) ≡ 0 → (next : Stage) × (close_of stage ≡ answer next)
unfolding close_of
close_zero stage = zero_draft stage _ (λ d. zero_must (leb 1 (length d.current)) 28 _ (λ z. omega arith) (zero_answer _))

pub finish_zero : (stage : Stage) (room : ℕ) → number_of (finish_of stage room) ≡ 0 → (next : Stage) × (finish_of stage room ≡ answer next)
unfolding finish_of
finish_zero stage room =
    zero_draft stage _ (λ d. zero_must (leb 1 (length (draft_records d))) 28 _ (λ z. omega arith)
    (zero_must (file_fits room (length (draft_file d))) 31 _ (λ z. omega arith) (zero_answer _)))

-- ---- a step that is taken

module _ (stage : Stage) (o : Outcome Stage) (room : ℕ) (r : Stepped) (output : List ℕ) (taken : StepTaken stage o room r output) where
  pub taken_number : r.number ≡ number_of o
  unfolding stepped_answer
  taken_number = ap (λ (s : Stepped). s.number) taken.answered

  -- an answered one hands back session and output of the next stage
  pub answered⇒held : (next : Stage) → o ≡ answer next → Held next r.session output
  unfolding after
  answered⇒held next e = subst (λ (s : Stage). Held s r.session output) (ap (after stage) e) taken.held

  -- a refused one those of the stage before it
  pub refused⇒held : r.number ≢ 0 → Held stage r.session output
  unfolding after number_of
  refused⇒held some = go o refl
    where
      go : (p : Outcome Stage) → o ≡ p → Held stage r.session output
      go (answer next) e = absurd (some (taken_number ∙ ap number_of e))
      go (refused n p) e = subst (λ (s : Stage). Held s r.session output) (ap (after stage) e) taken.held

-- ---- a step of a run

module _ {room : ℕ} {stage : Stage} {added : List (List ℕ)} (run : Run room stage added) (r : Stepped) (output : List ℕ) where
  pub refused_leads : (o : Outcome Stage) → StepTaken stage o room r output → r.number ≢ 0 → LedTo room added r output
  refused_leads o taken some = record { stage = stage; run = run; held = refused⇒held stage o room r output taken some }

  pub begin_leads : (metadata : List ℕ) (per_block per_index : ℕ) → AreBytes metadata
      → StepTaken stage (begin_of stage metadata per_block per_index room) room r output → r.number ≡ 0 → LedTo room [] r output
  begin_leads metadata per_block per_index bytes taken zero =
      let found = begin_zero stage metadata per_block per_index room (sym (taken_number stage _ room r output taken) ∙ zero) in
      record {
        stage = found.0;
        run = run_begin metadata per_block per_index run bytes found.1;
        held = answered⇒held stage _ room r output taken found.0 found.1;
      }

  pub add_leads : (x : List ℕ) → AreBytes x → StepTaken stage (add_of stage x room) room r output → r.number ≡ 0
      → LedTo room (added ++ (x ∷ [])) r output
  add_leads x bytes taken zero =
      let found = add-zero stage x room (sym (taken_number stage _ room r output taken) ∙ zero) in
      record {
        stage = found.0;
        run = run_add x run bytes found.1;
        held = answered⇒held stage _ room r output taken found.0 found.1;
      }

  pub close_leads : StepTaken stage (close_of stage) room r output → r.number ≡ 0 → LedTo room added r output
  close_leads taken zero =
      let found = close_zero stage (sym (taken_number stage _ room r output taken) ∙ zero) in
      record { stage = found.0; run = run_close run found.1; held = answered⇒held stage _ room r output taken found.0 found.1 }

  -- finish leads to a finished file
  pub finish_leads : StepTaken stage (finish_of stage room) room r output → r.number ≡ 0
      → (d : Draft) × Run room (finished d) added × Held (finished d) r.session output
  finish_leads taken zero =
      let found = finish_zero stage room (sym (taken_number stage _ room r output taken) ∙ zero) in
      let told = finish⁻¹ stage room found.0 found.1 in
      let same = found.1 ∙ ap answer told.leads in
      (told.draft, run_finish run same, answered⇒held stage _ room r output taken (finished told.draft) same)
