-- Laws of a step that is taken or refused, for the session and the output of a stage.
-- Assumes nothing.
use mathlib.Core.Path.{◌≡◌, refl, sym, ap, ◌∙◌, subst}
use mathlib.Core.Bool.{true, false}
use mathlib.Core.List.{List}
use Prim.Native.Nat.{ℕ, zero, suc, ◌≤◌}
use native.Mathlib.Omega.{arith}
use lib.Dec.{leb, eqb}
use lib.ListN.{length}
use borrow.Author.Tests.{le-leb, lt-leb}
use Rattle.std.specs.Prelude.{Option, Some, None, Result, Err}
use Rattle.std.specs.Option.{ok_or}
use Rattle.std.specs.Result.{IsErrAnd}
use Rattle.std.proofs.lemmas.Result.{err_from_is_err_and}
use Rattle.outcome.specs.Outcome.{Outcome, answer, refused, number_of, place_of}
use Rattle.outcome.specs.declared.Fault.{Fault}
use Rattle.outcome.specs.declared.Fault.TheVariants.{OutputRoom}
use Rattle.outcome.specs.Fault.{number}
use Rattle.outcome.proofs.OutcomeLaws.{kept, broken, bind_answer, bind_refused}
use Rattle.layout.specs.File.{file_fits}
use Rattle.file_encoder.specs.Begun.{begun_file}
use Rattle.session_value.specs.declared.Session.{Session}
use Rattle.session_value.specs.declared.Stepped.{Stepped}
use Rattle.session_value.specs.Stage.{Draft, Stage, begun, draft_blocks, data_end, output_of}
use Rattle.session_value.specs.Steps.{draft_of, close_open, close_of, after}
use Rattle.session_value.specs.Held.{SoundDraft, Sound, Held, session_of, stepped, stepped_answer, StepTaken, OneOf}
use Rattle.session_value.specs.Values.{is_begun, closed_session}
use Rattle.session_value.proofs.DraftLaws.{blocks_close, close_keeps}
use Rattle.session_value.proofs.SessionLaws.{is_begun_lem, not_begun, closed_session_lem}
use Rattle.lists.specs.Lists.{any}

pub more_than_0 : (m n : ℕ) → m ≡ n → (m ≡ 0 → ⊥) → 1 ≤ n
more_than_0 zero n e h = absurd (h refl)
more_than_0 (suc m) n e h = omega arith

pub one_of : (numbers : List ℕ) (n : ℕ) {session : Session} {r : Stepped} → any (λ m. eqb m n) numbers ≡ true
    → r ≡ record { number = n; place = 0; session = session } → OneOf numbers r.number
unfolding OneOf
one_of numbers n h e = rw e h

-- a step that is refused for want of room
pub no_room : {A : Type 0} (session : Session) (found : Option A) {fault : Fault} → found ≡ None → Err fault ≡ ok_or found OutputRoom
    → (step : Result Session Fault) → IsErrAnd step (λ f. f ≡ fault) → stepped session step ≡ record { number = 31; place = 0; session = session }
unfolding stepped number
no_room session found {fault} none e step h =
    let f = err_from_is_err_and step h in
    let same : fault ≡ OutputRoom = room found none e in
    rw (f.1, f.2, same)
  where
    room : {A : Type 0} (found : Option A) {fault : Fault} → found ≡ None → Err fault ≡ ok_or found OutputRoom → fault ≡ OutputRoom
    room None none e = cc
    room (Some x) none e = cc

module _ (stage : Stage) (session : Session) (output : List ℕ) (held : Held stage session output) where
  -- a refused step changes nothing
  pub step_refused : (o : Outcome Stage) (n : ℕ) {r : Stepped} → o ≡ refused n 0 → r ≡ record { number = n; place = 0; session = session }
      → StepTaken stage o (length output) r output
  unfolding stepped_answer after number_of place_of
  step_refused o n e f =
      rw (f, e)
      (record { answered = ap (λ (s : Session). record { number = n; place = 0; session = s }) held.session_is; long = refl; held = held })

  begun_now : is_begun (session_of stage) (length output) ≡ is_begun session (length output)
  begun_now = ap (λ (s : Session). is_begun s (length output)) (sym held.session_is)

  -- 28 for a session that isn't between begin and finish
  pub draft_none : is_begun session (length output) ≡ false → draft_of stage ≡ refused 28 0
  draft_none e = not_begun (length output) stage held.sound (begun_now ∙ e)

  pub draft_some : is_begun session (length output) ≡ true → (d : Draft) × (stage ≡ begun d)
  draft_some e = is_begun_lem (length output) stage (begun_now ∙ e)

-- a step that is answered
pub step_answered : (stage next : Stage) (o : Outcome Stage) (room : ℕ) {session : Session} {r : Stepped} {output : List ℕ}
    → o ≡ answer next → length output ≡ room → session ≡ session_of next → output ≡ output_of room next → Sound room next
    → r ≡ record { number = 0; place = 0; session = session } → StepTaken stage o room r output
unfolding stepped_answer after number_of place_of
step_answered stage next o room {session} {r} {output} e long s h sound f =
    rw (f, e)
    (record {
      answered = ap (λ (s : Session). record { number = 0; place = 0; session = s }) s;
      long = long;
      held = record {
        session_is = s;
        output_is = h ∙ ap (λ (n : ℕ). output_of n next) (sym long);
        sound = subst (λ (n : ℕ). Sound n next) (sym long) sound;
      };
    })

-- ---- a file that is being written

module _ (stage : Stage) (session : Session) (output : List ℕ) (held : Held stage session output) (d : Draft) (same : stage ≡ begun d) where
  pub drafted : draft_of stage ≡ answer d
  unfolding draft_of
  drafted = ap draft_of same

  pub session_now : session ≡ session_of (begun d)
  session_now = held.session_is ∙ ap session_of same

  pub output_now : output ≡ begun_file (length output) d.metadata (draft_blocks d)
  unfolding output_of
  output_now = held.output_is ∙ ap (output_of (length output)) same

  pub sound_now : SoundDraft d × (file_fits (length output) (data_end d) ≡ true)
  unfolding Sound
  sound_now = subst (Sound (length output)) same held.sound

-- ---- close

module _ (stage : Stage) (session : Session) (output : List ℕ) (held : Held stage session output) where
  pub close_early : {r : Stepped} → is_begun session (length output) ≡ false → r ≡ record { number = 28; place = 0; session = session }
      → StepTaken stage (close_of stage) (length output) r output
  unfolding close_of
  close_early e f = step_refused stage session output held _ 28 (bind_refused (draft_of stage) _ 28 0 (draft_none stage session output held e)) f

  module _ (is : is_begun session (length output) ≡ true) where
    found : (d : Draft) × (stage ≡ begun d)
    found = draft_some stage session output held is

    abbrev d : Draft
    d = found.0

    count_now : session.count ≡ length d.current
    unfolding session_of
    count_now = ap (λ (s : Session). s.count) (session_now stage session output held d found.1)

    pub close_empty : {r : Stepped} → session.count ≡ 0 → r ≡ record { number = 28; place = 0; session = session }
        → StepTaken stage (close_of stage) (length output) r output
    unfolding close_of
    close_empty z f =
        step_refused stage session output held _ 28
        (bind_answer (draft_of stage) _ d (drafted stage session output held d found.1)
        ∙ broken (leb 1 (length d.current)) 28 0 _ (lt-leb 1 (length d.current) (let n = count_now in omega arith))) f

    pub close_done : {closed : Session} {r : Stepped} → (session.count ≡ 0 → ⊥) → closed ≡ closed_session session
        → r ≡ record { number = 0; place = 0; session = closed } → StepTaken stage (close_of stage) (length output) r output
    unfolding close_of output_of Sound close_open
    close_done {closed} some e f =
        step_answered stage (begun (close_open d)) _ (length output)
        (bind_answer (draft_of stage) _ d (drafted stage session output held d found.1)
        ∙ kept (leb 1 (length d.current)) 28 0 _ (le-leb 1 (length d.current) one)) refl
        (e ∙ ap closed_session (session_now stage session output held d found.1) ∙ closed_session_lem d one)
        (output_now stage session output held d found.1 ∙ ap (begun_file (length output) d.metadata) (sym (blocks_close d one)))
        (close_keeps (length output) d (sound_now stage session output held d found.1) one) f
      where
        one : 1 ≤ length d.current
        one = more_than_0 session.count (length d.current) count_now some
