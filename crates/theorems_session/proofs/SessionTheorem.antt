-- Session and output, as the steps hand them back, are as claimed.
-- Assumes nothing.
use mathlib.Core.Path.{◌≡◌, sym, ap, ◌∙◌, subst}
use mathlib.Core.List.{List}
use Prim.Native.Nat.{ℕ}
use lib.ListN.{length, take}
use Rattle.output_list.proofs.OutputListLaws.{take-padded, length-zeros}
use Rattle.output_list.specs.OutputList.{zeros}
use Rattle.session_value.specs.declared.Session.{Session}
use Rattle.session_value.specs.Stage.{Draft, Stage, afresh, finished, draft_file, output_of}
use Rattle.session_value.specs.Held.{Sound, Held, session_of}
use Rattle.theorems_session.specs.SessionByRules.{FinishedByRules, SessionByRules}
use Rattle.theorems_session.proofs.FiguresTheorem.{held⇒figures}
use Rattle.theorems_session.proofs.GrownTheorem.{held_grown}
use Rattle.theorems_session.proofs.RunTheorems.{sound_finished}

-- the file that stands once a session is finished
file_stands : (d : Draft) (session : Session) (output : List ℕ) → Held (finished d) session output → take session.next output ≡ draft_file d
unfolding session_of output_of
file_stands d session output held =
    ap (λ (s : Session). take s.next output) held.session_is
    ∙ ap (take (length (draft_file d))) held.output_is
    ∙ take-padded (length output) (draft_file d)

pub held⇒finished : (d : Draft) (session : Session) (output : List ℕ) → Held (finished d) session output → FinishedByRules d (take session.next output)
held⇒finished d session output held =
    subst (FinishedByRules d) (sym (file_stands d session output held)) (sound_finished (length output) d held.sound)

pub held⇒rules : (stage : Stage) (session : Session) (output : List ℕ) → Held stage session output → SessionByRules stage session output
held⇒rules stage session output held =
    record {
      figures = held⇒figures stage session output held;
      grows = held_grown stage session output held;
      finished_file = λ d e. held⇒finished d session output (subst (λ (s : Stage). Held s session output) e held);
    }

-- right after starting afresh
pub afresh_held : (room : ℕ) {session : Session} {output : List ℕ} → session ≡ session_of afresh → output ≡ zeros room → Held afresh session output
unfolding output_of Sound
afresh_held room e f = record { session_is = e; output_is = f ∙ ap zeros (sym (ap length f ∙ length-zeros room)); sound = tt }
