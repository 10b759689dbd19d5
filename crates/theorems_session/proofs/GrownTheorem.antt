-- Session and output stay those of their stage where zeros are appended to the output.
-- Assumes nothing.
use mathlib.Core.Path.{◌≡◌, sym, ap, ◌∙◌}
use mathlib.Core.Bool.{true}
use mathlib.Core.List.{List, ◌++◌, append_assoc}
use Prim.Native.Nat.{ℕ, ◌+◌, ◌-◌, ◌≤◌}
use native.Mathlib.Omega.{arith}
use lib.ListN.{length, length-append, replicate-append-replicate}
use Rattle.output_list.specs.OutputList.{padded, zeros}
use Rattle.output_list.proofs.OutputListLaws.{zeros-replicate, length-zeros, padded-append}
use Rattle.layout.specs.File.{file_fits}
use Rattle.file_encoder.specs.Begun.{begun_file}
use Rattle.file_encoder.proofs.FitLaws.{fits, fits⁻¹}
use Rattle.session_value.specs.declared.Session.{Session}
use Rattle.session_value.specs.Stage.{Stage, afresh, begun, finished, data_end, draft_file, output_of}
use Rattle.session_value.specs.Held.{Sound, Held}
use Rattle.session_value.proofs.DraftFileLaws.{begun-length}

-- ---- zeros

zeros_grown : (room more : ℕ) → zeros room ++ zeros more ≡ zeros (room + more)
zeros_grown room more = rw (zeros-replicate room, zeros-replicate more, zeros-replicate (room + more)) (replicate-append-replicate room more 0)

padded_grown : (room more : ℕ) (l : List ℕ) → length l ≤ room → padded room l ++ zeros more ≡ padded (room + more) l
padded_grown room more l h =
    ap (λ (s : List ℕ). s ++ zeros more) (padded-append room l)
    ∙ append_assoc l (zeros (room - length l)) (zeros more)
    ∙ ap (λ (s : List ℕ). l ++ s) (zeros_grown (room - length l) more ∙ ap zeros (omega arith))
    ∙ sym (padded-append (room + more) l)

-- ---- a longer output

fits_wider : (room wide long : ℕ) → file_fits room long ≡ true → room ≤ wide → file_fits wide long ≡ true
fits_wider room wide long e h = let k = fits⁻¹ room long e in let within = k.0 in fits wide long (omega arith) k.1

pub sound_wider : (room wide : ℕ) (stage : Stage) → Sound room stage → room ≤ wide → Sound wide stage
unfolding Sound
sound_wider room wide afresh s h = tt
sound_wider room wide (begun d) s h = (s.0, fits_wider room wide (data_end d) s.1 h)
sound_wider room wide (finished d) s h = (s.0, s.1, fits_wider room wide (length (draft_file d)) s.2 h)

output_grown : (room more : ℕ) (stage : Stage) → Sound room stage → output_of room stage ++ zeros more ≡ output_of (room + more) stage
unfolding Sound output_of begun_file
output_grown room more afresh s = zeros_grown room more
output_grown room more (begun d) s =
    padded_grown room more _ (let long = begun-length d in let fit = (fits⁻¹ room (data_end d) s.1).0 in omega arith)
output_grown room more (finished d) s = padded_grown room more (draft_file d) (fits⁻¹ room (length (draft_file d)) s.2).0

pub held_grown : (stage : Stage) (session : Session) (output : List ℕ) → Held stage session output → (more : ℕ)
    → Held stage session (output ++ zeros more)
held_grown stage session output held more =
    record {
      session_is = held.session_is;
      output_is = ap (λ (o : List ℕ). o ++ zeros more) held.output_is ∙ output_grown (length output) more stage held.sound
          ∙ ap (λ (n : ℕ). output_of n stage) (sym long);
      sound = sound_wider (length output) _ stage held.sound (let l = long in omega arith);
    }
  where
    long : length (output ++ zeros more) ≡ length output + more
    long = length-append output (zeros more) ∙ ap (λ (n : ℕ). length output + n) (length-zeros more)
