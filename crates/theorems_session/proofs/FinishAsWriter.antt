-- Where no block was closed early, finish gives the number that the writer gives for the same records: 31 where it gives 31, otherwise 0.
-- Assumes nothing.
use mathlib.Core.Path.{◌≡◌, refl, sym, ap, ◌∙◌, subst}
use mathlib.Core.Bool.{Bool, true, false}
use mathlib.Core.List.{List}
use Prim.Native.Nat.{ℕ, ◌≤◌}
use native.Mathlib.Omega.{arith}
use lib.Dec.{leb}
use lib.ListN.{length}
use borrow.Author.Tests.{le-leb}
use Rattle.lists.specs.Groups.{groups}
use Rattle.outcome.specs.Outcome.{answer, number_of, ◌>>=◌, ◌>>◌, must}
use Rattle.outcome.proofs.OutcomeLaws.{kept, bind_answer}
use Rattle.byte_string.specs.Order.{AreBytes}
use Rattle.layout.specs.Blocks.{records_bytes}
use Rattle.layout.specs.File.{file_of, file_fits}
use Rattle.file_encoder.proofs.CountsLaws.{counts⁻¹}
use Rattle.file_encoder.proofs.FitLaws.{fits⁻¹}
use Rattle.writer.specs.Write.{records_to_write, write_of}
use Rattle.writer.proofs.InputRuleLaws.{to_input}
use Rattle.theorems_check.proofs.SortedLaws.{rising⇒Sorted}
use Rattle.theorems_write.specs.WrittenByRules.{InputOf}
use Rattle.theorems_write.proofs.InputTheorems.{input_read}
use Rattle.session_value.specs.Stage.{Draft, begun, draft_blocks, draft_records, data_end, draft_file}
use Rattle.session_value.specs.Steps.{draft_of, finish_of}
use Rattle.session_value.specs.Held.{SoundDraft, Sound}
use Rattle.session_value.proofs.DraftLaws.{blocks_joined, blocks_payloads, blocks_filled, blocks_no_fuller, records_within}
use Rattle.theorems_session.specs.SessionByRules.{NoneEarly}
use Rattle.theorems_session.specs.Run.{Run}
use Rattle.theorems_session.specs.EarlyRun.{NeverEarly}
use Rattle.theorems_session.specs.FinishNumber.{EndsAsWriter}
use Rattle.theorems_session.proofs.NoneEarlyLaws.{early_groups}
use Rattle.theorems_session.proofs.RunTheorems.{stage_records, run_sound, run_records}
use Rattle.theorems_session.proofs.NeverEarlyTheorem.{StageNoneEarly, run_none_early}

-- a last test has its number or 0, whatever the answer is
last_number : {A B : Type 0} (b : Bool) (n : ℕ) (x : A) (y : B) → number_of (must b n 0 >> answer x) ≡ number_of (must b n 0 >> answer y)
unfolding number_of must ◌>>◌
last_number true n x y = refl
last_number false n x y = refl

module _ (room : ℕ) (d : Draft) (sound : Sound room (begun d)) (some : 1 ≤ length (draft_records d)) where
  kept_to : SoundDraft d × (file_fits room (data_end d) ≡ true)
  unfolding Sound
  kept_to = sound

  abbrev s : SoundDraft d
  s = kept_to.0

  abbrev input : List ℕ
  input = records_bytes (draft_records d)

  -- the records are an input that the writer takes
  records_form : InputOf input (draft_records d)
  records_form =
      record {
        bytes = refl;
        some = λ none. let long = ap length none in omega arith;
        short = λ r m. let inside = records_within d r m in let end = (fits⁻¹ room (data_end d) kept_to.1).1 in omega arith;
      }

  read : records_to_write d.metadata input d.per_block d.per_index ≡ answer (draft_records d)
  read =
      to_input d.metadata input d.per_block d.per_index s.counts s.rule
      ∙ (input_read input (subst AreBytes (blocks_payloads d) s.bytes) (draft_records d)).1 (records_form, rising⇒Sorted (draft_records d) s.rises)

  module _ (full : NoneEarly d.per_block (draft_blocks d)) where
    same_file : file_of d.metadata (groups d.per_block (draft_records d)) d.per_index ≡ draft_file d
    unfolding draft_file
    same_file =
        ap (λ (bs : List (List (List ℕ))). file_of d.metadata bs d.per_index)
        (ap (groups d.per_block) (sym (blocks_joined d))
        ∙ early_groups d.per_block (counts⁻¹ d.per_block d.per_index s.counts).0 (draft_blocks d) (blocks_filled d s) (blocks_no_fuller d s) full)

    writer_goes : write_of d.metadata input d.per_block d.per_index room ≡ (must (file_fits room (length (draft_file d))) 31 0 >> answer (draft_file d))
    unfolding write_of
    writer_goes =
        bind_answer (records_to_write d.metadata input d.per_block d.per_index) _ (draft_records d) read
        ∙ ap (λ (file : List ℕ). must (file_fits room (length file)) 31 0 >> answer file) same_file

    pub finish_as_writer : EndsAsWriter room d (draft_records d)
    unfolding EndsAsWriter finish_of draft_of ◌>>=◌
    finish_as_writer =
        ap number_of (kept (leb 1 (length (draft_records d))) 28 0 _ (le-leb 1 (length (draft_records d)) some))
        ∙ last_number (file_fits room (length (draft_file d))) 31 _ (draft_file d)
        ∙ ap number_of (sym writer_goes)

-- of a run
pub run_as_writer : {room : ℕ} {d : Draft} {added : List (List ℕ)} (run : Run room (begun d) added) → NeverEarly run → 1 ≤ length added
    → EndsAsWriter room d added
unfolding stage_records StageNoneEarly
run_as_writer {room} {d} {added} run never some =
    subst (EndsAsWriter room d) (run_records run)
    (finish_as_writer room d (run_sound run) (subst (λ (rs : List (List ℕ)). 1 ≤ length rs) (sym (run_records run)) some) (run_none_early run never))
