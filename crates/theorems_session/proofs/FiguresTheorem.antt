-- The figures stored in a session are those counted from the bytes of its output.
-- Assumes nothing.
use mathlib.Core.Path.{◌≡◌, refl, sym, ap, ◌∙◌}
use mathlib.Core.Bool.{cond}
use mathlib.Core.List.{List, [], flat_map}
use Prim.Native.Nat.{ℕ, ◌+◌, ◌-◌, ◌^◌, ◌≤◌}
use native.Mathlib.Omega.{arith}
use lib.Dec.{eqb}
use lib.ListN.{length}
use Rattle.lists.specs.Groups.{last_or}
use Rattle.layout.specs.Blocks.{data_bytes}
use Rattle.layout.specs.File.{blocks_start}
use Rattle.layout.proofs.KeyLaws.{Filled}
use Rattle.layout.proofs.FileBackLaws.{length_file}
use Rattle.file_encoder.proofs.FitLaws.{fits⁻¹}
use Rattle.session_value.specs.declared.Session.{Session}
use Rattle.session_value.specs.Stage.{Draft, Stage, afresh, begun, finished, draft_blocks, draft_records, data_end, draft_file, output_of}
use Rattle.session_value.specs.Held.{last_offset, session_of, SoundDraft, Sound, Held}
use Rattle.session_value.proofs.DraftLaws.{blocks_joined, blocks_filled}
use Rattle.session_value.proofs.DraftFileLaws.{draft_datas_fit, draft_file_fits}
use Rattle.theorems_layout.specs.WrittenTree.{joined}
use Rattle.theorems_session.specs.Figures.{stored_figures, counted_figures}
use Rattle.theorems_session.proofs.FiguresLaws.{figures_same, last_place, datas_figures, blocks_figures}
use Rattle.theorems_session.proofs.LaidBehind.{zeros_figures, begun-counted, finished-counted}

module _ (d : Draft) (sound : SoundDraft d) where
  abbrev filled : Filled (draft_blocks d)
  filled = blocks_filled d sound

  records_are : length (draft_records d) ≡ length (joined (draft_blocks d))
  unfolding joined
  records_are = ap length (sym (blocks_joined d))

  last_is : last_offset d ≡ last_place (blocks_start d.metadata) (draft_blocks d) filled
  unfolding last_offset data_end joined
  last_is =
      ap (λ (rs : List (List ℕ)). cond (eqb (length rs) 0) 0
      (blocks_start d.metadata + length (flat_map data_bytes (draft_blocks d)) - 8 - length (last_or [] rs))) (sym (blocks_joined d))

  begun_figures : (room : ℕ) → data_end d ≤ 2 ^ 30 → stored_figures (session_of (begun d)) ≡ counted_figures (output_of room (begun d))
  unfolding stored_figures session_of output_of data_end blocks_start
  begun_figures room short =
      figures_same _ _ _ _ _ _ records_are last_is refl
      ∙ sym (datas_figures (blocks_start d.metadata) (draft_blocks d) filled)
      ∙ sym (begun-counted d.metadata (draft_blocks d) (draft_datas_fit d sound short) room (omega arith))

  finished_figures : (room : ℕ) → length (draft_file d) ≤ 2 ^ 30 → stored_figures (session_of (finished d)) ≡ counted_figures (output_of room (finished d))
  unfolding stored_figures session_of output_of draft_file
  finished_figures room short =
      figures_same _ _ _ _ _ _ records_are last_is (length_file d.metadata (draft_blocks d) d.per_index)
      ∙ sym (blocks_figures (blocks_start d.metadata) (draft_blocks d) filled d.per_index)
      ∙ sym (finished-counted d.metadata (draft_blocks d) d.per_index (draft_file_fits d sound short) room)

stage_figures : (room : ℕ) (stage : Stage) → Sound room stage → stored_figures (session_of stage) ≡ counted_figures (output_of room stage)
unfolding Sound stored_figures session_of output_of
stage_figures room afresh sound = sym (zeros_figures room)
stage_figures room (begun d) sound = begun_figures d sound.0 room (fits⁻¹ room (data_end d) sound.1).1
stage_figures room (finished d) sound = finished_figures d sound.0 room (fits⁻¹ room (length (draft_file d)) sound.2).1

pub held⇒figures : (stage : Stage) (session : Session) (output : List ℕ) → Held stage session output → stored_figures session ≡ counted_figures output
held⇒figures stage session output held =
    ap stored_figures held.session_is ∙ stage_figures (length output) stage held.sound ∙ ap counted_figures (sym held.output_is)
