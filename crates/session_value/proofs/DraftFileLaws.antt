-- What a session has written can be read back: its data blocks, their payloads as they lie, and the finished file.
-- Assumes nothing.
use mathlib.Core.Path.{◌≡◌, sym, ap, ◌∙◌}
use mathlib.Core.Bool.{true}
use mathlib.Core.List.{List, ◌++◌, flat_map, Memᴰ}
use Prim.Native.Nat.{ℕ, ◌+◌, ◌^◌, ◌≤◌}
use lib.ListN.{length, take, length-append}
use Rattle.output_list.proofs.OutputListLaws.{take-padded}
use Rattle.payload.specs.Payload.{rising}
use Rattle.block.specs.Laid.{laid_from}
use Rattle.layout.specs.Blocks.{records_bytes, data_bytes}
use Rattle.layout.specs.File.{blocks_start, unfinished_header}
use Rattle.layout.proofs.FileBackLaws.{FileFits, payload_of}
use Rattle.layout.proofs.FileFitLaws.{datas_fit}
use Rattle.layout.proofs.BlockBackLaws.{DataFit}
use Rattle.layout.proofs.HeaderBackLaws.{length_unfinished}
use Rattle.layout.proofs.LaidBackLaws.{unfinished_payloads_laid}
use Rattle.file_encoder.specs.Begun.{begun_file}
use Rattle.file_encoder.proofs.CountsLaws.{counts⁻¹}
use Rattle.session_value.specs.Stage.{Draft, begun, draft_blocks, data_end, draft_file, output_of}
use Rattle.session_value.specs.Held.{SoundDraft}
use Rattle.session_value.proofs.DraftLaws.{blocks_joined, blocks_filled}

-- header and blocks of a file that is begun are as long as the data blocks' end
pub begun-length : (d : Draft) → length (unfinished_header d.metadata ++ flat_map data_bytes (draft_blocks d)) ≡ data_end d
unfolding data_end
begun-length d =
    length-append (unfinished_header d.metadata) (flat_map data_bytes (draft_blocks d))
    ∙ ap (λ (n : ℕ). n + length (flat_map data_bytes (draft_blocks d))) (length_unfinished d.metadata)

-- which stand at the output's front
pub begun_front : (d : Draft) (output : List ℕ) → output ≡ output_of (length output) (begun d)
    → take (data_end d) output ≡ unfinished_header d.metadata ++ flat_map data_bytes (draft_blocks d)
unfolding output_of begun_file
begun_front d output is =
    ap (take (data_end d)) is
    ∙ ap (λ (n : ℕ). take n (begun_file (length output) d.metadata (draft_blocks d))) (sym (begun-length d))
    ∙ take-padded (length output) (unfinished_header d.metadata ++ flat_map data_bytes (draft_blocks d))

module _ (d : Draft) (sound : SoundDraft d) where
  blocks_rise : rising (flat_map (λ rs. rs) (draft_blocks d)) ≡ true
  blocks_rise = ap rising (blocks_joined d) ∙ sound.rises

  pub draft_datas_fit : data_end d ≤ 2 ^ 30 → (rs : List (List ℕ)) → Memᴰ rs (draft_blocks d) → DataFit rs
  unfolding data_end
  draft_datas_fit short = datas_fit (blocks_start d.metadata) (draft_blocks d) (blocks_filled d sound) blocks_rise sound.bytes short

  pub draft_file_fits : length (draft_file d) ≤ 2 ^ 30 → FileFits d.metadata (draft_blocks d) d.per_index
  unfolding draft_file
  draft_file_fits short =
      record {
        rule = sound.rule;
        metadata_bytes = sound.metadata_bytes;
        two = (counts⁻¹ d.per_block d.per_index sound.counts).1;
        filled = blocks_filled d sound;
        sorted = blocks_rise;
        bytes = sound.bytes;
        short = short;
      }

  -- the payloads of the blocks, as they lie in what is written of a file that is begun
  pub begun-payloads : (output : List ℕ) → data_end d ≤ 2 ^ 30 → output ≡ output_of (length output) (begun d)
      → flat_map (payload_of (take (data_end d) output)) (laid_from (take (data_end d) output) (blocks_start d.metadata)) ≡ flat_map records_bytes (draft_blocks d)
  begun-payloads output short is =
      ap (λ (s : List ℕ). flat_map (payload_of s) (laid_from s (blocks_start d.metadata))) (begun_front d output is)
      ∙ unfinished_payloads_laid d.metadata (draft_blocks d) (draft_datas_fit short)
