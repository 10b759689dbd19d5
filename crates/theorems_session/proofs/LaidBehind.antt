-- What is counted from an output that holds a file at its front, finished or not: the magic, H, and the blocks up to the zeros behind them.
-- Assumes nothing.
use mathlib.Core.Path.{◌≡◌, refl, sym, ap, ◌∙◌}
use mathlib.Core.Bool.{Bool, true, false, ◌||◌}
use mathlib.Core.List.{List, [], ◌++◌, flat_map, Memᴰ}
use Prim.Native.Nat.{ℕ, zero, suc, ◌+◌, ◌^◌, ◌≤◌}
use native.Mathlib.Omega.{arith}
use lib.ListN.{length, replicate, length-append}
use Rattle.output_list.specs.OutputList.{padded, zeros}
use Rattle.output_list.proofs.OutputListLaws.{zeros-replicate, get_or-padded-after}
use Rattle.byte_string.specs.Order.{begins}
use Rattle.header.specs.Header.{magic, unfinished_magic, H}
use Rattle.block.specs.Block.{Block}
use Rattle.block.specs.Laid.{laid_from}
use Rattle.layout.specs.Blocks.{data_bytes}
use Rattle.layout.specs.File.{blocks_start, unfinished_header, data_part, index_blocks, blocks_part, file_of}
use Rattle.layout.specs.Placed.{placed_datas, placed_blocks}
use Rattle.layout.proofs.LiesLaws.{Lies, lies, lies_front}
use Rattle.layout.proofs.SideBySideLaws.{index_side_by_side}
use Rattle.layout.proofs.BlockBackLaws.{DataFit}
use Rattle.layout.proofs.HeaderBackLaws.{length_unfinished}
use Rattle.layout.proofs.FileBackLaws.{FileFits, length_file, file_data_fit, file_index_fit}
use Rattle.layout.proofs.LaidBackLaws.{NoneFrom, none_at_zero, data_laid_then, blocks_laid_then}
use Rattle.layout.proofs.OpeningLaws.{unfinished_begins, unfinished_H, unfinished_blocks_lie, file_begins, file_H, file_blocks_lie}
use Rattle.file_encoder.specs.Begun.{begun_file}
use Rattle.theorems_session.specs.Figures.{figures_of, has_magic, counted_figures}

-- ---- padded bytes

padded_lies : (room : ℕ) (l : List ℕ) → Lies (padded room l) 0 l
unfolding padded
padded_lies room l = lies (padded room l) [] l _ 0 refl refl

-- no block is read behind them
padded_none : (room : ℕ) (l : List ℕ) (to : ℕ) → to ≡ length l → NoneFrom (padded room l) to
padded_none room l to h = none_at_zero (padded room l) to (get_or-padded-after room l to (omega arith))

-- ---- zeros

zeros_none : (n : ℕ) → has_magic (replicate n 0) ≡ false
unfolding has_magic magic unfinished_magic begins
zeros_none zero = refl
zeros_none (suc n) = refl

pub zeros_figures : (room : ℕ) → counted_figures (zeros room) ≡ record { records = 0; last = 0; next = 0 }
unfolding counted_figures
zeros_figures room = rw (zeros-replicate room, zeros_none room)

-- ---- what is counted where there is a magic

counted : (output metadata : List ℕ) (bs : List Block) → has_magic output ≡ true → H output ≡ 80 + length metadata
    → laid_from output (blocks_start metadata) ≡ bs → counted_figures output ≡ figures_of (blocks_start metadata) bs
unfolding counted_figures blocks_start
counted output metadata bs m h l =
    let start : 24 + H output ≡ 104 + length metadata = omega arith in
    rw (m, start, l)

magic_or : (a b : Bool) → b ≡ true → (a || b) ≡ true
magic_or true b h = refl
magic_or false b h = h

-- ---- an unfinished file

module _ (metadata : List ℕ) (blocks : List (List (List ℕ))) (datas : (rs : List (List ℕ)) → Memᴰ rs blocks → DataFit rs) where
  abbrev written : List ℕ
  written = unfinished_header metadata ++ flat_map data_bytes blocks

  ends : blocks_start metadata + length (flat_map data_bytes blocks) ≡ length written
  ends =
      ap (λ (n : ℕ). n + length (flat_map data_bytes blocks)) (sym (length_unfinished metadata))
      ∙ sym (length-append (unfinished_header metadata) (flat_map data_bytes blocks))

  -- its blocks are read up to the zeros
  begun_laid : (room : ℕ) → laid_from (begun_file room metadata blocks) (blocks_start metadata) ≡ placed_datas (blocks_start metadata) blocks
  unfolding begun_file
  begun_laid room =
      data_laid_then (padded room written) (blocks_start metadata) blocks datas
      (unfinished_blocks_lie (padded room written) metadata blocks (padded_lies room written)) (padded_none room written _ ends)

  pub begun-counted : (room : ℕ) → length metadata ≤ 2 ^ 30
      → counted_figures (begun_file room metadata blocks) ≡ figures_of (blocks_start metadata) (placed_datas (blocks_start metadata) blocks)
  unfolding begun_file has_magic
  begun-counted room small =
      let header = lies_front (padded room written) 0 (unfinished_header metadata) (flat_map data_bytes blocks) (padded_lies room written) in
      counted (padded room written) metadata _ (magic_or (begins magic (padded room written)) _ (unfinished_begins (padded room written) metadata header))
      (unfinished_H (padded room written) metadata header small) (begun_laid room)

-- ---- a finished file

module _ (metadata : List ℕ) (blocks : List (List (List ℕ))) (per_index : ℕ) (fits : FileFits metadata blocks per_index) (room : ℕ) where
  abbrev file : List ℕ
  file = file_of metadata blocks per_index

  abbrev from : ℕ
  from = blocks_start metadata

  -- its blocks are read up to the zeros
  finished_laid : laid_from (padded room (file_of metadata blocks per_index)) (blocks_start metadata) ≡ placed_blocks per_index (blocks_start metadata) blocks
  unfolding placed_blocks blocks_part data_part index_blocks
  finished_laid =
      blocks_laid_then (padded room file) from blocks (index_blocks per_index from blocks) (file_data_fit metadata blocks per_index fits)
      (file_index_fit metadata blocks per_index fits) (index_side_by_side per_index (from + length (flat_map data_bytes blocks)) _)
      (file_blocks_lie (padded room file) metadata blocks per_index (padded_lies room file))
      (padded_none room file _ (sym (length_file metadata blocks per_index)))

  pub finished-counted : counted_figures (padded room (file_of metadata blocks per_index))
      ≡ figures_of (blocks_start metadata) (placed_blocks per_index (blocks_start metadata) blocks)
  unfolding has_magic
  finished-counted =
      let l = padded_lies room file in
      counted (padded room file) metadata _ (rw (file_begins (padded room file) metadata blocks per_index l))
      (file_H (padded room file) metadata blocks per_index l fits.short) finished_laid
