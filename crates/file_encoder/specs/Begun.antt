-- A file that is begun in an output, and finished.
use Rattle.std.specs.Prelude.{ℕ, ◌+◌, ◌≡◌, true, cond, Option, Some, length}
use Rattle.std.specs.Bool.{then_some}
use mathlib.Core.List.{List, ◌++◌, flat_map}
use Rattle.output_list.specs.OutputList.{padded}
use Rattle.output_bytes.specs.OutputBytes.{stored}
use Rattle.layout.specs.Blocks.{data_bytes}
use Rattle.layout.specs.File.{blocks_start, unfinished_header, file_fits}
use Rattle.layout.proofs.KeyLaws.{Filled}

-- where a file is begun: its blocks begin there, or nowhere where the header doesn't fit
unfoldable pub blocks_begin : (room : ℕ) (metadata : List ℕ) → Option ℕ
blocks_begin room metadata = then_some (file_fits room (blocks_start metadata)) (blocks_start metadata)

-- the output then: the header as far as it is known, where it fits
unfoldable pub with_header : (output metadata : List ℕ) → List ℕ
with_header output metadata = cond (file_fits (length output) (blocks_start metadata)) (stored output 0 (unfinished_header metadata)) output

-- an unfinished file in an output of `room` bytes: the header as far as it is known, these data blocks, and zeros
unfoldable pub begun_file : (room : ℕ) (metadata : List ℕ) (blocks : List (List (List ℕ))) → List ℕ
begun_file room metadata blocks = padded room (unfinished_header metadata ++ flat_map data_bytes blocks)

-- the output holds it; the blocks, none of them empty, stand from `from` to `to`
pub record Begun (metadata : List ℕ) (blocks : List (List (List ℕ))) (output : List ℕ) (from to : ℕ) : Type 0 where
  pub stands : output ≡ begun_file (length output) metadata blocks
  pub begins : from ≡ blocks_start metadata
  pub ends : to ≡ blocks_start metadata + length (flat_map data_bytes blocks)
  pub fits : file_fits (length output) to ≡ true
  pub filled : Filled blocks

-- where the bytes from `from` on end, or nowhere where they don't fit
unfoldable pub end_if_fits : (room from : ℕ) → List ℕ → Option ℕ
end_if_fits room from bytes = then_some (file_fits room (from + length bytes)) (from + length bytes)

-- this file was put: `end` is its length, or nothing where it doesn't fit
pub record FilePut (room : ℕ) (file : List ℕ) (end : Option ℕ) (output : List ℕ) : Type 0 where
  pub ends : end ≡ end_if_fits room 0 file
  pub stands : (n : ℕ) → end ≡ Some n → output ≡ padded room file
