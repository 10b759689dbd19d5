-- How bytes begin that hold a file at their front, finished or not: the magic, H, and where the blocks lie.
-- Assumes nothing.
use mathlib.Core.Path.{◌≡◌, refl, ap, ◌∙◌, subst}
use mathlib.Core.Bool.{true}
use mathlib.Core.List.{List, ◌++◌, flat_map}
use Prim.Native.Nat.{ℕ, ◌+◌, ◌^◌, ◌≤◌, ◌<◌}
use native.Mathlib.Omega.{arith}
use lib.ListN.{length, replicate}
use Rattle.byte_string.specs.Order.{begins}
use Rattle.byte_string.proofs.PrefixLaws.{begins-append}
use Rattle.endian.specs.FixedWidth.{little_bytes}
use Rattle.sha256.specs.Sha256.{sha256}
use Rattle.sha256.proofs.StateLaws.{sha256-length}
use Rattle.header.specs.Header.{magic, unfinished_magic, H}
use Rattle.layout.specs.Blocks.{records_bytes, data_bytes}
use Rattle.layout.specs.Index.{IndexEntry}
use Rattle.layout.specs.File.{header_data, header_bytes, unfinished_header, blocks_start, blocks_part, root_entry, file_of}
use Rattle.layout.proofs.LiesLaws.{Lies, lies_drop, lies_front, lies_in}
use Rattle.layout.proofs.HeaderBackLaws.{lies_next, field_back, length-header_data, length_unfinished}
use Rattle.layout.proofs.FileBackLaws.{length_file, blocks_lie}

-- what lies at the front
pub lies_begins : (s p : List ℕ) → Lies s 0 p → begins p s ≡ true
lies_begins s p l = ap (begins p) (lies_drop s 0 p l) ∙ begins-append p l.after

-- H follows the magic
H-after : (s m held rest : List ℕ) → length m ≡ 8 → length held < 2 ^ 64 → Lies s 0 (m ++ (little_bytes 8 (length held) ++ rest)) → H s ≡ length held
unfolding H
H-after s m held rest eight small l =
    field_back s 8 (length held) small (lies_front s 8 (little_bytes 8 (length held)) rest (lies_next s 0 m _ 8 eight l))

-- ---- an unfinished file

module _ (s metadata : List ℕ) (l : Lies s 0 (unfinished_header metadata)) where
  pub unfinished_begins : begins unfinished_magic s ≡ true
  unfolding unfinished_header
  unfinished_begins = lies_begins s unfinished_magic (lies_front s 0 unfinished_magic _ l)

  pub unfinished_H : length metadata ≤ 2 ^ 30 → H s ≡ 80 + length metadata
  unfolding unfinished_header unfinished_magic
  unfinished_H small =
      let long = length-header_data metadata 0 0 0 (replicate 32 0) refl in
      H-after s unfinished_magic (header_data metadata 0 0 0 (replicate 32 0)) _ refl (omega arith) l ∙ long

pub unfinished_blocks_lie : (s metadata : List ℕ) (blocks : List (List (List ℕ))) → Lies s 0 (unfinished_header metadata ++ flat_map data_bytes blocks)
    → Lies s (blocks_start metadata) (flat_map data_bytes blocks)
unfinished_blocks_lie s metadata blocks l =
    subst (λ (n : ℕ). Lies s n (flat_map data_bytes blocks)) (omega arith)
    (lies_next s 0 (unfinished_header metadata) (flat_map data_bytes blocks) (blocks_start metadata) (length_unfinished metadata) l)

-- ---- a finished file

module _ (s metadata : List ℕ) (blocks : List (List (List ℕ))) (per_index : ℕ) (l : Lies s 0 (file_of metadata blocks per_index)) where
  abbrev from : ℕ
  from = blocks_start metadata

  abbrev root : IndexEntry
  root = root_entry per_index from blocks

  abbrev held : List ℕ
  held = header_data metadata root.offset root.size (from + length (blocks_part per_index from blocks)) (sha256 (flat_map records_bytes blocks))

  header_lies : Lies s 0 (header_bytes held)
  unfolding file_of
  header_lies = lies_front s 0 (header_bytes held) _ l

  pub file_begins : begins magic s ≡ true
  unfolding header_bytes
  file_begins = lies_begins s magic (lies_front s 0 magic _ header_lies)

  pub file_H : length (file_of metadata blocks per_index) ≤ 2 ^ 30 → H s ≡ 80 + length metadata
  unfolding header_bytes magic blocks_start
  file_H small =
      let long = length-header_data metadata root.offset root.size (from + length (blocks_part per_index from blocks)) _ (sha256-length _) in
      let all = length_file metadata blocks per_index in
      H-after s magic held _ refl (omega arith) header_lies ∙ long

  pub file_blocks_lie : Lies s (blocks_start metadata) (blocks_part per_index (blocks_start metadata) blocks)
  file_blocks_lie =
      subst (λ (n : ℕ). Lies s n (blocks_part per_index from blocks)) (omega arith)
      (lies_in s 0 (file_of metadata blocks per_index) from (blocks_part per_index from blocks) l (blocks_lie metadata blocks per_index))
