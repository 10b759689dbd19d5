-- A written file is read back: its header, its blocks, and what its hash is of.
-- Assumes nothing.
use mathlib.Core.Path.{◌≡◌, refl, sym, ap, ap₂, ◌∙◌, subst}
use mathlib.Core.Bool.{true, cond}
use mathlib.Core.List.{List, [], ◌∷◌, ◌++◌, flat_map, map, append-nil, Memᴰ}
use Prim.Native.Nat.{ℕ, ◌+◌, ◌-◌, ◌^◌, ◌≤◌}
use native.Mathlib.Omega.{arith}
use lib.ListN.{length, length-append}
use Rattle.lists.specs.Groups.{last_or}
use Rattle.lists.proofs.ListsLaws.{flat_map_append}
use Rattle.byte_string.specs.Order.{AreBytes}
use Rattle.byte_string.proofs.BytesLaws.{bytes_append}
use Rattle.uleb128.specs.Encoding.{encoding}
use Rattle.sha256.specs.Sha256.{sha256}
use Rattle.sha256.proofs.StateLaws.{sha256-length}
use Rattle.outcome.specs.Outcome.{answer}
use Rattle.part.specs.Part.{part}
use Rattle.header.specs.Header.{header_of}
use Rattle.header.specs.Metadata.{is_metadata}
use Rattle.payload.specs.Payload.{rising}
use Rattle.block.specs.Block.{Block, is_data, blocks_at}
use Rattle.block.proofs.BlockLaws.{not_data_level}
use Rattle.layout.specs.Blocks.{records_bytes, data_bytes}
use Rattle.layout.specs.Index.{IndexEntry, IndexBlock, index_bytes, entry_bytes, entry_for, root_of}
use Rattle.layout.specs.File.{header_data, header_bytes, blocks_start, data_part, index_blocks, blocks_part, root_entry, file_of}
use Rattle.layout.specs.Placed.{placed_frame, placed_data, placed_datas, placed_index, placed_blocks}
use Rattle.layout.proofs.LiesLaws.{Lies, lies_last, lies_front, lies_back, lies_part}
use Rattle.layout.proofs.ReadBackLaws.{body_lies}
use Rattle.layout.proofs.SideBySideLaws.{SideBySide, side_by_side_within, index_side_by_side}
use Rattle.layout.proofs.BlockBackLaws.{DataFit, IndexFit, blocks_back}
use Rattle.layout.proofs.HeaderBackLaws.{length_header, header_data_bytes, hash_back, metadata_back, header_back}
use Rattle.layout.proofs.KeyLaws.{Filled}
use Rattle.layout.proofs.LaidBytesLaws.{flat_map_bytes, sha256_bytes, header_bytes_lem, block_bytes_lem}
use Rattle.layout.proofs.FileFitLaws.{data_fit, index_fit}

-- what can be written: sound metadata, records that rise in blocks that are not empty, two or more entries in an index block, and not too much
pub record FileFits (metadata : List ℕ) (blocks : List (List (List ℕ))) (per_index : ℕ) : Type 0 where
  pub rule : is_metadata metadata ≡ true
  pub metadata_bytes : AreBytes metadata
  pub two : 2 ≤ per_index
  pub filled : Filled blocks
  pub sorted : rising (flat_map (λ rs. rs) blocks) ≡ true
  pub bytes : AreBytes (flat_map records_bytes blocks)
  pub short : length (file_of metadata blocks per_index) ≤ 2 ^ 30

-- ---- the root lies within

last_member : {A : Type 0} (x : A) (xs : List A) → Memᴰ (last_or x xs) (x ∷ xs)
unfolding last_or
last_member x [] = Memᴰ.head refl
last_member x (y ∷ ys) = Memᴰ.tail (last_member y ys)

pub root_within : (at : ℕ) (bs : List IndexBlock) → SideBySide at bs → (root_of bs).offset + (root_of bs).size ≤ at + length (flat_map index_bytes bs)
unfolding root_of entry_for
root_within at [] h = omega arith
root_within at (b ∷ bs) h = (side_by_side_within at (b ∷ bs) h (last_or b bs) (last_member b bs)).1

-- ---- the payloads

-- the payload of a data block, as the tree's rules join them
abbrev pub payload_of : List ℕ → Block → List ℕ
payload_of file b = cond (is_data b.frame.level) (part file (b.frame.body + 1) (b.frame.end - (b.frame.body + 1))) []

data_payload : (file : List ℕ) (at : ℕ) (rs : List (List ℕ)) → Lies file at (data_bytes rs) → payload_of file (placed_data at rs) ≡ records_bytes rs
unfolding data_bytes placed_data placed_frame is_data
data_payload file at rs l =
    let payload = records_bytes rs in
    let body = at + length (encoding (length payload + 1)) in
    let held = lies_front file body (0 ∷ payload) _ (body_lies file at 0 payload l) in
    ap (part file (body + 1)) (omega arith) ∙ lies_part file (body + 1) payload (lies_back file body (0 ∷ []) payload held)

pub data_payloads : (file : List ℕ) (at : ℕ) (blocks : List (List (List ℕ))) → Lies file at (flat_map data_bytes blocks)
    → flat_map (payload_of file) (placed_datas at blocks) ≡ flat_map records_bytes blocks
unfolding flat_map placed_datas
data_payloads file at [] l = refl
data_payloads file at (rs ∷ more) l =
    ap₂ (λ (x y : List ℕ). x ++ y) (data_payload file at rs (lies_front file at (data_bytes rs) (flat_map data_bytes more) l))
    (data_payloads file (at + length (data_bytes rs)) more (lies_back file at (data_bytes rs) (flat_map data_bytes more) l))

index_payloads : (file : List ℕ) (bs : List IndexBlock) → ((b : IndexBlock) → Memᴰ b bs → 1 ≤ b.level)
    → flat_map (payload_of file) (map placed_index bs) ≡ []
unfolding flat_map placed_index placed_frame
index_payloads file [] h = refl
index_payloads file (b ∷ bs) h =
    let low = h b (Memᴰ.head refl) in
    rw (not_data_level b.level (λ z. omega arith)) (index_payloads file bs (λ c m. h c (Memᴰ.tail m)))

-- ---- the file

module _ (metadata : List ℕ) (blocks : List (List (List ℕ))) (per_index : ℕ) where
  abbrev from : ℕ
  from = blocks_start metadata

  abbrev all : List ℕ
  all = blocks_part per_index from blocks

  abbrev root : IndexEntry
  root = root_entry per_index from blocks

  abbrev hash : List ℕ
  hash = sha256 (flat_map records_bytes blocks)

  abbrev header : List ℕ
  header = header_bytes (header_data metadata root.offset root.size (from + length all) hash)

  abbrev file : List ℕ
  file = file_of metadata blocks per_index

  file_parts : file ≡ header ++ all
  unfolding file_of
  file_parts = refl

  header_long : length header ≡ from
  header_long = length_header metadata root.offset root.size (from + length all) hash (sha256-length _)

  pub length_file : length (file_of metadata blocks per_index) ≡ blocks_start metadata + length (blocks_part per_index (blocks_start metadata) blocks)
  length_file = ap length file_parts ∙ length-append header all ∙ ap (λ (n : ℕ). n + length all) header_long

  -- the file begins with the header for its own length
  file_header : file ≡ header_bytes (header_data metadata root.offset root.size (length file) hash) ++ all
  file_header = file_parts ∙ ap (λ (n : ℕ). header_bytes (header_data metadata root.offset root.size n hash) ++ all) (sym length_file)

  pub blocks_lie : Lies (file_of metadata blocks per_index) (blocks_start metadata) (blocks_part per_index (blocks_start metadata) blocks)
  blocks_lie = lies_last file header all from file_parts (sym header_long)

  -- the root ends at the end of the file at the latest
  pub root_inside : (root_entry per_index (blocks_start metadata) blocks).offset + (root_entry per_index (blocks_start metadata) blocks).size
      ≤ length (file_of metadata blocks per_index)
  unfolding root_entry blocks_part index_blocks data_part
  root_inside =
      let index = index_blocks per_index from blocks in
      let front = flat_map data_bytes blocks in
      let inside = root_within (from + length front) index (index_side_by_side per_index (from + length front) _) in
      let sum = length-append front (flat_map index_bytes index) in
      let long = length_file in
      omega arith

  -- the hash in the header
  pub file_hash_back : part (file_of metadata blocks per_index) 40 32 ≡ sha256 (flat_map records_bytes blocks)
  file_hash_back = hash_back file metadata root.offset root.size hash all (sha256-length _) file_header

  -- the metadata
  pub file_metadata_back : part (file_of metadata blocks per_index) 96 (length metadata) ≡ metadata
  file_metadata_back = metadata_back file metadata root.offset root.size hash all (sha256-length _) file_header

  module _ (fits : FileFits metadata blocks per_index) where
    pub file_header_back : header_of (file_of metadata blocks per_index)
        ≡ answer
        (record {
          blocks = blocks_start metadata;
          root = (root_entry per_index (blocks_start metadata) blocks).offset;
          rootsize = (root_entry per_index (blocks_start metadata) blocks).size;
          metadata = length metadata;
        })
    file_header_back =
        let small = fits.short in
        let inside = root_inside in
        header_back file metadata root.offset root.size hash all (sha256-length _) file_header small (omega arith) (omega arith) (sha256_bytes _)
        fits.metadata_bytes fits.rule

    -- all blocks fit
    fits_short : from + length all ≤ 2 ^ 30
    fits_short = let small = fits.short in let long = length_file in omega arith

    pub file_data_fit : (rs : List (List ℕ)) → Memᴰ rs blocks → DataFit rs
    file_data_fit = data_fit per_index from blocks fits.two fits.filled fits.sorted fits.bytes fits_short

    pub file_index_fit : (b : IndexBlock) → Memᴰ b (index_blocks per_index (blocks_start metadata) blocks) → IndexFit b
    file_index_fit = index_fit per_index from blocks fits.two fits.filled fits.sorted fits.bytes fits_short

    pub file_blocks_back : blocks_at (file_of metadata blocks per_index) (blocks_start metadata) ≡ answer (placed_blocks per_index (blocks_start metadata) blocks)
    unfolding placed_blocks blocks_part data_part index_blocks
    file_blocks_back =
        blocks_back file from blocks (index_blocks per_index from blocks) file_data_fit file_index_fit
        (index_side_by_side per_index (from + length (flat_map data_bytes blocks)) _) blocks_lie (sym length_file)

    -- the payloads of the data blocks, joined, are the records, joined
    pub file_payloads_back : flat_map (payload_of (file_of metadata blocks per_index)) (placed_blocks per_index (blocks_start metadata) blocks)
        ≡ flat_map records_bytes blocks
    unfolding placed_blocks blocks_part data_part
    file_payloads_back =
        let index = index_blocks per_index from blocks in
        flat_map_append (payload_of file) (placed_datas from blocks) (map placed_index index)
        ∙ ap₂ (λ (x y : List ℕ). x ++ y)
        (data_payloads file from blocks (lies_front file from (flat_map data_bytes blocks) (flat_map index_bytes index) blocks_lie))
        (index_payloads file index (λ b m. (file_index_fit b m).low))
        ∙ append-nil (flat_map records_bytes blocks)

    -- the file is bytes
    pub file_bytes : AreBytes (file_of metadata blocks per_index)
    unfolding blocks_part data_part data_bytes index_bytes
    file_bytes =
        subst AreBytes (sym file_parts)
        (bytes_append header all
        (header_bytes_lem _ (header_data_bytes metadata root.offset root.size (from + length all) hash
        (sha256-length _) (sha256_bytes _) fits.metadata_bytes))
        (bytes_append (flat_map data_bytes blocks) _
        (flat_map_bytes data_bytes blocks
        (λ rs m. let fit = file_data_fit rs m in let small = fit.short in block_bytes_lem 0 (records_bytes rs) (omega arith) (omega arith) fit.bytes))
        (flat_map_bytes index_bytes (index_blocks per_index from blocks)
        (λ b m. let fit = file_index_fit b m in
        let small = fit.short in
        let high = fit.high in
        block_bytes_lem b.level (flat_map entry_bytes b.entries) (omega arith) (omega arith) fit.bytes))))
