-- A file that the writer makes: the header, the data blocks, the index blocks, and nothing between them.
use Rattle.std.specs.Prelude.{ℕ, ◌+◌, ◌^◌, Bool, ◌&&◌, cond, leb, eqb, length, take, replicate}
use mathlib.Core.List.{List, [], ◌∷◌, ◌++◌, flat_map}
use Rattle.std.proofs.Math.Option.{Option, none, some}
use Rattle.lists.specs.Groups.{first_or, last_or}
use Rattle.byte_string.specs.Order.{agreeing}
use Rattle.endian.specs.FixedWidth.{little_bytes}
use Rattle.crc64.specs.Crc64.{crc64}
use Rattle.sha256.specs.Sha256.{sha256}
use Rattle.header.specs.Header.{magic, unfinished_magic, codec_none}
use Rattle.layout.specs.Blocks.{records_bytes, data_bytes}
use Rattle.layout.specs.Index.{IndexEntry, IndexBlock, index_bytes, index_over, root_of}

-- ---- the header

-- the header data: root offset, root length, total length, hash, codec, metadata length, metadata
unfoldable pub header_data : (metadata : List ℕ) (root rootsize total : ℕ) (hash : List ℕ) → List ℕ
header_data metadata root rootsize total hash =
    little_bytes 8 root ++ (little_bytes 8 rootsize ++ (little_bytes 8 total ++ (hash ++ (codec_none ++ (little_bytes 8 (length metadata) ++ metadata)))))

-- the magic, the length of the header data, the header data and their CRC
unfoldable pub header_bytes : List ℕ → List ℕ
header_bytes headerdata = magic ++ (little_bytes 8 (length headerdata) ++ (headerdata ++ little_bytes 8 (crc64 headerdata)))

-- the header of a file that isn't finished: the unfinished magic, and zeros for the root, the total length, the hash and the CRC
unfoldable pub unfinished_header : (metadata : List ℕ) → List ℕ
unfinished_header metadata =
    let headerdata = header_data metadata 0 0 0 (replicate 32 0) in
    unfinished_magic ++ (little_bytes 8 (length headerdata) ++ (headerdata ++ replicate 8 0))

-- where the blocks begin: 24 + H, where H is 80 and the length of the metadata
unfoldable pub blocks_start : (metadata : List ℕ) → ℕ
blocks_start metadata = 104 + length metadata

-- ---- the blocks

-- how many bytes of `first` make it at least `before`: as many as agree where those are all of `before`, otherwise one more
unfoldable pub key_length : (before first : List ℕ) → ℕ
key_length before first = let c = agreeing before first in cond (eqb c (length before)) c (c + 1)

-- The key of an entry: `first` is the first record that the entry's block leads to, `before` the record just before it in the file, if any.
unfoldable pub key_for : (before : Option (List ℕ)) (first : List ℕ) → List ℕ
key_for none first = []
key_for (some before) first = take (key_length before first) first

-- the entries that name data blocks, which stand side by side from an offset on
unfoldable pub data_entries : (before : Option (List ℕ)) (at : ℕ) → List (List (List ℕ)) → List IndexEntry
data_entries before at [] = []
data_entries before at (rs ∷ more) =
    record { key = key_for before (first_or [] rs); offset = at; size = length (data_bytes rs) }
    ∷ data_entries (some (last_or [] rs)) (at + length (data_bytes rs)) more

module _ (per_index from : ℕ) (blocks : List (List (List ℕ))) where
  -- the data blocks
  unfoldable pub data_part : List ℕ
  data_part = flat_map data_bytes blocks

  -- the index blocks, which follow them
  unfoldable pub index_blocks : List IndexBlock
  index_blocks = index_over per_index (from + length data_part) (data_entries none from blocks)

  -- all blocks
  unfoldable pub blocks_part : List ℕ
  blocks_part = data_part ++ flat_map index_bytes index_blocks

  -- the root
  unfoldable pub root_entry : IndexEntry
  root_entry = root_of index_blocks

-- the file of these data blocks, each a list of records, with `per_index` entries in an index block
unfoldable pub file_of : (metadata : List ℕ) (blocks : List (List (List ℕ))) (per_index : ℕ) → List ℕ
file_of metadata blocks per_index =
    let from = blocks_start metadata in
    let all = blocks_part per_index from blocks in
    let root = root_entry per_index from blocks in
    let hash = sha256 (flat_map records_bytes blocks) in
    header_bytes (header_data metadata root.offset root.size (from + length all) hash) ++ all

-- records in a data block, 1 to 65,535, and entries in an index block, 2 to 65,535
unfoldable pub counts_fit : (per_block per_index : ℕ) → Bool
counts_fit per_block per_index = (leb 1 per_block && leb per_block 65535) && (leb 2 per_index && leb per_index 65535)

-- a file of this length fits an output of `room` bytes, and the format
unfoldable pub file_fits : (room long : ℕ) → Bool
file_fits room long = leb long room && leb long (2 ^ 30)
