-- The blocks of a written file, as reading the file finds them: frames, records and entries with their offsets.
use Rattle.std.specs.Prelude.{ℕ, ◌+◌, length}
use mathlib.Core.List.{List, [], ◌∷◌, ◌++◌, flat_map, map}
use Rattle.uleb128.specs.Encoding.{encoding}
use Rattle.framing.specs.declared.Frame.{Frame}
use Rattle.payload.specs.Payload.{Text, Entry}
use Rattle.block.specs.Block.{Block}
use Rattle.layout.specs.Blocks.{text_bytes, block_size, records_bytes, data_bytes}
use Rattle.layout.specs.Index.{IndexEntry, IndexBlock, entry_bytes}
use Rattle.layout.specs.File.{index_blocks}

-- a byte string that stands after its length, which stands at `at`
unfoldable pub placed_text : (at : ℕ) → List ℕ → Text
placed_text at s = record { at = at + length (encoding (length s)); bytes = s }

-- records one after the other from an offset on
unfoldable pub placed_records : (at : ℕ) → List (List ℕ) → List Text
placed_records at [] = []
placed_records at (r ∷ rs) = placed_text at r ∷ placed_records (at + length (text_bytes r)) rs

-- entries one after the other from an offset on
unfoldable pub placed_entries : (at : ℕ) → List IndexEntry → List Entry
placed_entries at [] = []
placed_entries at (e ∷ es) =
    record { key = placed_text at e.key; offset = e.offset; size = e.size } ∷ placed_entries (at + length (entry_bytes e)) es

-- the frame of a block with a payload of this length
unfoldable pub placed_frame : (level at payload : ℕ) → Frame
placed_frame level at payload =
    record {
      start = at;
      size = block_size payload;
      level = level;
      body = at + length (encoding (payload + 1));
      end = at + length (encoding (payload + 1)) + (payload + 1);
    }

-- a data block at an offset
unfoldable pub placed_data : (at : ℕ) → List (List ℕ) → Block
placed_data at rs =
    record {
      frame = placed_frame 0 at (length (records_bytes rs));
      records = placed_records (at + length (encoding (length (records_bytes rs) + 1)) + 1) rs;
      entries = [];
    }

-- data blocks one after the other from an offset on
unfoldable pub placed_datas : (at : ℕ) → List (List (List ℕ)) → List Block
placed_datas at [] = []
placed_datas at (rs ∷ more) = placed_data at rs ∷ placed_datas (at + length (data_bytes rs)) more

-- an index block
unfoldable pub placed_index : IndexBlock → Block
placed_index b =
    let n = length (flat_map entry_bytes b.entries) in
    record {
      frame = placed_frame b.level b.offset n;
      records = [];
      entries = placed_entries (b.offset + length (encoding (n + 1)) + 1) b.entries;
    }

-- all blocks of a file whose blocks begin at `from`
unfoldable pub placed_blocks : (per_index from : ℕ) → List (List (List ℕ)) → List Block
placed_blocks per_index from blocks = placed_datas from blocks ++ map placed_index (index_blocks per_index from blocks)
