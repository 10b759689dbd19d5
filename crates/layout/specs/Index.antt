-- The index of a file that the writer makes. A level has a block for each group of entries over the level below, and the last level is the
-- one that has a single block.
use Rattle.std.specs.Prelude.{ℕ, zero, suc, ◌+◌, cond, leb, length}
use mathlib.Core.List.{List, [], ◌∷◌, ◌++◌, flat_map, map}
use Rattle.lists.specs.Groups.{groups, last_or}
use Rattle.uleb128.specs.Encoding.{encoding}
use Rattle.layout.specs.Blocks.{text_bytes, block_bytes}

-- an entry to be written: the key, and the offset and full size of the block that it names
pub record IndexEntry : Type 0 where
  pub key : List ℕ
  pub offset : ℕ
  pub size : ℕ

unfoldable pub entry_bytes : IndexEntry → List ℕ
entry_bytes e = text_bytes e.key ++ (encoding e.offset ++ encoding e.size)

-- an index block, and where it stands
pub record IndexBlock : Type 0 where
  pub level : ℕ
  pub offset : ℕ
  pub entries : List IndexEntry

unfoldable pub index_bytes : IndexBlock → List ℕ
index_bytes b = block_bytes b.level (flat_map entry_bytes b.entries)

-- the key of the first entry
unfoldable pub first_key : List IndexEntry → List ℕ
first_key [] = []
first_key (e ∷ es) = e.key

-- the entry that names an index block: its key is the block's own first key
unfoldable pub entry_for : IndexBlock → IndexEntry
entry_for b = record { key = first_key b.entries; offset = b.offset; size = length (index_bytes b) }

-- one level: an index block for each group of entries, side by side from an offset on
unfoldable pub level_from : (level at : ℕ) → List (List IndexEntry) → List IndexBlock
level_from level at [] = []
level_from level at (es ∷ more) =
    let b : IndexBlock = record { level = level; offset = at; entries = es } in
    b ∷ level_from level (at + length (index_bytes b)) more

-- The levels from this one up, over blocks that these entries name. Each level has fewer blocks than the one below it, so the number of
-- entries is fuel enough.
unfoldable pub levels_from : (fuel per_index level at : ℕ) → List IndexEntry → List IndexBlock
levels_from zero per_index level at es = []
levels_from (suc fuel) per_index level at es =
    let here = level_from level at (groups per_index es) in
    here ++ cond (leb (length here) 1) [] (levels_from fuel per_index (level + 1) (at + length (flat_map index_bytes here)) (map entry_for here))

-- the whole index over the data blocks that these entries name, from an offset on
unfoldable pub index_over : (per_index at : ℕ) → List IndexEntry → List IndexBlock
index_over per_index at es = levels_from (length es) per_index 1 at es

-- the root is the last index block, the only one of its level; as an entry would name it (nothing, where there is no block)
unfoldable pub root_of : List IndexBlock → IndexEntry
root_of [] = record { key = []; offset = 0; size = 0 }
root_of (b ∷ bs) = entry_for (last_or b bs)
