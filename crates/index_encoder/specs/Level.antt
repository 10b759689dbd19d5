-- Putting one level of index blocks over a run of blocks in an output.
use Rattle.std.specs.Prelude.{ℕ, ◌+◌, ◌≤◌, ◌<◌, ◌≡◌, length, take, drop, Option, Some, None}
use mathlib.Core.List.{List, flat_map}
use Rattle.lists.specs.Groups.{groups}
use Rattle.output_bytes.specs.OutputBytes.{stored}
use Rattle.layout.specs.Index.{IndexEntry, entry_bytes, IndexBlock, index_bytes, level_from}
use Rattle.index_encoder.specs.declared.child.Position.{Position}
use Rattle.index_encoder.specs.Children.{Within, children_from, start_at}
use Rattle.index_encoder.specs.declared.entries.Group.{Group}
use Rattle.index_encoder.specs.declared.level.Level.{Level}

-- the group of the first blocks from a position of s on, at most this many
pub record Measured (s : List ℕ) (from : Position) (most : ℕ) (g : Group) : Type 0 where
  pub counted : g.count ≡ length (take most (children_from s from))
  pub sized : g.length ≡ length (flat_map entry_bytes (take most (children_from s from)))
  pub onward : children_from s g.next ≡ drop most (children_from s from)
  pub within : Within s g.next.before

-- the first entries for the blocks that stand in the output from a position to `to`
unfoldable pub entries_for : (output : List ℕ) (to : ℕ) (from : Position) (count : ℕ) → List IndexEntry
entries_for output to from count = take count (children_from (take to output) from)

-- the index block of these, at a place
unfoldable pub block_for : (output : List ℕ) (level to : ℕ) (from : Position) (count place : ℕ) → IndexBlock
block_for output level to from count place = record { level = level; offset = place; entries = entries_for output to from count }

-- the level over the blocks that stand in the output from `from` to `to`, to be put from `to` on
unfoldable pub level_for : (per_index level : ℕ) (output : List ℕ) (from to : ℕ) → List IndexBlock
level_for per_index level output from to = level_from level to (groups per_index (children_from (take to output) (start_at from)))

-- what `put_level` answers: the level is put, or it doesn't fit and what stands before it is as it was
unfoldable pub LevelPut : (old new : List ℕ) (to : ℕ) → List IndexBlock → Option Level → Type 0
LevelPut old new to bs (Some level) =
    (level.end ≡ to + length (flat_map index_bytes bs)) × (level.end ≤ length old) × (level.blocks ≡ length bs)
    × (new ≡ stored old to (flat_map index_bytes bs))
LevelPut old new to bs None = (length old < to + length (flat_map index_bytes bs)) × (take to new ≡ take to old)
