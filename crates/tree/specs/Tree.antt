-- The tree of a file's blocks: which entry names which block, the walk down from a block, and what a block leads to.
-- `bs` is the list of the file's blocks in file order.
use Rattle.std.specs.Prelude.{ℕ, zero, suc, ◌+◌, Bool, true, ◌&&◌, cond, ltb, eqb, length}
use mathlib.Core.List.{List, [], ◌∷◌, flat_map}
use Rattle.byte_string.specs.Order.{at_most}
use Rattle.lists.specs.Lists.{keep, any, all}
use Rattle.payload.specs.Payload.{Text, Entry}
use Rattle.block.specs.Block.{Block}
use Rattle.block.specs.Survey.{ordinary, records_of}

-- ---- the block at an offset

-- the entries, the records and the level of the block that starts at an offset; no entries, no records and level 0 where none starts there
unfoldable pub block_entries : List Block → ℕ → List Entry
block_entries bs at = flat_map (λ b. cond (eqb b.frame.start at) b.entries []) bs

unfoldable pub block_records : List Block → ℕ → List Text
block_records bs at = flat_map (λ b. cond (eqb b.frame.start at) b.records []) bs

unfoldable pub block_level : List Block → ℕ → ℕ
block_level [] at = 0
block_level (b ∷ bs) at = cond (eqb b.frame.start at) b.frame.level (block_level bs at)

-- ---- names

-- an entry of a block of this level names an ordinary block by its exact start and full size, one level lower
unfoldable pub names : List Block → (level : ℕ) → Entry → Bool
names bs level e =
    any (λ c. (eqb c.frame.start e.offset && eqb c.frame.size e.size) && eqb (c.frame.level + 1) level) (ordinary bs)

-- how many entries of the file name the offset; two entries of one index block count twice
unfoldable pub namings : List Block → ℕ → ℕ
namings bs at = length (keep (λ e. eqb e.offset at) (flat_map (λ b. b.entries) bs))

-- ---- the walk

-- the offsets of the data blocks met going down from the block of this level at an offset, in entry order
unfoldable pub leaves : List Block → (level at : ℕ) → List ℕ
leaves bs zero at = at ∷ []
leaves bs (suc level) at = flat_map (λ e. leaves bs level e.offset) (block_entries bs at)

-- the records that the block leads to: its own for a data block, those of the blocks named by its entries for an index block
unfoldable pub under : List Block → (level at : ℕ) → List Text
under bs level at = flat_map (λ o. block_records bs o) (leaves bs level at)

-- ---- the key rule

-- the records of the file before an offset
unfoldable pub records_before : List Block → ℕ → List Text
records_before bs at = keep (λ r. ltb r.at at) (records_of bs)

-- the key is at most the first of these records, and at least every record of the file before that one
unfoldable pub key_fits : List Block → List ℕ → List Text → Bool
key_fits bs key [] = true
key_fits bs key (first ∷ rest) = at_most key first.bytes && all (λ r. at_most r.bytes key) (records_before bs first.at)
