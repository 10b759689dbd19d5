-- What is asked of the records of a written file, and what is claimed of its tree.
use Rattle.std.specs.Prelude.{ℕ, ◌+◌, ◌-◌, ◌^◌, ◌≤◌, ◌<◌, ◌≡◌, ◌≢◌, true, length}
use mathlib.Core.List.{List, [], ◌∷◌, flat_map, Memᴰ}
use Rattle.byte_string.specs.Order.{at_most}
use Rattle.payload.specs.Payload.{Text, Entry}
use Rattle.block.specs.Block.{Block}
use Rattle.block.specs.Survey.{records_of}
use Rattle.tree.specs.Tree.{block_level, namings, leaves, under}
use Rattle.theorems_check.specs.Rules.{Sorted, Rising}

-- the records of all blocks, joined in file order
unfoldable pub joined : List (List (List ℕ)) → List (List ℕ)
joined blocks = flat_map (λ rs. rs) blocks

-- blocks that can be written with so many entries in an index block: there is a block, there are not too many, each has a record, and the
-- records rise from the first of the file to the last
pub record Writable (per_index : ℕ) (blocks : List (List (List ℕ))) : Type 0 where
  pub two : 2 ≤ per_index
  pub few : length blocks ≤ 2 ^ 27
  pub some : blocks ≢ []
  pub each : (rs : List (List ℕ)) → Memᴰ rs blocks → rs ≢ []
  pub rise : Sorted (joined blocks)

-- the rules of the tree that don't speak of the file's bytes (theorems_check, `TreeRules`), for a root at this offset and of this full size
pub record RootedTree (bs : List Block) (root rootsize : ℕ) : Type 0 where
  pub ordered : (a b : Block) → Memᴰ a bs → Memᴰ b bs → a.frame.start < b.frame.start
      → (r s : Text) → Memᴰ r a.records → Memᴰ s b.records → at_most r.bytes s.bytes ≡ true
  pub named : (b : Block) → Memᴰ b bs → (e : Entry) → Memᴰ e b.entries
      → (c : Block) × Memᴰ c bs × (c.frame.start ≡ e.offset) × (c.frame.size ≡ e.size) × (c.frame.level + 1 ≡ b.frame.level)
  pub once : (b : Block) → Memᴰ b bs → b.frame.level ≤ 63 → b.frame.start ≢ root → namings bs b.frame.start ≡ 1
  pub root_unnamed : namings bs root ≡ 0
  pub rooted : (b : Block) × Memᴰ b bs × (b.frame.start ≡ root) × (b.frame.size ≡ rootsize) × (1 ≤ b.frame.level) × (b.frame.level ≤ 63)
  pub walked : Rising (leaves bs (block_level bs root) root)
  pub keyed : (b : Block) → Memᴰ b bs → (e : Entry) → Memᴰ e b.entries
      → (first : Text) (rest : List Text) → under bs (b.frame.level - 1) e.offset ≡ first ∷ rest
      → (at_most e.key.bytes first.bytes ≡ true)
      × ((r : Text) → Memᴰ r (records_of bs) → r.at < first.at → at_most r.bytes e.key.bytes ≡ true)
