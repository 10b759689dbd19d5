-- Which blocks the rule opens, and what a block leads to. Both are relations; the one walk here, `walk_order`, makes no test and only gives
-- the order. `bs` is the list of the file's blocks in file order, and `root` the root's offset.
use Rattle.std.specs.Prelude.{ℕ, ◌≡◌, true}
use mathlib.Core.List.{List, ◌∷◌, ◌++◌, Memᴰ}
use Rattle.std.proofs.Math.Option.{Option, none}
use Rattle.header.specs.Header.{field_at}
use Rattle.payload.specs.Payload.{Text, Entry}
use Rattle.block.specs.Block.{Block}
use Rattle.query.specs.Query.{Query, matches}
use Rattle.query.specs.Opening.{CanMatch}
use Rattle.search.specs.Search.{next_key}
use Rattle.tree.specs.Tree.{block_level}
use Rattle.theorems_tree.specs.Preorder.{Kept, preorder}

-- ---- the opening rule

-- The rule opens the block at an offset, whose upper bound is this: the root, which has none; or a block that an entry of an opened index
-- block names, where some byte string between its bounds matches. The entry stands between the entries `front` and `back`; its key is
-- the lower bound.
pub data Opens (bs : List Block) (root : ℕ) (q : Query) : (at : ℕ) (upper : Option (List ℕ)) → Type 0 where
  the_root : {at : ℕ} {upper : Option (List ℕ)} → at ≡ root → upper ≡ none → Opens bs root q at upper
  by_entry : {at : ℕ} {upper : Option (List ℕ)} (b : Block) (above : Option (List ℕ)) (front : List Entry) (e : Entry) (back : List Entry)
      → Memᴰ b bs → Opens bs root q b.frame.start above → b.entries ≡ front ++ (e ∷ back)
      → CanMatch e.key.bytes (next_key back above) q → at ≡ e.offset → upper ≡ next_key back above → Opens bs root q at upper

unfoldable pub Opened : List Block → (root : ℕ) → Query → (at : ℕ) → Type 0
Opened bs root q at = (upper : Option (List ℕ)) × Opens bs root q at upper

-- ---- what a block leads to

-- a data block leads to its own records, an index block to those that the blocks named by its entries lead to
pub data LeadsTo (bs : List Block) : (at : ℕ) → Text → Type 0 where
  its_own : {at : ℕ} {r : Text} (b : Block) → Memᴰ b bs → b.frame.start ≡ at → b.frame.level ≡ 0 → Memᴰ r b.records → LeadsTo bs at r
  through : {at : ℕ} {r : Text} (b : Block) (e : Entry) → Memᴰ b bs → b.frame.start ≡ at → Memᴰ e b.entries → LeadsTo bs e.offset r → LeadsTo bs at r

-- the block at an offset has this level byte and leads to no matching record
pub record InVain (bs : List Block) (q : Query) (level at : ℕ) : Type 0 where
  pub block : Block
  pub member : Memᴰ block bs
  pub starts : block.frame.start ≡ at
  pub leveled : block.frame.level ≡ level
  pub vain : (r : Text) → LeadsTo bs at r → matches q r.bytes ≡ true → ⊥

-- ---- the blocks to be opened

-- all blocks of a file in walk order, down from the root that the header names
unfoldable pub walk_order : (file : List ℕ) (bs : List Block) → List ℕ
walk_order file bs = preorder bs (block_level bs (field_at file 16)) (field_at file 16)

-- `opened` are the blocks that the rule opens, in walk order
unfoldable pub RuleOpens : (file : List ℕ) (bs : List Block) → Query → (opened : List ℕ) → Type 0
RuleOpens file bs q opened = Kept (Opened bs (field_at file 16) q) (walk_order file bs) opened
