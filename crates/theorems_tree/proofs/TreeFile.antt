-- The tree of a file that keeps the rules.
-- Assumes nothing.
use mathlib.Core.Path.{◌≡◌}
use mathlib.Core.List.{List, map, Memᴰ}
use Prim.Native.Nat.{ℕ, ◌≤◌}
use lib.ListN.{length}
use Rattle.outcome.specs.Outcome.{answer}
use Rattle.lists.proofs.ListsLaws.{Ascending}
use Rattle.header.specs.Header.{field_at}
use Rattle.block.specs.Block.{Block, blocks_at}
use Rattle.block.proofs.TileLaws.{file_records_all}
use Rattle.tree.specs.Tree.{block_level, leaves}
use Rattle.theorems_check.specs.Rules.{TreeRules, Sorted}
use Rattle.tree.proofs.TreeLaws.{Tree}
use Rattle.tree.proofs.TreeBlocks.{blocks⇒Tree}
use Rattle.theorems_check.proofs.SortedLaws.{Rising⇒Ascending}
use Rattle.theorems_check.proofs.RecordsSorted.{records_sorted}
use Rattle.theorems_tree.proofs.TreeCuts.{SearchTree}

-- ---- the tree

module _ (file : List ℕ) (from : ℕ) (bs : List Block) (stage : blocks_at file from ≡ answer bs) (whole : from ≤ length file) where
  -- the rules of the format
  pub rules⇒Tree : TreeRules file bs → Tree bs (field_at file 16)
  rules⇒Tree r =
      let top = r.rooted in
      blocks⇒Tree file from bs stage whole (field_at file 16) r.named r.once r.root_unnamed (top.0, top.1, top.2, top.4, top.5)

pub rules⇒walked : (file : List ℕ) (bs : List Block) → TreeRules file bs → Ascending (leaves bs (block_level bs (field_at file 16)) (field_at file 16))
rules⇒walked file bs r = Rising⇒Ascending (leaves bs (block_level bs (field_at file 16)) (field_at file 16)) r.walked

-- ---- the search tree

module _ (file : List ℕ) (from : ℕ) (bs : List Block) (stage : blocks_at file from ≡ answer bs) (whole : from ≤ length file) where
  -- a file that keeps the rules of the tree, with records that rise in each block (16)
  pub rules⇒SearchTree : ((b : Block) → Memᴰ b bs → Sorted (map (λ r. r.bytes) b.records)) → TreeRules file bs → SearchTree bs (field_at file 16)
  rules⇒SearchTree sorted r =
      let t = rules⇒Tree file from bs stage whole r in
      record {
        tree = t;
        walked = rules⇒walked file bs r;
        placed = file_records_all file from bs stage whole;
        sorted = records_sorted bs t.rise sorted r.ordered;
        keyed = r.keyed;
      }
