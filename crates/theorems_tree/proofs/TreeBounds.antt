-- What a block's bounds say of the records that it leads to, and of those that a block between two others of its level leads to.
-- Assumes nothing.
use mathlib.Core.Path.{◌≡◌, sym, ◌∙◌, subst}
use mathlib.Core.Bool.{true}
use mathlib.Core.List.Memᴰ
use mathlib.Core.List.{List, ◌∷◌, ◌++◌, flat_map, append-nil, Memᴰ}
use Prim.Native.Nat.{ℕ, suc, ◌≤◌}
use Rattle.byte_string.specs.Order.{at_most}
use Rattle.lists.proofs.ListsLaws.{flat_map_member, member_flat_map}
use Rattle.payload.specs.Payload.{Text, Entry}
use Rattle.block.specs.Block.{Block}
use Rattle.block.specs.Survey.{records_of}
use Rattle.tree.specs.Tree.{block_entries, block_records, block_level, leaves, under}
use Rattle.tree.proofs.TreeLaws.{Tree, records_at_lem}
use Rattle.tree.proofs.TreeWays.{Way, pre, post, records_cut}
use Rattle.theorems_tree.proofs.TreeCuts.{SearchTree, lower_of, upper_of, UpTo, Past, lower_cut, upper_cut}
use Rattle.theorems_tree.proofs.TreeLevels.{blocks_of_level, level_after, level_before}

-- ---- what a block leads to

-- a data block leads to its own records
pub data_under : (bs : List Block) (root : ℕ) → Tree bs root → (b : Block) → Memᴰ b bs → under bs 0 b.frame.start ≡ b.records
unfolding under leaves flat_map
data_under bs root t b m = append-nil (block_records bs b.frame.start) ∙ records_at_lem bs root t b m

-- an index block leads to what the blocks that its entries name lead to
pub entry_under : (bs : List Block) (level at : ℕ) (e : Entry) → Memᴰ e (block_entries bs at) → (r : Text) → Memᴰ r (under bs level e.offset) → Memᴰ r (under bs (suc level) at)
unfolding under leaves
entry_under bs level at e i r m =
    let f = flat_map_member (λ o. block_records bs o) (leaves bs level e.offset) r m in
    member_flat_map (λ o. block_records bs o) (flat_map (λ x. leaves bs level x.offset) (block_entries bs at)) f.0 r (member_flat_map (λ x. leaves bs level x.offset) (block_entries bs at) e f.0 i f.1) f.2

pub under_entry : (bs : List Block) (level at : ℕ) (r : Text) → Memᴰ r (under bs (suc level) at) → (e : Entry) × Memᴰ e (block_entries bs at) × Memᴰ r (under bs level e.offset)
unfolding under leaves
under_entry bs level at r m =
    let f = flat_map_member (λ o. block_records bs o) (flat_map (λ x. leaves bs level x.offset) (block_entries bs at)) r m in
    let g = flat_map_member (λ x. leaves bs level x.offset) (block_entries bs at) f.0 f.1 in
    (g.0, g.1, member_flat_map (λ o. block_records bs o) (leaves bs level g.0.offset) f.0 r g.2 f.2)

module _ (bs : List Block) (root : ℕ) (k : SearchTree bs root) where
  -- what a block leads to are records of the file
  pub under_file : (level at : ℕ) → Way bs root level at → (r : Text) → Memᴰ r (under bs level at) → Memᴰ r (records_of bs)
  under_file level at w r m =
      subst (Memᴰ r) (sym (records_cut bs root k.tree k.walked level at w)) (Memᴰ.append_right (pre bs root level at w) (Memᴰ.append_left (post bs root level at w) m))

  -- ---- bounds

  -- every record that a block leads to lies between the block's bounds
  pub under_bounds : (level at : ℕ) (w : Way bs root level at) (r : Text) → Memᴰ r (under bs level at) → (at_most (lower_of bs root level at w) r.bytes ≡ true) × UpTo r.bytes (upper_of bs root level at w)
  under_bounds level at w r m =
      ((lower_cut bs root k level at w).1 r (Memᴰ.append_left (post bs root level at w) m), (upper_cut bs root k level at w).0 r (Memᴰ.append_right (pre bs root level at w) m))

  -- every record that a block leads to is at least the upper bound of an earlier block of its level
  pub upper_earlier : (l : ℕ) → l ≤ block_level bs root → (front : List ℕ) (x : ℕ) (back : List ℕ) → blocks_of_level bs l (block_level bs root) root ≡ front ++ (x ∷ back) → (y : ℕ) → Memᴰ y back
      → (v : Way bs root l x) → Way bs root l y → (r : Text) → Memᴰ r (under bs l y) → Past (upper_of bs root l x v) r.bytes
  upper_earlier l few front x back split y later v w r m = (upper_cut bs root k l x v).1 r (level_after bs root k.tree k.walked l few front x back split y later v w r m)

  -- and at most the lower bound of a later block of its level
  pub lower_later : (l : ℕ) → l ≤ block_level bs root → (front : List ℕ) (x : ℕ) (back : List ℕ) → blocks_of_level bs l (block_level bs root) root ≡ front ++ (x ∷ back) → (y : ℕ) → Memᴰ y back
      → Way bs root l x → (w : Way bs root l y) → (r : Text) → Memᴰ r (under bs l x) → at_most r.bytes (lower_of bs root l y w) ≡ true
  lower_later l few front x back split y later v w r m = (lower_cut bs root k l y w).0 r (level_before bs root k.tree k.walked l few front x back split y later v w r m)
