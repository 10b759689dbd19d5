-- The walk through a written file: its blocks form a tree, and the walk meets the data blocks in file order.
-- Assumes nothing.
use mathlib.Core.Path.{◌≡◌, refl, sym, ap, ◌∙◌, subst}
use mathlib.Core.Logic.{inl, inr}
use mathlib.Core.Option.{none}
use mathlib.Core.List.Memᴰ
use mathlib.Core.List.{List, [], ◌∷◌, flat_map, map, map-append, Memᴰ}
use Prim.Native.Nat.{ℕ, suc, ◌+◌, ◌≤◌, ◌<◌}
use native.Mathlib.Omega.{arith}
use lib.ListN.{length}
use Rattle.lists.specs.Groups.{last_or}
use Rattle.lists.proofs.ListsLaws.{Ascending}
use Rattle.lists.proofs.RisingLaws.{flat_map_same, flat_map_map, flat_map_flat_map, ascending_left}
use Rattle.payload.specs.Payload.{Text, Entry}
use Rattle.block.specs.Block.{Block}
use Rattle.tree.specs.Tree.{block_entries, block_level, leaves}
use Rattle.tree.proofs.TreeLaws.{Tree, entries_at, level_at}
use Rattle.layout.specs.Index.{IndexEntry, IndexBlock, entry_for, level_from}
use Rattle.layout.specs.File.{index_blocks, root_entry}
use Rattle.layout.specs.Placed.{placed_index, placed_blocks}
use Rattle.theorems_layout.specs.WrittenTree.{Writable}
use Rattle.theorems_layout.proofs.Levels.{Levels, top, higher, level_entries}
use Rattle.theorems_layout.proofs.IndexNames.{last_or_append, levels_some}
use Rattle.theorems_layout.proofs.PlacedLaws.{placed_offsets, placed_some, index_start, index_level, index_records, index_entries}
use Rattle.theorems_layout.proofs.PlacedLaws.{DataBlock, datas_member, data_entries-offsets}
use Rattle.theorems_layout.proofs.WrittenNames.{map_one, datas, indexes, lowest, Kinds, block_kinds, index_member, written_levels}
use Rattle.theorems_layout.proofs.WrittenNames.{written_top, root_start, written_rise}
use Rattle.theorems_layout.proofs.WrittenNames.{written_once, written_unnamed, blocks_few, levels_few, written_rooted, written_named}

module _ (per_index from : ℕ) (blocks : List (List (List ℕ))) (good : Writable per_index blocks) where
  abbrev bs : List Block
  bs = placed_blocks per_index from blocks

  abbrev index : List IndexBlock
  index = index_blocks per_index from blocks

  abbrev root : IndexEntry
  root = root_entry per_index from blocks

  data_some : (b : Block) → Kinds per_index from blocks b → b.frame.level ≡ 0 → 0 < length b.records
  data_some b (inl d) low = go b.records refl (datas_member from blocks b d)
    where
      go : (rs : List Text) → b.records ≡ rs → (ss : List (List ℕ)) × Memᴰ ss blocks × DataBlock ss b → 0 < length rs
      go [] e r = absurd (good.each r.0 r.1 (sym r.2.bytes_are ∙ ap (map (λ (t : Text). t.bytes)) e))
      go (t ∷ rs) e r = omega arith
  data_some b (inr i) low =
      let level = index_level i.0 in
      let moved = ap (λ (c : Block). c.frame.level) i.2 in
      let bound = (levels_few per_index from blocks good i.0 i.1).0 in
      absurd (omega arith)

  data_no_entries : (b : Block) → Kinds per_index from blocks b → b.frame.level ≡ 0 → b.entries ≡ []
  data_no_entries b (inl d) low = (datas_member from blocks b d).2.no_entries
  data_no_entries b (inr i) low =
      let level = index_level i.0 in
      let moved = ap (λ (c : Block). c.frame.level) i.2 in
      let bound = (levels_few per_index from blocks good i.0 i.1).0 in
      absurd (omega arith)

  index_some : (b : Block) → Kinds per_index from blocks b → 1 ≤ b.frame.level → 0 < length b.entries
  index_some b (inl d) high = let low = (datas_member from blocks b d).2.level_is in absurd (omega arith)
  index_some b (inr i) high =
      let es = index_entries i.0 in
      let here = placed_some es.0 i.0.entries (levels_some 1 _ _ index (written_levels per_index from blocks good) i.0 i.1) in
      let same = ap (λ (c : Block). length c.entries) i.2 in
      let moved = ap (λ (l : List Entry). length l) es.1 in
      omega arith

  no_records : (b : Block) → Kinds per_index from blocks b → 1 ≤ b.frame.level → b.records ≡ []
  no_records b (inl d) high = let low = (datas_member from blocks b d).2.level_is in absurd (omega arith)
  no_records b (inr i) high = ap (λ (c : Block). c.records) (sym i.2) ∙ index_records i.0

  -- the blocks form a tree
  pub written_Tree : Tree bs root.offset
  written_Tree =
      let top = written_rooted per_index from blocks good in
      record {
        rise = written_rise per_index from blocks;
        data_records = λ b m. data_some b (block_kinds per_index from blocks b m);
        data_no_entries = λ b m. data_no_entries b (block_kinds per_index from blocks b m);
        index_entries = λ b m low high. index_some b (block_kinds per_index from blocks b m) low;
        reserved_no_entries = λ b m high. let low = blocks_few per_index from blocks good b m in absurd (omega arith);
        no_records = λ b m. no_records b (block_kinds per_index from blocks b m);
        named = written_named per_index from blocks good;
        once = λ b m ordinary. written_once per_index from blocks good b m;
        root_unnamed = written_unnamed per_index from blocks good;
        rooted = (top.0, top.1, top.2, top.4, top.5);
      }

  -- ---- the walk

  pub leaves_index : (w : IndexBlock) → Memᴰ w index → (l : ℕ) → leaves bs (suc l) w.offset ≡ flat_map (λ e. leaves bs l e.offset) w.entries
  unfolding leaves
  leaves_index w m l =
      let es = index_entries w in
      ap (λ (o : ℕ). flat_map (λ e. leaves bs l e.offset) (block_entries bs o)) (sym (index_start w))
      ∙ ap (flat_map (λ e. leaves bs l e.offset))
      (entries_at bs root.offset written_Tree (placed_index w) (index_member per_index from blocks w m) ∙ es.1)
      ∙ placed_offsets (λ o. leaves bs l o) es.0 w.entries

  -- over a level
  leaves_level : (here : List IndexBlock) → ((w : IndexBlock) → Memᴰ w here → Memᴰ w index) → (l : ℕ)
      → flat_map (λ e. leaves bs (suc l) e.offset) (map entry_for here) ≡ flat_map (λ e. leaves bs l e.offset) (flat_map (λ w. w.entries) here)
  unfolding entry_for
  leaves_level here within l =
      flat_map_map (λ e. leaves bs (suc l) e.offset) entry_for here
      ∙ flat_map_same (λ w. leaves bs (suc l) w.offset) (λ w. flat_map (λ e. leaves bs l e.offset) w.entries) here
      (λ w m. leaves_index w (within w m) l)
      ∙ sym (flat_map_flat_map (λ e. leaves bs l e.offset) (λ w. w.entries) here)

  -- the walk from the root meets what the walks from the entries over the lowest level meet, one after the other
  leaves_up : (level at : ℕ) (es : List IndexEntry) (ws : List IndexBlock) → Levels level at es ws → (l : ℕ) → level ≡ suc l
      → ((w : IndexBlock) → Memᴰ w ws → Memᴰ w index) → (any : IndexBlock)
      → leaves bs (last_or any ws).level (last_or any ws).offset ≡ flat_map (λ e. leaves bs l e.offset) es
  unfolding last_or
  leaves_up level at es ws (top some) l e within any =
      ap (λ (n : ℕ). leaves bs n at) e ∙ leaves_index (record { level = level; offset = at; entries = es }) (within _ (Memᴰ.head refl)) l
  leaves_up level at es ws (higher gs {bs = rest} grouped two above) l e within any =
      let here = level_from level at gs in
      ap (λ (w : IndexBlock). leaves bs w.level w.offset) (last_or_append any here rest)
      ∙ leaves_up (level + 1) _ (map entry_for here) rest above (suc l) (omega arith) (λ w m. within w (Memᴰ.append_right here m)) (last_or any here)
      ∙ leaves_level here (λ w m. within w (Memᴰ.append_left rest m)) l
      ∙ ap (flat_map (λ f. leaves bs l f.offset)) (level_entries level at gs ∙ grouped.joins)

  root_level : block_level bs root.offset ≡ (written_top per_index from blocks good).root.level
  root_level =
      let w = (written_top per_index from blocks good).root in
      ap (block_level bs) (sym (root_start per_index from blocks good))
      ∙ level_at bs root.offset written_Tree (placed_index w) (index_member per_index from blocks w (written_top per_index from blocks good).member)
      ∙ index_level w

  -- the data blocks, in file order
  pub written_leaves : leaves bs (block_level bs root.offset) root.offset ≡ map (λ b. b.frame.start) (datas per_index from blocks)
  unfolding leaves
  written_leaves =
      let t = written_top per_index from blocks good in
      let w = t.root in
      ap (λ (n : ℕ). leaves bs n root.offset) root_level
      ∙ ap (leaves bs w.level) (sym (root_start per_index from blocks good) ∙ index_start w)
      ∙ ap (λ (v : IndexBlock). leaves bs v.level v.offset) (sym (t.last w))
      ∙ leaves_up 1 _ _ index (written_levels per_index from blocks good) 0 refl (λ v m. m) w
      ∙ map_one (λ e. e.offset) (lowest per_index from blocks)
      ∙ data_entries-offsets none from blocks

  pub written_walked : Ascending (leaves bs (block_level bs root.offset) root.offset)
  unfolding placed_blocks
  written_walked =
      subst Ascending (sym written_leaves)
      (ascending_left (map (λ b. b.frame.start) (datas per_index from blocks)) (map (λ b. b.frame.start) (indexes per_index from blocks))
      (subst Ascending (map-append (λ b. b.frame.start) (datas per_index from blocks) (indexes per_index from blocks)) (written_rise per_index from blocks)))
