-- The blocks of a written file form a tree: every entry names a block one level lower, and every block but the root is named once.
-- Assumes nothing.
use mathlib.Core.Path.{◌≡◌, refl, sym, ap, ◌∙◌, subst}
use mathlib.Core.Logic.{◌≢◌, ◌⊎◌, inl, inr}
use mathlib.Core.Option.{none}
use mathlib.Core.List.Memᴰ
use mathlib.Core.List.{List, [], ◌∷◌, ◌++◌, flat_map, map, map-append, Memᴰ}
use Prim.Native.Nat.{ℕ, ◌+◌, ◌≤◌}
use native.Mathlib.Omega.{arith}
use lib.Dec.{eqb}
use lib.ListN.{length, length-map}
use Rattle.lists.specs.Lists.{keep}
use Rattle.lists.proofs.ListsLaws.{Ascending, AscendingIn, ascending-append, ascending_all, flat_map_append}
use Rattle.lists.proofs.CountLaws.{keep_map}
use Rattle.lists.proofs.RisingLaws.{flat_map_map, each-once, ascending_left, ascending_apart, ascending_distinct, distinct_count, absent_count}
use Rattle.payload.specs.Payload.{Entry}
use Rattle.block.specs.Block.{Block}
use Rattle.tree.specs.Tree.{namings}
use Rattle.layout.specs.Blocks.{data_bytes}
use Rattle.layout.specs.Index.{IndexEntry, IndexBlock, index_bytes, entry_for, index_over}
use Rattle.layout.specs.File.{data_entries, data_part, index_blocks, root_entry}
use Rattle.layout.specs.Placed.{placed_datas, placed_index, placed_blocks}
use Rattle.layout.proofs.SideBySideLaws.{index_side_by_side}
use Rattle.layout.proofs.FileFitLaws.{length-data_entries}
use Rattle.theorems_layout.specs.WrittenTree.{Writable}
use Rattle.theorems_layout.proofs.Levels.{Levels, index_levels, levels_within}
use Rattle.theorems_layout.proofs.IndexNames.{Top, levels_top, levels_named, NamedBy}
use Rattle.theorems_layout.proofs.PlacedLaws.{Reads, placed_entry_lem, index_level, index_entries, indexes_offsets, indexes_starts, indexes_rise}
use Rattle.theorems_layout.proofs.PlacedLaws.{entry_for-offsets, entry_for-names, datas_member, datas_rise, datas_entries}
use Rattle.theorems_layout.proofs.PlacedLaws.{data_entries-offsets, data_entries_named}

-- ---- lists

pub map_one : {A B : Type 0} (f : A → B) (xs : List A) → flat_map (λ x. f x ∷ []) xs ≡ map f xs
map_one f xs = sym (flat_map_map (λ y. y ∷ []) f xs) ∙ each-once (map f xs)

-- ---- the tree

module _ (per_index from : ℕ) (blocks : List (List (List ℕ))) where
  -- the data blocks, the index blocks as they are read, and all
  abbrev pub datas : List Block
  datas = placed_datas from blocks

  abbrev index : List IndexBlock
  index = index_blocks per_index from blocks

  abbrev pub indexes : List Block
  indexes = map placed_index index

  abbrev pub all_blocks : List Block
  all_blocks = placed_blocks per_index from blocks

  -- the entries over the data blocks
  abbrev pub lowest : List IndexEntry
  lowest = data_entries none from blocks

  -- where the root stands
  abbrev root_at : ℕ
  root_at = (root_entry per_index from blocks).offset

  -- a data block, or an index block
  abbrev pub Kinds : Block → Type 0
  Kinds b = Memᴰ b datas ⊎ ((w : IndexBlock) × Memᴰ w index × (placed_index w ≡ b))

  pub block_kinds : (b : Block) → Memᴰ b all_blocks → Kinds b
  unfolding placed_blocks
  block_kinds b m = go (Memᴰ.append_cases datas m)
    where
      go : Memᴰ b datas ⊎ Memᴰ b indexes → Kinds b
      go (inl d) = inl d
      go (inr i) = inr (Memᴰ.of_map placed_index index i)

  pub data_member : (b : Block) → Memᴰ b datas → Memᴰ b all_blocks
  unfolding placed_blocks
  data_member b m = Memᴰ.append_left indexes m

  pub index_member : (w : IndexBlock) → Memᴰ w index → Memᴰ (placed_index w) all_blocks
  unfolding placed_blocks
  index_member w m = Memᴰ.append_right datas (Memᴰ.map placed_index m)

  -- ---- the blocks stand side by side

  start_offsets : map (λ b. b.frame.start) all_blocks ≡ map (λ e. e.offset) (lowest ++ map entry_for index)
  unfolding placed_blocks
  start_offsets =
      map-append (λ b. b.frame.start) datas indexes
      ∙ ap (λ (l : List ℕ). l ++ map (λ b. b.frame.start) indexes) (sym (data_entries-offsets none from blocks))
      ∙ ap (λ (l : List ℕ). map (λ e. e.offset) lowest ++ l)
      (indexes_starts index ∙ sym (entry_for-offsets index))
      ∙ sym (map-append (λ e. e.offset) lowest (map entry_for index))

  pub written_rise : Ascending (map (λ b. b.frame.start) all_blocks)
  unfolding placed_blocks index_blocks data_part
  written_rise =
      let middle = from + length (flat_map data_bytes blocks) in
      let end = middle + length (flat_map index_bytes index) in
      ascending_all from end (map (λ b. b.frame.start) all_blocks)
      (subst (AscendingIn from end) (sym (map-append (λ b. b.frame.start) datas indexes))
      (ascending-append from middle end (map (λ b. b.frame.start) datas) (map (λ b. b.frame.start) indexes) (datas_rise from blocks)
      (subst (AscendingIn middle end) (sym (indexes_starts index))
      (indexes_rise middle index (index_side_by_side per_index middle lowest)))))

  module _ (good : Writable per_index blocks) where
    pub written_levels : Levels 1 (from + length (data_part per_index from blocks)) lowest index
    unfolding index_blocks index_over
    written_levels =
        index_levels per_index good.two (length lowest) 1 (from + length (data_part per_index from blocks)) lowest (omega arith)
        (λ e. good.some (empty blocks (sym (length-data_entries none from blocks) ∙ ap length e)))
      where
        empty : (l : List (List (List ℕ))) → length l ≡ 0 → l ≡ []
        empty [] h = refl
        empty (x ∷ l) h = absurd (omega arith)

    -- the root
    pub written_top : Top lowest index
    written_top = levels_top 1 (from + length (data_part per_index from blocks)) lowest index written_levels

    pub root_entry_lem : root_entry per_index from blocks ≡ entry_for written_top.root
    unfolding root_entry
    root_entry_lem = written_top.root_is

    pub root_start : (placed_index written_top.root).frame.start ≡ root_at
    root_start = (entry_for-names written_top.root).0 ∙ ap (λ (e : IndexEntry). e.offset) (sym root_entry_lem)

    -- ---- how often each is named

    abbrev entry_offsets : List ℕ
    entry_offsets = map (λ e. e.offset) (flat_map (λ b. b.entries) all_blocks)

    -- the entries name all blocks but the root, in file order
    pub entries_name : entry_offsets ++ (root_at ∷ []) ≡ map (λ b. b.frame.start) all_blocks
    unfolding placed_blocks
    entries_name =
        let root = root_at in
        ap (λ (l : List Entry). map (λ e. e.offset) l ++ (root ∷ []))
        (flat_map_append (λ b. b.entries) datas indexes ∙ ap (λ (l : List Entry). l ++ flat_map (λ b. b.entries) indexes) (datas_entries from blocks))
        ∙ ap (λ (l : List ℕ). l ++ (root ∷ []))
        (sym (map_one (λ e. e.offset) (flat_map (λ b. b.entries) indexes)) ∙ indexes_offsets (λ o. o ∷ []) index
        ∙ map_one (λ e. e.offset) (flat_map (λ b. b.entries) index))
        ∙ ap (λ (e : IndexEntry). map (λ f. f.offset) (flat_map (λ b. b.entries) index) ++ (e.offset ∷ [])) root_entry_lem
        ∙ sym (map-append (λ e. e.offset) (flat_map (λ b. b.entries) index) (entry_for written_top.root ∷ []))
        ∙ ap (map (λ e. e.offset)) written_top.entries_are
        ∙ sym start_offsets

    named_rise : Ascending (entry_offsets ++ (root_at ∷ []))
    named_rise = subst Ascending (sym entries_name) written_rise

    namings_count : (at : ℕ) → namings all_blocks at ≡ length (keep (λ x. eqb x at) entry_offsets)
    unfolding namings
    namings_count at =
        let es = flat_map (λ b. b.entries) all_blocks in
        sym (length-map (keep (λ e. eqb e.offset at) es) (λ e. e.offset)) ∙ ap length (keep_map (λ x. eqb x at) (λ e. e.offset) es)

    pub written_once : (b : Block) → Memᴰ b all_blocks → b.frame.start ≢ root_at → namings all_blocks b.frame.start ≡ 1
    written_once b m other =
        namings_count b.frame.start
        ∙ distinct_count entry_offsets (ascending_distinct entry_offsets (ascending_left entry_offsets (root_at ∷ []) named_rise)) b.frame.start
        (go (Memᴰ.append_cases entry_offsets (subst (Memᴰ b.frame.start) (sym entries_name) (Memᴰ.map (λ (c : Block). c.frame.start) m))))
      where
        go : Memᴰ b.frame.start entry_offsets ⊎ Memᴰ b.frame.start (root_at ∷ []) → Memᴰ b.frame.start entry_offsets
        go (inl i) = i
        go (inr i) = absurd (other (Memᴰ.eq_of_singleton i))

    pub written_unnamed : namings all_blocks root_at ≡ 0
    written_unnamed =
        namings_count root_at
        ∙ absent_count entry_offsets root_at
        (λ m. let less = ascending_apart entry_offsets (root_at ∷ []) named_rise root_at root_at m (Memᴰ.head refl) in omega arith)

    -- ---- at most 27 levels of index blocks

    pub levels_few : (w : IndexBlock) → Memᴰ w index → (1 ≤ w.level) × (w.level ≤ 27)
    levels_few w m =
        let long = length-data_entries none from blocks in
        let few = good.few in
        let within = levels_within 1 (from + length (data_part per_index from blocks)) lowest index written_levels 26 (omega arith) w m in
        let high = within.1 in
        (within.0, omega arith)

    pub blocks_few : (b : Block) → Memᴰ b all_blocks → b.frame.level ≤ 27
    blocks_few b m = go (block_kinds b m)
      where
        go : Kinds b → b.frame.level ≤ 27
        go (inl d) = let low = (datas_member from blocks b d).2.level_is in omega arith
        go (inr i) =
            let high = (levels_few i.0 i.1).1 in
            let same = index_level i.0 in
            let moved = ap (λ (c : Block). c.frame.level) i.2 in
            omega arith

    pub written_rooted : (b : Block) × Memᴰ b all_blocks × (b.frame.start ≡ root_at)
        × (b.frame.size ≡ (root_entry per_index from blocks).size) × (1 ≤ b.frame.level) × (b.frame.level ≤ 63)
    written_rooted =
        let w = written_top.root in
        let level = index_level w in
        let bounds = levels_few w written_top.member in
        let low = bounds.0 in
        let high = bounds.1 in
        let size = (entry_for-names w).1 ∙ ap (λ (e : IndexEntry). e.size) (sym root_entry_lem) in
        (placed_index w, index_member w written_top.member, root_start, size, omega arith, omega arith)

    -- ---- what each entry names

    -- a block of the file that this entry names, one level below this level
    abbrev Found : (level : ℕ) → Entry → Type 0
    Found level e =
        (c : Block) × Memᴰ c all_blocks × (c.frame.start ≡ e.offset) × (c.frame.size ≡ e.size) × (c.frame.level + 1 ≡ level)

    named_index : (w : IndexBlock) → Memᴰ w index → (e : Entry) → Memᴰ e (placed_index w).entries → Found w.level e
    named_index w m e n =
        let es = index_entries w in
        let v = placed_entry_lem es.0 w.entries e (subst (Memᴰ e) es.1 n) in
        go v.0 v.2 (levels_named 1 (from + length (data_part per_index from blocks)) lowest index written_levels w m v.0 v.1)
      where
        go : (v : IndexEntry) → Reads e v → NamedBy 1 lowest index w v → Found w.level e
        go v reads (inl p) =
            let d = data_entries_named none from blocks v p.1 in
            let zero = d.4 in
            let one = p.0 in
            (d.0, data_member d.0 d.1, d.2 ∙ sym reads.offset_is, d.3 ∙ sym reads.size_is, omega arith)
        go v reads (inr c) =
            let names = entry_for-names c.0 in
            let level = index_level c.0 in
            let up = c.3 in (
              placed_index c.0,
              index_member c.0 c.1,
              names.0 ∙ ap (λ (f : IndexEntry). f.offset) c.2 ∙ sym reads.offset_is,
              names.1 ∙ ap (λ (f : IndexEntry). f.size) c.2 ∙ sym reads.size_is,
              omega arith,
            )

    pub written_named : (b : Block) → Memᴰ b all_blocks → (e : Entry) → Memᴰ e b.entries → Found b.frame.level e
    written_named b m e n = go (block_kinds b m)
      where
        go : Kinds b → Found b.frame.level e
        go (inl d) = absurd (Memᴰ.not-nil (subst (Memᴰ e) (datas_member from blocks b d).2.no_entries n))
        go (inr i) =
            subst (λ (level : ℕ). Found level e) (sym (index_level i.0) ∙ ap (λ (c : Block). c.frame.level) i.2)
            (named_index i.0 i.1 e (subst (λ (c : Block). Memᴰ e c.entries) (sym i.2) n))
