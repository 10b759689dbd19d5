-- The key rule in a written file: what holds of the key of every entry over a data block and of the first record there holds of every entry
-- and of the first record that it leads to.
-- Assumes nothing.
use mathlib.Core.Path.{◌≡◌, refl, sym, ap, ◌∙◌, subst}
use mathlib.Core.Logic.{◌≢◌, ◌⊎◌, inl, inr}
use mathlib.Core.List.Memᴰ
use mathlib.Core.List.{List, [], ◌∷◌, ◌++◌, flat_map, map, Memᴰ}
use mathlib.Core.List.{head-eq_of_cons-eq}
use mathlib.Core.Option.{none}
use Prim.Native.Nat.{ℕ, suc, ◌+◌, ◌-◌}
use native.Mathlib.Omega.{arith}
use Rattle.lists.proofs.ListsLaws.{flat_map_append, member_flat_map}
use Rattle.payload.specs.Payload.{Text, Entry}
use Rattle.block.specs.Block.{Block}
use Rattle.tree.specs.Tree.{block_records, leaves, under}
use Rattle.layout.specs.Index.{IndexEntry, IndexBlock, first_key, entry_for, level_from}
use Rattle.layout.specs.File.{data_entries, index_blocks}
use Rattle.layout.specs.Placed.{placed_index, placed_blocks}
use Rattle.layout.proofs.IndexFitLaws.{level_member}
use Rattle.theorems_layout.specs.WrittenTree.{Writable}
use Rattle.theorems_layout.proofs.Levels.{Levels, top, higher}
use Rattle.theorems_layout.proofs.PlacedLaws.{Reads, placed_entry_lem, index_level, index_entries, datas_member}
use Rattle.theorems_layout.proofs.WrittenNames.{Kinds, block_kinds, levels_few, written_levels}
use Rattle.theorems_layout.proofs.WrittenWalk.{leaves_index}

-- an entry that was read, as it was to be written
abbrev pub as_written : Entry → IndexEntry
as_written e = record { key = e.key.bytes; offset = e.offset; size = e.size }

module _ (per_index from : ℕ) (blocks : List (List (List ℕ))) (good : Writable per_index blocks) (Holds : (key : List ℕ) (first : Text) → Type 0) where
  abbrev bs : List Block
  bs = placed_blocks per_index from blocks

  abbrev index : List IndexBlock
  index = index_blocks per_index from blocks

  -- an entry leads to a first record, of which and of its key this holds
  pub record Leads (level : ℕ) (e : IndexEntry) : Type 0 where
    pub first : Text
    pub rest : List Text
    pub under_is : under bs level e.offset ≡ first ∷ rest
    pub holds : Holds e.key first

  -- also the entry for the block in which it is the first
  leads_block : (w : IndexBlock) → Memᴰ w index → (l : ℕ) → w.entries ≢ [] → ((e : IndexEntry) → Memᴰ e w.entries → Leads l e)
      → Leads (suc l) (entry_for w)
  unfolding under entry_for first_key flat_map
  leads_block w m l some leads = go w.entries refl leads
    where
      go : (es : List IndexEntry) → w.entries ≡ es → ((e : IndexEntry) → Memᴰ e es → Leads l e) → Leads (suc l) (entry_for w)
      go [] p lower = absurd (some p)
      go (e ∷ es) p lower =
          let r = lower e (Memᴰ.head refl) in
          record {
            first = r.first;
            rest = r.rest ++ flat_map (λ o. block_records bs o) (flat_map (λ f. leaves bs l f.offset) es);
            under_is =
                ap (flat_map (λ o. block_records bs o)) (leaves_index per_index from blocks good w m l ∙ ap (flat_map (λ f. leaves bs l f.offset)) p)
                ∙ flat_map_append (λ o. block_records bs o) (leaves bs l e.offset) (flat_map (λ f. leaves bs l f.offset) es)
                ∙ ap (λ (rs : List Text). rs ++ flat_map (λ o. block_records bs o) (flat_map (λ f. leaves bs l f.offset) es)) r.under_is;
            holds = subst (λ (fs : List IndexEntry). Holds (first_key fs) r.first) (sym p) r.holds;
          }

  pub leads_up : (level at : ℕ) (es : List IndexEntry) (ws : List IndexBlock) → Levels level at es ws → (l : ℕ) → level ≡ suc l
      → ((w : IndexBlock) → Memᴰ w ws → Memᴰ w index) → ((e : IndexEntry) → Memᴰ e es → Leads l e)
      → (w : IndexBlock) → Memᴰ w ws → (e : IndexEntry) → Memᴰ e w.entries → (k : ℕ) → w.level ≡ suc k → Leads k e
  leads_up level at es ws (top some) l p within lower w m e n k q =
      let same = Memᴰ.eq_of_singleton m in
      let level_is = ap (λ (v : IndexBlock). v.level) same in
      let below : l ≡ k = omega arith in
      subst (λ (j : ℕ). Leads j e) below (lower e (subst (Memᴰ e) (ap (λ (v : IndexBlock). v.entries) same) n))
  leads_up level at es ws (higher gs {bs = rest} grouped two above) l p within lower w m e n k q =
      go (Memᴰ.append_cases here m)
      (λ i. leads_up (level + 1) _ (map entry_for here) rest above (suc l) (omega arith) (λ v j. within v (Memᴰ.append_right here j)) upper w i e n k q)
    where
      here : List IndexBlock
      here = level_from level at gs

      entry : (v : IndexBlock) → Memᴰ v here → (f : IndexEntry) → Memᴰ f v.entries → Leads l f
      entry v i f j = lower f (subst (Memᴰ f) grouped.joins (member_flat_map (λ g. g) gs v.entries f (level_member level at gs v i).1 j))

      upper : (f : IndexEntry) → Memᴰ f (map entry_for here) → Leads (suc l) f
      upper f i =
          let v = Memᴰ.of_map entry_for here i in
          subst (Leads (suc l)) v.2
          (leads_block v.0 (within v.0 (Memᴰ.append_left rest v.1)) l
          (grouped.each v.0.entries (level_member level at gs v.0 v.1).1) (entry v.0 v.1))

      go : Memᴰ w here ⊎ Memᴰ w rest → (Memᴰ w rest → Leads k e) → Leads k e
      go (inl i) later =
          let level_is = (level_member level at gs w i).0 in
          let below : l ≡ k = omega arith in
          subst (λ (j : ℕ). Leads j e) below (entry w i e n)
      go (inr i) later = later i

  -- every entry of the file, where this holds of those over the data blocks
  module _ (lowest : (e : IndexEntry) → Memᴰ e (data_entries none from blocks) → Leads 0 e) where
    leads_index : (w : IndexBlock) → Memᴰ w index → (e : Entry) → Memᴰ e (placed_index w).entries → Leads (w.level - 1) (as_written e)
    leads_index w m e n =
        let es = index_entries w in
        let v = placed_entry_lem es.0 w.entries e (subst (Memᴰ e) es.1 n) in
        let low = (levels_few per_index from blocks good w m).0 in
        let level : w.level ≡ suc (w.level - 1) = omega arith in
        go v.0 v.2
        (leads_up 1 _ (data_entries none from blocks) index (written_levels per_index from blocks good) 0 refl (λ u i. i) lowest w m v.0 v.1
        (w.level - 1) level)
      where
        go : (v : IndexEntry) → Reads e v → Leads (w.level - 1) v → Leads (w.level - 1) (as_written e)
        go v reads l =
            record {
              first = l.first;
              rest = l.rest;
              under_is = ap (under bs (w.level - 1)) reads.offset_is ∙ l.under_is;
              holds = subst (λ (key : List ℕ). Holds key l.first) (sym reads.key_is) l.holds;
            }

    pub leads_entry : (b : Block) → Memᴰ b (placed_blocks per_index from blocks) → (e : Entry) → Memᴰ e b.entries
        → Leads (b.frame.level - 1) (as_written e)
    leads_entry b m e n = go (block_kinds per_index from blocks b m)
      where
        go : Kinds per_index from blocks b → Leads (b.frame.level - 1) (as_written e)
        go (inl d) = absurd (Memᴰ.not-nil (subst (Memᴰ e) (datas_member from blocks b d).2.no_entries n))
        go (inr i) =
            subst (λ (l : ℕ). Leads (l - 1) (as_written e)) (sym (index_level i.0) ∙ ap (λ (c : Block). c.frame.level) i.2)
            (leads_index i.0 i.1 e (subst (λ (c : Block). Memᴰ e c.entries) (sym i.2) n))

    pub keyed_by : (b : Block) → Memᴰ b (placed_blocks per_index from blocks) → (e : Entry) → Memᴰ e b.entries
        → (first : Text) (rest : List Text) → under (placed_blocks per_index from blocks) (b.frame.level - 1) e.offset ≡ first ∷ rest
        → Holds e.key.bytes first
    keyed_by b m e n first rest leads =
        let l = leads_entry b m e n in
        subst (Holds e.key.bytes) (head-eq_of_cons-eq (sym l.under_is ∙ leads)) l.holds
