-- The keys of a written file: the first on each level is empty, and each is cut from the first record that it leads to and as short as the
-- key rule allows.
-- Assumes nothing.
use mathlib.Core.Path.{◌≡◌, refl, sym, ap, ◌∙◌}
use mathlib.Core.Logic.{◌⊎◌, inl, inr}
use mathlib.Core.Bool.{true}
use mathlib.Core.Option.{none}
use mathlib.Core.List.Memᴰ
use mathlib.Core.List.{List, [], ◌∷◌, flat_map, map, Memᴰ}
use Prim.Native.Nat.{ℕ, ◌+◌, ◌-◌, ◌≤◌}
use native.Mathlib.Omega.{arith}
use lib.ListN.{length}
use Rattle.byte_string.specs.Order.{begins}
use Rattle.payload.specs.Payload.{Text, Entry}
use Rattle.block.specs.Block.{Block}
use Rattle.tree.specs.Tree.{under, key_fits}
use Rattle.layout.specs.Index.{IndexEntry, IndexBlock, index_bytes, first_key, entry_for, level_from}
use Rattle.layout.specs.File.{key_for, data_entries, index_blocks}
use Rattle.layout.specs.Placed.{placed_index, placed_blocks}
use Rattle.layout.proofs.IndexFitLaws.{level_member}
use Rattle.layout.proofs.BlockBackLaws.{index_some}
use Rattle.layout.proofs.SideBySideLaws.{level_side_by_side, side_by_side_within}
use Rattle.theorems_check.proofs.TreeRuleLaws.{key_fits⁻¹}
use Rattle.theorems_layout.specs.WrittenTree.{Writable}
use Rattle.theorems_layout.proofs.Levels.{Levels, top, higher, Grouped}
use Rattle.theorems_layout.proofs.PlacedLaws.{placed_first, index_start, index_level, index_entries, datas_member}
use Rattle.theorems_layout.proofs.WrittenNames.{Kinds, block_kinds, index_member, written_levels}
use Rattle.theorems_layout.proofs.WrittenKeys.{leads_entry}
use Rattle.theorems_layout.proofs.DataKeys.{KeyHolds, leads_lowest}

-- ---- the first key on each level

-- over the data blocks
data_first_key : (at : ℕ) (blocks : List (List (List ℕ))) → first_key (data_entries none at blocks) ≡ []
unfolding data_entries first_key key_for
data_first_key at [] = refl
data_first_key at (rs ∷ more) = refl

-- no index block of its level stands before this one
abbrev Foremost : List IndexBlock → IndexBlock → Type 0
Foremost ws w = (v : IndexBlock) → Memᴰ v ws → v.level ≡ w.level → w.offset ≤ v.offset

-- the first key over a level is the first of its first group
group_first_key : (es : List IndexEntry) (g : List IndexEntry) (gs : List (List IndexEntry)) → Grouped es (g ∷ gs) → first_key g ≡ first_key es
unfolding first_key flat_map
group_first_key es [] gs grouped = absurd (grouped.each [] (Memᴰ.head refl) refl)
group_first_key es (e ∷ g) gs grouped = ap first_key grouped.joins

-- on one level
level_first_key : (level at : ℕ) (es : List IndexEntry) (gs : List (List IndexEntry)) → Grouped es gs → first_key es ≡ []
    → (w : IndexBlock) → Memᴰ w (level_from level at gs) → Foremost (level_from level at gs) w → first_key w.entries ≡ []
unfolding level_from
level_first_key level at es [] grouped empty w m foremost = absurd (Memᴰ.not-nil m)
level_first_key level at es (g ∷ gs) grouped empty w m foremost = go (Memᴰ.cases_cons m)
  where
    first : IndexBlock
    first = record { level = level; offset = at; entries = g }

    next : ℕ
    next = at + length (index_bytes first)

    go : (w ≡ first) ⊎ Memᴰ w (level_from level next gs) → first_key w.entries ≡ []
    go (inl same) = ap (λ (b : IndexBlock). first_key b.entries) same ∙ group_first_key es g gs grouped ∙ empty
    go (inr later) =
        let behind = (side_by_side_within next (level_from level next gs) (level_side_by_side level next gs) w later).0 in
        let some = index_some first in
        let least = foremost first (Memᴰ.head refl) (sym (level_member level next gs w later).0) in
        absurd (omega arith)

-- and over it
above_first_key : (level at : ℕ) (es : List IndexEntry) (gs : List (List IndexEntry)) → Grouped es gs → first_key es ≡ []
    → first_key (map entry_for (level_from level at gs)) ≡ []
unfolding level_from entry_for first_key
above_first_key level at es [] grouped empty = refl
above_first_key level at es (g ∷ gs) grouped empty = group_first_key es g gs grouped ∙ empty

-- on all levels
levels_first_key : (level at : ℕ) (es : List IndexEntry) (ws : List IndexBlock) → Levels level at es ws → first_key es ≡ []
    → (w : IndexBlock) → Memᴰ w ws → Foremost ws w → first_key w.entries ≡ []
levels_first_key level at es ws (top some) empty w m foremost =
    ap (λ (b : IndexBlock). first_key b.entries) (Memᴰ.eq_of_singleton m) ∙ empty
levels_first_key level at es ws (higher gs {bs = rest} grouped two above) empty w m foremost =
    go (Memᴰ.append_cases here m)
    (λ i. levels_first_key (level + 1) _ (map entry_for here) rest above (above_first_key level at es gs grouped empty) w i
    (λ v j. foremost v (Memᴰ.append_right here j)))
  where
    here : List IndexBlock
    here = level_from level at gs

    go : Memᴰ w here ⊎ Memᴰ w rest → (Memᴰ w rest → first_key w.entries ≡ []) → first_key w.entries ≡ []
    go (inl i) later = level_first_key level at es gs grouped empty w i (λ v j. foremost v (Memᴰ.append_left rest j))
    go (inr i) later = later i

-- ---- the whole file: the first keys, and all keys

module _ (per_index from : ℕ) (blocks : List (List (List ℕ))) (good : Writable per_index blocks) where
  abbrev bs : List Block
  bs = placed_blocks per_index from blocks

  pub written_first_key : (b : Block) → Memᴰ b (placed_blocks per_index from blocks)
      → ((c : Block) → Memᴰ c (placed_blocks per_index from blocks) → c.frame.level ≡ b.frame.level → b.frame.start ≤ c.frame.start)
      → (e : Entry) (es : List Entry) → b.entries ≡ e ∷ es → e.key.bytes ≡ []
  written_first_key b m foremost e es p = go (block_kinds per_index from blocks b m)
    where
      no_earlier : (w : IndexBlock) → placed_index w ≡ b → Foremost (index_blocks per_index from blocks) w
      no_earlier w same v j alike =
          let level = index_level v ∙ alike ∙ sym (index_level w) ∙ ap (λ (c : Block). c.frame.level) same in
          let least = foremost (placed_index v) (index_member per_index from blocks v j) level in
          let start = sym (index_start w) ∙ ap (λ (c : Block). c.frame.start) same in
          let other = index_start v in
          omega arith

      go : Kinds per_index from blocks b → e.key.bytes ≡ []
      go (inl d) = absurd (let none = ap length (sym (datas_member from blocks b d).2.no_entries ∙ p) in omega arith)
      go (inr (w, i, same)) =
          let read = index_entries w in
          placed_first read.0 w.entries e es (sym read.1 ∙ ap (λ (c : Block). c.entries) same ∙ p)
          ∙ levels_first_key 1 _ _ _ (written_levels per_index from blocks good) (data_first_key from blocks) w i (no_earlier w same)

  abbrev Holds : (key : List ℕ) (first : Text) → Type 0
  Holds = KeyHolds per_index from blocks good

  pub written_cut : (b : Block) → Memᴰ b (placed_blocks per_index from blocks) → (e : Entry) → Memᴰ e b.entries
      → (first : Text) × (rest : List Text) × (under (placed_blocks per_index from blocks) (b.frame.level - 1) e.offset ≡ first ∷ rest)
      × (begins e.key.bytes first.bytes ≡ true)
  written_cut b m e n =
      let leads = leads_entry per_index from blocks good Holds (leads_lowest per_index from blocks good) b m e n in
      (leads.first, leads.rest, leads.under_is, leads.holds.cut)

  pub written_shortest : (b : Block) → Memᴰ b (placed_blocks per_index from blocks) → (e : Entry) → Memᴰ e b.entries
      → (key : List ℕ) → key_fits (placed_blocks per_index from blocks) key (under (placed_blocks per_index from blocks) (b.frame.level - 1) e.offset) ≡ true
      → length e.key.bytes ≤ length key
  written_shortest b m e n key fits =
      let leads = leads_entry per_index from blocks good Holds (leads_lowest per_index from blocks good) b m e n in
      leads.holds.shortest key (key_fits⁻¹ bs key (under bs (b.frame.level - 1) e.offset) fits leads.first leads.rest leads.under_is)
