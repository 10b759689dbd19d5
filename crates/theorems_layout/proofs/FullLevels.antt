-- The blocks of a written file follow each other level by level, each full but the last of its level.
-- Assumes nothing.
use mathlib.Core.Path.{◌≡◌, refl, sym, ap, ◌∙◌, subst}
use mathlib.Core.Logic.{◌≢◌, ◌⊎◌, inl, inr}
use mathlib.Core.Bool.{Bool, true, false, cond}
use mathlib.Core.Option.{none}
use mathlib.Core.List.Memᴰ
use mathlib.Core.List.{List, [], ◌∷◌, ◌++◌, map, flat_map, map-append, append-nil, Memᴰ}
use mathlib.Core.List.{head-eq_of_cons-eq}
use Prim.Native.Nat.{ℕ, zero, suc, ◌+◌, ◌≤◌}
use native.Mathlib.Omega.{arith}
use lib.Dec.{leb}
use lib.ListN.{length, take, drop, length-take, length-drop, length-map}
use Rattle.lists.specs.Groups.{groups}
use Rattle.lists.proofs.GroupsLaws.{by_groups, groups_nil, groups_cons, groups_member}
use Rattle.block.specs.Block.{Block, is_data}
use Rattle.block.proofs.BlockLaws.{not_data_level}
use Rattle.layout.specs.Blocks.{data_bytes}
use Rattle.layout.specs.Index.{IndexEntry, IndexBlock, entry_bytes, index_bytes, entry_for, level_from, levels_from, index_over}
use Rattle.layout.specs.File.{data_entries, index_blocks}
use Rattle.layout.specs.Placed.{placed_entries, placed_data, placed_datas, placed_index, placed_blocks}
use Rattle.layout.proofs.IndexFitLaws.{level_member}
use Rattle.theorems_layout.specs.WrittenTree.{Writable}
use Rattle.theorems_layout.specs.WrittenLayout.{Chain, no_item, one_item, more_items, item_count, full_count, Follows}
use Rattle.theorems_layout.proofs.PlacedLaws.{DataBlock, data_block, datas_member, index_level, index_records, index_entries}
use Rattle.theorems_layout.proofs.WrittenNames.{Kinds, block_kinds, levels_few}

-- ---- chains

chain_append : {A : Type 0} (Next : A → A → Type 0) (xs ys : List A) → Chain Next xs → Chain Next ys
    → ((x : A) → Memᴰ x xs → (y : A) (zs : List A) → ys ≡ y ∷ zs → Next x y) → Chain Next (xs ++ ys)
chain_append Next xs ys no_item d seam = d
chain_append {A} Next xs ys (one_item {x = x}) d seam = go ys d (λ (y : A) (zs : List A) e. seam x (Memᴰ.head refl) y zs e)
  where
    go : (zs : List A) → Chain Next zs → ((y : A) (ws : List A) → zs ≡ y ∷ ws → Next x y) → Chain Next (x ∷ zs)
    go [] c next = one_item
    go (z ∷ zs) c next = more_items (next z zs refl) c
chain_append {A} Next xs ys (more_items {x = x} {y = y} {xs = zs} n c) d seam =
    more_items n (chain_append Next (y ∷ zs) ys c d (λ (z : A) m w ws e. seam z (Memᴰ.tail m) w ws e))

-- ---- groups

-- all groups but the last are full
groups_full : {A : Type 0} (n : ℕ) → 1 ≤ n → (xs : List A) → Chain (λ (g h : List A). length g ≡ n) (groups n xs)
groups_full {A} n h = by_groups n h (λ xs. Chain (λ (g k : List A). length g ≡ n) (groups n xs))
    (subst (Chain (λ (g k : List A). length g ≡ n)) (sym (groups_nil n h)) no_item)
    (λ x xs rest. subst (Chain (λ (g k : List A). length g ≡ n)) (sym (groups_cons n h x xs)) (go x xs (drop n (x ∷ xs)) refl rest))
  where
    go : (x : A) (xs left : List A) → drop n (x ∷ xs) ≡ left → Chain (λ (g k : List A). length g ≡ n) (groups n (drop n (x ∷ xs)))
        → Chain (λ (g k : List A). length g ≡ n) (take n (x ∷ xs) ∷ groups n (drop n (x ∷ xs)))
    go x xs [] e rest = rw (e, groups_nil n h) one_item
    go x xs (y ∷ ys) e rest =
        let after = length-drop n (x ∷ xs) in
        let more = ap length e in
        let long = length-take n (x ∷ xs) in
        subst (λ (l : List (List A)). Chain (λ (g k : List A). length g ≡ n) (take n (x ∷ xs) ∷ l)) (sym same)
        (more_items (omega arith) (subst (Chain (λ (g k : List A). length g ≡ n)) same rest))
      where
        same : groups n (drop n (x ∷ xs)) ≡ take n (y ∷ ys) ∷ groups n (drop n (y ∷ ys))
        same = ap (groups n) e ∙ groups_cons n h y ys

-- ---- how many items blocks have

data_count : (rs : List (List ℕ)) (d : Block) → DataBlock rs d → item_count d ≡ length rs
unfolding item_count
data_count rs d is =
    let records = sym (length-map d.records (λ r. r.bytes)) ∙ ap length is.bytes_are in
    let entries = ap length is.no_entries in
    omega arith

placed_entries_length : (at : ℕ) (es : List IndexEntry) → length (placed_entries at es) ≡ length es
unfolding placed_entries
placed_entries_length at [] = refl
placed_entries_length at (e ∷ es) = ap suc (placed_entries_length (at + length (entry_bytes e)) es)

index_count : (w : IndexBlock) → item_count (placed_index w) ≡ length w.entries
unfolding item_count
index_count w =
    let es = index_entries w in
    let entries = ap length es.1 ∙ placed_entries_length es.0 w.entries in
    let records = ap length (index_records w) in
    omega arith

-- ---- one after the other

module _ (per_block per_index : ℕ) where
  abbrev Next : Block → Block → Type 0
  Next = Follows per_block per_index

  full_data : (level : ℕ) → level ≡ 0 → full_count per_block per_index level ≡ per_block
  unfolding full_count is_data
  full_data level e = rw e

  full_index : (level : ℕ) → 1 ≤ level → full_count per_block per_index level ≡ per_index
  unfolding full_count
  full_index level h = rw (not_data_level level (λ z. omega arith))

  -- data blocks
  datas_chain : (at : ℕ) (gs : List (List (List ℕ))) → Chain (λ (g h : List (List ℕ)). length g ≡ per_block) gs → Chain Next (placed_datas at gs)
  unfolding placed_datas Follows
  datas_chain at gs no_item = no_item
  datas_chain at gs one_item = one_item
  datas_chain at gs (more_items {x = g} {y = h} {xs = more} full c) =
      let next = at + length (data_bytes g) in
      let here = (data_block at g).level_is in
      more_items (inl ((data_block next h).level_is ∙ sym here, data_count g (placed_data at g) (data_block at g) ∙ full ∙ sym (full_data _ here)))
      (datas_chain next (h ∷ more) c)

  -- the index blocks of one level
  level_chain : (level at : ℕ) (gs : List (List IndexEntry)) → 1 ≤ level → Chain (λ (g h : List IndexEntry). length g ≡ per_index) gs
      → Chain Next (map placed_index (level_from level at gs))
  unfolding level_from Follows
  level_chain level at gs low no_item = no_item
  level_chain level at gs low one_item = one_item
  level_chain level at gs low (more_items {x = g} {y = h} {xs = more} full c) =
      let w : IndexBlock = record { level = level; offset = at; entries = g } in
      let next = at + length (index_bytes w) in
      more_items
      (inl (
        index_level (record { level = level; offset = next; entries = h }) ∙ sym (index_level w),
        index_count w ∙ full ∙ sym (ap (full_count per_block per_index) (index_level w) ∙ full_index level low),
      ))
      (level_chain level next (h ∷ more) low c)

  -- all levels: the first block is of the first
  levels_first : (fuel level at : ℕ) (es : List IndexEntry) (b : Block) (rest : List Block) → map placed_index (levels_from fuel per_index level at es) ≡ b ∷ rest
      → b.frame.level ≡ level
  unfolding levels_from
  levels_first zero level at es b rest e = absurd (let z = ap length e in omega arith)
  levels_first (suc fuel) level at es b rest e = go (level_from level at (groups per_index es)) (λ w m. (level_member level at (groups per_index es) w m).0) _ e
    where
      go : (here : List IndexBlock) → ((w : IndexBlock) → Memᴰ w here → w.level ≡ level) → (above : List IndexBlock)
          → map placed_index (here ++ cond (leb (length here) 1) [] above) ≡ b ∷ rest → b.frame.level ≡ level
      go [] h above p = absurd (let z = ap length p in omega arith)
      go (w ∷ ws) h above p = sym (ap (λ (c : Block). c.frame.level) (head-eq_of_cons-eq p)) ∙ index_level w ∙ h w (Memᴰ.head refl)

  levels_chain : 1 ≤ per_index → (fuel level at : ℕ) (es : List IndexEntry) → 1 ≤ level → Chain Next (map placed_index (levels_from fuel per_index level at es))
  unfolding levels_from Follows
  levels_chain one zero level at es low = no_item
  levels_chain one (suc fuel) level at es low =
      go (leb (length here) 1) (λ (a : ℕ) (fs : List IndexEntry). levels_chain one fuel (level + 1) a fs (omega arith))
    where
      here : List IndexBlock
      here = level_from level at (groups per_index es)

      next : ℕ
      next = at + length (flat_map index_bytes here)

      above : List IndexBlock
      above = levels_from fuel per_index (level + 1) next (map entry_for here)

      own : Chain Next (map placed_index here)
      own = level_chain level at (groups per_index es) low (groups_full per_index one es)

      seam : (x : Block) → Memᴰ x (map placed_index here) → (y : Block) (zs : List Block) → map placed_index above ≡ y ∷ zs
          → y.frame.level ≡ x.frame.level + 1
      seam x m y zs e =
          let w = Memᴰ.of_map placed_index here m in
          let up = levels_first fuel (level + 1) next (map entry_for here) y zs e in
          let low = sym (ap (λ (c : Block). c.frame.level) w.2) ∙ index_level w.0 ∙ (level_member level at (groups per_index es) w.0 w.1).0 in
          omega arith

      go : (b : Bool) → ((a : ℕ) (fs : List IndexEntry) → Chain Next (map placed_index (levels_from fuel per_index (level + 1) a fs)))
          → Chain Next (map placed_index (here ++ cond b [] above))
      go true rest = subst (λ (l : List IndexBlock). Chain Next (map placed_index l)) (sym (append-nil here)) own
      go false rest =
          subst (Chain Next) (sym (map-append placed_index here above))
          (chain_append Next (map placed_index here) (map placed_index above) own (rest next (map entry_for here))
          (λ x m y zs e. inr (omega (arith, seam x m y zs e))))

  -- no index block has more than per_index entries
  levels_most : 1 ≤ per_index → (fuel level at : ℕ) (es : List IndexEntry) (w : IndexBlock) → Memᴰ w (levels_from fuel per_index level at es)
      → length w.entries ≤ per_index
  unfolding levels_from
  levels_most one zero level at es w m = absurd (Memᴰ.not-nil m)
  levels_most one (suc fuel) level at es w m =
      go (leb (length here) 1) m (λ (i : Memᴰ w above). levels_most one fuel (level + 1) next (map entry_for here) w i)
    where
      here : List IndexBlock
      here = level_from level at (groups per_index es)

      next : ℕ
      next = at + length (flat_map index_bytes here)

      above : List IndexBlock
      above = levels_from fuel per_index (level + 1) next (map entry_for here)

      own : Memᴰ w here → length w.entries ≤ per_index
      own i = (groups_member per_index one es w.entries (level_member level at (groups per_index es) w i).1).1

      either : {ws : List IndexBlock} → (Memᴰ w ws → length w.entries ≤ per_index) → Memᴰ w here ⊎ Memᴰ w ws → length w.entries ≤ per_index
      either up (inl i) = own i
      either up (inr i) = up i

      go : (b : Bool) → Memᴰ w (here ++ cond b [] above) → (Memᴰ w above → length w.entries ≤ per_index) → length w.entries ≤ per_index
      go true i up = either (λ j. absurd (Memᴰ.not-nil j)) (Memᴰ.append_cases here i)
      go false i up = either up (Memᴰ.append_cases here i)

  -- ---- the whole file

  module _ (from : ℕ) (rs : List (List ℕ)) (one : 1 ≤ per_block) (good : Writable per_index (groups per_block rs)) where
    abbrev blocks : List (List (List ℕ))
    blocks = groups per_block rs

    few : 1 ≤ per_index
    few = let two = good.two in omega arith

    -- level by level, each full but the last of its level
    pub written_followed : Chain (Follows per_block per_index) (placed_blocks per_index from (groups per_block rs))
    unfolding placed_blocks index_blocks index_over Follows
    written_followed =
        chain_append Next (placed_datas from blocks) _ (datas_chain from blocks (groups_full per_block one rs))
        (levels_chain few _ 1 _ (data_entries none from blocks) (omega arith)) (λ x m y zs e. inr (omega (arith, seam x m y zs e)))
      where
        seam : (x : Block) → Memᴰ x (placed_datas from blocks) → (y : Block) (zs : List Block)
            → map placed_index (index_blocks per_index from blocks) ≡ y ∷ zs → y.frame.level ≡ x.frame.level + 1
        seam x m y zs e =
            let low = (datas_member from blocks x m).2.level_is in
            let up = levels_first _ 1 _ (data_entries none from blocks) y zs e in
            omega arith

    -- from level 0 on
    pub written_data_first : (b : Block) (rest : List Block) → placed_blocks per_index from (groups per_block rs) ≡ b ∷ rest → b.frame.level ≡ 0
    unfolding placed_blocks placed_datas
    written_data_first b rest e = go blocks good.some e
      where
        go : (gs : List (List (List ℕ))) → gs ≢ [] → placed_datas from gs ++ map placed_index (index_blocks per_index from blocks) ≡ b ∷ rest → b.frame.level ≡ 0
        go [] some p = absurd (some refl)
        go (g ∷ gs) some p = sym (ap (λ (c : Block). c.frame.level) (head-eq_of_cons-eq p)) ∙ (data_block from g).level_is

    -- no block has more than a full one
    pub written_no_fuller : (b : Block) → Memᴰ b (placed_blocks per_index from (groups per_block rs))
        → item_count b ≤ full_count per_block per_index b.frame.level
    unfolding index_blocks index_over
    written_no_fuller b m = go (block_kinds per_index from blocks b m)
      where
        go : Kinds per_index from blocks b → item_count b ≤ full_count per_block per_index b.frame.level
        go (inl d) =
            let g = datas_member from blocks b d in
            let count = data_count g.0 b g.2 in
            let full = full_data b.frame.level g.2.level_is in
            let most = (groups_member per_block one rs g.0 g.1).1 in
            omega arith
        go (inr (w, i, same)) = subst (λ (c : Block). item_count c ≤ full_count per_block per_index c.frame.level) same
            (let count = index_count w in
            let full = ap (full_count per_block per_index) (index_level w) ∙ full_index w.level (levels_few per_index from blocks good w i).0 in
            let most = levels_most few _ 1 _ (data_entries none from blocks) w i in
            omega arith)
