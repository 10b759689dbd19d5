-- Ways down from the root, the cuts that they make in the walk, and that the walk meets the data blocks in file order.
-- Assumes nothing.
use mathlib.Core.Path.{◌≡◌, refl, sym, ap, ◌∙◌, subst}
use mathlib.Core.Bool.{Bool, true, false}
use mathlib.Core.List.Memᴰ
use mathlib.Core.List.{List, [], ◌∷◌, ◌++◌, flat_map, map, append-nil, append_assoc, Memᴰ}
use Prim.Native.Nat.{ℕ, zero, suc, ◌-◌, ◌≤◌}
use native.Mathlib.Omega.{arith}
use lib.Dec.{eqb}
use borrow.Author.Tests.{eqb-true, eqb-false, eq-eqb}
use Rattle.lists.specs.Lists.{keep}
use Rattle.lists.proofs.ListsLaws.{Ascending, flat_map_append, member_flat_map, keep_member, member_keep}
use Rattle.lists.proofs.RisingLaws.{some_member, member_split, split_member, flat_map_same, flat_map_map, flat_map_keep, flat_map_split, ascending_keep, ascending-same, ascending_left, ascending_right}
use Rattle.payload.specs.Payload.{Text, Entry}
use Rattle.block.specs.Block.{Block, is_data}
use Rattle.block.specs.Survey.{records_of}
use Rattle.tree.specs.Tree.{block_entries, block_records, block_level, leaves, under}
use Rattle.tree.proofs.TreeLaws.{Tree, entries_at, records_at_lem, level_at, child, Parent, parent, leaves_data, leaves_some}

regroup : (a f l b z : List ℕ) → a ++ ((f ++ (l ++ b)) ++ z) ≡ (a ++ f) ++ (l ++ (b ++ z))
regroup a f l b z = simp append_assoc

-- ---- ways

-- A way down from the root to the block of this level at an offset: the root itself, or on from an index block by an entry, which stands
-- in the block between the entries `front` and `back`.
pub data Way (bs : List Block) (root : ℕ) : (level at : ℕ) → Type 0 where
  at_root : {level at : ℕ} → level ≡ block_level bs root → at ≡ root → Way bs root level at
  by_entry : {level at : ℕ} (upper : ℕ) (front : List Entry) (e : Entry) (back : List Entry) → Way bs root (suc level) upper
      → block_entries bs upper ≡ front ++ (e ∷ back) → at ≡ e.offset → Way bs root level at

-- a turn of a way: the entry that is taken, and those before it and after it
pub record Turn : Type 0 where
  pub front : List Entry
  pub entry : Entry
  pub back : List Entry

module _ (bs : List Block) (root : ℕ) where
  -- the turns of a way, the last one first
  unfoldable pub turns_of : (level at : ℕ) → Way bs root level at → List Turn
  turns_of level at (at_root p q) = []
  turns_of level at (by_entry upper front e back w p q) = record { front = front; entry = e; back = back } ∷ turns_of (suc level) upper w

  -- the data blocks that the walk meets before the block at the end of the way, and after it
  unfoldable pub leaves_before : (level at : ℕ) → Way bs root level at → List ℕ
  leaves_before level at (at_root p q) = []
  leaves_before level at (by_entry upper front e back w p q) = leaves_before (suc level) upper w ++ flat_map (λ x. leaves bs level x.offset) front

  unfoldable pub leaves_after : (level at : ℕ) → Way bs root level at → List ℕ
  leaves_after level at (at_root p q) = []
  leaves_after level at (by_entry upper front e back w p q) = flat_map (λ x. leaves bs level x.offset) back ++ leaves_after (suc level) upper w

  -- the whole walk is what it meets before the block, under it and after it
  pub leaves-cut : (level at : ℕ) (w : Way bs root level at)
      → leaves bs (block_level bs root) root ≡ leaves_before level at w ++ (leaves bs level at ++ leaves_after level at w)
  unfolding leaves leaves_before leaves_after
  leaves-cut level at (at_root p q) = sym (append-nil (leaves bs level at) ∙ ap (λ (n : ℕ). leaves bs n at) p ∙ ap (leaves bs (block_level bs root)) q)
  leaves-cut level at (by_entry upper front e back w p q) =
      let step : ℕ → List Entry → List ℕ = λ n. flat_map (λ x. leaves bs n x.offset) in
      leaves-cut (suc level) upper w
      ∙ ap (λ (l : List ℕ). leaves_before (suc level) upper w ++ (l ++ leaves_after (suc level) upper w)) (flat_map_split (λ x. leaves bs level x.offset) (block_entries bs upper) front e back p)
      ∙ regroup (leaves_before (suc level) upper w) (step level front) (leaves bs level e.offset) (step level back) (leaves_after (suc level) upper w)
      ∙ ap (λ (n : ℕ). (leaves_before (suc level) upper w ++ step level front) ++ (leaves bs level n ++ (step level back ++ leaves_after (suc level) upper w))) (sym q)

  -- the records before the block at the end of the way, and after it
  unfoldable pub pre : (level at : ℕ) → Way bs root level at → List Text
  pre level at w = flat_map (λ o. block_records bs o) (leaves_before level at w)

  unfoldable pub post : (level at : ℕ) → Way bs root level at → List Text
  post level at w = flat_map (λ o. block_records bs o) (leaves_after level at w)

  pub under-cut : (level at : ℕ) (w : Way bs root level at) → under bs (block_level bs root) root ≡ pre level at w ++ (under bs level at ++ post level at w)
  unfolding under pre post
  under-cut level at w =
      let records : List ℕ → List Text = flat_map (λ o. block_records bs o) in
      ap records (leaves-cut level at w)
      ∙ flat_map_append (λ o. block_records bs o) (leaves_before level at w) (leaves bs level at ++ leaves_after level at w)
      ∙ ap (λ (l : List Text). records (leaves_before level at w) ++ l) (flat_map_append (λ o. block_records bs o) (leaves bs level at) (leaves_after level at w))

  -- what the walk meets under the block it meets under the root
  pub leaves-within : (level at : ℕ) → Way bs root level at → (o : ℕ) → Memᴰ o (leaves bs level at) → Memᴰ o (leaves bs (block_level bs root) root)
  leaves-within level at w o m = subst (Memᴰ o) (sym (leaves-cut level at w)) (Memᴰ.append_right (leaves_before level at w) (Memᴰ.append_left (leaves_after level at w) m))

module _ (bs : List Block) (root : ℕ) (t : Tree bs root) where
  -- ---- ways lead to ordinary blocks, and to all of them

  -- the block at the end of a way
  pub record Met (level at : ℕ) : Type 0 where
    pub block : Block
    pub member : Memᴰ block bs
    pub starts : block.frame.start ≡ at
    pub leveled : block.frame.level ≡ level
    pub few : level ≤ 63

  pub way_block : (level at : ℕ) → Way bs root level at → Met level at
  way_block level at (at_root p q) =
      let r = t.rooted in
      let level_is = sym (level_at bs root t r.0 r.1) ∙ ap (block_level bs) r.2 ∙ sym p in
      let few = r.4 in
      record { block = r.0; member = r.1; starts = r.2 ∙ sym q; leveled = level_is; few = omega arith }
  way_block level at (by_entry upper front e back w p q) =
      let b = way_block (suc level) upper w in
      let c = child bs root t b.block b.member level b.leveled e (split_member (block_entries bs b.block.frame.start) front e back (ap (block_entries bs) b.starts ∙ p)) in
      let few = b.few in
      record { block = c.block; member = c.member; starts = c.starts ∙ sym q; leveled = c.leveled; few = omega arith }

  -- its entries
  pub met_entries : (level at : ℕ) (m : Met level at) → m.block.entries ≡ block_entries bs at
  met_entries level at m = sym (entries_at bs root t m.block m.member) ∙ ap (block_entries bs) m.starts

  -- on from an index block to a block that one of its entries names
  way_on : (c : Block) (q : Parent bs root t c) → Way bs root q.block.frame.level q.block.frame.start
      → Way bs root c.frame.level c.frame.start
  way_on c q w =
      let s = member_split q.block.entries q.entry q.among in
      by_entry q.block.frame.start s.0 q.entry s.1 (subst (λ (n : ℕ). Way bs root n q.block.frame.start) q.higher w)
      (entries_at bs root t q.block q.member ∙ s.2) (sym q.names)

  way_top : (c : Block) → Memᴰ c bs → c.frame.start ≡ root → Way bs root c.frame.level c.frame.start
  way_top c m p = at_root (sym (level_at bs root t c m) ∙ ap (block_level bs) p) p

  -- going up from an ordinary block ends at the root, since the level rises with each step
  climb : (steps : ℕ) (c : Block) → Memᴰ c bs → c.frame.level ≤ 63 → 63 - c.frame.level ≤ steps → Way bs root c.frame.level c.frame.start
  climb zero c m few enough = go (eqb c.frame.start root) refl
    where
      go : (top : Bool) → eqb c.frame.start root ≡ top → Way bs root c.frame.level c.frame.start
      go true p = way_top c m (eqb-true c.frame.start root p)
      go false p = let q = parent bs root t c m few (eqb-false c.frame.start root p) in let a = q.higher in let b = q.few in absurd (omega arith)
  climb (suc steps) c m few enough = go (eqb c.frame.start root) refl (λ (b : Block) (i : Memᴰ b bs). climb steps b i)
    where
      go : (top : Bool) → eqb c.frame.start root ≡ top
          → ((b : Block) → Memᴰ b bs → b.frame.level ≤ 63 → 63 - b.frame.level ≤ steps → Way bs root b.frame.level b.frame.start)
          → Way bs root c.frame.level c.frame.start
      go true p up = way_top c m (eqb-true c.frame.start root p)
      go false p up =
          let q = parent bs root t c m few (eqb-false c.frame.start root p) in
          let a = q.higher in
          way_on c q (up q.block q.member q.few (omega arith))

  -- every ordinary block is reached
  pub block_way : (c : Block) → Memᴰ c bs → c.frame.level ≤ 63 → Way bs root c.frame.level c.frame.start
  block_way c m few = climb 63 c m few (omega arith)

  -- ---- a block on a way leads to a record

  pub under_some : (level at : ℕ) → Way bs root level at → (first : Text) × (rest : List Text) × (under bs level at ≡ first ∷ rest)
  unfolding under
  under_some level at w = begun (under bs level at) refl (member_flat_map (λ o. block_records bs o) (leaves bs level at) leaf.0 own.0 in_leaves in_records)
    where
      met : Met level at
      met = way_block level at w

      leaf : (o : ℕ) × Memᴰ o (leaves bs level met.block.frame.start)
      leaf = leaves_some bs root t level met.block met.member met.leveled met.few

      in_leaves : Memᴰ leaf.0 (leaves bs level at)
      in_leaves = subst (λ (n : ℕ). Memᴰ leaf.0 (leaves bs level n)) met.starts leaf.1

      block : (d : Block) × Memᴰ d bs × (d.frame.start ≡ leaf.0) × (d.frame.level ≡ 0)
      block = leaves_data bs root t level met.block met.member met.leveled leaf.0 leaf.1

      own : (r : Text) × Memᴰ r block.0.records
      own = some_member block.0.records (t.data_records block.0 block.1 block.3)

      in_records : Memᴰ own.0 (block_records bs leaf.0)
      in_records = subst (Memᴰ own.0) (sym (records_at_lem bs root t block.0 block.1) ∙ ap (block_records bs) block.2) own.1

      begun : (rs : List Text) → under bs level at ≡ rs → {r : Text} → Memᴰ r rs → (first : Text) × (rest : List Text) × (under bs level at ≡ first ∷ rest)
      begun [] p m = absurd (Memᴰ.not-nil m)
      begun (r ∷ rs) p m = (r, rs, p)

  -- ---- the walk meets the data blocks in file order

  -- every data block is met
  pub data_met : (d : Block) → Memᴰ d bs → d.frame.level ≡ 0 → Memᴰ d.frame.start (leaves bs (block_level bs root) root)
  unfolding leaves
  data_met d m p =
      let w = subst (λ (n : ℕ). Way bs root n d.frame.start) p (block_way d m (omega arith)) in
      leaves-within bs root 0 d.frame.start w d.frame.start (Memᴰ.head refl)

  -- and nothing else is
  pub met_data : (o : ℕ) → Memᴰ o (leaves bs (block_level bs root) root) → (d : Block) × Memᴰ d bs × (d.frame.start ≡ o) × (d.frame.level ≡ 0)
  met_data o m =
      let r = t.rooted in
      let level_is = sym (level_at bs root t r.0 r.1) ∙ ap (block_level bs) r.2 in
      leaves_data bs root t (block_level bs root) r.0 r.1 level_is o (subst (λ (n : ℕ). Memᴰ o (leaves bs (block_level bs root) n)) (sym r.2) m)

  module _ (walked : Ascending (leaves bs (block_level bs root) root)) where
    -- where the offsets in the walk rise (22), walk order is file order
    pub leaves_file_order : leaves bs (block_level bs root) root ≡ map (λ b. b.frame.start) (keep (λ b. is_data b.frame.level) bs)
    unfolding is_data
    leaves_file_order =
        ascending-same (leaves bs (block_level bs root) root) (map (λ b. b.frame.start) (keep (λ b. is_data b.frame.level) bs)) walked
        (ascending_keep (λ b. b.frame.start) (λ b. is_data b.frame.level) bs t.rise) to from
      where
        to : (o : ℕ) → Memᴰ o (leaves bs (block_level bs root) root) → Memᴰ o (map (λ b. b.frame.start) (keep (λ b. is_data b.frame.level) bs))
        to o m =
            let d = met_data o m in
            Memᴰ.cast (sym d.2) (Memᴰ.map (λ (b : Block). b.frame.start) (member_keep (λ b. is_data b.frame.level) bs d.0 d.1 (eq-eqb d.0.frame.level 0 d.3)))

        from : (o : ℕ) → Memᴰ o (map (λ b. b.frame.start) (keep (λ b. is_data b.frame.level) bs)) → Memᴰ o (leaves bs (block_level bs root) root)
        from o m =
            let d = Memᴰ.of_map (λ (b : Block). b.frame.start) (keep (λ b. is_data b.frame.level) bs) m in
            let k = keep_member (λ b. is_data b.frame.level) bs d.0 d.1 in
            Memᴰ.cast (sym d.2) (data_met d.0 k.0 (eqb-true d.0.frame.level 0 k.1))

    -- the root leads to all records of the file, in file order
    pub root_records : under bs (block_level bs root) root ≡ records_of bs
    unfolding under records_of is_data
    root_records =
        ap (flat_map (λ o. block_records bs o)) leaves_file_order
        ∙ flat_map_map (λ o. block_records bs o) (λ b. b.frame.start) (keep (λ b. is_data b.frame.level) bs)
        ∙ flat_map_same (λ b. block_records bs b.frame.start) (λ b. b.records) (keep (λ b. is_data b.frame.level) bs)
        (λ (b : Block) (m : Memᴰ b (keep (λ b. is_data b.frame.level) bs)). records_at_lem bs root t b (keep_member (λ b. is_data b.frame.level) bs b m).0)
        ∙ flat_map_keep (λ b. b.records) (λ b. is_data b.frame.level) bs none
      where
        none : (b : Block) → Memᴰ b bs → is_data b.frame.level ≡ false → b.records ≡ []
        none b m p = let other = eqb-false b.frame.level 0 p in t.no_records b m (omega arith)

    -- the cuts: the records of the file are those before the block at the end of a way, those under it and those after it
    pub records_cut : (level at : ℕ) (w : Way bs root level at) → records_of bs ≡ pre bs root level at w ++ (under bs level at ++ post bs root level at w)
    records_cut level at w = sym root_records ∙ under-cut bs root level at w

    -- the data blocks under a block rise
    pub leaves_rise : (level at : ℕ) → Way bs root level at → Ascending (leaves bs level at)
    leaves_rise level at w =
        ascending_left (leaves bs level at) (leaves_after bs root level at w)
        (ascending_right (leaves_before bs root level at w) (leaves bs level at ++ leaves_after bs root level at w) (subst Ascending (leaves-cut bs root level at w) walked))
