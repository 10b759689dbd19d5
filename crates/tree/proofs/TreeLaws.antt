-- Laws of a tree of blocks: what stands at an offset, the way up to the root, and the data blocks that the walk down meets.
-- Assumes nothing.
use mathlib.Core.Path.{◌≡◌, refl, sym, ap, ◌∙◌, subst}
use mathlib.Core.Logic.{◌⊎◌, inl, inr, ◌≢◌}
use mathlib.Core.Bool.{Bool, true, false, cond}
use mathlib.Core.List.Memᴰ
use mathlib.Core.List.{List, [], ◌∷◌, flat_map, map, Memᴰ}
use Prim.Native.Nat.{ℕ, zero, suc, ◌+◌, ◌≤◌, ◌<◌}
use native.Mathlib.Omega.{arith}
use lib.Dec.{eqb, leb}
use lib.ListN.{length}
use borrow.Author.Tests.{eqb-true, eq-eqb, ne_eqb, leb-true, leb-false}
use Rattle.lists.specs.Lists.{keep}
use Rattle.lists.proofs.ListsLaws.{Ascending, ascending_unique, below_member, flat_map_member, member_flat_map, keep_member, member_keep}
use Rattle.lists.proofs.RisingLaws.{some_member, member_some, choose_one}
use Rattle.payload.specs.Payload.{Entry}
use Rattle.block.specs.Block.{Block}
use Rattle.tree.specs.Tree.{block_entries, block_records, block_level, namings, leaves}

-- The ordinary blocks of the list bs form one tree with its root at an offset: what refusals 10 to 17, 19 and 20 leave.
pub record Tree (bs : List Block) (root : ℕ) : Type 0 where
  -- the starts rise
  pub rise : Ascending (map (λ b. b.frame.start) bs)
  -- a data block has a record and no entry; an index block has an entry; only data blocks have records, only index blocks entries
  pub data_records : (b : Block) → Memᴰ b bs → b.frame.level ≡ 0 → 0 < length b.records
  pub data_no_entries : (b : Block) → Memᴰ b bs → b.frame.level ≡ 0 → b.entries ≡ []
  pub index_entries : (b : Block) → Memᴰ b bs → 1 ≤ b.frame.level → b.frame.level ≤ 63 → 0 < length b.entries
  pub reserved_no_entries : (b : Block) → Memᴰ b bs → 63 < b.frame.level → b.entries ≡ []
  pub no_records : (b : Block) → Memᴰ b bs → 1 ≤ b.frame.level → b.records ≡ []
  -- 19: an entry names a block by its exact start and full size, one level lower
  pub named : (b : Block) → Memᴰ b bs → (e : Entry) → Memᴰ e b.entries
      → (c : Block) × Memᴰ c bs × (c.frame.start ≡ e.offset) × (c.frame.size ≡ e.size) × (c.frame.level + 1 ≡ b.frame.level)
  -- 20: every ordinary block but the root is named by exactly one entry, the root by none
  pub once : (b : Block) → Memᴰ b bs → b.frame.level ≤ 63 → b.frame.start ≢ root → namings bs b.frame.start ≡ 1
  pub root_unnamed : namings bs root ≡ 0
  -- 17: the root is an index block
  pub rooted : (b : Block) × Memᴰ b bs × (b.frame.start ≡ root) × (1 ≤ b.frame.level) × (b.frame.level ≤ 63)

-- the level of a block found by its start
level_in : (bs : List Block) → Ascending (map (λ b. b.frame.start) bs) → (b : Block) → Memᴰ b bs → block_level bs b.frame.start ≡ b.frame.level
unfolding Ascending block_level
level_in [] h b m = absurd (Memᴰ.not-nil m)
level_in (c ∷ bs) h b m = go (Memᴰ.cases_cons m) (λ (i : Memᴰ b bs). level_in bs h.1 b i)
  where
    go : (b ≡ c) ⊎ Memᴰ b bs → (Memᴰ b bs → block_level bs b.frame.start ≡ b.frame.level)
        → cond (eqb c.frame.start b.frame.start) c.frame.level (block_level bs b.frame.start) ≡ b.frame.level
    go (inl same) rest =
        rw (eq-eqb c.frame.start b.frame.start (ap (λ (d : Block). d.frame.start) (sym same))) (ap (λ (d : Block). d.frame.level) (sym same))
    go (inr inside) rest =
        let later = below_member (λ (d : Block). d.frame.start) c.frame.start bs h.0 b inside in
        rw (ne_eqb c.frame.start b.frame.start (λ e. omega arith)) (rest inside)

module _ (bs : List Block) (root : ℕ) (t : Tree bs root) where
  -- ---- what stands at an offset

  pub entries_at : (b : Block) → Memᴰ b bs → block_entries bs b.frame.start ≡ b.entries
  unfolding block_entries
  entries_at b m = choose_one (λ c. c.frame.start) (λ c. c.entries) bs t.rise b m

  pub records_at_lem : (b : Block) → Memᴰ b bs → block_records bs b.frame.start ≡ b.records
  unfolding block_records
  records_at_lem b m = choose_one (λ c. c.frame.start) (λ c. c.records) bs t.rise b m

  -- blocks with the same start are the same
  pub same_start : (b c : Block) → Memᴰ b bs → Memᴰ c bs → b.frame.start ≡ c.frame.start → b ≡ c
  same_start b c m n e = ascending_unique (λ d. d.frame.start) bs t.rise b c m n e

  pub level_at : (b : Block) → Memᴰ b bs → block_level bs b.frame.start ≡ b.frame.level
  level_at b m = level_in bs t.rise b m

  -- ---- up and down

  -- an entry belongs to an index block
  pub tree_entry⇒index : (b : Block) → Memᴰ b bs → (e : Entry) → Memᴰ e b.entries → (1 ≤ b.frame.level) × (b.frame.level ≤ 63)
  tree_entry⇒index b m e i = (go b.frame.level refl, few (leb b.frame.level 63) refl)
    where
      none : b.entries ≡ [] → ⊥
      none empty = Memᴰ.not-nil (subst (Memᴰ e) empty i)

      go : (level : ℕ) → b.frame.level ≡ level → 1 ≤ b.frame.level
      go zero p = absurd (none (t.data_no_entries b m p))
      go (suc level) p = omega arith

      few : (ordinary : Bool) → leb b.frame.level 63 ≡ ordinary → b.frame.level ≤ 63
      few true p = leb-true b.frame.level 63 p
      few false p = absurd (none (t.reserved_no_entries b m (leb-false b.frame.level 63 p)))

  -- the block that an entry names
  pub record Child (level : ℕ) (e : Entry) : Type 0 where
    pub block : Block
    pub member : Memᴰ block bs
    pub starts : block.frame.start ≡ e.offset
    pub sized : block.frame.size ≡ e.size
    pub leveled : block.frame.level ≡ level

  pub child : (b : Block) → Memᴰ b bs → (level : ℕ) → b.frame.level ≡ suc level → (e : Entry) → Memᴰ e (block_entries bs b.frame.start)
      → Child level e
  child b m level p e i =
      let n = t.named b m e (subst (Memᴰ e) (entries_at b m) i) in
      let lower = n.4 in
      record { block = n.0; member = n.1; starts = n.2; sized = n.3; leveled = omega arith }

  -- the root is named by no entry
  pub root_no_child : (b : Block) → Memᴰ b bs → (e : Entry) → Memᴰ e b.entries → e.offset ≢ root
  unfolding namings
  root_no_child b m e i p =
      let none = t.root_unnamed in
      let some =
      member_some (keep (λ x. eqb x.offset root) (flat_map (λ c. c.entries) bs)) e
      (member_keep (λ x. eqb x.offset root) (flat_map (λ c. c.entries) bs) e (member_flat_map (λ c. c.entries) bs b e m i) (eq-eqb e.offset root p)) in
      omega arith

  -- the index block and the entry that name a block
  pub record Parent (c : Block) : Type 0 where
    pub block : Block
    pub entry : Entry
    pub member : Memᴰ block bs
    pub among : Memᴰ entry block.entries
    pub names : entry.offset ≡ c.frame.start
    pub higher : block.frame.level ≡ suc c.frame.level
    pub few : block.frame.level ≤ 63

  -- every ordinary block but the root has them
  pub parent : (c : Block) → Memᴰ c bs → c.frame.level ≤ 63 → c.frame.start ≢ root → Parent c
  unfolding namings
  parent c m few other =
      found (some_member (keep (λ x. eqb x.offset c.frame.start) (flat_map (λ b. b.entries) bs)) (let one = t.once c m few other in omega arith))
    where
      from : (b : Block) (e : Entry) → Memᴰ b bs → Memᴰ e b.entries → e.offset ≡ c.frame.start → Parent c
      from b e i j p =
          let n = t.named b i e j in
          let lower = n.4 in
          let same = ap (λ (d : Block). d.frame.level) (same_start n.0 c n.1 m (n.2 ∙ p)) in
          record { block = b; entry = e; member = i; among = j; names = p; higher = omega arith; few = (tree_entry⇒index b i e j).1 }

      found : (e : Entry) × Memᴰ e (keep (λ x. eqb x.offset c.frame.start) (flat_map (λ b. b.entries) bs)) → Parent c
      found p =
          let k = keep_member (λ x. eqb x.offset c.frame.start) (flat_map (λ b. b.entries) bs) p.0 p.1 in
          let q = flat_map_member (λ b. b.entries) bs p.0 k.0 in
          from q.0 p.0 q.1 q.2 (eqb-true p.0.offset c.frame.start k.1)

  -- ---- the walk down

  -- every offset that the walk down meets is the start of a data block
  pub leaves_data : (level : ℕ) (b : Block) → Memᴰ b bs → b.frame.level ≡ level → (o : ℕ) → Memᴰ o (leaves bs level b.frame.start)
      → (d : Block) × Memᴰ d bs × (d.frame.start ≡ o) × (d.frame.level ≡ 0)
  unfolding leaves
  leaves_data zero b m p o i = (b, m, sym (Memᴰ.eq_of_singleton i), p)
  leaves_data (suc level) b m p o i =
      let f = flat_map_member (λ e. leaves bs level e.offset) (block_entries bs b.frame.start) o i in
      let c = child b m level p f.0 f.1 in
      leaves_data level c.block c.member c.leveled o (subst (λ (n : ℕ). Memᴰ o (leaves bs level n)) (sym c.starts) f.2)

  -- every ordinary block leads to a data block
  pub leaves_some : (level : ℕ) (b : Block) → Memᴰ b bs → b.frame.level ≡ level → level ≤ 63 → (o : ℕ) × Memᴰ o (leaves bs level b.frame.start)
  unfolding leaves
  leaves_some zero b m p few = (b.frame.start, Memᴰ.head refl)
  leaves_some (suc level) b m p few =
      let s = some_member b.entries (t.index_entries b m (omega arith) (omega arith)) in
      let i = subst (Memᴰ s.0) (sym (entries_at b m)) s.1 in
      let c = child b m level p s.0 i in
      let below = leaves_some level c.block c.member c.leveled (omega arith) in
      let among = block_entries bs b.frame.start in (
        below.0,
        member_flat_map (λ e. leaves bs level e.offset) among s.0 below.0 i
            (subst (λ (n : ℕ). Memᴰ below.0 (leaves bs level n)) c.starts below.1),
      )
