-- All blocks in walk order: going down from the root in entry order, with no test, meets every ordinary block exactly once.
-- Assumes nothing.
use mathlib.Core.Path.{◌≡◌, refl, sym, ap, ◌∙◌, subst}
use mathlib.Core.Logic.{◌⊎◌, inl, inr}
use mathlib.Core.List.{List, [], ◌∷◌, ◌++◌, flat_map, Memᴰ}
use Prim.Native.Nat.{ℕ, zero, suc, ◌≤◌}
use native.Mathlib.Omega.{arith}
use lib.Dec.{eqb}
use lib.ListN.{length}
use Rattle.lists.specs.Lists.{keep}
use Rattle.lists.proofs.ListsLaws.{Ascending, flat_map_member, member_flat_map}
use Rattle.lists.proofs.RisingLaws.{split_member, ascending_left, ascending_right, ascending_apart, Distinct, distinct_append, distinct_count}
use Rattle.payload.specs.Payload.{Entry}
use Rattle.block.specs.Block.{Block}
use Rattle.tree.specs.Tree.{block_entries, block_level, leaves}
use Rattle.theorems_tree.specs.Preorder.{preorder}
use Rattle.tree.proofs.TreeLaws.{Tree, level_at, same_start, Child, child, leaves_some}
use Rattle.tree.proofs.TreeWays.{Way, at_root, by_entry, block_way}

-- the block comes first
pub preorder-first : (bs : List Block) (level at : ℕ) → Memᴰ at (preorder bs level at)
unfolding preorder
preorder-first bs zero at = mathlib.Core.List.Memᴰ.head refl
preorder-first bs (suc level) at = mathlib.Core.List.Memᴰ.head refl

-- what is met under a block on a way down from the root is met under the root
pub preorder-within : (bs : List Block) (root level at : ℕ) → Way bs root level at → (x : ℕ) → Memᴰ x (preorder bs level at) → Memᴰ x (preorder bs (block_level bs root) root)
unfolding preorder
preorder-within bs root level at (at_root p q) x m = subst (λ (n : ℕ). Memᴰ x (preorder bs (block_level bs root) n)) q (subst (λ (n : ℕ). Memᴰ x (preorder bs n at)) p m)
preorder-within bs root level at (by_entry upper front e back w p q) x m =
    preorder-within bs root (suc level) upper w x
    (mathlib.Core.List.Memᴰ.tail
    (member_flat_map (λ y. preorder bs level y.offset) (block_entries bs upper) e x (split_member (block_entries bs upper) front e back p) (subst (λ (n : ℕ). Memᴰ x (preorder bs level n)) q m)))

module _ (bs : List Block) (root : ℕ) (t : Tree bs root) where
  -- a block met at x under the block of a level at an offset: it is as low or lower, and leads to nothing else
  pub record Within (level at x : ℕ) : Type 0 where
    pub block : Block
    pub member : Memᴰ block bs
    pub starts : block.frame.start ≡ x
    pub lower : block.frame.level ≤ level
    pub leads : (o : ℕ) → Memᴰ o (leaves bs block.frame.level x) → Memᴰ o (leaves bs level at)

  -- the block itself
  within_self : (level : ℕ) (b : Block) → Memᴰ b bs → b.frame.level ≡ level → (x : ℕ) → x ≡ b.frame.start → Within level b.frame.start x
  within_self level b m p x q =
      record {
        block = b;
        member = m;
        starts = sym q;
        lower = omega arith;
        leads = λ (o : ℕ) (i : Memᴰ o (leaves bs b.frame.level x)). subst (λ (n : ℕ). Memᴰ o (leaves bs level n)) q (subst (λ (n : ℕ). Memᴰ o (leaves bs n x)) p i);
      }

  -- under an entry
  within_entry : (level at : ℕ) (e : Entry) → Memᴰ e (block_entries bs at) → (x : ℕ) → Within level e.offset x → Within (suc level) at x
  unfolding leaves
  within_entry level at e i x w =
      let below = w.lower in
      record {
        block = w.block;
        member = w.member;
        starts = w.starts;
        lower = omega arith;
        leads = λ (o : ℕ) (j : Memᴰ o (leaves bs w.block.frame.level x)). member_flat_map (λ y. leaves bs level y.offset) (block_entries bs at) e o i (w.leads o j);
      }

  pub preorder_met : (level : ℕ) (b : Block) → Memᴰ b bs → b.frame.level ≡ level → (x : ℕ) → Memᴰ x (preorder bs level b.frame.start) → Within level b.frame.start x
  unfolding preorder
  preorder_met zero b m p x i = within_self zero b m p x (mathlib.Core.List.Memᴰ.eq_of_singleton i)
  preorder_met (suc level) b m p x i = go (mathlib.Core.List.Memᴰ.cases_cons i) (λ (c : Block) (j : Memᴰ c bs). preorder_met level c j)
    where
      go : (x ≡ b.frame.start) ⊎ Memᴰ x (flat_map (λ e. preorder bs level e.offset) (block_entries bs b.frame.start))
          → ((c : Block) → Memᴰ c bs → c.frame.level ≡ level → (y : ℕ) → Memᴰ y (preorder bs level c.frame.start) → Within level c.frame.start y) → Within (suc level) b.frame.start x
      go (inl same) ih = within_self (suc level) b m p x same
      go (inr inside) ih =
          let f = flat_map_member (λ e. preorder bs level e.offset) (block_entries bs b.frame.start) x inside in
          let c = child bs root t b m level p f.0 f.1 in
          let s = c.starts in
          within_entry level b.frame.start f.0 f.1 x
          (subst (λ (n : ℕ). Within level n x) s (ih c.block c.member c.leveled x (subst (λ (n : ℕ). Memᴰ x (preorder bs level n)) (sym s) f.2)))

  -- ---- each once

  -- blocks under two entries are different, since they lead to different data blocks
  entries_apart : (level : ℕ) → level ≤ 63 → (e : Entry) (es : List Entry) → Child bs root t level e → ((x : Entry) → Memᴰ x es → Child bs root t level x)
      → Ascending (leaves bs level e.offset ++ flat_map (λ x. leaves bs level x.offset) es)
      → (x : ℕ) → Memᴰ x (preorder bs level e.offset) → Memᴰ x (flat_map (λ y. preorder bs level y.offset) es) → ⊥
  entries_apart level few e es c fit rise x m n =
      let f = flat_map_member (λ y. preorder bs level y.offset) es x n in
      both (met e c m) f.0 f.1 (met f.0 (fit f.0 f.1) f.2)
    where
      met : (y : Entry) → Child bs root t level y → Memᴰ x (preorder bs level y.offset) → Within level y.offset x
      met y d i = subst (λ (k : ℕ). Within level k x) d.starts (preorder_met level d.block d.member d.leveled x (subst (λ (k : ℕ). Memᴰ x (preorder bs level k)) (sym d.starts) i))

      both : Within level e.offset x → (y : Entry) → Memᴰ y es → Within level y.offset x → ⊥
      both v y i w =
          let low = v.lower in
          let some = leaves_some bs root t v.block.frame.level v.block v.member refl (omega arith) in
          let o = some.0 in
          let under-x : Memᴰ o (leaves bs v.block.frame.level x) = subst (λ (k : ℕ). Memᴰ o (leaves bs v.block.frame.level k)) v.starts some.1 in
          let same = ap (λ (b : Block). b.frame.level) (same_start bs root t v.block w.block v.member w.member (v.starts ∙ sym w.starts)) in
          let second = w.leads o (subst (λ (k : ℕ). Memᴰ o (leaves bs k x)) same under-x) in
          let less = ascending_apart (leaves bs level e.offset) (flat_map (λ z. leaves bs level z.offset) es) rise o o (v.leads o under-x) (member_flat_map (λ z. leaves bs level z.offset) es y o i second) in
          omega arith

  distinct_entries : (level : ℕ) → level ≤ 63 → ((c : Block) → Memᴰ c bs → c.frame.level ≡ level → Ascending (leaves bs level c.frame.start) → Distinct (preorder bs level c.frame.start))
      → (es : List Entry) → ((e : Entry) → Memᴰ e es → Child bs root t level e) → Ascending (flat_map (λ e. leaves bs level e.offset) es) → Distinct (flat_map (λ e. preorder bs level e.offset) es)
  unfolding flat_map Distinct
  distinct_entries level few ih [] fit rise = tt
  distinct_entries level few ih (e ∷ es) fit rise =
      let c = fit e (mathlib.Core.List.Memᴰ.head refl) in
      let rest : (x : Entry) → Memᴰ x es → Child bs root t level x = λ x m. fit x (mathlib.Core.List.Memᴰ.tail m) in
      let first = ascending_left (leaves bs level e.offset) (flat_map (λ x. leaves bs level x.offset) es) rise in
      distinct_append (preorder bs level e.offset) (flat_map (λ x. preorder bs level x.offset) es)
      (subst (λ (n : ℕ). Distinct (preorder bs level n)) c.starts (ih c.block c.member c.leveled (subst (λ (n : ℕ). Ascending (leaves bs level n)) (sym c.starts) first)))
      (distinct_entries level few ih es rest (ascending_right (leaves bs level e.offset) (flat_map (λ x. leaves bs level x.offset) es) rise))
      (entries_apart level few e es c rest rise)

  pub preorder_distinct_under : (level : ℕ) → level ≤ 63 → (b : Block) → Memᴰ b bs → b.frame.level ≡ level → Ascending (leaves bs level b.frame.start) → Distinct (preorder bs level b.frame.start)
  unfolding preorder leaves Distinct
  preorder_distinct_under zero few b m p rise = (λ (i : Memᴰ b.frame.start []). mathlib.Core.List.Memᴰ.not-nil i, tt)
  preorder_distinct_under (suc level) few b m p rise =
      (again, distinct_entries level (omega arith) (preorder_distinct_under level (omega arith)) (block_entries bs b.frame.start) (child bs root t b m level p) rise)
    where
      -- the block is not met below itself, where levels are lower
      again : Memᴰ b.frame.start (flat_map (λ e. preorder bs level e.offset) (block_entries bs b.frame.start)) → ⊥
      again i =
          let f = flat_map_member (λ e. preorder bs level e.offset) (block_entries bs b.frame.start) b.frame.start i in
          let c = child bs root t b m level p f.0 f.1 in
          let w = preorder_met level c.block c.member c.leveled b.frame.start (subst (λ (n : ℕ). Memᴰ b.frame.start (preorder bs level n)) (sym c.starts) f.2) in
          let same = ap (λ (d : Block). d.frame.level) (same_start bs root t w.block b w.member m w.starts) in
          let low = w.lower in
          omega arith

  -- ---- from the root

  -- every ordinary block is met
  pub ordinary⇒preorder : (b : Block) → Memᴰ b bs → b.frame.level ≤ 63 → Memᴰ b.frame.start (preorder bs (block_level bs root) root)
  ordinary⇒preorder b m few = preorder-within bs root b.frame.level b.frame.start (block_way bs root t b m few) b.frame.start (preorder-first bs b.frame.level b.frame.start)

  root_level : block_level bs root ≡ t.rooted.0.frame.level
  root_level = let r = t.rooted in ap (block_level bs) (sym r.2) ∙ level_at bs root t r.0 r.1

  -- and nothing else
  pub preorder⇒ordinary : (x : ℕ) → Memᴰ x (preorder bs (block_level bs root) root) → (b : Block) × Memᴰ b bs × (b.frame.start ≡ x) × (b.frame.level ≤ 63)
  preorder⇒ordinary x m =
      let r = t.rooted in
      let w = preorder_met (block_level bs root) r.0 r.1 (sym root_level) x (subst (λ (n : ℕ). Memᴰ x (preorder bs (block_level bs root) n)) (sym r.2) m) in
      let same = root_level in
      let few = r.4 in
      let low = w.lower in
      (w.block, w.member, w.starts, omega arith)

  -- where the offsets in the walk rise (22), none is met twice
  pub preorder_distinct : Ascending (leaves bs (block_level bs root) root) → Distinct (preorder bs (block_level bs root) root)
  preorder_distinct walked =
      let r = t.rooted in
      let same = root_level in
      let few = r.4 in
      subst (λ (n : ℕ). Distinct (preorder bs (block_level bs root) n)) r.2
      (preorder_distinct_under (block_level bs root) (omega arith) r.0 r.1 (sym same) (subst (λ (n : ℕ). Ascending (leaves bs (block_level bs root) n)) (sym r.2) walked))

  -- as a count: every ordinary block is met exactly once
  pub preorder-once : Ascending (leaves bs (block_level bs root) root) → (b : Block) → Memᴰ b bs → b.frame.level ≤ 63
      → length (keep (λ x. eqb x b.frame.start) (preorder bs (block_level bs root) root)) ≡ 1
  preorder-once walked b m few = distinct_count (preorder bs (block_level bs root) root) (preorder_distinct walked) b.frame.start (ordinary⇒preorder b m few)
