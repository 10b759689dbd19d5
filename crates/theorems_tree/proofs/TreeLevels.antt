-- The blocks of one level in walk order: they cut the walk over the data blocks into consecutive parts.
-- Assumes nothing.
use mathlib.Core.Path.{◌≡◌, refl, sym, ap, ◌∙◌, subst}
use mathlib.Core.Logic.{◌⊎◌, inl, inr}
use mathlib.Core.Bool.{Bool, true, false}
use mathlib.Core.List.Memᴰ
use mathlib.Core.List.{List, [], ◌∷◌, ◌++◌, flat_map, append-nil, Memᴰ}
use Prim.Native.Nat.{ℕ, zero, suc, ◌≤◌, ◌<◌}
use native.Mathlib.Omega.{arith}
use lib.Dec.{eqb}
use borrow.Author.Tests.{eqb-true, eqb-false, eq-eqb, ne_eqb}
use Rattle.lists.specs.Lists.{keep}
use Rattle.lists.proofs.ListsLaws.{Ascending, flat_map_member, member_flat_map}
use Rattle.lists.proofs.ListsLaws.{keep_member, member_keep}
use Rattle.lists.proofs.RisingLaws.{flat_map_same, flat_map_flat_map, flat_map_split, ascending_right, ascending_apart}
use Rattle.lists.proofs.CountLaws.{keep_flat_map, keep_none}
use Rattle.payload.specs.Payload.{Text, Entry}
use Rattle.block.specs.Block.{Block}
use Rattle.tree.specs.Tree.{block_entries, block_records, block_level, leaves, under}
use Rattle.theorems_tree.specs.Preorder.{preorder}
use Rattle.tree.proofs.TreeLaws.{Tree, level_at, child, leaves_some}
use Rattle.tree.proofs.TreeWays.{Way, leaves_before, leaves_after, leaves-cut, leaves-within, pre, post, way_block}
use Rattle.theorems_tree.proofs.TreePreorder.{preorder_met, preorder⇒ordinary, ordinary⇒preorder}

-- the blocks of level l met going down from the block of a level at an offset, in walk order
unfoldable pub blocks_of_level : List Block → (l level at : ℕ) → List ℕ
blocks_of_level bs l level at = keep (λ x. eqb (block_level bs x) l) (preorder bs level at)

-- ---- numbers that ascend, in three parts

-- what is above the middle part stands after it
above⇒after : (a l b : List ℕ) → Ascending (a ++ (l ++ b)) → (o : ℕ) → Memᴰ o l → (n : ℕ) → Memᴰ n (a ++ (l ++ b)) → ((m : ℕ) → Memᴰ m l → m < n) → Memᴰ n b
above⇒after a l b rise o i n j above = go (Memᴰ.append_cases a j)
  where
    later : Memᴰ n l ⊎ Memᴰ n b → Memᴰ n b
    later (inl m) = let self = above n m in absurd (omega arith)
    later (inr m) = m

    go : Memᴰ n a ⊎ Memᴰ n (l ++ b) → Memᴰ n b
    go (inl m) = let less = ascending_apart a (l ++ b) rise n o m (Memᴰ.append_left b i) in let more = above o i in absurd (omega arith)
    go (inr m) = later (Memᴰ.append_cases l m)

-- what is below the middle part stands before it
below⇒before : (a l b : List ℕ) → Ascending (a ++ (l ++ b)) → (o : ℕ) → Memᴰ o l → (n : ℕ) → Memᴰ n (a ++ (l ++ b)) → ((m : ℕ) → Memᴰ m l → n < m) → Memᴰ n a
below⇒before a l b rise o i n j below = go (Memᴰ.append_cases a j)
  where
    later : Memᴰ n l ⊎ Memᴰ n b → Memᴰ n a
    later (inl m) = let self = below n m in absurd (omega arith)
    later (inr m) = let more = ascending_apart l b (ascending_right a (l ++ b) rise) o n i m in let less = below o i in absurd (omega arith)

    go : Memᴰ n a ⊎ Memᴰ n (l ++ b) → Memᴰ n a
    go (inl m) = m
    go (inr m) = later (Memᴰ.append_cases l m)

module _ (bs : List Block) (root : ℕ) (t : Tree bs root) where
  -- ---- the blocks of a level lead to all data blocks, in walk order

  -- a block above blocks that are all lower is the only one of its level
  alone : (b : Block) → Memᴰ b bs → (rest : List ℕ) → ((x : ℕ) → Memᴰ x rest → block_level bs x < b.frame.level)
      → keep (λ x. eqb (block_level bs x) b.frame.level) (b.frame.start ∷ rest) ≡ b.frame.start ∷ []
  unfolding keep
  alone b m rest lower =
      rw (eq-eqb (block_level bs b.frame.start) b.frame.level (level_at bs root t b m))
      (ap (λ (l : List ℕ). b.frame.start ∷ l)
      (keep_none (λ x. eqb (block_level bs x) b.frame.level) rest (λ (x : ℕ) (i : Memᴰ x rest). ne_eqb (block_level bs x) b.frame.level (λ e. let less = lower x i in omega arith))))

  -- levels below an index block are lower
  level_below : (level : ℕ) (b : Block) → Memᴰ b bs → b.frame.level ≡ suc level → (x : ℕ) → Memᴰ x (flat_map (λ e. preorder bs level e.offset) (block_entries bs b.frame.start)) → block_level bs x < suc level
  level_below level b m p x i =
      let f = flat_map_member (λ e. preorder bs level e.offset) (block_entries bs b.frame.start) x i in
      let c = child bs root t b m level p f.0 f.1 in
      let w = preorder_met bs root t level c.block c.member c.leveled x (subst (λ (n : ℕ). Memᴰ x (preorder bs level n)) (sym c.starts) f.2) in
      let same = ap (block_level bs) (sym w.starts) ∙ level_at bs root t w.block w.member in
      let low = w.lower in
      omega arith

  own_level : (level : ℕ) (b : Block) → Memᴰ b bs → b.frame.level ≡ level → blocks_of_level bs b.frame.level level b.frame.start ≡ b.frame.start ∷ []
  unfolding blocks_of_level preorder
  own_level zero b m p = alone b m [] (λ (x : ℕ) (i : Memᴰ x []). absurd (Memᴰ.not-nil i))
  own_level (suc level) b m p =
      alone b m (flat_map (λ e. preorder bs level e.offset) (block_entries bs b.frame.start))
      (λ (x : ℕ) (i : Memᴰ x (flat_map (λ e. preorder bs level e.offset) (block_entries bs b.frame.start))). let less = level_below level b m p x i in omega arith)

  top_level : (l level : ℕ) (b : Block) → Memᴰ b bs → b.frame.level ≡ level → l ≡ level → flat_map (λ x. leaves bs l x) (blocks_of_level bs l level b.frame.start) ≡ leaves bs level b.frame.start
  unfolding flat_map
  top_level l level b m p q =
      ap (λ (n : ℕ). flat_map (λ x. leaves bs n x) (blocks_of_level bs n level b.frame.start)) (q ∙ sym p)
      ∙ ap (flat_map (λ x. leaves bs b.frame.level x)) (own_level level b m p)
      ∙ append-nil (leaves bs b.frame.level b.frame.start)
      ∙ ap (λ (n : ℕ). leaves bs n b.frame.start) p

  pub level_leaves_under : (l level : ℕ) (b : Block) → Memᴰ b bs → b.frame.level ≡ level → l ≤ level → flat_map (λ x. leaves bs l x) (blocks_of_level bs l level b.frame.start) ≡ leaves bs level b.frame.start
  unfolding blocks_of_level preorder keep leaves
  level_leaves_under l zero b m p few = top_level l zero b m p (omega arith)
  level_leaves_under l (suc level) b m p few = go (eqb (suc level) l) refl (λ (c : Block) (i : Memᴰ c bs). level_leaves_under l level c i)
    where
      go : (top : Bool) → eqb (suc level) l ≡ top
          → ((c : Block) → Memᴰ c bs → c.frame.level ≡ level → l ≤ level → flat_map (λ x. leaves bs l x) (keep (λ x. eqb (block_level bs x) l) (preorder bs level c.frame.start)) ≡ leaves bs level c.frame.start)
          → flat_map (λ x. leaves bs l x) (keep (λ x. eqb (block_level bs x) l) (b.frame.start ∷ flat_map (λ e. preorder bs level e.offset) (block_entries bs b.frame.start)))
          ≡ flat_map (λ e. leaves bs level e.offset) (block_entries bs b.frame.start)
      go true q ih = top_level l (suc level) b m p (sym (eqb-true (suc level) l q))
      go false q ih =
          let other = eqb-false (suc level) l q in
          let same = level_at bs root t b m in
          rw (ne_eqb (block_level bs b.frame.start) l (λ e. other (sym p ∙ sym same ∙ e)))
          (ap (flat_map (λ x. leaves bs l x)) (keep_flat_map (λ x. eqb (block_level bs x) l) (λ e. preorder bs level e.offset) (block_entries bs b.frame.start))
          ∙ flat_map_flat_map (λ x. leaves bs l x) (λ e. keep (λ x. eqb (block_level bs x) l) (preorder bs level e.offset)) (block_entries bs b.frame.start)
          ∙ flat_map_same (λ e. flat_map (λ x. leaves bs l x) (keep (λ x. eqb (block_level bs x) l) (preorder bs level e.offset))) (λ e. leaves bs level e.offset) (block_entries bs b.frame.start) each)
        where
          each : (e : Entry) → Memᴰ e (block_entries bs b.frame.start) → flat_map (λ x. leaves bs l x) (keep (λ x. eqb (block_level bs x) l) (preorder bs level e.offset)) ≡ leaves bs level e.offset
          each e i =
              let c = child bs root t b m level p e i in
              let below : l ≤ level = let other = eqb-false (suc level) l q in omega arith in
              subst (λ (n : ℕ). flat_map (λ x. leaves bs l x) (keep (λ x. eqb (block_level bs x) l) (preorder bs level n)) ≡ leaves bs level n) c.starts (ih c.block c.member c.leveled below)

  -- the blocks of a level lead to the data blocks of the whole walk
  pub level_leaves : (l : ℕ) → l ≤ block_level bs root → flat_map (λ x. leaves bs l x) (blocks_of_level bs l (block_level bs root) root) ≡ leaves bs (block_level bs root) root
  level_leaves l few =
      let r = t.rooted in
      subst (λ (n : ℕ). flat_map (λ x. leaves bs l x) (blocks_of_level bs l (block_level bs root) n) ≡ leaves bs (block_level bs root) n) r.2
      (level_leaves_under l (block_level bs root) r.0 r.1 (sym (level_at bs root t r.0 r.1) ∙ ap (block_level bs) r.2) few)

  -- they are exactly the blocks of that level
  pub level_block : (l x : ℕ) → Memᴰ x (blocks_of_level bs l (block_level bs root) root) → (b : Block) × Memᴰ b bs × (b.frame.start ≡ x) × (b.frame.level ≡ l) × (l ≤ 63)
  unfolding blocks_of_level
  level_block l x m =
      let k = keep_member (λ y. eqb (block_level bs y) l) (preorder bs (block_level bs root) root) x m in
      let b = preorder⇒ordinary bs root t x k.0 in
      let is-level = sym (level_at bs root t b.0 b.1) ∙ ap (block_level bs) b.2 ∙ eqb-true (block_level bs x) l k.1 in
      let few = b.3 in
      (b.0, b.1, b.2, is-level, omega arith)

  pub block_level_lem : (b : Block) → Memᴰ b bs → b.frame.level ≤ 63 → Memᴰ b.frame.start (blocks_of_level bs b.frame.level (block_level bs root) root)
  unfolding blocks_of_level
  block_level_lem b m few =
      member_keep (λ y. eqb (block_level bs y) b.frame.level) (preorder bs (block_level bs root) root) b.frame.start (ordinary⇒preorder bs root t b m few)
      (eq-eqb (block_level bs b.frame.start) b.frame.level (level_at bs root t b m))

  module _ (walked : Ascending (leaves bs (block_level bs root) root)) (l : ℕ) (few : l ≤ block_level bs root) (front : List ℕ) (x : ℕ) (back : List ℕ)
      (split : blocks_of_level bs l (block_level bs root) root ≡ front ++ (x ∷ back)) (y : ℕ) (later : Memᴰ y back) where
    -- of two blocks of one level, the data blocks under the earlier come first
    pub level_order : (o n : ℕ) → Memᴰ o (leaves bs l x) → Memᴰ n (leaves bs l y) → o < n
    level_order o n i j =
        let parts = flat_map_split (λ z. leaves bs l z) (blocks_of_level bs l (block_level bs root) root) front x back split in
        let rise = subst Ascending (sym (level_leaves l few) ∙ parts) walked in
        ascending_apart (leaves bs l x) (flat_map (λ z. leaves bs l z) back) (ascending_right (flat_map (λ z. leaves bs l z) front) (leaves bs l x ++ flat_map (λ z. leaves bs l z) back) rise)
        o n i (member_flat_map (λ z. leaves bs l z) back y n later j)

    some_leaf : (z : ℕ) → Way bs root l z → (o : ℕ) × Memᴰ o (leaves bs l z)
    some_leaf z w =
        let met = way_block bs root t l z w in
        let leaf = leaves_some bs root t l met.block met.member met.leveled met.few in
        (leaf.0, subst (λ (n : ℕ). Memᴰ leaf.0 (leaves bs l n)) met.starts leaf.1)

    -- so the later one's records are after the earlier one, and the earlier one's before the later
    pub level_after : (v : Way bs root l x) → Way bs root l y → (r : Text) → Memᴰ r (under bs l y) → Memᴰ r (post bs root l x v)
    unfolding under post
    level_after v w r m =
        let f = flat_map_member (λ o. block_records bs o) (leaves bs l y) r m in
        let some = some_leaf x v in
        let cut = leaves-cut bs root l x v in
        let inside = subst (Memᴰ f.0) cut (leaves-within bs root l y w f.0 f.1) in
        let place = above⇒after (leaves_before bs root l x v) (leaves bs l x) (leaves_after bs root l x v) (subst Ascending cut walked) some.0 some.1 f.0 inside (λ (o : ℕ) (i : Memᴰ o (leaves bs l x)). level_order o f.0 i f.1) in
        member_flat_map (λ o. block_records bs o) (leaves_after bs root l x v) f.0 r place f.2

    pub level_before : Way bs root l x → (w : Way bs root l y) → (r : Text) → Memᴰ r (under bs l x) → Memᴰ r (pre bs root l y w)
    unfolding under pre
    level_before v w r m =
        let f = flat_map_member (λ o. block_records bs o) (leaves bs l x) r m in
        let some = some_leaf y w in
        let cut = leaves-cut bs root l y w in
        let inside = subst (Memᴰ f.0) cut (leaves-within bs root l x v f.0 f.1) in
        let place = below⇒before (leaves_before bs root l y w) (leaves bs l y) (leaves_after bs root l y w) (subst Ascending cut walked) some.0 some.1 f.0 inside (λ (o : ℕ) (i : Memᴰ o (leaves bs l y)). level_order f.0 o f.1 i) in
        member_flat_map (λ o. block_records bs o) (leaves_before bs root l y w) f.0 r place f.2
