-- 24: the first block in file order with a key that does not fit is the least of those that the walk meets.
-- Assumes nothing.
use mathlib.Core.Path.{◌≡◌, refl, sym, ap, ◌∙◌, subst}
use mathlib.Core.Logic.{◌≢◌, ◌⊎◌, inl, inr}
use mathlib.Core.Bool.{Bool, true, false, ◌||◌, cond, false≢true}
use mathlib.Core.List.Memᴰ
use mathlib.Core.List.{List, [], ◌∷◌, ◌++◌, map, Memᴰ}
use Prim.Native.Nat.{ℕ, zero, suc, ◌-◌, ◌≤◌, ◌<◌}
use native.Mathlib.Omega.{arith}
use lib.Dec.{ltb, eqb}
use borrow.Author.Tests.{eqb-true, eqb-false, ltb-true, ltb-false}
use Rattle.outcome.specs.Outcome.{answer, ◌>>◌, must}
use Rattle.outcome.proofs.OutcomeLaws.{kept, broken}
use Rattle.lists.proofs.ListsLaws.{Ascending, below_member, flat_map_member, member_flat_map, not_all, false_all}
use Rattle.lists.proofs.RisingLaws.{member_split, split_member, ascending_keep}
use Rattle.payload.specs.Payload.{Entry}
use Rattle.block.specs.Block.{Block, is_ordinary}
use Rattle.block.specs.Survey.{ordinary}
use Rattle.tree.specs.Tree.{block_entries, block_level, under, key_fits}
use Rattle.tree.specs.Stages.{each, keys_fit}
use Rattle.tree.proofs.StageLaws.{ordinary_member, member_ordinary}
use Rattle.check_walk.specs.Keys.{earlier}
use Rattle.check_walk.specs.Walk.{place_said}
use Rattle.check_walk.proofs.WalkedLaws.{said_none, said_place}
use Rattle.check_walk.proofs.MisfitLaws.{least_of, misfit_of, misfits}
use Rattle.tree.proofs.TreeLaws.{Tree, entries_at}
use Rattle.tree.proofs.TreeWays.{Way, at_root, by_entry, Met, way_block, met_entries, block_way}

-- ---- the least of some places

-- one of two places, neither later than the other
earlier_one : (m x : ℕ) → x ≢ 0 → (earlier m x ≢ 0) × ((earlier m x ≡ m) ⊎ (earlier m x ≡ x)) × (earlier m x ≤ x) × (m ≢ 0 → earlier m x ≤ m)
unfolding earlier
earlier_one m x h = go (eqb m 0) refl (ltb x m) refl
  where
    go : (a : Bool) → eqb m 0 ≡ a → (b : Bool) → ltb x m ≡ b
        → (cond (a || b) x m ≢ 0) × ((cond (a || b) x m ≡ m) ⊎ (cond (a || b) x m ≡ x)) × (cond (a || b) x m ≤ x) × (m ≢ 0 → cond (a || b) x m ≤ m)
    go true p b q = (h, inr refl, omega arith, λ some. absurd (some (eqb-true m 0 p)))
    go false p true q = let less = ltb-true x m q in (h, inr refl, omega arith, λ some. omega arith)
    go false p false q = let more = ltb-false x m q in (eqb-false m 0 p, inl refl, omega arith, λ some. omega arith)

-- the least of m and some places, none of which is 0
pub record Least (m : ℕ) (xs : List ℕ) (l : ℕ) : Type 0 where
  pub none : l ≡ 0 → (m ≡ 0) × (xs ≡ [])
  pub one : l ≢ 0 → (l ≡ m) ⊎ Memᴰ l xs
  pub least : (x : ℕ) → Memᴰ x xs → l ≤ x
  pub below : m ≢ 0 → l ≤ m

pub least_of_least : (m : ℕ) (xs : List ℕ) → ((x : ℕ) → Memᴰ x xs → x ≢ 0) → Least m xs (least_of m xs)
unfolding least_of
least_of_least m [] some = record { none = λ e. (e, refl); one = λ h. inl refl; least = λ x i. absurd (Memᴰ.not-nil i); below = λ h. omega arith }
least_of_least m (y ∷ ys) some =
    let first = earlier_one m y (some y (Memᴰ.head refl)) in
    let rest = least_of_least (earlier m y) ys (λ x i. some x (Memᴰ.tail i)) in
    go (earlier m y) (least_of (earlier m y) ys) first.0 first.1 first.2 first.3 rest
  where
    go : (n l : ℕ) → n ≢ 0 → (n ≡ m) ⊎ (n ≡ y) → n ≤ y → (m ≢ 0 → n ≤ m) → Least n ys l → Least m (y ∷ ys) l
    go n l some-n which low-y low-m r =
        record {
          none = λ e. absurd (some-n (r.none e).0);
          one = λ h. choose which (r.one h);
          least = λ x i. later x (Memᴰ.cases_cons i);
          below = λ h. let a = low-m h in let b = r.below some-n in omega arith;
        }
      where
        choose : (n ≡ m) ⊎ (n ≡ y) → (l ≡ n) ⊎ Memᴰ l ys → (l ≡ m) ⊎ Memᴰ l (y ∷ ys)
        choose (inl p) (inl q) = inl (q ∙ p)
        choose (inr p) (inl q) = inr (Memᴰ.head (q ∙ p))
        choose w (inr inside) = inr (Memᴰ.tail inside)

        later : (x : ℕ) → (x ≡ y) ⊎ Memᴰ x ys → l ≤ x
        later x (inl same) = let b = r.below some-n in omega arith
        later x (inr inside) = r.least x inside

-- ---- the first block that breaks a rule

-- the start of the first block that breaks the rule, 0 for none
pub record First (rule : Block → Bool) (xs : List Block) (m : ℕ) : Type 0 where
  pub none : m ≡ 0 → (x : Block) → Memᴰ x xs → rule x ≡ true
  pub broken_by : m ≢ 0 → (x : Block) × Memᴰ x xs × (x.frame.start ≡ m) × (rule x ≡ false)
  pub least : (x : Block) → Memᴰ x xs → rule x ≡ false → m ≤ x.frame.start

pub each_first : (rule : Block → Bool) (number : ℕ) (xs : List Block) (m : ℕ) → Ascending (map (λ x. x.frame.start) xs)
    → ((x : Block) → Memᴰ x xs → x.frame.start ≢ 0) → First rule xs m
    → each rule number xs ≡ place_said number m
unfolding each Ascending
each_first rule number [] m rise some f = go (eqb m 0) refl
  where
    go : (b : Bool) → eqb m 0 ≡ b → answer tt ≡ place_said number m
    go true p = sym (said_none number m (eqb-true m 0 p))
    go false p = absurd (Memᴰ.not-nil (f.broken_by (eqb-false m 0 p)).1)
each_first rule number (x ∷ xs) m rise some f = go (rule x) refl (each_first rule number xs m rise.1 (λ y i. some y (Memᴰ.tail i)))
  where
    later : (y : Block) → Memᴰ y xs → x.frame.start < y.frame.start
    later y i = below_member (λ z. z.frame.start) x.frame.start xs rise.0 y i

    rest : rule x ≡ true → First rule xs m
    rest e = record { none = λ z y i. f.none z y (Memᴰ.tail i); broken_by = λ h. by (f.broken_by h); least = λ y i k. f.least y (Memᴰ.tail i) k }
      where
        by : (y : Block) × Memᴰ y (x ∷ xs) × (y.frame.start ≡ m) × (rule y ≡ false)
            → (y : Block) × Memᴰ y xs × (y.frame.start ≡ m) × (rule y ≡ false)
        by (y, i, s, k) = at (Memᴰ.cases_cons i)
          where
            at : (y ≡ x) ⊎ Memᴰ y xs → (z : Block) × Memᴰ z xs × (z.frame.start ≡ m) × (rule z ≡ false)
            at (inl same) = absurd (false≢true (sym (ap rule (sym same) ∙ k) ∙ e))
            at (inr inside) = (y, inside, s, k)

    place : rule x ≡ false → x.frame.start ≡ m
    place e = go (eqb m 0) refl
      where
        at : (y : Block) → (y ≡ x) ⊎ Memᴰ y xs → y.frame.start ≡ m → x.frame.start ≡ m
        at y (inl same) s = ap (λ (z : Block). z.frame.start) (sym same) ∙ s
        at y (inr inside) s = let a = later y inside in let b = f.least x (Memᴰ.head refl) e in absurd (omega arith)

        go : (b : Bool) → eqb m 0 ≡ b → x.frame.start ≡ m
        go true p = absurd (false≢true (sym e ∙ f.none (eqb-true m 0 p) x (Memᴰ.head refl)))
        go false p = let w = f.broken_by (eqb-false m 0 p) in at w.0 (Memᴰ.cases_cons w.1) w.2

    go : (b : Bool) → rule x ≡ b → (First rule xs m → each rule number xs ≡ place_said number m)
        → (must (rule x) number x.frame.start >> each rule number xs) ≡ place_said number m
    go true e ih = kept (rule x) number x.frame.start (each rule number xs) e ∙ ih (rest e)
    go false e ih =
        broken (rule x) number x.frame.start (each rule number xs) e
        ∙ sym (said_place number x.frame.start (some x (Memᴰ.head refl)))
        ∙ ap (place_said number) (place e)

-- ---- the misfits of a tree

-- a block of the file with a key that does not fit
pub record Misfit (bs : List Block) (y : ℕ) : Type 0 where
  pub block : Block
  pub member : Memᴰ block bs
  pub few : block.frame.level ≤ 63
  pub starts : block.frame.start ≡ y
  pub wrong : keys_fit bs block ≡ false

module _ (bs : List Block) (root : ℕ) (t : Tree bs root) where
  at_entry : (level at : ℕ) → Met bs root t (suc level) at → (e : Entry) → Memᴰ e (block_entries bs at) → (y : ℕ)
      → Memᴰ y (misfit_of bs level at e) → Misfit bs y
  unfolding keys_fit
  at_entry level at b e i y n = go (key_fits bs e.key.bytes (under bs level e.offset)) refl n
    where
      go : (fits : Bool) → key_fits bs e.key.bytes (under bs level e.offset) ≡ fits → Memᴰ y (cond fits [] (at ∷ [])) → Misfit bs y
      go true p k = absurd (Memᴰ.not-nil k)
      go false p k =
          let high = b.leveled in
          let few = b.few in
          let lower : level ≡ b.block.frame.level - 1 = omega arith in
          record {
            block = b.block;
            member = b.member;
            few = omega arith;
            starts = b.starts ∙ sym (Memᴰ.eq_of_singleton k);
            wrong = false_all _ b.block.entries e (subst (Memᴰ e) (sym (met_entries bs root t (suc level) at b)) i) (ap (λ (l : ℕ). key_fits bs e.key.bytes (under bs l e.offset)) (sym lower) ∙ p);
          }

  -- each of them is a block whose keys do not all fit
  pub misfits_wrong : (level at : ℕ) → Way bs root level at → (y : ℕ) → Memᴰ y (misfits bs level at) → Misfit bs y
  unfolding misfits
  misfits_wrong zero at w y n = absurd (Memᴰ.not-nil n)
  misfits_wrong (suc level) at w y n =
      let f = flat_map_member (λ e. misfits bs level e.offset ++ misfit_of bs level at e) (block_entries bs at) y n in
      go f.0 f.1 (Memᴰ.append_cases (misfits bs level f.0.offset) f.2) (misfits_wrong level)
    where
      go : (e : Entry) → Memᴰ e (block_entries bs at) → Memᴰ y (misfits bs level e.offset) ⊎ Memᴰ y (misfit_of bs level at e)
          → ((o : ℕ) → Way bs root level o → (z : ℕ) → Memᴰ z (misfits bs level o) → Misfit bs z) → Misfit bs y
      go e i (inl under-it) ih = let s = member_split (block_entries bs at) e i in ih e.offset (by_entry at s.0 e s.1 w s.2 refl) y under-it
      go e i (inr here) ih = at_entry level at (way_block bs root t (suc level) at w) e i y here

  -- those of a block on a way are among those of the root
  misfits_within : (level at : ℕ) → Way bs root level at → (y : ℕ) → Memᴰ y (misfits bs level at) → Memᴰ y (misfits bs (block_level bs root) root)
  unfolding misfits
  misfits_within level at (at_root p q) y n = subst (λ (o : ℕ). Memᴰ y (misfits bs (block_level bs root) o)) q (subst (λ (l : ℕ). Memᴰ y (misfits bs l at)) p n)
  misfits_within level at (by_entry upper front e back w p q) y n =
      misfits_within (suc level) upper w y
      (member_flat_map (λ x. misfits bs level x.offset ++ misfit_of bs level upper x) (block_entries bs upper) e y (split_member (block_entries bs upper) front e back p)
      (Memᴰ.append_left (misfit_of bs level upper e) (subst (λ (o : ℕ). Memᴰ y (misfits bs level o)) q n)))

  -- a block whose keys do not all fit is among its own misfits
  own_misfit : (level : ℕ) (c : Block) → Memᴰ c bs → c.frame.level ≡ level → keys_fit bs c ≡ false
      → Memᴰ c.frame.start (misfits bs level c.frame.start)
  unfolding keys_fit misfits
  own_misfit zero c m here wrong = let f = not_all _ c.entries wrong in absurd (Memᴰ.not-nil (subst (Memᴰ f.0) (t.data_no_entries c m here) f.1))
  own_misfit (suc level) c m here wrong =
      let f = not_all _ c.entries wrong in
      let at = c.frame.start in
      let lower : c.frame.level - 1 ≡ level = omega arith in
      member_flat_map (λ e. misfits bs level e.offset ++ misfit_of bs level at e) (block_entries bs at) f.0 at (subst (Memᴰ f.0) (sym (entries_at bs root t c m)) f.1)
      (Memᴰ.append_right (misfits bs level f.0.offset)
      (subst (λ (b : Bool). Memᴰ at (cond b [] (at ∷ []))) (sym (ap (λ (l : ℕ). key_fits bs f.0.key.bytes (under bs l f.0.offset)) (sym lower) ∙ f.2)) (Memᴰ.head refl)))

  pub wrong_misfits : (c : Block) → Memᴰ c bs → c.frame.level ≤ 63 → keys_fit bs c ≡ false
      → Memᴰ c.frame.start (misfits bs (block_level bs root) root)
  wrong_misfits c m few wrong = misfits_within c.frame.level c.frame.start (block_way bs root t c m few) c.frame.start (own_misfit c.frame.level c m refl wrong)

  -- 24 over the ordinary blocks in file order
  pub keys-first : ((b : Block) → Memᴰ b bs → b.frame.start ≢ 0)
      → each (keys_fit bs) 24 (ordinary bs) ≡ place_said 24 (least_of 0 (misfits bs (block_level bs root) root))
  unfolding ordinary is_ordinary
  keys-first some =
      each_first (keys_fit bs) 24 (ordinary bs) l (ascending_keep (λ b. b.frame.start) (λ b. is_ordinary b.frame.level) bs t.rise)
      (λ x i. some x (ordinary_member bs x i).0)
      (record { none = none; broken_by = by; least = least })
    where
      all_misfits : List ℕ
      all_misfits = misfits bs (block_level bs root) root

      l : ℕ
      l = least_of 0 all_misfits

      bad : (y : ℕ) → Memᴰ y all_misfits → Misfit bs y
      bad y i = misfits_wrong (block_level bs root) root (at_root refl refl) y i

      q : Least 0 all_misfits l
      q = least_of_least 0 all_misfits (λ y i z. let b = bad y i in some b.block b.member (b.starts ∙ z))

      none : l ≡ 0 → (x : Block) → Memᴰ x (ordinary bs) → keys_fit bs x ≡ true
      none z x i = go (keys_fit bs x) refl
        where
          go : (b : Bool) → keys_fit bs x ≡ b → b ≡ true
          go true e = refl
          go false e =
              let o = ordinary_member bs x i in
              absurd (Memᴰ.not-nil (subst (Memᴰ x.frame.start) (q.none z).1 (wrong_misfits x o.0 o.1 e)))

      by : l ≢ 0 → (x : Block) × Memᴰ x (ordinary bs) × (x.frame.start ≡ l) × (keys_fit bs x ≡ false)
      by h = go (q.one h)
        where
          go : (l ≡ 0) ⊎ Memᴰ l all_misfits → (x : Block) × Memᴰ x (ordinary bs) × (x.frame.start ≡ l) × (keys_fit bs x ≡ false)
          go (inl z) = absurd (h z)
          go (inr i) = let b = bad l i in (b.block, member_ordinary bs b.block b.member b.few, b.starts, b.wrong)

      least : (x : Block) → Memᴰ x (ordinary bs) → keys_fit bs x ≡ false → l ≤ x.frame.start
      least x i e = let o = ordinary_member bs x i in q.least x.frame.start (wrong_misfits x o.0 o.1 e)
