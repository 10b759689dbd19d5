-- Of the blocks of one level that the search opens, at most two lead to no match: all between the first and the last lead to one.
-- Assumes nothing.
use mathlib.Core.Path.{◌≡◌, refl, sym, ap, ◌∙◌, subst}
use mathlib.Core.Logic.{◌≢◌}
use mathlib.Core.Bool.{Bool, true, false, ◌&&◌, not, false≢true}
use mathlib.Core.List.{List, [], ◌∷◌, ◌++◌, Memᴰ}
use mathlib.Core.Option.{Option, none, some}
use Prim.Native.Nat.{ℕ, ◌≤◌, ◌<◌}
use native.Mathlib.Omega.{arith}
use lib.Dec.{eqb}
use lib.ListN.{length}
use borrow.Author.Tests.{eqb-true, eq-eqb}
use Rattle.byte_string.specs.Order.{at_most}
use Rattle.byte_string.proofs.OrderLaws.{at_most_trans}
use Rattle.lists.specs.Lists.{keep, any}
use Rattle.lists.proofs.ListsLaws.{both⁻¹, any_member, member_any, member_keep}
use Rattle.payload.specs.Payload.{Text}
use Rattle.block.specs.Block.{Block}
use Rattle.query.specs.Query.{Query, matches}
use Rattle.query.specs.Opening.{up_to}
use Rattle.query.proofs.QueryLaws.{matches_convex}
use Rattle.tree.specs.Tree.{block_level, under}
use Rattle.theorems_tree.specs.Preorder.{Kept, preorder}
use Rattle.lists.proofs.CountLaws.{keep_split}
use Rattle.theorems_search.specs.OpeningRule.{Opened, LeadsTo, InVain}
use Rattle.theorems_search.specs.SearchedByRules.{QueryBytes}
use Rattle.tree.proofs.TreeLaws.{level_at}
use Rattle.tree.proofs.TreeWays.{Way, block_way, under_some}
use Rattle.theorems_search.proofs.Events.{search_events, opens_in}
use Rattle.theorems_tree.proofs.TreePreorder.{preorder⇒ordinary}
use Rattle.theorems_tree.proofs.TreeLevels.{blocks_of_level}
use Rattle.theorems_tree.proofs.TreeCuts.{SearchTree, Past, lower_of, upper_of}
use Rattle.theorems_tree.proofs.TreeBounds.{upper_earlier, lower_later}
use Rattle.theorems_search.proofs.KeptLaws.{kept_decided, kept_member, kept_split}
use Rattle.theorems_search.proofs.RuleWays.{opened_admits}
use Rattle.theorems_search.proofs.OpenedExactly.{KeysAreBytes, opened_exactly}
use Rattle.theorems_search.proofs.LeadsLaws.{leads⇒under, under⇒leads}

-- ---- lists and bounds

-- a list that doesn't begin with three elements has at most two
few_elements : {A : Type 0} (xs : List A) → ((x y z : A) (rest : List A) → xs ≡ x ∷ y ∷ z ∷ rest → ⊥) → length xs ≤ 2
few_elements [] h = omega arith
few_elements (x ∷ []) h = omega arith
few_elements (x ∷ y ∷ []) h = omega arith
few_elements (x ∷ y ∷ z ∷ rest) h = absurd (h x y z rest refl)

-- what is at most an upper bound is at most what is past it
below_past : (x : List ℕ) (upper : Option (List ℕ)) (y : List ℕ) → up_to x upper ≡ true → Past upper y → at_most x y ≡ true
unfolding up_to Past
below_past x none y l h = absurd h
below_past x (some upper) y l h = at_most_trans x upper y l h

-- the block at an offset has this level and leads to no matching record
unfoldable is_in_vain : List Block → Query → (l x : ℕ) → Bool
is_in_vain bs q l x = eqb (block_level bs x) l && not (any (λ r. matches q r.bytes) (under bs l x))

module _ (bs : List Block) (root : ℕ) (k : SearchTree bs root) (q : Query) (l : ℕ) where
  -- ---- the test decides

  met_block : (x : ℕ) → Memᴰ x (preorder bs (block_level bs root) root) → block_level bs x ≡ l → (b : Block) × Memᴰ b bs × (b.frame.start ≡ x) × (b.frame.level ≡ l) × (b.frame.level ≤ 63)
  met_block x m p =
      let b = preorder⇒ordinary bs root k.tree x m in
      (b.0, b.1, b.2, sym (level_at bs root k.tree b.0 b.1) ∙ ap (block_level bs) b.2 ∙ p, b.3)

  test⇒InVain : (x : ℕ) → Memᴰ x (preorder bs (block_level bs root) root) → is_in_vain bs q l x ≡ true → InVain bs q l x
  unfolding is_in_vain
  test⇒InVain x m p =
      let h = both⁻¹ (eqb (block_level bs x) l) (not (any (λ r. matches q r.bytes) (under bs l x))) p in
      let b = met_block x m (eqb-true (block_level bs x) l h.0) in
      record {
        block = b.0;
        member = b.1;
        starts = b.2;
        leveled = b.3;
        vain = λ (r : Text) (lead : LeadsTo bs x r) (hit : matches q r.bytes ≡ true).
            let i = subst (λ (n : ℕ). Memᴰ r (under bs n x)) b.3 (leads⇒under bs root k.tree x r lead b.0 b.1 b.2) in
            false≢true (sym (ap not (member_any (λ r. matches q r.bytes) (under bs l x) r i hit)) ∙ h.1);
      }

  untested⇒match : (x : ℕ) → block_level bs x ≡ l → is_in_vain bs q l x ≡ false → any (λ r. matches q r.bytes) (under bs l x) ≡ true
  unfolding is_in_vain
  untested⇒match x p n = go (any (λ r. matches q r.bytes) (under bs l x)) (sym (ap (λ (b : Bool). b && not (any (λ r. matches q r.bytes) (under bs l x))) (eq-eqb (block_level bs x) l p)) ∙ n)
    where
      go : (b : Bool) → not b ≡ false → b ≡ true
      go true e = refl
      go false e = sym e

  InVain_level : (x : ℕ) → InVain bs q l x → block_level bs x ≡ l
  InVain_level x v = ap (block_level bs) (sym v.starts) ∙ level_at bs root k.tree v.block v.member ∙ v.leveled

  InVain_under : (x : ℕ) → InVain bs q l x → (r : Text) → Memᴰ r (under bs l x) → matches q r.bytes ≡ true → ⊥
  InVain_under x v r m hit =
      let inside = subst (λ (n : ℕ). Memᴰ r (under bs l n)) (sym v.starts) m in
      v.vain r (subst (λ (n : ℕ). LeadsTo bs n r) v.starts (under⇒leads bs root k.tree l v.block v.member v.leveled r inside)) hit

  untested⇒not_InVain : (x : ℕ) → is_in_vain bs q l x ≡ false → InVain bs q l x → ⊥
  untested⇒not_InVain x n v =
      let r = any_member (λ r. matches q r.bytes) (under bs l x) (untested⇒match x (InVain_level x v) n) in
      InVain_under x v r.0 r.1 r.2

  -- ---- between two opened blocks

  module _ (below : l < block_level bs root) where
    -- a block of a lower level is not the root
    not_root : (x : ℕ) → block_level bs x ≡ l → x ≢ root
    not_root x p same = let h = ap (block_level bs) same in omega arith

    -- x is before y among the blocks of this level
    pub record Before (x y : ℕ) : Type 0 where
      pub front : List ℕ
      pub back : List ℕ
      pub split : blocks_of_level bs l (block_level bs root) root ≡ front ++ (x ∷ back)
      pub later : Memᴰ y back

    -- what a block between two opened blocks leads to matches
    pub between_matches : (x y z : ℕ) → Before x y → Before y z → block_level bs x ≡ l → block_level bs z ≡ l → Way bs root l x → Way bs root l y → Way bs root l z
        → Opened bs root q x → Opened bs root q z → (r : Text) → Memᴰ r (under bs l y) → matches q r.bytes ≡ true
    between_matches x y z first second p s u v w opened opened' r m =
        let a = opened_admits bs root k.tree q l x u (not_root x p) opened in
        let c = opened_admits bs root k.tree q l z w (not_root z s) opened' in
        let past = upper_earlier bs root k l (omega arith) first.front x first.back first.split y first.later u v r m in
        let low = lower_later bs root k l (omega arith) second.front y second.back second.split z second.later v w r m in
        matches_convex q a.witness r.bytes c.witness (below_past a.witness (upper_of bs root l x u) r.bytes a.below past)
        (at_most_trans r.bytes (lower_of bs root l z w) c.witness low c.above) a.fits c.fits

    -- ---- at most two

    module _ (opened : List ℕ) (exact : Kept (Opened bs root q) (preorder bs (block_level bs root) root) opened) (vain : List ℕ) (kept : Kept (InVain bs q l) opened vain) where
      vain_opened : (x : ℕ) → Memᴰ x vain → Memᴰ x (preorder bs (block_level bs root) root) × Opened bs root q x × InVain bs q l x
      vain_opened x m =
          let v = kept_member (InVain bs q l) opened vain kept x m in
          let o = kept_member (Opened bs root q) (preorder bs (block_level bs root) root) opened exact x v.0 in
          (o.0, o.1, v.1)

      -- walk order is kept
      vain_before : (front : List ℕ) (x : ℕ) (back : List ℕ) → vain ≡ front ++ (x ∷ back) → block_level bs x ≡ l → (y : ℕ) → Memᴰ y back → block_level bs y ≡ l → Before x y
      unfolding blocks_of_level
      vain_before front x back e p y m s =
          let a = kept_split (InVain bs q l) opened vain kept front x back e in
          let b = kept_split (Opened bs root q) (preorder bs (block_level bs root) root) opened exact a.0 x a.1 a.2 in
          let inner = (kept_member (Opened bs root q) b.1 a.1 b.4 y (kept_member (InVain bs q l) a.1 back a.4 y m).0).0 in
          record {
            front = keep (λ n. eqb (block_level bs n) l) b.0;
            back = keep (λ n. eqb (block_level bs n) l) b.1;
            split = keep_split (λ n. eqb (block_level bs n) l) (preorder bs (block_level bs root) root) b.0 x b.1 b.2 (eq-eqb (block_level bs x) l p);
            later = member_keep (λ n. eqb (block_level bs n) l) b.1 y inner (eq-eqb (block_level bs y) l s);
          }

      way_to : (x : ℕ) → InVain bs q l x → Memᴰ x (preorder bs (block_level bs root) root) → Way bs root l x
      way_to x v m =
          let b = met_block x m (InVain_level x v) in
          subst (λ (n : ℕ). Way bs root n x) b.3 (subst (λ (n : ℕ). Way bs root b.0.frame.level n) b.2 (block_way bs root k.tree b.0 b.1 b.4))

      no_third : (x y z : ℕ) (rest : List ℕ) → vain ≡ x ∷ y ∷ z ∷ rest → ⊥
      no_third x y z rest e =
          let a = vain_opened x (subst (Memᴰ x) (sym e) (Memᴰ.head refl)) in
          let b = vain_opened y (subst (Memᴰ y) (sym e) (Memᴰ.tail (Memᴰ.head refl))) in
          let c = vain_opened z (subst (Memᴰ z) (sym e) (Memᴰ.tail (Memᴰ.tail (Memᴰ.head refl)))) in
          let first = vain_before [] x (y ∷ z ∷ rest) e (InVain_level x a.2) y (Memᴰ.head refl) (InVain_level y b.2) in
          let second = vain_before (x ∷ []) y (z ∷ rest) e (InVain_level y b.2) z (Memᴰ.head refl) (InVain_level z c.2) in
          let v = way_to y b.2 b.0 in
          let some = under_some bs root k.tree l y v in
          let r = some.0 in
          let inside = subst (Memᴰ r) (sym some.2) (Memᴰ.head refl) in
          let hit = between_matches x y z first second (InVain_level x a.2) (InVain_level z c.2) (way_to x a.2 a.0) v (way_to z c.2 c.0) a.1 c.1 r inside in
          InVain_under y b.2 r inside hit

      pub vain_few : length vain ≤ 2
      vain_few = few_elements vain no_third

    -- of the blocks of a level that the rule opens, those that lead to no match are at most two
    pub two_in_vain : (opened : List ℕ) → Kept (Opened bs root q) (preorder bs (block_level bs root) root) opened → (vain : List ℕ) × Kept (InVain bs q l) opened vain × (length vain ≤ 2)
    two_in_vain opened exact = (keep (is_in_vain bs q l) opened, kept, vain_few opened exact (keep (is_in_vain bs q l) opened) kept)
      where
        kept : Kept (InVain bs q l) opened (keep (is_in_vain bs q l) opened)
        kept =
            kept_decided (InVain bs q l) (is_in_vain bs q l) opened
            (λ (x : ℕ) (m : Memᴰ x opened). test⇒InVain x (kept_member (Opened bs root q) (preorder bs (block_level bs root) root) opened exact x m).0)
            (λ (x : ℕ) (m : Memᴰ x opened). untested⇒not_InVain x)

-- in particular of those that the search opens
pub searched_in_vain : (bs : List Block) (root : ℕ) → SearchTree bs root → (q : Query) → KeysAreBytes bs → QueryBytes q → (level : ℕ) → level < block_level bs root
    → (vain : List ℕ) × Kept (InVain bs q level) (opens_in (search_events bs root q)) vain × (length vain ≤ 2)
searched_in_vain bs root k q keys asked level below = two_in_vain bs root k q level below (opens_in (search_events bs root q)) (opened_exactly bs root k.tree q keys asked)
