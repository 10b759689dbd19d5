-- The opening rule along ways: a block is opened exactly where each turn of the way down to it admits a match.
-- Assumes nothing.
use mathlib.Core.Path.{◌≡◌, refl, sym, ap, ◌∙◌, subst}
use mathlib.Core.Logic.{◌⊎◌, inl, inr, ◌≢◌}
use mathlib.Core.Bool.{false, false≢true}
use mathlib.Core.List.Memᴰ
use mathlib.Core.List.{List, [], ◌∷◌, ◌++◌, flat_map, Memᴰ}
use mathlib.Core.Option.{Option}
use Prim.Native.Nat.{ℕ, zero, suc}
use native.Mathlib.Omega.{arith}
use Rattle.lists.proofs.ListsLaws.{flat_map_member}
use Rattle.lists.proofs.RisingLaws.{member_split, split_member}
use Rattle.payload.specs.Payload.{Entry}
use Rattle.block.specs.Block.{Block}
use Rattle.query.specs.Query.{Query}
use Rattle.query.specs.Opening.{CanMatch, may_match}
use Rattle.query.proofs.OpeningLaws.{CanMatch⇒may_match}
use Rattle.search.specs.Search.{next_key}
use Rattle.tree.specs.Tree.{block_entries}
use Rattle.theorems_tree.specs.Preorder.{preorder}
use Rattle.theorems_search.specs.OpeningRule.{Opens, the_root, by_entry, Opened}
use Rattle.tree.proofs.TreeLaws.{Tree, entries_at, tree_entry⇒index}
use Rattle.tree.proofs.TreeWays.{Way, at_root, by_entry as turn, Turn, turns_of, way_block, met_entries}
use Rattle.theorems_tree.proofs.TreeUnique.{turns_unique}
use Rattle.theorems_tree.proofs.TreeCuts.{upper_bound, upper_of, lower_of, lower_bound}

-- at each of these turns, the last one first, some byte string between the bounds matches
unfoldable pub Admitted : Query → List Turn → Type 0
Admitted q [] = Unit {0}
Admitted q (t ∷ ts) = CanMatch t.entry.key.bytes (next_key t.back (upper_bound ts)) q × Admitted q ts

module _ (bs : List Block) (root : ℕ) (t : Tree bs root) (q : Query) where
  -- ---- from the rule to a way

  -- a way to an offset whose upper bound is this, and whose turns each admit a match
  pub record Reached (at : ℕ) (upper : Option (List ℕ)) : Type 0 where
    pub level : ℕ
    pub way : Way bs root level at
    pub bound : upper ≡ upper_of bs root level at way
    pub admits : Admitted q (turns_of bs root level at way)

  -- one entry further down
  reached_by : (at : ℕ) (upper : Option (List ℕ)) (b : Block) (above : Option (List ℕ)) (front : List Entry) (e : Entry) (back : List Entry)
      → Memᴰ b bs → b.entries ≡ front ++ (e ∷ back)
      → CanMatch e.key.bytes (next_key back above) q → at ≡ e.offset → upper ≡ next_key back above → Reached b.frame.start above → Reached at upper
  unfolding upper_of upper_bound turns_of Admitted
  reached_by at upper b above front e back m p c o u r = go r.level r.way r.bound r.admits
    where
      entries : block_entries bs b.frame.start ≡ front ++ (e ∷ back)
      entries = entries_at bs root t b m ∙ p

      go : (level : ℕ) (w : Way bs root level b.frame.start) → above ≡ upper_of bs root level b.frame.start w
          → Admitted q (turns_of bs root level b.frame.start w) → Reached at upper
      go zero w bound admits =
          let met = way_block bs root t zero b.frame.start w in
          let among = split_member met.block.entries front e back (met_entries bs root t zero b.frame.start met ∙ entries) in
          let index = tree_entry⇒index bs root t met.block met.member e among in
          let low = met.leveled in
          absurd (omega arith)
      go (suc level) w bound admits =
          record {
            level = level;
            way = turn b.frame.start front e back w entries o;
            bound = u ∙ ap (next_key back) bound;
            admits = (subst (λ (v : Option (List ℕ)). CanMatch e.key.bytes (next_key back v) q) bound c, admits);
          }

  pub Opens⇒way : (at : ℕ) (upper : Option (List ℕ)) → Opens bs root q at upper → Reached at upper
  unfolding upper_of upper_bound turns_of Admitted
  Opens⇒way at upper (the_root o u) = record { level = _; way = at_root refl o; bound = u; admits = tt }
  Opens⇒way at upper (by_entry b above front e back m up p c o u) = reached_by at upper b above front e back m p c o u (Opens⇒way b.frame.start above up)

  -- ---- and back

  pub way⇒Opens : (level at : ℕ) (w : Way bs root level at) → Admitted q (turns_of bs root level at w) → Opens bs root q at (upper_of bs root level at w)
  unfolding upper_of upper_bound turns_of Admitted
  way⇒Opens level at (at_root p o) admits = the_root o refl
  way⇒Opens level at (turn upper front e back w p o) admits =
      let met = way_block bs root t (suc level) upper w in
      let above = way⇒Opens (suc level) upper w admits.1 in
      by_entry met.block (upper_of bs root (suc level) upper w) front e back met.member
      (subst (λ (n : ℕ). Opens bs root q n (upper_of bs root (suc level) upper w)) (sym met.starts) above)
      (met_entries bs root t (suc level) upper met ∙ p) admits.0 o refl

  -- ---- whichever way leads to a block

  -- a block is opened exactly where the turns of the way to it admit a match
  pub Opened⇒Admitted : (level at : ℕ) (w : Way bs root level at) → Opened bs root q at → Admitted q (turns_of bs root level at w)
  unfolding Opened
  Opened⇒Admitted level at w o =
      let r = Opens⇒way at o.0 o.1 in
      subst (Admitted q) (turns_unique bs root t r.level level at r.way w) r.admits

  pub Admitted⇒Opened : (level at : ℕ) (w : Way bs root level at) → Admitted q (turns_of bs root level at w) → Opened bs root q at
  unfolding Opened
  Admitted⇒Opened level at w a = (upper_of bs root level at w, way⇒Opens level at w a)

  -- its upper bound is that of the way
  pub Opens⇒upper : (level at : ℕ) (w : Way bs root level at) (upper : Option (List ℕ)) → Opens bs root q at upper → upper ≡ upper_of bs root level at w
  unfolding upper_of
  Opens⇒upper level at w upper o =
      let r = Opens⇒way at upper o in
      r.bound ∙ ap upper_bound (turns_unique bs root t r.level level at r.way w)

  -- an opened block other than the root admits a match between its bounds
  pub opened_admits : (level at : ℕ) (w : Way bs root level at) → at ≢ root → Opened bs root q at
      → CanMatch (lower_of bs root level at w) (upper_of bs root level at w) q
  unfolding lower_of lower_bound upper_of upper_bound turns_of Admitted
  opened_admits level at w other o = go w (Opened⇒Admitted level at w o)
    where
      go : (v : Way bs root level at) → Admitted q (turns_of bs root level at v)
          → CanMatch (lower_bound (turns_of bs root level at v)) (upper_bound (turns_of bs root level at v)) q
      go (at_root p same) a = absurd (other same)
      go (turn upper front e back v p same) a = a.0

  -- ---- down from an index block by an entry

  module _ (level at : ℕ) (w : Way bs root (suc level) at) (front : List Entry) (e : Entry) (back : List Entry)
      (split : block_entries bs at ≡ front ++ (e ∷ back)) where
    -- the way on
    unfoldable pub way_down : Way bs root level e.offset
    way_down = turn at front e back w split refl

    pub entry_opened : Opened bs root q at → CanMatch e.key.bytes (next_key back (upper_of bs root (suc level) at w)) q → Opened bs root q e.offset
    unfolding way_down turns_of Admitted upper_of
    entry_opened o c = Admitted⇒Opened level e.offset way_down (c, Opened⇒Admitted (suc level) at w o)

    pub opened_entry : Opened bs root q e.offset → CanMatch e.key.bytes (next_key back (upper_of bs root (suc level) at w)) q × Opened bs root q at
    unfolding way_down turns_of Admitted upper_of
    opened_entry o = let a = Opened⇒Admitted level e.offset way_down o in (a.0, Admitted⇒Opened (suc level) at w a.1)

  -- where a block met under another is opened, the other is opened too
  pub opened_above : (level at : ℕ) → Way bs root level at → (x : ℕ) → Memᴰ x (preorder bs level at) → Opened bs root q x → Opened bs root q at
  unfolding preorder
  opened_above zero at w x m o = subst (Opened bs root q) (Memᴰ.eq_of_singleton m) o
  opened_above (suc level) at w x m o =
      go (Memᴰ.cases_cons m) (λ (y : ℕ) (v : Way bs root level y) (i : Memᴰ x (preorder bs level y)). opened_above level y v x i o)
    where
      go : (x ≡ at) ⊎ Memᴰ x (flat_map (λ e. preorder bs level e.offset) (block_entries bs at))
          → ((y : ℕ) → Way bs root level y → Memᴰ x (preorder bs level y) → Opened bs root q y) → Opened bs root q at
      go (inl same) ih = subst (Opened bs root q) same o
      go (inr inside) ih =
          let f = flat_map_member (λ e. preorder bs level e.offset) (block_entries bs at) x inside in
          let s = member_split (block_entries bs at) f.0 f.1 in
          (opened_entry level at w s.0 f.0 s.1 s.2 (ih f.0.offset (way_down level at w s.0 f.0 s.1 s.2) f.2)).1

  -- where the test says no at an entry, neither the block that it names nor any block met under that is opened
  pub unopened_below : (level at : ℕ) (w : Way bs root (suc level) at) (front : List Entry) (e : Entry) (back : List Entry)
      → block_entries bs at ≡ front ++ (e ∷ back)
      → may_match e.key.bytes (next_key back (upper_of bs root (suc level) at w)) q ≡ false → (x : ℕ) → Memᴰ x (preorder bs level e.offset)
      → Opened bs root q x → ⊥
  unopened_below level at w front e back split closed x m o =
      let named = opened_above level e.offset (way_down level at w front e back split) x m o in
      let c = (opened_entry level at w front e back split named).0 in
      false≢true (sym closed ∙ CanMatch⇒may_match e.key.bytes (next_key back (upper_of bs root (suc level) at w)) q c)
