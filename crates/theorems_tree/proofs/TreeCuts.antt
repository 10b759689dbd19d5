-- The cuts: the records before a block, under it and after it, and how they lie to the block's bounds.
-- Assumes nothing.
use mathlib.Core.Path.{◌≡◌, refl, sym, ap, ◌∙◌, subst}
use mathlib.Core.Logic.{◌⊎◌, inl, inr}
use mathlib.Core.Bool.{true}
use mathlib.Core.Option.{Option, none, some}
use mathlib.Core.List.Memᴰ
use mathlib.Core.List.{List, [], ◌∷◌, ◌++◌, flat_map, map, map-append, append-nil, append_assoc, Memᴰ}
use Prim.Native.Nat.{ℕ, suc, ◌-◌, ◌<◌}
use native.Mathlib.Omega.{arith}
use lib.Seq.{append_snoc}
use Rattle.byte_string.specs.Order.{at_most}
use Rattle.byte_string.proofs.OrderLaws.{at_most_refl, at_most_trans, nil_at_most}
use Rattle.lists.proofs.ListsLaws.{Ascending, flat_map_append}
use Rattle.lists.proofs.RisingLaws.{split_member, flat_map_split, ascending_apart}
use Rattle.payload.specs.Payload.{Text, Entry}
use Rattle.block.specs.Block.{Block}
use Rattle.block.specs.Survey.{records_of}
use Rattle.tree.specs.Tree.{block_entries, block_records, block_level, leaves, under}
use Rattle.search.specs.Search.{next_key}
use Rattle.theorems_check.specs.Rules.{Sorted, one_string}
use Rattle.tree.proofs.TreeLaws.{Tree}
use Rattle.tree.proofs.TreeWays.{Way, at_root, by_entry, Turn, turns_of, leaves_before, leaves_after, pre, post}
use Rattle.tree.proofs.TreeWays.{records_cut, Met, way_block, met_entries, under_some}

-- ---- bounds

-- The bounds of the block to which turns lead, the last one first. The lower bound is the entry's key; the root has none, and the least
-- byte string stands for it.
unfoldable pub lower_bound : List Turn → List ℕ
lower_bound [] = []
lower_bound (t ∷ ts) = t.entry.key.bytes

unfoldable pub upper_bound : List Turn → Option (List ℕ)
upper_bound [] = none
upper_bound (t ∷ ts) = next_key t.back (upper_bound ts)

module _ (bs : List Block) (root : ℕ) where
  -- the bounds of the block at the end of a way
  unfoldable pub lower_of : (level at : ℕ) → Way bs root level at → List ℕ
  lower_of level at w = lower_bound (turns_of bs root level at w)

  unfoldable pub upper_of : (level at : ℕ) → Way bs root level at → Option (List ℕ)
  upper_of level at w = upper_bound (turns_of bs root level at w)

  -- ---- one entry on, and up from the last entry

  -- the way by the next entry
  unfoldable pub way_next : (level upper : ℕ) (front : List Entry) (e next : Entry) (back : List Entry) → Way bs root (suc level) upper → block_entries bs upper ≡ front ++ (e ∷ next ∷ back) → Way bs root level next.offset
  way_next level upper front e next back w p = by_entry upper (front ++ (e ∷ [])) next back w (p ∙ sym (append_snoc front e (next ∷ back))) refl

  abbrev leaves_of : ℕ → List Entry → List ℕ
  leaves_of level = flat_map (λ x. leaves bs level x.offset)

  abbrev records_of_lem : List ℕ → List Text
  records_of_lem = flat_map (λ o. block_records bs o)

  pre_under : (level at : ℕ) (w : Way bs root level at) → pre bs root level at w ++ under bs level at ≡ records_of_lem (leaves_before bs root level at w ++ leaves bs level at)
  unfolding pre under
  pre_under level at w = sym (flat_map_append (λ o. block_records bs o) (leaves_before bs root level at w) (leaves bs level at))

  -- before the next block are this block's records and those before it; after this block are the next block's and those after it
  next_before : (level at upper : ℕ) (front : List Entry) (e next : Entry) (back : List Entry) (w : Way bs root (suc level) upper) (p : block_entries bs upper ≡ front ++ (e ∷ next ∷ back)) (q : at ≡ e.offset)
      → pre bs root level at (by_entry upper front e (next ∷ back) w p q) ++ under bs level at ≡ pre bs root level next.offset (way_next level upper front e next back w p)
  unfolding leaves_before pre flat_map way_next
  next_before level at upper front e next back w p q =
      let before : List ℕ = leaves_before bs root (suc level) upper w in
      pre_under level at (by_entry upper front e (next ∷ back) w p q)
      ∙ ap records_of_lem
      (ap (λ (n : ℕ). (before ++ leaves_of level front) ++ leaves bs level n) q
      ∙ append_assoc (before) (leaves_of level front) (leaves bs level e.offset)
      ∙ ap (λ (l : List ℕ). before ++ l)
      (ap (λ (l : List ℕ). leaves_of level front ++ l) (sym (append-nil (leaves bs level e.offset))) ∙ sym (flat_map_append (λ x. leaves bs level x.offset) front (e ∷ []))))

  next_after : (level at upper : ℕ) (front : List Entry) (e next : Entry) (back : List Entry) (w : Way bs root (suc level) upper) (p : block_entries bs upper ≡ front ++ (e ∷ next ∷ back)) (q : at ≡ e.offset)
      → post bs root level at (by_entry upper front e (next ∷ back) w p q) ≡ under bs level next.offset ++ post bs root level next.offset (way_next level upper front e next back w p)
  unfolding leaves_after post under flat_map way_next
  next_after level at upper front e next back w p q =
      let after : List ℕ = leaves_after bs root (suc level) upper w in
      ap records_of_lem (append_assoc (leaves bs level next.offset) (leaves_of level back) (after))
      ∙ flat_map_append (λ o. block_records bs o) (leaves bs level next.offset) (leaves_of level back ++ after)

  -- the block of the last entry ends with its index block
  last_before : (level at upper : ℕ) (front : List Entry) (e : Entry) (w : Way bs root (suc level) upper) (p : block_entries bs upper ≡ front ++ (e ∷ [])) (q : at ≡ e.offset)
      → pre bs root level at (by_entry upper front e [] w p q) ++ under bs level at ≡ pre bs root (suc level) upper w ++ under bs (suc level) upper
  unfolding leaves_before leaves flat_map
  last_before level at upper front e w p q =
      let before : List ℕ = leaves_before bs root (suc level) upper w in
      pre_under level at (by_entry upper front e [] w p q)
      ∙ ap records_of_lem
      (ap (λ (n : ℕ). (before ++ leaves_of level front) ++ leaves bs level n) q
      ∙ append_assoc (before) (leaves_of level front) (leaves bs level e.offset)
      ∙ ap (λ (l : List ℕ). before ++ l)
      (ap (λ (l : List ℕ). leaves_of level front ++ l) (sym (append-nil (leaves bs level e.offset))) ∙ sym (flat_map_split (λ x. leaves bs level x.offset) (block_entries bs upper) front e [] p)))
      ∙ sym (pre_under (suc level) upper w)

  last_after : (level at upper : ℕ) (front : List Entry) (e : Entry) (w : Way bs root (suc level) upper) (p : block_entries bs upper ≡ front ++ (e ∷ [])) (q : at ≡ e.offset)
      → post bs root level at (by_entry upper front e [] w p q) ≡ post bs root (suc level) upper w
  unfolding leaves_after post flat_map
  last_after level at upper front e w p q = refl

-- x is at most an upper bound, where there is one
unfoldable pub UpTo : List ℕ → Option (List ℕ) → Type 0
UpTo x none = Unit {0}
UpTo x (some upper) = at_most x upper ≡ true

-- there is an upper bound, and x is at least that
unfoldable pub Past : Option (List ℕ) → List ℕ → Type 0
Past none x = ⊥
Past (some upper) x = at_most upper x ≡ true

-- ---- records in order

sorted_right : (xs ys : List (List ℕ)) → Sorted (xs ++ ys) → Sorted ys
sorted_right [] ys s = s
sorted_right (x ∷ xs) ys s = sorted_right xs ys (rest s)
  where
    rest : Sorted (x ∷ (xs ++ ys)) → Sorted (xs ++ ys)
    rest (one_string a r) = r

sorted-first : (x : List ℕ) (xs : List (List ℕ)) → Sorted (x ∷ xs) → (y : List ℕ) → Memᴰ y (x ∷ xs) → at_most x y ≡ true
sorted-first x xs (one_string a s) y m = go (Memᴰ.cases_cons m)
  where
    go : (y ≡ x) ⊎ Memᴰ y xs → at_most x y ≡ true
    go (inl same) = ap (at_most x) same ∙ at_most_refl x
    go (inr inside) = a y inside

-- A key that is at most the first record of a part, and at least every record that stands before that one, separates what comes
-- before the part from the rest.
key_separates : (key : List ℕ) (all front part back : List Text) (first : Text) (rest : List Text) → all ≡ front ++ (part ++ back) → part ≡ first ∷ rest
    → Ascending (map (λ r. r.at) all) → Sorted (map (λ r. r.bytes) all) → at_most key first.bytes ≡ true
    → ((r : Text) → Memᴰ r all → r.at < first.at → at_most r.bytes key ≡ true)
    → ((r : Text) → Memᴰ r front → at_most r.bytes key ≡ true) × ((r : Text) → Memᴰ r (part ++ back) → at_most key r.bytes ≡ true)
key_separates key all front part back first rest cut begins placed sorted low high = (before, after)
  where
    begin : Memᴰ first (part ++ back)
    begin = Memᴰ.append_left back (subst (Memᴰ first) (sym begins) (Memᴰ.head refl))

    offsets : Ascending (map (λ r. r.at) front ++ map (λ r. r.at) (part ++ back))
    offsets = subst Ascending (ap (map (λ r. r.at)) cut ∙ map-append (λ r. r.at) front (part ++ back)) placed

    strings : Sorted (map (λ r. r.bytes) (part ++ back))
    strings = sorted_right (map (λ r. r.bytes) front) (map (λ r. r.bytes) (part ++ back)) (subst Sorted (ap (map (λ r. r.bytes)) cut ∙ map-append (λ r. r.bytes) front (part ++ back)) sorted)

    before : (r : Text) → Memᴰ r front → at_most r.bytes key ≡ true
    before r m =
        high r (subst (Memᴰ r) (sym cut) (Memᴰ.append_left (part ++ back) m))
        (ascending_apart (map (λ u. u.at) front) (map (λ u. u.at) (part ++ back)) offsets r.at first.at (Memᴰ.map (λ (u : Text). u.at) m) (Memᴰ.map (λ (u : Text). u.at) begin))

    after : (r : Text) → Memᴰ r (part ++ back) → at_most key r.bytes ≡ true
    after r m =
        let joined = ap (λ (l : List Text). map (λ u. u.bytes) (l ++ back)) begins in
        let least =
        sorted-first first.bytes (map (λ u. u.bytes) (rest ++ back)) (subst Sorted joined strings) r.bytes
        (subst (Memᴰ r.bytes) joined (Memᴰ.map (λ (u : Text). u.bytes) m)) in
        at_most_trans key first.bytes r.bytes low least

-- ---- the cuts

-- What an accepted file gives: a tree whose walk rises (22), with all records in order (16, 23) and the key rule (24).
pub record SearchTree (bs : List Block) (root : ℕ) : Type 0 where
  pub tree : Tree bs root
  pub walked : Ascending (leaves bs (block_level bs root) root)
  pub placed : Ascending (map (λ r. r.at) (records_of bs))
  pub sorted : Sorted (map (λ r. r.bytes) (records_of bs))
  pub keyed : (b : Block) → Memᴰ b bs → (e : Entry) → Memᴰ e b.entries → (first : Text) (rest : List Text) → under bs (b.frame.level - 1) e.offset ≡ first ∷ rest
      → (at_most e.key.bytes first.bytes ≡ true) × ((r : Text) → Memᴰ r (records_of bs) → r.at < first.at → at_most r.bytes e.key.bytes ≡ true)

module _ (bs : List Block) (root : ℕ) (k : SearchTree bs root) where
  -- the lower bound separates the records before the block from its own and those after it
  pub lower_cut : (level at : ℕ) (w : Way bs root level at)
      → ((r : Text) → Memᴰ r (pre bs root level at w) → at_most r.bytes (lower_of bs root level at w) ≡ true)
      × ((r : Text) → Memᴰ r (under bs level at ++ post bs root level at w) → at_most (lower_of bs root level at w) r.bytes ≡ true)
  unfolding lower_of lower_bound turns_of pre leaves_before flat_map
  lower_cut level at (at_root p q) = (λ (r : Text) (m : Memᴰ r []). absurd (Memᴰ.not-nil m), λ r m. nil_at_most r.bytes)
  lower_cut level at (by_entry upper front e back w p q) =
      go (by_entry upper front e back w p q) (under_some bs root k.tree level at (by_entry upper front e back w p q))
    where
      met : Met bs root k.tree (suc level) upper
      met = way_block bs root k.tree (suc level) upper w

      among : Memᴰ e met.block.entries
      among = split_member met.block.entries front e back (met_entries bs root k.tree (suc level) upper met ∙ p)

      go : (v : Way bs root level at) → (first : Text) × (rest : List Text) × (under bs level at ≡ first ∷ rest)
          → ((r : Text) → Memᴰ r (pre bs root level at v) → at_most r.bytes e.key.bytes ≡ true)
          × ((r : Text) → Memᴰ r (under bs level at ++ post bs root level at v) → at_most e.key.bytes r.bytes ≡ true)
      go v own =
          let higher = met.leveled in
          let lower : met.block.frame.level - 1 ≡ level = omega arith in
          let rule = k.keyed met.block met.member e among own.0 own.1 (ap (λ (n : ℕ). under bs n e.offset) lower ∙ ap (under bs level) (sym q) ∙ own.2) in
          key_separates e.key.bytes (records_of bs) (pre bs root level at v) (under bs level at) (post bs root level at v) own.0 own.1
          (records_cut bs root k.tree k.walked level at v) own.2 k.placed k.sorted rule.0 rule.1

  -- the upper bound separates the records before the block and its own from those after it; where there is none, none are after it
  pub upper_cut : (level at : ℕ) (w : Way bs root level at)
      → ((r : Text) → Memᴰ r (pre bs root level at w ++ under bs level at) → UpTo r.bytes (upper_of bs root level at w))
      × ((r : Text) → Memᴰ r (post bs root level at w) → Past (upper_of bs root level at w) r.bytes)
  unfolding upper_of upper_bound lower_of lower_bound turns_of next_key UpTo Past post leaves_after flat_map way_next
  upper_cut level at (at_root p q) = (λ r m. tt, λ (r : Text) (m : Memᴰ r []). absurd (Memᴰ.not-nil m))
  upper_cut level at (by_entry upper front e [] w p q) =
      let ih = upper_cut (suc level) upper w in
      (λ r m. ih.0 r (subst (Memᴰ r) (last_before bs root level at upper front e w p q) m), λ r m. ih.1 r (subst (Memᴰ r) (last_after bs root level at upper front e w p q) m))
  upper_cut level at (by_entry upper front e (next ∷ back) w p q) =
      let c = lower_cut level next.offset (way_next bs root level upper front e next back w p) in
      (λ r m. c.0 r (subst (Memᴰ r) (next_before bs root level at upper front e next back w p q) m), λ r m. c.1 r (subst (Memᴰ r) (next_after bs root level at upper front e next back w p q) m))
