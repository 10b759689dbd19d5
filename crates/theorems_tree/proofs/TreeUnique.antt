-- There is one way down to a block: its turns are determined by where it ends.
-- Assumes nothing.
use mathlib.Core.Path.{◌≡◌, refl, sym, ap, ◌∙◌}
use mathlib.Core.Bool.{true}
use mathlib.Core.List.{List, ◌∷◌, ◌++◌, flat_map, Memᴰ}
use Prim.Native.Nat.{ℕ, suc, ◌≤◌}
use native.Mathlib.Omega.{arith}
use lib.Dec.{eqb}
use lib.ListN.{length}
use borrow.Author.Tests.{eq-eqb}
use Rattle.lists.specs.Lists.{keep}
use Rattle.lists.proofs.RisingLaws.{split_member}
use Rattle.lists.proofs.CountLaws.{count_within, one_holder, one_place}
use Rattle.payload.specs.Payload.{Entry}
use Rattle.block.specs.Block.{Block}
use Rattle.tree.specs.Tree.{block_entries, namings}
use Rattle.tree.proofs.TreeLaws.{Tree, root_no_child, tree_entry⇒index}
use Rattle.tree.proofs.TreeWays.{Way, at_root, by_entry, Turn, turns_of, way_block, met_entries}

joined : (front : List Entry) (e : Entry) (back : List Entry) (front' : List Entry) (e' : Entry) (back' : List Entry) (ts ts' : List Turn)
    → front ≡ front' → e ≡ e' → back ≡ back' → ts ≡ ts'
    → ◌≡◌ {A = List Turn} (record { front = front; entry = e; back = back } ∷ ts) (record { front = front'; entry = e'; back = back' } ∷ ts')
joined front e back front' e' back' ts ts' p q r s = cc

module _ (bs : List Block) (root : ℕ) (t : Tree bs root) where
  -- two entries of the file that name the same offset stand in the same block, at the same place
  pub one_entry : (b c : Block) → Memᴰ b bs → Memᴰ c bs
      → (front : List Entry) (e : Entry) (back : List Entry) (front' : List Entry) (e' : Entry) (back' : List Entry)
      → b.entries ≡ front ++ (e ∷ back) → c.entries ≡ front' ++ (e' ∷ back') → e.offset ≡ e'.offset
      → (b ≡ c) × (front ≡ front') × (e ≡ e') × (back ≡ back')
  unfolding namings
  one_entry b c m n front e back front' e' back' p q same = (block, place.0, place.1, place.2)
    where
      among : Memᴰ e b.entries
      among = split_member b.entries front e back p

      among' : Memᴰ e' c.entries
      among' = split_member c.entries front' e' back' q

      few : length (keep (λ x. eqb x.offset e.offset) (flat_map (λ d. d.entries) bs)) ≤ 1
      few =
          let child = t.named b m e among in
          let ordinary = tree_entry⇒index bs root t b m e among in
          let lower = child.4 in
          let once = t.once child.0 child.1 (omega arith) (λ r. root_no_child bs root t b m e among (sym child.2 ∙ r)) in
          let count = ap (λ (o : ℕ). length (keep (λ x. eqb x.offset o) (flat_map (λ d. d.entries) bs))) (sym child.2) ∙ once in
          omega arith

      first : eqb e.offset e.offset ≡ true
      first = eq-eqb e.offset e.offset refl

      second : eqb e'.offset e.offset ≡ true
      second = eq-eqb e'.offset e.offset (sym same)

      block : b ≡ c
      block = one_holder (λ (d : Block). d.entries) (λ x. eqb x.offset e.offset) bs few b c m n e e' among among' first second

      place : (front ≡ front') × (e ≡ e') × (back ≡ back')
      place =
          one_place (λ (x : Entry). eqb x.offset e.offset) front e back front' e' back' (sym p ∙ ap (λ (d : Block). d.entries) block ∙ q)
          (let inside = count_within (λ (x : Entry). eqb x.offset e.offset) (λ (d : Block). d.entries) bs b m in
          let moved = ap (λ (l : List Entry). length (keep (λ x. eqb x.offset e.offset) l)) p in
          let one = few in
          omega arith)
          first second

  -- no turn leads to the root
  below : (level upper : ℕ) (front : List Entry) (e : Entry) (back : List Entry) → Way bs root (suc level) upper
      → block_entries bs upper ≡ front ++ (e ∷ back) → e.offset ≡ root → ⊥
  below level upper front e back w p same =
      let m = way_block bs root t (suc level) upper w in
      root_no_child bs root t m.block m.member e (split_member m.block.entries front e back (met_entries bs root t (suc level) upper m ∙ p)) same

  -- ways that end at the same offset have the same turns
  turns_same : (level level' at at' : ℕ) → at ≡ at' → (v : Way bs root level at) (w : Way bs root level' at')
      → turns_of bs root level at v ≡ turns_of bs root level' at' w
  unfolding turns_of
  turns_same level level' at at' same (at_root p q) (at_root p' q') = refl
  turns_same level level' at at' same (at_root p q) (by_entry upper front e back w p' q') =
      absurd (below level' upper front e back w p' (sym q' ∙ sym same ∙ q))
  turns_same level level' at at' same (by_entry upper front e back v p q) (at_root p' q') =
      absurd (below level upper front e back v p (sym q ∙ same ∙ q'))
  turns_same level level' at at' same (by_entry upper front e back v p q) (by_entry upper' front' e' back' w p' q') =
      let m = way_block bs root t (suc level) upper v in
      let n = way_block bs root t (suc level') upper' w in
      let one =
      one_entry m.block n.block m.member n.member front e back front' e' back' (met_entries bs root t (suc level) upper m ∙ p)
      (met_entries bs root t (suc level') upper' n ∙ p')
      (sym q ∙ same ∙ q') in
      let above = sym m.starts ∙ ap (λ (b : Block). b.frame.start) one.0 ∙ n.starts in
      joined front e back front' e' back' (turns_of bs root (suc level) upper v) (turns_of bs root (suc level') upper' w) one.1 one.2 one.3
      (turns_same (suc level) (suc level') upper upper' above v w)

  pub turns_unique : (level level' at : ℕ) (v : Way bs root level at) (w : Way bs root level' at)
      → turns_of bs root level at v ≡ turns_of bs root level' at w
  turns_unique level level' at v w = turns_same level level' at at refl v w
