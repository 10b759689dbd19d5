-- The records of a data block are at most those of every later one exactly where they are at most those of the next one.
-- Assumes nothing.
use mathlib.Core.Path.{◌≡◌, refl, sym, ap, ◌∙◌, subst}
use mathlib.Core.Bool.{Bool, true, false}
use mathlib.Core.List.Memᴰ
use mathlib.Core.List.{List, ◌∷◌, Memᴰ}
use Prim.Native.Nat.{ℕ, ◌<◌}
use native.Mathlib.Omega.{arith}
use lib.ListN.{length}
use borrow.Author.Tests.{eqb-true}
use Rattle.byte_string.specs.Order.{at_most}
use Rattle.outcome.specs.Outcome.{answer}
use Rattle.lists.specs.Lists.{keep}
use Rattle.payload.specs.Payload.{Text}
use Rattle.block.specs.Block.{Block, is_data}
use Rattle.block.proofs.BlockLaws.{data_level}
use Rattle.tree.specs.Stages.{neighbours}
use Rattle.theorems_check.specs.Rules.{Fill, full, item, Stands}
use Rattle.lists.proofs.ListsLaws.{keep_member, member_keep, keep_first, keep_later}
use Rattle.theorems_check.proofs.BlockRuleLaws.{block_forward}
use Rattle.theorems_check.proofs.NeighbourLaws.{all_at_most_of, neighbours-after, neighbours-before, neighbours_chain}
use Rattle.theorems_check.proofs.TiledLaws.{record_level, data_record, stands_block, stands_start, tiled_block}

-- the records of a block are at most those of every block that starts later
abbrev pub Ordered : List Block → Type 0
Ordered bs = (a b : Block) → Memᴰ a bs → Memᴰ b bs → a.frame.start < b.frame.start
    → (r s : Text) → Memᴰ r a.records → Memᴰ s b.records → at_most r.bytes s.bytes ≡ true

abbrev data_blocks : List Block → List Block
data_blocks bs = keep (λ b. is_data b.frame.level) bs

-- neighbours among the data blocks after the first block
after : (b : Block) (bs : List Block) → neighbours (data_blocks (b ∷ bs)) ≡ answer tt → neighbours (data_blocks bs) ≡ answer tt
unfolding neighbours
after b bs h = go (is_data b.frame.level) refl
  where
    go : (d : Bool) → is_data b.frame.level ≡ d → neighbours (data_blocks bs) ≡ answer tt
    go true e = neighbours-after b (data_blocks bs) (sym (ap neighbours (keep_first (λ c. is_data c.frame.level) b bs e)) ∙ h)
    go false e = sym (ap neighbours (keep_later (λ c. is_data c.frame.level) b bs e)) ∙ h

module _ (file : List ℕ) where
  -- every data block of the file has a record
  data_records : (at : ℕ) (bs : List Block) → Fill (Stands file) (length file) at bs → (b : Block) → Memᴰ b (data_blocks bs) → (r : Text) × Memᴰ r b.records
  unfolding is_data
  data_records at bs fill b m =
      let r = keep_member (λ c. is_data c.frame.level) bs b m in
      data_record file b.frame.start b (tiled_block file at bs fill b r.0).0 (eqb-true b.frame.level 0 r.1)

  pub neighbours⇒Ordered : (at : ℕ) (bs : List Block) → Fill (Stands file) (length file) at bs → neighbours (data_blocks bs) ≡ answer tt → Ordered bs
  unfolding neighbours
  neighbours⇒Ordered at bs full h a b i j before r s m n = absurd (Memᴰ.not-nil i)
  neighbours⇒Ordered at bs (item {next = next} {x = c} {xs = cs} stands fill) h a b (Memᴰ.head e) (Memᴰ.head g) before r s m n =
      absurd (let same = ap (λ (d : Block). d.frame.start) (e ∙ sym g) in omega arith)
  neighbours⇒Ordered at bs (item {next = next} {x = c} {xs = cs} stands fill) h a b (Memᴰ.head e) (Memᴰ.tail j) before r s m n =
      let first = subst (λ (d : Block). Memᴰ r d.records) e m in
      let level = record_level file at c (stands_block file at next c stands) r first in
      let later = record_level file b.frame.start b (tiled_block file next cs fill b j).0 s n in
      neighbours_chain c (data_blocks cs) (sym (ap neighbours (keep_first (λ d. is_data d.frame.level) c cs (data_level c.frame.level level))) ∙ h) (data_records next cs fill)
      b (member_keep (λ d. is_data d.frame.level) cs b j (data_level b.frame.level later)) r s first n
  neighbours⇒Ordered at bs (item {next = next} {x = c} {xs = cs} stands fill) h a b (Memᴰ.tail i) (Memᴰ.head g) before r s m n =
      let start = ap (λ (d : Block). d.frame.start) g ∙ stands_start file at next c stands in
      let forward = block_forward file at next c stands in
      let later = (tiled_block file next cs fill a i).1 in
      absurd (omega arith)
  neighbours⇒Ordered at bs (item {next = next} {x = c} {xs = cs} stands fill) h a b (Memᴰ.tail i) (Memᴰ.tail j) before r s m n =
      neighbours⇒Ordered next cs fill (after c cs h) a b i j before r s m n

  pub Ordered⇒neighbours : (at : ℕ) (bs : List Block) → Fill (Stands file) (length file) at bs → Ordered bs → neighbours (data_blocks bs) ≡ answer tt
  unfolding neighbours keep
  Ordered⇒neighbours at bs full ordered = refl
  Ordered⇒neighbours at bs (item {next = next} {x = c} {xs = cs} stands fill) ordered =
      go (is_data c.frame.level) refl (Ordered⇒neighbours next cs fill (λ a b i j. ordered a b (Memᴰ.tail i) (Memᴰ.tail j)))
    where
      go : (d : Bool) → is_data c.frame.level ≡ d → neighbours (data_blocks cs) ≡ answer tt → neighbours (data_blocks (c ∷ cs)) ≡ answer tt
      go true e rest =
          ap neighbours (keep_first (λ d. is_data d.frame.level) c cs e)
          ∙ neighbours-before c (data_blocks cs)
          (λ b m.
          let inside = (keep_member (λ d. is_data d.frame.level) cs b m).0 in
          let start = stands_start file at next c stands in
          let forward = block_forward file at next c stands in
          let later = (tiled_block file next cs fill b inside).1 in
          let before : c.frame.start < b.frame.start = omega arith in
          all_at_most_of c b (ordered c b (Memᴰ.head refl) (Memᴰ.tail inside) before))
          rest
      go false e rest = ap neighbours (keep_later (λ d. is_data d.frame.level) c cs e) ∙ rest
