-- Laws of blocks that tile a file: where they stand, and what they hold.
-- Assumes nothing.
use mathlib.Core.Path.{◌≡◌, sym, subst}
use mathlib.Core.List.Memᴰ
use mathlib.Core.List.{List, Memᴰ}
use Prim.Native.Nat.{ℕ, ◌≤◌}
use native.Mathlib.Omega.{arith}
use lib.ListN.{length}
use Rattle.payload.specs.Payload.{Text, Entry}
use Rattle.block.specs.Block.{Block}
use Rattle.block.proofs.HeldLaws.{record⇒data, entry⇒index, data_some}
use Rattle.lists.proofs.RisingLaws.{some_member}
use Rattle.theorems_check.specs.Rules.{Fill, full, item, BlockIn, Stands}
use Rattle.theorems_check.proofs.BlockRuleLaws.{block_frame, block_forward, BlockIn⇒block}

-- ---- what a block holds

module _ (file : List ℕ) (at : ℕ) (b : Block) (h : BlockIn file at b) where
  -- a block with a record is a data block, and a data block has one
  pub record_level : (r : Text) → Memᴰ r b.records → b.frame.level ≡ 0
  record_level r m = record⇒data file at b (BlockIn⇒block file at b h) r m

  pub data_record : b.frame.level ≡ 0 → (r : Text) × Memᴰ r b.records
  data_record level = some_member b.records (data_some file at b (BlockIn⇒block file at b h) level)

  -- a block with an entry is an index block
  pub entry_level : (e : Entry) → Memᴰ e b.entries → (1 ≤ b.frame.level) × (b.frame.level ≤ 63)
  entry_level e m = entry⇒index file at b (BlockIn⇒block file at b h) e m

-- ---- where blocks stand

module _ (file : List ℕ) where
  pub stands_block : (at next : ℕ) (b : Block) → Stands file at next b → BlockIn file at b
  unfolding Stands
  stands_block at next b h = h.0

  pub stands_start : (at next : ℕ) (b : Block) → Stands file at next b → b.frame.start ≡ at
  unfolding Stands
  stands_start at next b h = (block_frame file at b h.0).starts

  -- each block stands at its start, at or after the place where the tiling begins
  pub tiled_block : (at : ℕ) (bs : List Block) → Fill (Stands file) (length file) at bs → (b : Block) → Memᴰ b bs → BlockIn file b.frame.start b × (at ≤ b.frame.start)
  tiled_block at bs full b m = absurd (Memᴰ.not-nil m)
  tiled_block at bs (item {next = next} {x = c} {xs = cs} s r) b (Memᴰ.head e) =
      let start = stands_start at next c s in
      subst (λ (d : Block). BlockIn file d.frame.start d × (at ≤ d.frame.start)) (sym e)
      (subst (λ (a : ℕ). BlockIn file a c) (sym start) (stands_block at next c s), omega arith)
  tiled_block at bs (item {next = next} {x = c} {xs = cs} s r) b (Memᴰ.tail m) =
      let forward = block_forward file at next c s in
      let later = tiled_block next cs r b m in
      (later.0, omega arith)
