-- The blocks of a file form a tree: what the block stage and rules 17, 19 and 20 give.
-- Assumes nothing.
use mathlib.Core.Path.{◌≡◌}
use mathlib.Core.Logic.{◌≢◌}
use mathlib.Core.List.{List, Memᴰ}
use Prim.Native.Nat.{ℕ, ◌+◌, ◌≤◌}
use lib.ListN.{length}
use Rattle.outcome.specs.Outcome.{answer}
use Rattle.payload.specs.Payload.{Entry}
use Rattle.block.specs.Block.{Block, blocks_at}
use Rattle.block.proofs.HeldLaws.{data_some, index_some, data_no_entries, reserved_no_entries, no_records}
use Rattle.block.proofs.TileLaws.{blocks_read, blocks_tile, tiles_all}
use Rattle.tree.specs.Tree.{namings}
use Rattle.tree.proofs.TreeLaws.{Tree}

module _ (file : List ℕ) (from : ℕ) (bs : List Block) (stage : blocks_at file from ≡ answer bs) (whole : from ≤ length file) where
  -- the blocks of a file form a tree where these rules hold of them
  pub blocks⇒Tree : (root : ℕ)
      → ((b : Block) → Memᴰ b bs → (e : Entry) → Memᴰ e b.entries
      → (c : Block) × Memᴰ c bs × (c.frame.start ≡ e.offset) × (c.frame.size ≡ e.size) × (c.frame.level + 1 ≡ b.frame.level))
      → ((b : Block) → Memᴰ b bs → b.frame.level ≤ 63 → b.frame.start ≢ root → namings bs b.frame.start ≡ 1) → namings bs root ≡ 0
      → (b : Block) × Memᴰ b bs × (b.frame.start ≡ root) × (1 ≤ b.frame.level) × (b.frame.level ≤ 63) → Tree bs root
  blocks⇒Tree root named once unnamed rooted =
      record {
        rise = tiles_all from (length file) bs (blocks_tile file from bs stage whole);
        data_records = λ b m. data_some file b.frame.start b (blocks_read file from bs stage b m).read;
        data_no_entries = λ b m. data_no_entries file b.frame.start b (blocks_read file from bs stage b m).read;
        index_entries = λ b m. index_some file b.frame.start b (blocks_read file from bs stage b m).read;
        reserved_no_entries = λ b m. reserved_no_entries file b.frame.start b (blocks_read file from bs stage b m).read;
        no_records = λ b m. no_records file b.frame.start b (blocks_read file from bs stage b m).read;
        named = named;
        once = once;
        root_unnamed = unnamed;
        rooted = rooted;
      }
