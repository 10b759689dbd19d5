-- The blocks of a written file keep the rules of the tree.
-- Assumes nothing.
use mathlib.Core.Path.{◌≡◌, sym, subst}
use mathlib.Core.Bool.{true}
use mathlib.Core.List.{List, ◌∷◌, Memᴰ}
use Prim.Native.Nat.{ℕ, ◌-◌, ◌<◌}
use Rattle.sha256.specs.Sha256.{sha256}
use Rattle.part.specs.Part.{part}
use Rattle.header.specs.Header.{field_at}
use Rattle.byte_string.specs.Order.{at_most}
use Rattle.payload.specs.Payload.{Text, Entry}
use Rattle.block.specs.Block.{Block}
use Rattle.block.specs.Survey.{records_of}
use Rattle.tree.specs.Tree.{block_level, leaves, under}
use Rattle.tree.specs.Stages.{payloads}
use Rattle.layout.specs.Index.{IndexEntry}
use Rattle.layout.specs.File.{root_entry}
use Rattle.layout.specs.Placed.{placed_blocks}
use Rattle.theorems_check.specs.Rules.{Sorted, TreeRules}
use Rattle.theorems_check.proofs.SortedLaws.{Ascending⇒Rising}
use Rattle.theorems_layout.specs.WrittenTree.{Writable, RootedTree}
use Rattle.theorems_layout.proofs.WrittenNames.{written_rise, written_once, written_unnamed}
use Rattle.theorems_layout.proofs.WrittenNames.{written_rooted, written_named}
use Rattle.theorems_layout.proofs.WrittenWalk.{written_walked}
use Rattle.theorems_layout.proofs.WrittenRecords.{written_records, sorted⇒ordered}
use Rattle.theorems_layout.proofs.WrittenKeys.{keyed_by}
use Rattle.theorems_layout.proofs.DataKeys.{KeyHolds, leads_lowest}

module _ (per_index from : ℕ) (blocks : List (List (List ℕ))) (good : Writable per_index blocks) where
  abbrev bs : List Block
  bs = placed_blocks per_index from blocks

  abbrev root : IndexEntry
  root = root_entry per_index from blocks

  -- ---- keys

  written_keyed : (b : Block) → Memᴰ b bs → (e : Entry) → Memᴰ e b.entries
      → (first : Text) (rest : List Text) → under bs (b.frame.level - 1) e.offset ≡ first ∷ rest
      → (at_most e.key.bytes first.bytes ≡ true)
      × ((r : Text) → Memᴰ r (records_of bs) → r.at < first.at → at_most r.bytes e.key.bytes ≡ true)
  written_keyed b m e n first rest leads =
      (keyed_by per_index from blocks good (KeyHolds per_index from blocks good) (leads_lowest per_index from blocks good) b m e n first rest leads).fits

  -- ---- all rules

  pub written_tree : RootedTree bs root.offset root.size
  written_tree =
      record {
        ordered = sorted⇒ordered bs (written_rise per_index from blocks) (subst Sorted (sym (written_records per_index from blocks)) good.rise);
        named = written_named per_index from blocks good;
        once = λ b m ordinary. written_once per_index from blocks good b m;
        root_unnamed = written_unnamed per_index from blocks good;
        rooted = written_rooted per_index from blocks good;
        walked = Ascending⇒Rising (leaves bs (block_level bs root.offset) root.offset) (written_walked per_index from blocks good);
        keyed = written_keyed;
      }

  -- the rules of a file whose header has this root and the hash of the payloads
  pub written_rules : (file : List ℕ) → field_at file 16 ≡ root.offset → field_at file 24 ≡ root.size → part file 40 32 ≡ sha256 (payloads file bs)
      → TreeRules file bs
  written_rules file place size hash =
      let t : RootedTree bs (field_at file 16) (field_at file 24) =
      subst (λ (n : ℕ). RootedTree bs n (field_at file 24)) (sym place) (subst (RootedTree bs root.offset) (sym size) written_tree) in
      record {
        ordered = t.ordered;
        named = t.named;
        once = t.once;
        root_unnamed = t.root_unnamed;
        rooted = t.rooted;
        walked = t.walked;
        keyed = t.keyed;
        hashed = hash;
      }
