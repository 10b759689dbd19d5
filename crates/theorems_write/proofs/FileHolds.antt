-- The file of data blocks holds its metadata and its records; that of an input is laid out as claimed.
-- Assumes nothing.
use mathlib.Core.Path.{◌≡◌, sym, ap, ◌∙◌, subst}
use mathlib.Core.Logic.{◌≢◌}
use mathlib.Core.List.{List, [], flat_map}
use Prim.Native.Nat.{ℕ, ◌^◌, ◌≤◌}
use native.Mathlib.Omega.{arith}
use lib.ListN.{length}
use Rattle.lists.specs.Groups.{groups}
use Rattle.lists.proofs.GroupsLaws.{groups_join, groups_member}
use Rattle.part.specs.Part.{part}
use Rattle.byte_string.specs.Order.{AreBytes}
use Rattle.header.specs.Metadata.{Metadata}
use Rattle.header.proofs.MetadataLaws.{Metadata⇒is_metadata}
use Rattle.header.proofs.HeaderLaws.{is_header}
use Rattle.payload.specs.Payload.{rising}
use Rattle.tree.specs.Stages.{payloads}
use Rattle.layout.specs.Blocks.{text_bytes, records_bytes}
use Rattle.layout.specs.File.{blocks_start, file_of}
use Rattle.layout.specs.Placed.{placed_blocks}
use Rattle.layout.proofs.FileBackLaws.{FileFits, file_header_back, file_metadata_back, file_payloads_back}
use Rattle.theorems_check.specs.Rules.{Sorted}
use Rattle.theorems_check.proofs.SortedLaws.{Sorted⇒rising}
use Rattle.theorems_layout.specs.WrittenTree.{joined}
use Rattle.theorems_layout.specs.WrittenLayout.{WrittenLayout}
use Rattle.theorems_layout.proofs.WritableLaws.{joined_groups}
use Rattle.theorems_layout.proofs.WrittenRecords.{written_records}
use Rattle.theorems_layout.proofs.WrittenNames.{blocks_few}
use Rattle.theorems_layout.proofs.WrittenFile.{fits_writable, file_rules, file_accepted, file_layout}
use Rattle.theorems_write.specs.WrittenByRules.{CountsFit, InputOf, HoldsRecords}

-- the file of any blocks that can be written, whose payloads and records, joined, are these
pub blocks_hold : (metadata : List ℕ) (blocks : List (List (List ℕ))) (per_index : ℕ) → FileFits metadata blocks per_index → blocks ≢ []
    → (input : List ℕ) → flat_map records_bytes blocks ≡ input → (rs : List (List ℕ)) → joined blocks ≡ rs
    → HoldsRecords metadata input rs (file_of metadata blocks per_index) (placed_blocks per_index (blocks_start metadata) blocks)
unfolding payloads
blocks_hold metadata blocks per_index fits some input form rs same =
    let file = file_of metadata blocks per_index in
    let from = blocks_start metadata in
    record {
      accepted = file_accepted metadata blocks per_index fits some;
      rules = file_rules metadata blocks per_index fits some;
      metadata_is = ap (part file 96) (sym (is_header file _ (file_header_back metadata blocks per_index fits)).is_metadata_lem)
          ∙ file_metadata_back metadata blocks per_index;
      records_are = written_records per_index from blocks ∙ same;
      payloads_are = file_payloads_back metadata blocks per_index fits ∙ form;
      low = λ b m. omega (arith, blocks_few per_index from blocks (fits_writable metadata blocks per_index fits some) b m);
    }

-- the file of an input
module _ (metadata input : List ℕ) (per_block per_index : ℕ) (metadata_bytes : AreBytes metadata) (input-bytes : AreBytes input)
    (counts : CountsFit per_block per_index) (rule : Metadata metadata) (rs : List (List ℕ)) (form : InputOf input rs) (sorted : Sorted rs)
    (short : length (file_of metadata (groups per_block rs) per_index) ≤ 2 ^ 30) where
  abbrev blocks : List (List (List ℕ))
  blocks = groups per_block rs

  one : 1 ≤ per_block
  unfolding CountsFit
  one = omega (arith, counts.0)

  two : 2 ≤ per_index
  unfolding CountsFit
  two = omega (arith, counts.2)

  -- the payloads of the blocks, joined, are the input
  joined_input : flat_map records_bytes blocks ≡ input
  unfolding records_bytes
  joined_input = groups_join per_block one text_bytes rs ∙ sym form.bytes

  fits : FileFits metadata blocks per_index
  unfolding joined
  fits =
      record {
        rule = Metadata⇒is_metadata metadata rule;
        metadata_bytes = metadata_bytes;
        two = two;
        filled = λ g m. omega (arith, (groups_member per_block one rs g m).0);
        sorted = ap rising (joined_groups per_block one rs) ∙ Sorted⇒rising rs sorted;
        bytes = subst AreBytes (sym joined_input) input-bytes;
        short = short;
      }

  some : blocks ≢ []
  unfolding joined flat_map
  some none = form.some (sym (joined_groups per_block one rs) ∙ ap joined none)

  pub file_holds : HoldsRecords metadata input rs (file_of metadata (groups per_block rs) per_index)
      (placed_blocks per_index (blocks_start metadata) (groups per_block rs))
  file_holds = blocks_hold metadata blocks per_index fits some input joined_input rs (joined_groups per_block one rs)

  -- and is laid out as claimed
  pub file_laid : WrittenLayout per_block per_index (file_of metadata (groups per_block rs) per_index)
      (placed_blocks per_index (blocks_start metadata) (groups per_block rs))
  file_laid = file_layout metadata rs per_block per_index one fits some
