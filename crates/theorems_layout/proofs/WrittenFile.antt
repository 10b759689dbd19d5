-- A written file keeps the rules of the format: it is accepted, with the blocks and the records that were written. And it is laid out as
-- claimed.
-- Assumes nothing.
use mathlib.Core.Path.{◌≡◌, sym, ap, ◌∙◌, subst}
use mathlib.Core.Logic.{◌≢◌}
use mathlib.Core.List.{List, []}
use Prim.Native.Nat.{ℕ, ◌+◌, ◌≤◌}
use native.Mathlib.Omega.{arith}
use lib.ListN.{length}
use Rattle.lists.specs.Groups.{groups}
use Rattle.outcome.specs.Outcome.{answer}
use Rattle.sha256.specs.Sha256.{sha256}
use Rattle.header.specs.declared.Header.{Header}
use Rattle.header.specs.Header.{H}
use Rattle.header.proofs.HeaderLaws.{IsHeader, is_header}
use Rattle.block.specs.Block.{Block, blocks_at}
use Rattle.tree.specs.Stages.{payloads}
use Rattle.layout.specs.File.{blocks_start, root_entry, file_of}
use Rattle.layout.specs.Placed.{placed_blocks}
use Rattle.layout.proofs.FileBackLaws.{FileFits, file_header_back, file_blocks_back, file_payloads_back, file_hash_back}
use Rattle.checker.specs.Check.{accept_of}
use Rattle.theorems_check.specs.Rules.{TreeRules, Rules}
use Rattle.theorems_check.proofs.HeaderRuleLaws.{header⇒HeaderRules}
use Rattle.theorems_check.proofs.BlockRuleLaws.{blocks⇒Fill}
use Rattle.theorems_check.proofs.AcceptLaws.{Rules⇒accepted}
use Rattle.theorems_layout.specs.WrittenTree.{joined, Writable}
use Rattle.theorems_layout.specs.WrittenLayout.{EndsOn, WrittenLayout}
use Rattle.theorems_layout.proofs.WritableLaws.{file_writable}
use Rattle.theorems_layout.proofs.WrittenTree.{written_rules}
use Rattle.theorems_layout.proofs.FullLevels.{written_followed, written_data_first, written_no_fuller}
use Rattle.theorems_layout.proofs.LevelCounts.{written_ends}
use Rattle.theorems_layout.proofs.ShortKeys.{written_first_key, written_cut, written_shortest}

module _ (metadata : List ℕ) (blocks : List (List (List ℕ))) (per_index : ℕ) (fits : FileFits metadata blocks per_index) (some : blocks ≢ []) where
  abbrev file : List ℕ
  file = file_of metadata blocks per_index

  abbrev from : ℕ
  from = blocks_start metadata

  abbrev bs : List Block
  bs = placed_blocks per_index from blocks

  pub fits_writable : Writable per_index blocks
  unfolding joined
  fits_writable =
      file_writable metadata blocks per_index fits.two some
      (λ rs m none. let long = fits.filled rs m in let z = ap length none in omega arith) fits.sorted fits.short

  abbrev header : Header
  header = record { blocks = from; root = (root_entry per_index from blocks).offset; rootsize = (root_entry per_index from blocks).size; metadata = length metadata }

  header_is : IsHeader file header
  header_is = is_header file header (file_header_back metadata blocks per_index fits)

  pub file_tree_rules : TreeRules file bs
  unfolding payloads
  file_tree_rules =
      written_rules per_index from blocks fits_writable file (sym header_is.is_root_lem) (sym header_is.is_rootsize)
      (file_hash_back metadata blocks per_index ∙ ap sha256 (sym (file_payloads_back metadata blocks per_index fits)))

  pub file_rules : Rules file bs
  file_rules =
      record {
        header = header⇒HeaderRules file header (file_header_back metadata blocks per_index fits);
        tiled = blocks⇒Fill file (24 + H file) bs header_is.whole
            (ap (blocks_at file) (sym header_is.is_blocks) ∙ file_blocks_back metadata blocks per_index fits);
        tree = file_tree_rules;
      }

  -- a written file is accepted
  pub file_accepted : accept_of file ≡ answer bs
  file_accepted = Rules⇒accepted file bs file_rules

-- and a file of records in groups is laid out as claimed
pub file_layout : (metadata : List ℕ) (rs : List (List ℕ)) (per_block per_index : ℕ) → 1 ≤ per_block → FileFits metadata (groups per_block rs) per_index
    → groups per_block rs ≢ []
    → WrittenLayout per_block per_index (file_of metadata (groups per_block rs) per_index) (placed_blocks per_index (blocks_start metadata) (groups per_block rs))
unfolding blocks_start
file_layout metadata rs per_block per_index one fits some =
    let blocks = groups per_block rs in
    let from = blocks_start metadata in
    let file = file_of metadata blocks per_index in
    let good = fits_writable metadata blocks per_index fits some in
    let is = header_is metadata blocks per_index fits some in
    let ends = written_ends per_index from blocks good in
    record {
      plain = let H_is = is.is_blocks in let M-is = is.is_metadata_lem in omega arith;
      data_first = written_data_first per_block per_index from rs one good;
      followed = written_followed per_block per_index from rs one good;
      no_fuller = written_no_fuller per_block per_index from rs one good;
      top = ends.0;
      ends = subst (λ (root : ℕ). EndsOn (placed_blocks per_index from blocks) root ends.0) is.is_root_lem ends.1;
      first_key = λ b m foremost. written_first_key per_index from blocks good b m (λ c i alike. omega (arith, foremost c i alike));
      cut = written_cut per_index from blocks good;
      shortest = λ b m e n key rule. omega (arith, written_shortest per_index from blocks good b m e n key rule);
    }
