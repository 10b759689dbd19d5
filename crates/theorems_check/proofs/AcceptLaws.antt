-- A file is accepted exactly where it keeps the rules of the format, and its blocks are those of the rules.
-- Assumes nothing.
use mathlib.Core.Path.{◌≡◌, sym, ap, ◌∙◌}
use mathlib.Core.Logic.{◌↔◌}
use mathlib.Core.Bool.{true}
use mathlib.Core.List.{List}
use Prim.Native.Nat.{ℕ, ◌+◌, ◌≤◌}
use native.Mathlib.Omega.{arith}
use lib.ListN.{length}
use Rattle.outcome.specs.Outcome.{answer, refused}
use Rattle.outcome.proofs.OutcomeLaws.{answer_injective, answer_not_refused}
use Rattle.header.specs.declared.Header.{Header}
use Rattle.header.specs.Header.{header_of, blocks_from, field_at, H, header_numbers}
use Rattle.block.specs.Block.{Block, blocks_at}
use Rattle.block.specs.Survey.{ordinary}
use Rattle.tree.specs.Tree.{block_level, leaves}
use Rattle.tree.specs.Stages.{payloads, tree_of, has_root}
use Rattle.tree.proofs.StageLaws.{Passed, tree⇒Passed, Passed⇒tree, root⁻¹, rooted⇒root, rightly⇒once, rightly⇒unnamed, once⇒rightly}
use Rattle.checker.specs.Check.{accept_of, check_of}
use Rattle.checker.proofs.CheckLaws.{Reached, accept⁻¹, accept⁺, check⁻¹}
use Rattle.theorems_check.specs.Rules.{Fill, Stands, TreeRules, Rules}
use Rattle.theorems_check.proofs.SortedLaws.{ascending⇒Rising, Rising⇒ascending}
use Rattle.theorems_check.proofs.HeaderRuleLaws.{header⇒HeaderRules, HeaderRules⇒header}
use Rattle.theorems_check.proofs.BlockRuleLaws.{blocks⇒Fill, Fill⇒blocks}
use Rattle.theorems_check.proofs.OrderedLaws.{neighbours⇒Ordered, Ordered⇒neighbours}
use Rattle.theorems_check.proofs.TreeRuleLaws.{fit⇒named, named⇒fit, fit⇒keyed, keyed⇒fit, begins⇒hashed, hashed⇒begins}

-- ---- the rules of the tree

module _ (file : List ℕ) (from : ℕ) (bs : List Block) (tiled : Fill (Stands file) (length file) from bs) where
  pub Passed⇒TreeRules : has_root (header_numbers file) bs ≡ true → Passed file (header_numbers file) bs → TreeRules file bs
  unfolding header_numbers
  Passed⇒TreeRules root p =
      let rooted = root⁻¹ (header_numbers file) bs root in
      record {
        ordered = neighbours⇒Ordered file from bs tiled p.pairs;
        named = fit⇒named file from bs tiled p.fit;
        once = rightly⇒once bs (field_at file 16) p.rightly;
        root_unnamed = rightly⇒unnamed bs (field_at file 16) p.rightly rooted.0 rooted.1 rooted.5 rooted.2;
        rooted = rooted;
        walked = ascending⇒Rising 0 (leaves bs (block_level bs (field_at file 16)) (field_at file 16)) p.walk;
        keyed = fit⇒keyed file from bs tiled p.keys;
        hashed = begins⇒hashed file (payloads file bs) p.hash;
      }

  pub TreeRules⇒Passed : TreeRules file bs → (has_root (header_numbers file) bs ≡ true) × Passed file (header_numbers file) bs
  unfolding header_numbers
  TreeRules⇒Passed r =
      let root = r.rooted in (
        rooted⇒root bs (header_numbers file) root.0 root.1 root.2 root.3 root.4 root.5,
        record {
          fit = named⇒fit file from bs tiled r.named;
          rightly = once⇒rightly bs (field_at file 16) r.once r.root_unnamed;
          walk = Rising⇒ascending 0 (leaves bs (block_level bs (field_at file 16)) (field_at file 16)) (λ y m. omega arith) r.walked;
          pairs = Ordered⇒neighbours file from bs tiled r.ordered;
          keys = keyed⇒fit file from bs tiled r.keyed;
          hash = hashed⇒begins file (payloads file bs) r.hashed;
        },
      )

-- ---- the whole file

-- every stage of acceptance is passed, with these blocks
pub record Accepted (file : List ℕ) (bs : List Block) : Type 0 where
  pub header : header_of file ≡ answer (header_numbers file)
  pub blocks : blocks_at file (blocks_from (header_numbers file)) ≡ answer bs
  pub root : has_root (header_numbers file) bs ≡ true
  pub tree : tree_of file (header_numbers file) bs ≡ answer tt

pub Accepted⇒Rules : (file : List ℕ) (bs : List Block) → Accepted file bs → Rules file bs
unfolding header_numbers blocks_from
Accepted⇒Rules file bs a =
    let header = header⇒HeaderRules file (header_numbers file) a.header in
    let tiled = blocks⇒Fill file (24 + H file) bs header.whole a.blocks in
    record {
      header = header;
      tiled = tiled;
      tree = Passed⇒TreeRules file (24 + H file) bs tiled a.root (tree⇒Passed file (header_numbers file) bs a.tree);
    }

pub Rules⇒Accepted : (file : List ℕ) (bs : List Block) → Rules file bs → Accepted file bs
unfolding header_numbers blocks_from
Rules⇒Accepted file bs r =
    let tree = TreeRules⇒Passed file (24 + H file) bs r.tiled r.tree in
    record {
      header = HeaderRules⇒header file r.header;
      blocks = Fill⇒blocks file (24 + H file) bs r.tiled;
      root = tree.0;
      tree = Passed⇒tree file (header_numbers file) bs tree.1;
    }

-- the tree is reached and passed
pub Reached⇒Accepted : (file : List ℕ) (h : Header) (bs : List Block) → Reached file h bs → tree_of file h bs ≡ answer tt → Accepted file bs
Reached⇒Accepted file h bs r tree =
    let header = HeaderRules⇒header file (header⇒HeaderRules file h r.header) in
    let same = answer_injective h (header_numbers file) (sym r.header ∙ header) in
    record {
      header = header;
      blocks = ap (λ (k : Header). blocks_at file (blocks_from k)) (sym same) ∙ r.blocks;
      root = ap (λ (k : Header). has_root k bs) (sym same) ∙ r.root;
      tree = ap (λ (k : Header). tree_of file k bs) (sym same) ∙ tree;
    }

pub accepted⇒Accepted : (file : List ℕ) (bs : List Block) → accept_of file ≡ answer bs → Accepted file bs
accepted⇒Accepted file bs e = let (h, r, tree) = accept⁻¹ file bs e in Reached⇒Accepted file h bs r tree

-- so is the check's list of blocks
pub check⇒Accepted : (file : List ℕ) (places : ℕ) (bs : List Block) → check_of file places ≡ answer bs → Accepted file bs × (length (ordinary bs) ≤ places)
check⇒Accepted file places bs e = let (h, r, enough, tree) = check⁻¹ file places bs e in (Reached⇒Accepted file h bs r tree, enough)

pub Accepted⇒Reached : (file : List ℕ) (bs : List Block) → Accepted file bs → Reached file (header_numbers file) bs
Accepted⇒Reached file bs a = record { header = a.header; blocks = a.blocks; root = a.root }

pub Accepted⇒accepted : (file : List ℕ) (bs : List Block) → Accepted file bs → accept_of file ≡ answer bs
Accepted⇒accepted file bs a = accept⁺ file (header_numbers file) bs (Accepted⇒Reached file bs a) a.tree

-- the rules hold of an accepted file and its blocks
pub accepted⇒Rules : (file : List ℕ) (bs : List Block) → accept_of file ≡ answer bs → Rules file bs
accepted⇒Rules file bs e = Accepted⇒Rules file bs (accepted⇒Accepted file bs e)

-- a file that keeps the rules is accepted, with those blocks
pub Rules⇒accepted : (file : List ℕ) (bs : List Block) → Rules file bs → accept_of file ≡ answer bs
Rules⇒accepted file bs r = Accepted⇒accepted file bs (Rules⇒Accepted file bs r)

pub accepts : (file : List ℕ) (bs : List Block) → (accept_of file ≡ answer bs) ↔ Rules file bs
accepts file bs = (accepted⇒Rules file bs, Rules⇒accepted file bs)

-- the blocks of a file that keeps the rules are the only ones
pub Rules_unique : (file : List ℕ) (bs cs : List Block) → Rules file bs → Rules file cs → bs ≡ cs
Rules_unique file bs cs r s = answer_injective bs cs (sym (Rules⇒accepted file bs r) ∙ Rules⇒accepted file cs s)

-- a file that is refused breaks a rule, whatever its blocks are taken to be
pub refused⇒broken : (file : List ℕ) (number place : ℕ) → accept_of file ≡ refused number place → (bs : List Block) → Rules file bs → ⊥
refused⇒broken file number place e bs r = answer_not_refused bs number place (sym (Rules⇒accepted file bs r) ∙ e)
