-- 18 to 25 as the code judges them: where the blocks are accepted and have a root, the names, the walks and the hash of the blocks as they lie
-- give what the rules state.
-- Assumes nothing.
use mathlib.Core.Path.{◌≡◌, sym, ap, ◌∙◌}
use mathlib.Core.Bool.{true}
use mathlib.Core.List.{List}
use Prim.Native.Nat.{ℕ, ◌^◌, ◌≤◌}
use native.Mathlib.Omega.{arith}
use lib.Dec.{leb}
use lib.ListN.{length}
use Rattle.outcome.specs.Outcome.{Outcome, answer, refused, ◌>>◌, must}
use Rattle.outcome.proofs.OutcomeLaws.{after_answer, after_refused, after_assoc, passed⁻¹, after_same}
use Rattle.header.specs.declared.Header.{Header}
use Rattle.header.specs.Header.{header_of, blocks_from}
use Rattle.header.proofs.HeaderLaws.{is_header, blocks_from_lem}
use Rattle.block.specs.Block.{Block, blocks_at}
use Rattle.block.specs.Survey.{ordinary}
use Rattle.tree.specs.Stages.{naming_of, walk_rules_of, hash_rule_of, tree_of, has_root}
use Rattle.tree.proofs.StageLaws.{root⁻¹}
use Rattle.check_names.specs.Names.{names_of}
use Rattle.check_names.proofs.NamesLaws.{names_accepted}
use Rattle.check_walk.specs.Walk.{walked_of}
use Rattle.check_walk.proofs.ReadyLaws.{Ready, walked_rules}
use Rattle.check_hash.specs.Hash.{hash_of}
use Rattle.check_hash.proofs.HashLaws.{hash_accepted}
use Rattle.checker.specs.Check.{laid_tree_of}

-- ---- one after the other

module _ (file : List ℕ) (from root places : ℕ) where
  -- 18, 19 or 20 decides
  pub tree_names : (number place : ℕ) → names_of file from root places ≡ refused number place → laid_tree_of file from root places ≡ refused number place
  unfolding laid_tree_of
  tree_names number place e = after_refused (names_of file from root places) _ number place e

  module _ (names : names_of file from root places ≡ answer tt) where
    named : laid_tree_of file from root places ≡ (walked_of file root >> hash_of file from)
    unfolding laid_tree_of
    named = after_answer (names_of file from root places) _ tt names

    -- 22, 23 or 24 decides
    pub tree_walk : (number place : ℕ) → walked_of file root ≡ refused number place → laid_tree_of file from root places ≡ refused number place
    tree_walk number place e = named ∙ after_refused (walked_of file root) _ number place e

    -- 25 decides
    pub tree_hash : walked_of file root ≡ answer tt → laid_tree_of file from root places ≡ hash_of file from
    tree_hash e = named ∙ after_answer (walked_of file root) _ tt e

-- ---- of an accepted file

-- a header was read, and its blocks have passed 17
module _ (file : List ℕ) (h : Header) (bs : List Block) (header : header_of file ≡ answer h) (read : blocks_at file (blocks_from h) ≡ answer bs) (root : has_root h bs ≡ true) where
  -- where 19 and 20 pass too, the walks can be made
  ready : naming_of bs h.root ≡ answer tt → Ready file (blocks_from h) h.root bs
  ready named =
      let top = root⁻¹ h bs root in
      let from = blocks_from_lem file h header in
      record { later = omega arith; read = read; rooted = (top.0, top.1, top.2, top.4, top.5); named = named }

  pub tree_accepted : (places : ℕ) → laid_tree_of file (blocks_from h) h.root places ≡ (must (leb (length (ordinary bs)) places) 18 0 >> tree_of file h bs)
  unfolding laid_tree_of tree_of
  tree_accepted places =
      ap (λ (o : Outcome (Unit {0})). o >> (walked_of file h.root >> hash_of file (blocks_from h))) (names_accepted file (blocks_from h) h.root places short bs read)
      ∙ after_same (room >> naming_of bs h.root) _ _ later
      ∙ sym (after_assoc room (naming_of bs h.root) (walk_rules_of bs h.root >> hash_rule_of file bs))
    where
      short : length file ≤ 2 ^ 30
      short = (is_header file h header).small

      room : Outcome (Unit {0})
      room = must (leb (length (ordinary bs)) places) 18 0

      later : (room >> naming_of bs h.root) ≡ answer tt
          → (walked_of file h.root >> hash_of file (blocks_from h)) ≡ (walk_rules_of bs h.root >> hash_rule_of file bs)
      later e =
          ap (λ (o : Outcome (Unit {0})). o >> hash_of file (blocks_from h)) (walked_rules file (blocks_from h) h.root bs (ready (passed⁻¹ room (naming_of bs h.root) tt e).1))
          ∙ ap (λ (o : Outcome (Unit {0})). walk_rules_of bs h.root >> o) (hash_accepted file (blocks_from h) short bs read)
