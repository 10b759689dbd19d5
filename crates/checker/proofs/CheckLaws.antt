-- Laws of the check and of acceptance: their stages, their ways out, and what each answers.
-- Assumes nothing.
use mathlib.Core.Path.{◌≡◌, sym, ap, ◌∙◌, subst}
use mathlib.Core.Bool.{true, false}
use mathlib.Core.List.{List}
use Prim.Native.Nat.{ℕ, ◌≤◌, ◌<◌}
use lib.Dec.{leb}
use lib.ListN.{length}
use borrow.Author.Tests.{le-leb, lt-leb, leb-true}
use Rattle.outcome.specs.Outcome.{Outcome, answer, refused, ◌>>◌, must, number_of, place_of, count_of}
use Rattle.outcome.proofs.OutcomeLaws.{answer_injective, kept, kept⁻¹, broken, bind_answer, bind_refused, bind⁻¹, map_refused⁻¹}
use Rattle.outcome.proofs.OutcomeLaws.{after_answer, after_refused, after_assoc, passed⁻¹, must⁻¹}
use Rattle.header.specs.declared.Header.{Header}
use Rattle.header.specs.Header.{header_of, blocks_from}
use Rattle.block.specs.declared.Survey.{Survey}
use Rattle.block.specs.Block.{Block, blocks_at}
use Rattle.block.specs.Survey.{ordinary, records_of, surveyed, survey_of}
use Rattle.tree.specs.Stages.{tree_of, has_root}
use Rattle.checker.specs.declared.Checked.{Checked}
use Rattle.checker.specs.Check.{check_with, accept_of, check_of, check_answer, laid_tree_of}
use Rattle.checker.proofs.StageLaws.{tree_accepted}

-- ---- what is reported

pub answer_of_refusal : (o : Outcome (List Block)) (number place : ℕ) → o ≡ refused number place
    → check_answer o ≡ record { number = number; place = place; blocks = 0; records = 0 }
unfolding check_answer number_of place_of count_of
answer_of_refusal o number place e = rw e

pub answer_of_blocks : (o : Outcome (List Block)) (bs : List Block) → o ≡ answer bs
    → check_answer o ≡ record { number = 0; place = 0; blocks = length (ordinary bs); records = length (records_of bs) }
unfolding check_answer number_of place_of count_of
answer_of_blocks o bs e = rw e

-- ---- the stages, with any stage on the blocks

-- header, blocks and root are sound: the stages after 17 are reached
pub record Reached (file : List ℕ) (h : Header) (bs : List Block) : Type 0 where
  pub header : header_of file ≡ answer h
  pub blocks : blocks_at file (blocks_from h) ≡ answer bs
  pub root : has_root h bs ≡ true

module _ (stage : List Block → Outcome (Unit {0})) (file : List ℕ) where
  -- the header refuses
  with_header_lem : (number place : ℕ) → header_of file ≡ refused number place → check_with stage file ≡ refused number place
  unfolding check_with
  with_header_lem number place e = bind_refused (header_of file) _ number place e

  module _ (h : Header) (header : header_of file ≡ answer h) where
    -- a block refuses
    with_unsound : (number place : ℕ) → blocks_at file (blocks_from h) ≡ refused number place → check_with stage file ≡ refused number place
    unfolding check_with
    with_unsound number place e = bind_answer (header_of file) _ h header ∙ bind_refused (blocks_at file (blocks_from h)) _ number place e

    module _ (bs : List Block) (blocks : blocks_at file (blocks_from h) ≡ answer bs) where
      -- no root: 17
      with_17 : has_root h bs ≡ false → check_with stage file ≡ refused 17 0
      unfolding check_with
      with_17 root = bind_answer (header_of file) _ h header ∙ bind_answer (blocks_at file (blocks_from h)) _ bs blocks ∙ broken (has_root h bs) 17 0 _ root

      -- the stage decides, and then the tree
      with_tree : has_root h bs ≡ true → check_with stage file ≡ (stage bs >> (tree_of file h bs >> answer bs))
      unfolding check_with
      with_tree root = bind_answer (header_of file) _ h header ∙ bind_answer (blocks_at file (blocks_from h)) _ bs blocks ∙ kept (has_root h bs) 17 0 _ root

  -- what an answer says, stage by stage
  with⁻¹ : (bs : List Block) → check_with stage file ≡ answer bs → (h : Header) × Reached file h bs × (stage bs ≡ answer tt) × (tree_of file h bs ≡ answer tt)
  unfolding check_with
  with⁻¹ bs e =
      let a = bind⁻¹ (header_of file) _ bs e in
      let b = bind⁻¹ (blocks_at file (blocks_from a.0)) _ bs a.2 in
      let c = kept⁻¹ (has_root a.0 b.0) 17 0 _ bs b.2 in
      let d = passed⁻¹ (stage b.0) _ bs c.1 in
      let f = passed⁻¹ (tree_of file a.0 b.0) (answer b.0) bs d.1 in
      let all = subst (Stages a.0) (answer_injective b.0 bs f.1) (record { header = a.1; blocks = b.1; root = c.0 }, d.0, f.0) in
      (a.0, all.0, all.1, all.2)
    where
      Stages : Header → List Block → Type 0
      Stages h cs = Reached file h cs × (stage cs ≡ answer tt) × (tree_of file h cs ≡ answer tt)

-- ---- acceptance

module _ (file : List ℕ) where
  pub accept_header : (number place : ℕ) → header_of file ≡ refused number place → accept_of file ≡ refused number place
  unfolding accept_of
  accept_header = with_header_lem (λ bs. answer tt) file

  module _ (h : Header) (header : header_of file ≡ answer h) where
    pub accept_unsound : (number place : ℕ) → blocks_at file (blocks_from h) ≡ refused number place → accept_of file ≡ refused number place
    unfolding accept_of
    accept_unsound = with_unsound (λ bs. answer tt) file h header

    module _ (bs : List Block) (blocks : blocks_at file (blocks_from h) ≡ answer bs) where
      pub accept_17 : has_root h bs ≡ false → accept_of file ≡ refused 17 0
      unfolding accept_of
      accept_17 = with_17 (λ cs. answer tt) file h header bs blocks

      pub accept_tree : has_root h bs ≡ true → accept_of file ≡ (tree_of file h bs >> answer bs)
      unfolding accept_of ◌>>◌
      accept_tree = with_tree (λ cs. answer tt) file h header bs blocks

  pub accept⁻¹ : (bs : List Block) → accept_of file ≡ answer bs → (h : Header) × Reached file h bs × (tree_of file h bs ≡ answer tt)
  unfolding accept_of
  accept⁻¹ bs e = let all = with⁻¹ (λ cs. answer tt) file bs e in (all.0, all.1, all.3)

  pub accept⁺ : (h : Header) (bs : List Block) → Reached file h bs → tree_of file h bs ≡ answer tt → accept_of file ≡ answer bs
  accept⁺ h bs r tree = accept_tree h r.header bs r.blocks r.root ∙ after_answer (tree_of file h bs) (answer bs) tt tree

-- ---- the check

-- 18
abbrev room : (places : ℕ) → List Block → Outcome (Unit {0})
room places bs = must (leb (length (ordinary bs)) places) 18 0

pub check_header : (file : List ℕ) (places number place : ℕ) → header_of file ≡ refused number place → check_of file places ≡ refused number place
unfolding check_of
check_header file places = with_header_lem (room places) file

module _ (file : List ℕ) (places : ℕ) (h : Header) (header : header_of file ≡ answer h) where
  pub check_unsound : (number place : ℕ) → blocks_at file (blocks_from h) ≡ refused number place → check_of file places ≡ refused number place
  unfolding check_of
  check_unsound = with_unsound (room places) file h header

  pub check_17 : (bs : List Block) → blocks_at file (blocks_from h) ≡ answer bs → has_root h bs ≡ false → check_of file places ≡ refused 17 0
  unfolding check_of
  check_17 = with_17 (room places) file h header

module _ (file : List ℕ) (places : ℕ) (h : Header) (bs : List Block) (header : header_of file ≡ answer h) (blocks : blocks_at file (blocks_from h) ≡ answer bs) (root : has_root h bs ≡ true) where
  -- 18, and then the tree
  check_room : check_of file places ≡ (room places bs >> (tree_of file h bs >> answer bs))
  unfolding check_of
  check_room = with_tree (room places) file h header bs blocks root

  -- too few places: 18
  pub check_18 : places < length (ordinary bs) → check_of file places ≡ refused 18 0
  check_18 few = check_room ∙ broken (leb (length (ordinary bs)) places) 18 0 _ (lt-leb _ _ few)

  -- places enough: the tree decides
  pub check_tree : length (ordinary bs) ≤ places → check_of file places ≡ (tree_of file h bs >> answer bs)
  check_tree enough = check_room ∙ kept (leb (length (ordinary bs)) places) 18 0 _ (le-leb _ _ enough)

pub check⁻¹ : (file : List ℕ) (places : ℕ) (bs : List Block) → check_of file places ≡ answer bs
    → (h : Header) × Reached file h bs × (length (ordinary bs) ≤ places) × (tree_of file h bs ≡ answer tt)
unfolding check_of
check⁻¹ file places bs e =
    let all = with⁻¹ (room places) file bs e in
    (all.0, all.1, leb-true _ _ (must⁻¹ (leb (length (ordinary bs)) places) 18 0 all.2), all.3)

pub check⁺ : (file : List ℕ) (places : ℕ) (h : Header) (bs : List Block) → Reached file h bs → length (ordinary bs) ≤ places → tree_of file h bs ≡ answer tt
    → check_of file places ≡ answer bs
check⁺ file places h bs r enough tree =
    check_tree file places h bs r.header r.blocks r.root enough ∙ after_answer (tree_of file h bs) (answer bs) tt tree

-- ---- the ways out of the code

-- a refusal
pub told : (o : Outcome (List Block)) (number place : ℕ) → o ≡ refused number place → (r : Checked)
    → r ≡ record { number = number; place = place; blocks = 0; records = 0 } → r ≡ check_answer o
told o number place e r is = is ∙ sym (answer_of_refusal o number place e)

module _ (file : List ℕ) (places : ℕ) (h : Header) (header : header_of file ≡ answer h) where
  -- the block stage refuses
  pub told_unsound : (number place : ℕ) → survey_of file (blocks_from h) h.root h.rootsize ≡ refused number place
      → (r : Checked) → r ≡ record { number = number; place = place; blocks = 0; records = 0 } → r ≡ check_answer (check_of file places)
  unfolding survey_of
  told_unsound number place e =
      told (check_of file places) number place (check_unsound file places h header number place (map_refused⁻¹ (blocks_at file (blocks_from h)) (surveyed h.root h.rootsize) number place e))

  -- the block stage accepts: what was counted
  module _ (s : Survey) (sound : survey_of file (blocks_from h) h.root h.rootsize ≡ answer s) where
    accepted : (bs : List Block) × (blocks_at file (blocks_from h) ≡ answer bs) × (surveyed h.root h.rootsize bs ≡ s)
    unfolding survey_of
    accepted = let all = bind⁻¹ (blocks_at file (blocks_from h)) _ s sound in (all.0, all.1, answer_injective _ s all.2)

    root_is : (bs : List Block) → surveyed h.root h.rootsize bs ≡ s → has_root h bs ≡ s.root
    unfolding surveyed has_root
    root_is bs same = ap (λ (t : Survey). t.root) same

    blocks_are : (bs : List Block) → surveyed h.root h.rootsize bs ≡ s → length (ordinary bs) ≡ s.blocks
    unfolding surveyed
    blocks_are bs same = ap (λ (t : Survey). t.blocks) same

    records_are : (bs : List Block) → surveyed h.root h.rootsize bs ≡ s → length (records_of bs) ≡ s.records
    unfolding surveyed
    records_are bs same = ap (λ (t : Survey). t.records) same

    pub told_17 : s.root ≡ false → (r : Checked) → r ≡ record { number = 17; place = 0; blocks = 0; records = 0 } → r ≡ check_answer (check_of file places)
    told_17 none =
        let (bs, blocks, same) = accepted in
        told (check_of file places) 17 0 (check_17 file places h header bs blocks (root_is bs same ∙ none))

    -- 18 to 25, as the code judges them
    module _ (one : s.root ≡ true) where
      decided : (bs : List Block) → blocks_at file (blocks_from h) ≡ answer bs → surveyed h.root h.rootsize bs ≡ s
          → check_of file places ≡ (laid_tree_of file (blocks_from h) h.root places >> answer bs)
      decided bs blocks same =
          let root = root_is bs same ∙ one in
          check_room file places h bs header blocks root
          ∙ after_assoc (room places bs) (tree_of file h bs) (answer bs)
          ∙ ap (λ (o : Outcome (Unit {0})). o >> answer bs) (sym (tree_accepted file h bs header blocks root places))

      pub told_fault : (number place : ℕ) → laid_tree_of file (blocks_from h) h.root places ≡ refused number place
          → (r : Checked) → r ≡ record { number = number; place = place; blocks = 0; records = 0 } → r ≡ check_answer (check_of file places)
      told_fault number place e =
          let (bs, blocks, same) = accepted in
          told (check_of file places) number place
          (decided bs blocks same ∙ after_refused (laid_tree_of file (blocks_from h) h.root places) (answer bs) number place e)

      pub told_sound : laid_tree_of file (blocks_from h) h.root places ≡ answer tt
          → record { number = 0; place = 0; blocks = s.blocks; records = s.records } ≡ check_answer (check_of file places)
      told_sound e =
          let (bs, blocks, same) = accepted in
          ap (λ (n : ℕ). record { number = 0; place = 0; blocks = n; records = s.records }) (sym (blocks_are bs same))
          ∙ ap (λ (n : ℕ). record { number = 0; place = 0; blocks = length (ordinary bs); records = n }) (sym (records_are bs same))
          ∙ sym (answer_of_blocks (check_of file places) bs
          (decided bs blocks same ∙ after_answer (laid_tree_of file (blocks_from h) h.root places) (answer bs) tt e))
