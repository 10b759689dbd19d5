-- The numbers that reading front to back is refused with, and what 0 and 27 say.
-- Assumes nothing.
use mathlib.Core.Path.{◌≡◌, refl, sym, ap, ◌∙◌, subst}
use mathlib.Core.Logic.{◌↔◌, inl, inr}
use mathlib.Core.List.{List}
use Prim.Native.Nat.{ℕ, ◌≤◌, ◌<◌}
use native.Mathlib.Omega.{arith}
use lib.ListN.{length}
use Rattle.outcome.specs.Outcome.{Outcome, answer, refused}
use Rattle.header.specs.declared.Header.{Header}
use Rattle.header.specs.Header.{header_of, blocks_from}
use Rattle.header.proofs.HeaderLaws.{header_refused, blocks_within}
use Rattle.payload.specs.Payload.{Text}
use Rattle.block.specs.Block.{Block, blocks_at}
use Rattle.block.specs.Survey.{records_of}
use Rattle.query.specs.Query.{Query}
use Rattle.matching.specs.Matching.{matching}
use Rattle.matching.proofs.ResultListLaws.{room_for_is}
use Rattle.reader.specs.declared.ReadAnswer.{ReadAnswer}
use Rattle.reader.specs.Read.{read_of, read_answer}
use Rattle.reader.proofs.ReadLaws.{header_refuses}
use Rattle.reader.proofs.PlaceLaws.{blocks_laid, matching_laid, laid_few}
use Rattle.theorems_check.proofs.BlockNumbers.{BlockNumber, blocks_numbers}
use Rattle.theorems_read.proofs.ReadTheorems.{read_refusal, read_answer_lem, read_unsound, read_27, read_27⁻¹}

module _ (file : List ℕ) (q : Query) (room : ℕ) where
  -- header and blocks are accepted, and the matches exceed the places
  pub record NoRoom : Type 0 where
    pub header : Header
    pub blocks : List Block
    pub header_accepted : header_of file ≡ answer header
    pub blocks_accepted : blocks_at file (blocks_from header) ≡ answer blocks
    pub few : room < length (matching q (records_of blocks))

  -- a refusal is the header's, the block stage's, or 27
  pub data RefusedBy (number place : ℕ) : Type 0 where
    by_header : 1 ≤ number → number ≤ 9 → RefusedBy number place
    by_block : BlockNumber number → RefusedBy number place
    by_room : number ≡ 27 → NoRoom → RefusedBy number place

  pub refused_by : (number place : ℕ) → read_of file q room ≡ refused number place → RefusedBy number place
  refused_by number place e = go (header_of file) refl
    where
      same : (n p : ℕ) → read_of file q room ≡ refused n p → n ≡ number
      same n p f = let both : ◌≡◌ {A = Outcome (List Text)} (refused n p) (refused number place) = sym f ∙ e in cc

      by_blocks : (h : Header) → header_of file ≡ answer h → (o : Outcome (List Block)) → blocks_at file (blocks_from h) ≡ o → RefusedBy number place
      by_blocks h header (answer bs) blocks =
          let few = read_27⁻¹ file q room h header bs blocks number place e in
          let same_room = room_for_is (length (matching q (records_of bs))) in
          by_room (sym (same 27 0 (read_27 file q room h header bs blocks few)))
          (record { header = h; blocks = bs; header_accepted = header; blocks_accepted = blocks; few = omega arith })
      by_blocks h header (refused n p) blocks =
          by_block (subst BlockNumber (same n p (read_unsound file q room h header n p blocks)) ((blocks_numbers file (blocks_from h)).among n p blocks))

      go : (o : Outcome Header) → header_of file ≡ o → RefusedBy number place
      go (answer h) header = by_blocks h header (blocks_at file (blocks_from h)) refl
      go (refused n p) header =
          let numbers = header_refused file n p header in
          let it = same n p (header_refuses file q room n p header) in
          by_header (omega arith) (omega arith)

  -- the number 0 says that there is no refusal
  pub number_0⇒answered : (read_answer (read_of file q room)).number ≡ 0 → (ms : List Text) × (read_of file q room ≡ answer ms)
  number_0⇒answered z = go (read_of file q room) refl
    where
      some : (n p : ℕ) → RefusedBy n p → n ≡ 0 → ⊥
      some n p (by_header low high) e = omega arith
      some n p (by_block (inl between)) e = omega arith
      some n p (by_block (inr same)) e = omega arith
      some n p (by_room same full) e = omega arith

      go : (o : Outcome (List Text)) → read_of file q room ≡ o → (ms : List Text) × (read_of file q room ≡ answer ms)
      go (answer ms) e = (ms, e)
      go (refused n p) e = absurd (some n p (refused_by n p e) (sym (ap (λ (r : ReadAnswer). r.number) (read_refusal file q room n p e).0) ∙ z))

  -- 27 exactly where nothing before it applies and the matches exceed the places
  pub number_27 : ((read_answer (read_of file q room)).number ≡ 27) ↔ NoRoom
  number_27 = (λ e. go e (read_of file q room) refl, few⇒27)
    where
      few⇒27 : NoRoom → (read_answer (read_of file q room)).number ≡ 27
      few⇒27 full =
          let few = full.few in
          let same_room = room_for_is (length (matching q (records_of full.blocks))) in
          let e = read_27 file q room full.header full.header_accepted full.blocks full.blocks_accepted (omega arith) in
          ap (λ (r : ReadAnswer). r.number) (read_refusal file q room 27 0 e).0

      none : (n p : ℕ) → RefusedBy n p → n ≡ 27 → NoRoom
      none n p (by_header low high) e = absurd (omega arith)
      none n p (by_block (inl between)) e = absurd (omega arith)
      none n p (by_block (inr same)) e = absurd (omega arith)
      none n p (by_room same full) e = full

      go : (read_answer (read_of file q room)).number ≡ 27 → (o : Outcome (List Text)) → read_of file q room ≡ o → NoRoom
      go e (answer ms) f = let zero = ap (λ (r : ReadAnswer). r.number) (read_answer_lem file q room ms f).0 in absurd (omega arith)
      go e (refused n p) f = none n p (refused_by n p f) (sym (ap (λ (r : ReadAnswer). r.number) (read_refusal file q room n p f).0) ∙ e)

  -- as many places as the file has bytes are always enough
  pub never_27 : length file ≤ room → (read_answer (read_of file q room)).number ≡ 27 → ⊥
  never_27 enough e = go (number_27.0 e)
    where
      go : NoRoom → ⊥
      go full =
          let from = blocks_from full.header in
          let records = blocks_laid file from full.blocks full.blocks_accepted (blocks_within file full.header full.header_accepted) in
          let few = laid_few file (matching q (records_of full.blocks)) from (length file)
          (matching_laid file q (records_of full.blocks) from (length file) records) in
          let many = full.few in
          omega arith
