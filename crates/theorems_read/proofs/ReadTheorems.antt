-- Theorems about reading a file front to back, over the definitions that the contract of `read` cites.
-- Assumes nothing.
use mathlib.Core.Path.{◌≡◌, refl, sym, ap, ap₂, ◌∙◌, subst}
use mathlib.Core.Bool.{Bool, true, false}
use mathlib.Core.List.Memᴰ
use mathlib.Core.List.{List, ◌∷◌, ◌++◌, Memᴰ}
use Prim.Native.Nat.{ℕ, ◌+◌, ◌≤◌, ◌<◌}
use native.Mathlib.Omega.{arith}
use lib.Dec.{leb}
use lib.ListN.{length, get_or}
use borrow.Author.Tests.{leb-true, leb-false}
use Rattle.output_list.specs.OutputList.{padded, zeros}
use Rattle.output_list.proofs.OutputListLaws.{length-zeros, length-padded}
use Rattle.outcome.specs.Outcome.{Outcome, answer, refused}
use Rattle.part.specs.Part.{part}
use Rattle.outcome.proofs.OutcomeLaws.{answer_injective, answer_not_refused, bind⁻¹, kept⁻¹}
use Rattle.header.specs.declared.Header.{Header}
use Rattle.header.specs.Header.{header_of, blocks_from}
use Rattle.header.proofs.HeaderLaws.{is_header, blocks_within}
use Rattle.payload.specs.Payload.{Text}
use Rattle.block.specs.Block.{Block, blocks_at}
use Rattle.block.specs.Survey.{records_of}
use Rattle.query.specs.Query.{Query, matches}
use Rattle.matching.specs.Matching.{matching}
use Rattle.matching.specs.Packing.{packed, offset_of, length_of}
use Rattle.matching.specs.ResultList.{room_for, match_number, numbers_of}
use Rattle.reader.specs.Read.{read_blocks, read_of, read_answer, read_list}
use Rattle.record.specs.Record.{record_of}
use Rattle.record.proofs.RecordLaws.{within_of, record_within}
use Rattle.matching.proofs.MatchLaws.{matching_member, member_matching}
use Rattle.matching.proofs.ResultListLaws.{room_for_is, length_numbers, number_padded}
use Rattle.reader.proofs.ReadLaws.{answer_of_refusal, list_of_refusal, answer_of_matches, list_of_matches, blocks_refused, blocks_fit, blocks_overflow, header_accepts}
use Rattle.reader.proofs.PlaceLaws.{LaidOut, blocks_laid, matching_laid, laid_part, laid_rising, laid_member, laid_after}
use Rattle.theorems_read.proofs.PairLaws.{Placed, placed⇒unpacks}

module _ (file : List ℕ) (q : Query) (room : ℕ) where
  -- ---- what an answer says: header and blocks are accepted, and there is room for the matches

  pub record IsRead (ms : List Text) : Type 0 where
    pub header : Header
    pub blocks : List Block
    pub header_accepted : header_of file ≡ answer header
    pub blocks_accepted : blocks_at file (blocks_from header) ≡ answer blocks
    pub matches_are : ms ≡ matching q (records_of blocks)
    pub room_enough : room_for (length ms) ≤ room

  pub is_read : (ms : List Text) → read_of file q room ≡ answer ms → IsRead ms
  unfolding read_of read_blocks
  is_read ms e =
      let first = bind⁻¹ (header_of file) (read_blocks file q room) ms e in
      let second = bind⁻¹ (blocks_at file (blocks_from first.0)) _ ms first.2 in
      let third = kept⁻¹ (leb (room_for (length (matching q (records_of second.0)))) room) 27 0 _ ms second.2 in
      go first.0 second.0 first.1 second.1 (leb-true _ room third.0) (answer_injective (matching q (records_of second.0)) ms third.1)
    where
      go : (h : Header) (bs : List Block) → header_of file ≡ answer h → blocks_at file (blocks_from h) ≡ answer bs → room_for (length (matching q (records_of bs))) ≤ room → matching q (records_of bs) ≡ ms → IsRead ms
      go h bs a b fits same =
          record {
            header = h;
            blocks = bs;
            header_accepted = a;
            blocks_accepted = b;
            matches_are = sym same;
            room_enough = subst (λ (l : List Text). room_for (length l) ≤ room) same fits;
          }

  -- ---- demand 1: the answer, and the list at exit, for all inputs

  -- after a refusal its number and place are reported, no match is counted, and the list is all zeros
  pub read_refusal : (number place : ℕ) → read_of file q room ≡ refused number place
      → (read_answer (read_of file q room) ≡ record { number = number; place = place; matches = 0 }) × (read_list room (read_of file q room) ≡ zeros room)
  read_refusal number place e = (answer_of_refusal (read_of file q room) number place e, list_of_refusal room (read_of file q room) number place e)

  -- without one number and place are 0, the matches are counted, and the list is their numbers and then zeros
  pub read_answer_lem : (ms : List Text) → read_of file q room ≡ answer ms
      → (read_answer (read_of file q room) ≡ record { number = 0; place = 0; matches = length ms }) × (read_list room (read_of file q room) ≡ padded room (numbers_of ms))
  read_answer_lem ms e = (answer_of_matches (read_of file q room) ms e, list_of_matches room (read_of file q room) ms e)

  -- the list keeps its length
  pub read_length : length (read_list room (read_of file q room)) ≡ room
  read_length = go (read_of file q room) refl
    where
      go : (o : Outcome (List Text)) → read_of file q room ≡ o → length (read_list room (read_of file q room)) ≡ room
      go (answer ms) e =
          let enough = (is_read ms e).room_enough in
          let numbers = length_numbers ms in
          ap length (read_answer_lem ms e).1 ∙ length-padded room (numbers_of ms) (omega arith)
      go (refused number place) e = ap length (read_refusal number place e).1 ∙ length-zeros room

  -- ---- demand 2: which records are found

  module _ (h : Header) (header_accepted : header_of file ≡ answer h) where
    -- the header's refusals come first (`header_refuses`), then those of the block stage
    pub read_unsound : (number place : ℕ) → blocks_at file (blocks_from h) ≡ refused number place → read_of file q room ≡ refused number place
    read_unsound number place e = header_accepts file q room h header_accepted ∙ blocks_refused file q room h number place e

    module _ (bs : List Block) (blocks_accepted : blocks_at file (blocks_from h) ≡ answer bs) where
      -- with room for the matches reading gives exactly the records that match
      pub read_whole : room_for (length (matching q (records_of bs))) ≤ room → read_of file q room ≡ answer (matching q (records_of bs))
      read_whole fits = header_accepts file q room h header_accepted ∙ blocks_fit file q room h bs blocks_accepted fits

      -- 27 exactly if the list has no room for the matches
      pub read_27 : room < room_for (length (matching q (records_of bs))) → read_of file q room ≡ refused 27 0
      read_27 many = header_accepts file q room h header_accepted ∙ blocks_overflow file q room h bs blocks_accepted many

      pub read_27⁻¹ : (number place : ℕ) → read_of file q room ≡ refused number place → room < room_for (length (matching q (records_of bs)))
      read_27⁻¹ number place e = go (leb (room_for (length (matching q (records_of bs)))) room) refl
        where
          go : (b : Bool) → leb (room_for (length (matching q (records_of bs)))) room ≡ b → room < room_for (length (matching q (records_of bs)))
          go true p = absurd (answer_not_refused (matching q (records_of bs)) number place (sym (read_whole (leb-true _ room p)) ∙ e))
          go false p = leb-false (room_for (length (matching q (records_of bs)))) room p

      -- the matches are the records that match
      pub found : (ms : List Text) → read_of file q room ≡ answer ms → ms ≡ matching q (records_of bs)
      found ms e = go (leb (room_for (length (matching q (records_of bs)))) room) refl
        where
          go : (b : Bool) → leb (room_for (length (matching q (records_of bs)))) room ≡ b → ms ≡ matching q (records_of bs)
          go true p = answer_injective ms (matching q (records_of bs)) (sym e ∙ read_whole (leb-true _ room p))
          go false p = absurd (answer_not_refused ms 27 0 (sym e ∙ read_27 (leb-false (room_for (length (matching q (records_of bs)))) room p)))

      -- a record is found exactly if it is a record of the file and matches; `matching_keeps` and `matching-append` say in which order and how often
      pub found⇒matches : (ms : List Text) → read_of file q room ≡ answer ms → (r : Text) → Memᴰ r ms → Memᴰ r (records_of bs) × (matches q r.bytes ≡ true)
      found⇒matches ms e r m = matching_member q r (records_of bs) (subst (Memᴰ r) (found ms e) m)

      pub matches⇒found : (ms : List Text) → read_of file q room ≡ answer ms → (r : Text) → Memᴰ r (records_of bs) → matches q r.bytes ≡ true → Memᴰ r ms
      matches⇒found ms e r m fits = subst (Memᴰ r) (sym (found ms e)) (member_matching q r (records_of bs) m fits)

  -- ---- where the records lie

  -- the matches lie in the file after the header, one after the other
  pub read_laid : (ms : List Text) (r : IsRead ms) → LaidOut file (blocks_from r.header) ms (length file)
  read_laid ms r =
      let from = blocks_from r.header in
      let records = blocks_laid file from r.blocks r.blocks_accepted (blocks_within file r.header r.header_accepted) in
      subst (λ (l : List Text). LaidOut file from l (length file)) (sym r.matches_are) (matching_laid file q (records_of r.blocks) from (length file) records)

  -- they lie after the first byte of a file of at most 2^30 bytes
  pub read_placed : (ms : List Text) → read_of file q room ≡ answer ms → (m : Text) → Memᴰ m ms → Placed m
  read_placed ms e m i =
      let r = is_read ms e in
      let laid = read_laid ms r in
      let after = laid_after file m ms _ (length file) laid i in
      let within = (laid_member file m ms _ (length file) laid i).0 in
      let small = (is_header file r.header r.header_accepted).small in
      record { after = omega arith; within = omega arith }

  -- The number of each match unpacks to the offset of its first byte and its length, and isn't 0. The record that is handed back for it is the match.
  pub read_number : (xs : List Text) (m : Text) (ys : List Text) → read_of file q room ≡ answer (xs ++ m ∷ ys)
      → (list : List ℕ) → list ≡ read_list room (read_of file q room)
      → (get_or list (length xs) 0 ≡ packed m.at (length m.bytes)) × (0 < get_or list (length xs) 0)
      × (record_of file (offset_of (get_or list (length xs) 0)) (length_of (get_or list (length xs) 0)) ≡ m.bytes)
  unfolding match_number
  read_number xs m ys e list is =
      let held = is ∙ (read_answer_lem (xs ++ m ∷ ys) e).1 in
      let number : get_or list (length xs) 0 ≡ match_number m =
      ap₂ (λ (l : List ℕ) (i : ℕ). get_or l i 0) held (sym (room_for_is (length xs))) ∙ number_padded room xs m ys in
      let u = placed⇒unpacks m (read_placed (xs ++ m ∷ ys) e m (Memᴰ.append_right xs (Memᴰ.head refl))) in
      let some = u.some in
      (number, omega (arith, number), ap₂ (record_of file) (ap offset_of number ∙ u.offset) (ap length_of number ∙ u.size) ∙ handed)
    where
      handed : record_of file m.at (length m.bytes) ≡ m.bytes
      handed =
          let laid = read_laid (xs ++ m ∷ ys) (is_read (xs ++ m ∷ ys) e) in
          let p = laid_part file xs m ys _ (length file) laid in
          record_within file m.at (length m.bytes) (within_of file m.at (length m.bytes) p.1) ∙ p.2

  -- offsets rise strictly, and no match overlaps another
  pub read_rising : (xs : List Text) (m : Text) (ys : List Text) (n : Text) (zs : List Text) → read_of file q room ≡ answer (xs ++ m ∷ (ys ++ n ∷ zs)) → m.at + length m.bytes < n.at
  read_rising xs m ys n zs e =
      let ms = xs ++ m ∷ (ys ++ n ∷ zs) in
      laid_rising file xs m ys n zs _ (length file) (read_laid ms (is_read ms e))

-- the part of the file at the offset and of the length of each record is the record's bytes
pub record_bytes : (file : List ℕ) (h : Header) (bs : List Block) → header_of file ≡ answer h → blocks_at file (blocks_from h) ≡ answer bs
    → (r : Text) → Memᴰ r (records_of bs) → (r.at + length r.bytes ≤ length file) × (part file r.at (length r.bytes) ≡ r.bytes)
record_bytes file h bs a b r m = laid_member file r (records_of bs) (blocks_from h) (length file) (blocks_laid file (blocks_from h) bs b (blocks_within file h a)) m
