-- Laws of reading: the ways out, and what each answers.
-- Assumes nothing.
use mathlib.Core.Path.{◌≡◌, refl, sym, ap, ap₂, ◌∙◌}
use mathlib.Core.Bool.{true, false}
use mathlib.Core.List.{List}
use Prim.Native.Nat.{ℕ, ◌≤◌, ◌<◌}
use native.Mathlib.Omega.{arith}
use lib.Dec.{leb}
use lib.ListN.{length}
use borrow.Author.Tests.{leb-true, leb-false, le-leb, lt-leb}
use Rattle.output_list.specs.OutputList.{padded, zeros}
use Rattle.output_list.proofs.OutputListLaws.{length-zeros}
use Rattle.outcome.specs.Outcome.{Outcome, answer, refused, number_of, place_of, count_of, list_of, ◌>>=◌}
use Rattle.outcome.proofs.OutcomeLaws.{answer_injective, answer_not_refused, kept, broken, bind_answer, bind_refused, bind⁻¹, map_refused⁻¹}
use Rattle.outcome.specs.declared.Refusal.{Refusal}
use Rattle.outcome.specs.Fault.{number}
use Rattle.header.specs.declared.Header.{Header}
use Rattle.header.specs.Header.{header_of, blocks_from}
use Rattle.block.specs.declared.Survey.{Survey}
use Rattle.payload.specs.Payload.{Text}
use Rattle.block.specs.Block.{Block, blocks_at}
use Rattle.block.specs.Survey.{records_of, surveyed, survey_of}
use Rattle.block.specs.Laid.{laid_from}
use Rattle.block.proofs.LaidLaws.{blocks⇒laid}
use Rattle.query.specs.Query.{Query}
use Rattle.reader.specs.declared.ReadAnswer.{ReadAnswer}
use Rattle.matching.specs.Matching.{matching}
use Rattle.matching.specs.ResultList.{room_for, numbers_of, Stored, put_all}
use Rattle.matching.proofs.ResultListLaws.{count_put_all, length_put_all, stored_all}
use Rattle.reader.specs.Read.{read_blocks, read_of, read_answer, read_list, refused_answer, counted}

-- ---- what is reported

pub answer_of_refusal : (o : Outcome (List Text)) (number place : ℕ) → o ≡ refused number place
    → read_answer o ≡ record { number = number; place = place; matches = 0 }
unfolding read_answer number_of place_of count_of
answer_of_refusal o number place e = rw e

pub list_of_refusal : (room : ℕ) (o : Outcome (List Text)) (number place : ℕ) → o ≡ refused number place → read_list room o ≡ zeros room
unfolding read_list list_of
list_of_refusal room o number place e = rw e

pub answer_of_matches : (o : Outcome (List Text)) (ms : List Text) → o ≡ answer ms → read_answer o ≡ record { number = 0; place = 0; matches = length ms }
unfolding read_answer number_of place_of count_of
answer_of_matches o ms e = rw e

pub list_of_matches : (room : ℕ) (o : Outcome (List Text)) (ms : List Text) → o ≡ answer ms → read_list room o ≡ padded room (numbers_of ms)
unfolding read_list list_of
list_of_matches room o ms e = rw e

-- what is answered after a refusal
pub told_refusal : (room : ℕ) (o : Outcome (List Text)) (number place : ℕ) → o ≡ refused number place
    → (r : ReadAnswer) (list : List ℕ) → r ≡ record { number = number; place = place; matches = 0 } → list ≡ zeros room
    → (r ≡ read_answer o) × (list ≡ read_list room o)
told_refusal room o number place e r list is clear = (is ∙ sym (answer_of_refusal o number place e), clear ∙ sym (list_of_refusal room o number place e))

-- and without one
pub told_matches : (room : ℕ) (o : Outcome (List Text)) (ms : List Text) → o ≡ answer ms
    → (r : ReadAnswer) (list : List ℕ) → r ≡ record { number = 0; place = 0; matches = length ms } → list ≡ padded room (numbers_of ms)
    → (r ≡ read_answer o) × (list ≡ read_list room o)
told_matches room o ms e r list is held = (is ∙ sym (answer_of_matches o ms e), held ∙ sym (list_of_matches room o ms e))

-- a count that the code answers
pub told_count : (o : Outcome (List Text)) (n : ℕ) → answer n ≡ counted o → record { number = 0; place = 0; matches = n } ≡ read_answer o
unfolding read_answer counted number_of place_of count_of ◌>>=◌
told_count (answer ms) n e = ap (λ (k : ℕ). record { number = 0; place = 0; matches = k }) (answer_injective n (length ms) e)
told_count (refused k p) n e = absurd (answer_not_refused n k p e)

-- a refusal of the code
pub told_fault : (room : ℕ) (o : Outcome (List Text)) (r : Refusal) → refused (number r.fault) r.place ≡ counted o
    → (refused_answer r ≡ read_answer o) × (zeros room ≡ read_list room o)
unfolding refused_answer counted
told_fault room o r e =
    let is = map_refused⁻¹ o length (number r.fault) r.place (sym e) in
    told_refusal room o (number r.fault) r.place is (refused_answer r) (zeros room) refl refl

-- ---- the blocks

module _ (file : List ℕ) (q : Query) (room : ℕ) (h : Header) where
  -- the block stage refuses
  pub blocks_refused : (number place : ℕ) → blocks_at file (blocks_from h) ≡ refused number place → read_blocks file q room h ≡ refused number place
  unfolding read_blocks
  blocks_refused number place e = bind_refused (blocks_at file (blocks_from h)) _ number place e

  -- every block is accepted, and there is room
  pub blocks_fit : (bs : List Block) → blocks_at file (blocks_from h) ≡ answer bs → room_for (length (matching q (records_of bs))) ≤ room
      → read_blocks file q room h ≡ answer (matching q (records_of bs))
  unfolding read_blocks
  blocks_fit bs e fits =
      bind_answer (blocks_at file (blocks_from h)) _ bs e ∙ kept (leb (room_for (length (matching q (records_of bs)))) room) 27 0 _ (le-leb _ room fits)

  -- or there isn't
  pub blocks_overflow : (bs : List Block) → blocks_at file (blocks_from h) ≡ answer bs → room < room_for (length (matching q (records_of bs)))
      → read_blocks file q room h ≡ refused 27 0
  unfolding read_blocks
  blocks_overflow bs e many =
      bind_answer (blocks_at file (blocks_from h)) _ bs e ∙ broken (leb (room_for (length (matching q (records_of bs)))) room) 27 0 _ (lt-leb _ room many)

  -- ---- the ways out of the code

  -- what the code answers, and what its list holds then
  abbrev pub Told : ReadAnswer → List ℕ → Type 0
  Told r list = (r ≡ read_answer (read_blocks file q room h)) × (list ≡ read_list room (read_blocks file q room h))

  -- the survey refuses
  survey_blocks : (number place : ℕ) → survey_of file (blocks_from h) h.root h.rootsize ≡ refused number place
      → read_blocks file q room h ≡ refused number place
  unfolding survey_of
  survey_blocks number place e =
      blocks_refused number place (map_refused⁻¹ (blocks_at file (blocks_from h)) (surveyed h.root h.rootsize) number place e)

  pub read_refused : (number place : ℕ) → survey_of file (blocks_from h) h.root h.rootsize ≡ refused number place
      → (r : ReadAnswer) (list : List ℕ) → r ≡ record { number = number; place = place; matches = 0 } → list ≡ zeros room → Told r list
  read_refused number place e = told_refusal room (read_blocks file q room h) number place (survey_blocks number place e)

  -- the block stage accepts: which blocks there are
  accepted : (s : Survey) → survey_of file (blocks_from h) h.root h.rootsize ≡ answer s → (bs : List Block) × (blocks_at file (blocks_from h) ≡ answer bs)
  unfolding survey_of
  accepted s e = let all = bind⁻¹ (blocks_at file (blocks_from h)) _ s e in (all.0, all.1)

  pub header_accepts : header_of file ≡ answer h → read_of file q room ≡ read_blocks file q room h
  unfolding read_of
  header_accepts e = bind_answer (header_of file) _ h e

  module _ (known : header_of file ≡ answer h) where
    read_is : (o : Outcome (List Text)) → read_blocks file q room h ≡ o → read_of file q room ≡ o
    read_is o e = header_accepts known ∙ e

    pub survey_refuses : (number place : ℕ) → survey_of file (blocks_from h) h.root h.rootsize ≡ refused number place
        → read_of file q room ≡ refused number place
    survey_refuses number place e = read_is (refused number place) (survey_blocks number place e)

    pub survey_stops : (number place : ℕ) → survey_of file (blocks_from h) h.root h.rootsize ≡ refused number place
        → refused number place ≡ counted (read_of file q room)
    unfolding counted
    survey_stops number place e = sym (bind_refused (read_of file q room) _ number place (survey_refuses number place e))

  -- the code puts the matching records of the blocks as they lie on a list that is all zeros, and counts them
  module _ (first : List ℕ) (cleared : first ≡ zeros room) (found : ℕ) (list : List ℕ)
      (is : ◌≡◌ {A = Stored} (record { count = found; list = list })
      (put_all (record { count = 0; list = first }) (matching q (records_of (laid_from file (blocks_from h))))))
      (s : Survey) (sound : survey_of file (blocks_from h) h.root h.rootsize ≡ answer s) where
    -- these are the matching records of the blocks
    put_records : (bs : List Block) → blocks_at file (blocks_from h) ≡ answer bs
        → record { count = found; list = list } ≡ put_all (record { count = 0; list = zeros room }) (matching q (records_of bs))
    put_records bs e =
        is
        ∙ ap (λ (l : List ℕ). put_all (record { count = 0; list = l }) (matching q (records_of (laid_from file (blocks_from h))))) cleared
        ∙ ap (λ (cs : List Block). put_all (record { count = 0; list = zeros room }) (matching q (records_of cs))) (blocks⇒laid file (blocks_from h) bs e)

    all_counted : (bs : List Block) → blocks_at file (blocks_from h) ≡ answer bs → found ≡ length (matching q (records_of bs))
    all_counted bs e =
        let all = ap (λ (t : Stored). t.count) (put_records bs e) ∙ count_put_all (record { count = 0; list = zeros room }) (matching q (records_of bs)) in
        omega arith

    -- the list is as long as before
    pub same_room : length list ≡ room
    same_room = ap (λ (t : Stored). length t.list) is ∙ length_put_all (record { count = 0; list = first }) _ ∙ ap length cleared ∙ length-zeros room

    -- the test of the code is the definition's
    same_test : (bs : List Block) → blocks_at file (blocks_from h) ≡ answer bs
        → leb (room_for (length (matching q (records_of bs)))) room ≡ leb (room_for found) (length list)
    same_test bs e = ap₂ (λ (n k : ℕ). leb (room_for n) k) (sym (all_counted bs e)) (sym same_room)

    -- more matches than the list has room for
    room_blocks : leb (room_for found) (length list) ≡ false → read_blocks file q room h ≡ refused 27 0
    room_blocks many = let all = accepted s sound in blocks_overflow all.0 all.1 (leb-false _ room (same_test all.0 all.1 ∙ many))

    pub read_overflow : leb (room_for found) (length list) ≡ false
        → (r : ReadAnswer) (last : List ℕ) → r ≡ record { number = 27; place = 0; matches = 0 } → last ≡ zeros (length list) → Told r last
    read_overflow many r last is clear = told_refusal room (read_blocks file q room h) 27 0 (room_blocks many) r last is (clear ∙ ap zeros same_room)

    -- there is room for every match: these are counted and stored
    all_stored : leb (room_for found) (length list) ≡ true
        → (ms : List Text) × (read_blocks file q room h ≡ answer ms) × (found ≡ length ms) × (list ≡ padded room (numbers_of ms))
    all_stored few =
        let all = accepted s sound in
        let ms = matching q (records_of all.0) in
        let fits = leb-true (room_for (length ms)) room (same_test all.0 all.1 ∙ few) in (
          ms,
          blocks_fit all.0 all.1 fits,
          all_counted all.0 all.1,
          ap (λ (t : Stored). t.list) (put_records all.0 all.1 ∙ stored_all room ms fits),
        )

    pub read_fit : leb (room_for found) (length list) ≡ true → Told (record { number = 0; place = 0; matches = found }) list
    read_fit few =
        let all = all_stored few in
        told_matches room (read_blocks file q room h) all.0 all.1 _ list
        (ap (λ (n : ℕ). record { number = 0; place = 0; matches = n }) all.2) all.3

    -- the same of a file with this header
    module _ (known : header_of file ≡ answer h) where
      pub room_refuses : leb (room_for found) (length list) ≡ false → read_of file q room ≡ refused 27 0
      room_refuses many = read_is known (refused 27 0) (room_blocks many)

      pub room_stops : leb (room_for found) (length list) ≡ false → refused 27 0 ≡ counted (read_of file q room)
      unfolding counted
      room_stops many = sym (bind_refused (read_of file q room) _ 27 0 (room_refuses many))

      -- and then it holds zeros, once it is cleared
      pub overflow_list : leb (room_for found) (length list) ≡ false → zeros (length list) ≡ read_list room (read_of file q room)
      overflow_list many = ap zeros same_room ∙ sym (list_of_refusal room (read_of file q room) 27 0 (room_refuses many))

      pub room_fits : leb (room_for found) (length list) ≡ true
          → (answer found ≡ counted (read_of file q room)) × (list ≡ read_list room (read_of file q room))
      unfolding counted
      room_fits few =
          let all = all_stored few in
          let answered = read_is known (answer all.0) all.1 in (
            ap answer all.2 ∙ sym (bind_answer (read_of file q room) _ all.0 answered),
            all.3 ∙ sym (list_of_matches room (read_of file q room) all.0 answered),
          )

-- ---- the header

pub header_refuses : (file : List ℕ) (q : Query) (room number place : ℕ) → header_of file ≡ refused number place → read_of file q room ≡ refused number place
unfolding read_of
header_refuses file q room number place e = bind_refused (header_of file) _ number place e

-- what the code answers then
pub header_stops : (file : List ℕ) (q : Query) (room number place : ℕ) → header_of file ≡ refused number place
    → refused number place ≡ counted (read_of file q room)
unfolding counted
header_stops file q room number place e = sym (bind_refused (read_of file q room) _ number place (header_refuses file q room number place e))

-- a list that was cleared is all zeros still
pub still_zeros : (old list : List ℕ) → list ≡ zeros (length old) → list ≡ zeros (length list)
still_zeros old list cleared = cleared ∙ ap zeros (sym (ap length cleared ∙ length-zeros (length old)))

-- and as long as it was
pub still_long : (old list : List ℕ) → list ≡ zeros (length old) → length list ≡ length old
still_long old list cleared = ap length cleared ∙ length-zeros (length old)

-- what is told after a header that was accepted, over such a list
pub read_after : (old list : List ℕ) → list ≡ zeros (length old) → (file : List ℕ) (q : Query) (h : Header) → header_of file ≡ answer h
    → (r : ReadAnswer) (last : List ℕ) → Told file q (length list) h r last
    → (r ≡ read_answer (read_of file q (length old))) × (last ≡ read_list (length old) (read_of file q (length old)))
read_after old list cleared file q h e r last (is, held) =
    let long = still_long old list cleared in
    let same = ap (λ (n : ℕ). read_blocks file q n h) long ∙ sym (header_accepts file q (length old) h e) in
    (is ∙ ap read_answer same, held ∙ ap₂ read_list long same)
