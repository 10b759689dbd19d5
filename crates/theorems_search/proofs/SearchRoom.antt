-- The search of an accepted file on lists with so many places: answered where both suffice, 26 or 27 where one of them doesn't.
-- Assumes nothing.
use mathlib.Core.Path.{◌≡◌, refl, ap, ◌∙◌}
use mathlib.Core.Logic.{◌↔◌}
use mathlib.Core.Bool.{Bool, true, false}
use mathlib.Core.List.{List}
use Prim.Native.Nat.{ℕ, ◌+◌, ◌≤◌, ◌<◌}
use native.Mathlib.Omega.{arith}
use lib.Dec.{ltb}
use lib.ListN.{length}
use borrow.Author.Tests.{ltb-true, ltb-false}
use Rattle.outcome.specs.Outcome.{Outcome, answer, refused, number_of}
use Rattle.header.specs.Header.{field_at}
use Rattle.payload.specs.Payload.{Text}
use Rattle.block.specs.Block.{Block}
use Rattle.block.specs.Survey.{records_of}
use Rattle.query.specs.Query.{Query}
use Rattle.matching.specs.Matching.{matching}
use Rattle.matching.specs.ResultList.{room_for}
use Rattle.matching.proofs.ResultListLaws.{room_for_none}
use Rattle.search.specs.Search.{Walked, nothing, search_of, search_answer}
use Rattle.checker.specs.Check.{accept_of}
use Rattle.theorems_search.proofs.Events.{search_events, opens_in, finds_in}
use Rattle.theorems_search.proofs.EventsLaws.{run_fits, run_26, run_27}
use Rattle.theorems_search.proofs.SearchEvents.{search_events_lem}
use Rattle.theorems_search.proofs.SearchFinds.{finds_all}

-- the refusal that is reported
pub number_of_answer : (o : Outcome Walked) (s : Walked) → o ≡ answer s → (search_answer o).number ≡ 0
unfolding search_answer number_of
number_of_answer o s e = rw e

pub number_of_refusal : (o : Outcome Walked) (number place : ℕ) → o ≡ refused number place → (search_answer o).number ≡ number
unfolding search_answer number_of
number_of_refusal o number place e = rw e

module _ (file : List ℕ) (bs : List Block) (accepted : accept_of file ≡ answer bs) (q : Query) (places room : ℕ) where
  -- as many are found as match
  found_room : room_for (length nothing.matches + length (finds_in (search_events bs (field_at file 16) q))) ≡ room_for (length (matching q (records_of bs)))
  unfolding nothing
  found_room = let count = ap length (finds_all file bs accepted q) in ap room_for (omega arith)

  -- with a place for each block that is opened and room for the matches, the search is answered with them
  pub search_fits : length (opens_in (search_events bs (field_at file 16) q)) ≤ places → room_for (length (matching q (records_of bs))) ≤ room
      → search_of file q places room ≡ answer (record { opened = opens_in (search_events bs (field_at file 16) q); matches = matching q (records_of bs) })
  unfolding nothing
  search_fits fit_opened fit-matches =
      let same = found_room in
      search_events_lem file bs accepted q places room
      ∙ run_fits places room (search_events bs (field_at file 16) q) nothing (omega arith) (omega arith)
      ∙ ap (λ (ms : List Text). answer (record { opened = opens_in (search_events bs (field_at file 16) q); matches = ms })) (finds_all file bs accepted q)

  -- too few places for the opened blocks
  pub search_26 : room_for (length (matching q (records_of bs))) ≤ room → places < length (opens_in (search_events bs (field_at file 16) q)) → search_of file q places room ≡ refused 26 0
  unfolding nothing
  search_26 fit-matches many =
      let same = found_room in
      search_events_lem file bs accepted q places room ∙ run_26 places room (search_events bs (field_at file 16) q) nothing (omega arith) (omega arith) (omega arith)

  -- too few places for the matches
  pub search_27 : length (opens_in (search_events bs (field_at file 16) q)) ≤ places → room < room_for (length (matching q (records_of bs))) → search_of file q places room ≡ refused 27 0
  unfolding nothing
  search_27 fit_opened many =
      let same = found_room in
      search_events_lem file bs accepted q places room ∙ run_27 places room (search_events bs (field_at file 16) q) nothing (omega arith) (omega (arith, room_for_none)) (omega arith)

  -- ---- the edges

  not_refused : length (opens_in (search_events bs (field_at file 16) q)) ≤ places → room_for (length (matching q (records_of bs))) ≤ room → (search_answer (search_of file q places room)).number ≡ 0
  not_refused fit_opened fit-matches = number_of_answer (search_of file q places room) _ (search_fits fit_opened fit-matches)

  -- where the matches have room: 26 exactly if more blocks are opened than the opened list has places
  pub edge_26 : room_for (length (matching q (records_of bs))) ≤ room → ((search_answer (search_of file q places room)).number ≡ 26) ↔ (places < length (opens_in (search_events bs (field_at file 16) q)))
  edge_26 fit-matches = (λ e. go (ltb places (length (opens_in (search_events bs (field_at file 16) q)))) refl e, λ many. number_of_refusal (search_of file q places room) 26 0 (search_26 fit-matches many))
    where
      go : (b : Bool) → ltb places (length (opens_in (search_events bs (field_at file 16) q))) ≡ b → (search_answer (search_of file q places room)).number ≡ 26
          → places < length (opens_in (search_events bs (field_at file 16) q))
      go true p e = ltb-true places (length (opens_in (search_events bs (field_at file 16) q))) p
      go false p e = let reported = not_refused (ltb-false places (length (opens_in (search_events bs (field_at file 16) q))) p) fit-matches in absurd (omega arith)

  -- where the opened blocks have room: 27 exactly if the result list has no room for the matches
  pub edge_27 : length (opens_in (search_events bs (field_at file 16) q)) ≤ places → ((search_answer (search_of file q places room)).number ≡ 27) ↔ (room < room_for (length (matching q (records_of bs))))
  edge_27 fit_opened = (λ e. go (ltb room (room_for (length (matching q (records_of bs))))) refl e, λ many. number_of_refusal (search_of file q places room) 27 0 (search_27 fit_opened many))
    where
      go : (b : Bool) → ltb room (room_for (length (matching q (records_of bs)))) ≡ b → (search_answer (search_of file q places room)).number ≡ 27 → room < room_for (length (matching q (records_of bs)))
      go true p e = ltb-true room (room_for (length (matching q (records_of bs)))) p
      go false p e = let reported = not_refused fit_opened (ltb-false room (room_for (length (matching q (records_of bs)))) p) in absurd (omega arith)
