-- With room for all, the search of an accepted file reports what reading front to back reports, and lists the opened blocks.
-- Assumes nothing.
use mathlib.Core.Path.{◌≡◌, sym, ap, ◌∙◌}
use mathlib.Core.List.{List}
use Prim.Native.Nat.{ℕ, ◌≤◌}
use lib.ListN.{length}
use Rattle.output_list.specs.OutputList.{padded}
use Rattle.outcome.specs.Outcome.{Outcome, answer, number_of, place_of, count_of, list_of}
use Rattle.header.specs.Header.{field_at}
use Rattle.payload.specs.Payload.{Text}
use Rattle.block.specs.Block.{Block}
use Rattle.block.specs.Survey.{records_of}
use Rattle.query.specs.Query.{Query}
use Rattle.matching.specs.Matching.{matching}
use Rattle.matching.specs.ResultList.{room_for, numbers_of}
use Rattle.reader.specs.Read.{read_of, read_answer, read_list}
use Rattle.theorems_read.proofs.ReadTheorems.{read_answer_lem}
use Rattle.theorems_read.proofs.ReadAccepted.{accepted⇒read}
use Rattle.search.specs.Search.{Walked, search_of, search_answer, opened_list, result_list}
use Rattle.checker.specs.Check.{accept_of}
use Rattle.theorems_search.proofs.Events.{search_events, opens_in}
use Rattle.theorems_search.proofs.SearchRoom.{search_fits}

-- ---- what is reported of an answer

-- number and place are 0; blocks and matches are counted and listed, with zeros after them
pub record Reported (o : Outcome Walked) (places room : ℕ) (opened : List ℕ) (ms : List Text) : Type 0 where
  pub number : (search_answer o).number ≡ 0
  pub place : (search_answer o).place ≡ 0
  pub matches : (search_answer o).matches ≡ length ms
  pub count : (search_answer o).opened ≡ length opened
  pub blocks : opened_list places o ≡ padded places opened
  pub results : result_list room o ≡ padded room (numbers_of ms)

pub answer_reported : (o : Outcome Walked) (places room : ℕ) (opened : List ℕ) (ms : List Text) → o ≡ answer (record { opened = opened; matches = ms }) → Reported o places room opened ms
unfolding search_answer opened_list result_list number_of place_of count_of list_of
answer_reported o places room opened ms e = record { number = rw e; place = rw e; matches = rw e; count = rw e; blocks = rw e; results = rw e }

-- ---- an accepted file

module _ (file : List ℕ) (bs : List Block) (accepted : accept_of file ≡ answer bs) (q : Query) (places room : ℕ)
    (fit_opened : length (opens_in (search_events bs (field_at file 16) q)) ≤ places) (fit-matches : room_for (length (matching q (records_of bs))) ≤ room) where
  reported : Reported (search_of file q places room) places room (opens_in (search_events bs (field_at file 16) q)) (matching q (records_of bs))
  reported = answer_reported (search_of file q places room) places room _ _ (search_fits file bs accepted q places room fit_opened fit-matches)

  -- reading reports the same matches
  read_reported : (read_answer (read_of file q room) ≡ record { number = 0; place = 0; matches = length (matching q (records_of bs)) })
      × (read_list room (read_of file q room) ≡ padded room (numbers_of (matching q (records_of bs))))
  read_reported = read_answer_lem file q room (matching q (records_of bs)) (accepted⇒read file bs accepted q room fit-matches)

  -- not refused
  pub number : (search_answer (search_of file q places room)).number ≡ 0
  number = reported.number

  pub place : (search_answer (search_of file q places room)).place ≡ 0
  place = reported.place

  -- equal to reading front to back
  pub same_number : (search_answer (search_of file q places room)).number ≡ (read_answer (read_of file q room)).number
  same_number = reported.number ∙ sym (ap (λ a. a.number) read_reported.0)

  pub same_place : (search_answer (search_of file q places room)).place ≡ (read_answer (read_of file q room)).place
  same_place = reported.place ∙ sym (ap (λ a. a.place) read_reported.0)

  pub same-matches : (search_answer (search_of file q places room)).matches ≡ (read_answer (read_of file q room)).matches
  same-matches = reported.matches ∙ sym (ap (λ a. a.matches) read_reported.0)

  pub same_results : result_list room (search_of file q places room) ≡ read_list room (read_of file q room)
  same_results = reported.results ∙ sym read_reported.1

  -- the opened blocks, then zeros
  pub listed : opened_list places (search_of file q places room) ≡ padded places (opens_in (search_events bs (field_at file 16) q))
  listed = reported.blocks

  pub counted : (search_answer (search_of file q places room)).opened ≡ length (opens_in (search_events bs (field_at file 16) q))
  counted = reported.count
