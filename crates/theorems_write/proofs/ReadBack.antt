-- A written file passes the check, and reads back as the records of the input: front to back, and through its index.
-- Assumes nothing.
use mathlib.Core.Path.{◌≡◌, sym, ap, ap₂, ◌∙◌, subst}
use mathlib.Core.Bool.{false}
use mathlib.Core.List.{List, [], map}
use Prim.Native.Nat.{ℕ, ◌≤◌}
use native.Mathlib.Omega.{arith}
use lib.ListN.{length, take, length-map}
use borrow.Author.Tests.{le-leb}
use Rattle.lists.specs.Lists.{keep}
use Rattle.lists.proofs.CountLaws.{keep_map, keep_all}
use Rattle.outcome.proofs.OutcomeLaws.{answer_injective}
use Rattle.payload.specs.Payload.{Text}
use Rattle.block.specs.Block.{Block, is_ordinary}
use Rattle.block.specs.Survey.{ordinary, records_of}
use Rattle.query.specs.Query.{Query, query_of, matches}
use Rattle.query.proofs.QueryLaws.{matches_unbounded}
use Rattle.matching.specs.Matching.{matching}
use Rattle.matching.specs.ResultList.{room_for}
use Rattle.reader.specs.declared.ReadAnswer.{ReadAnswer}
use Rattle.search.specs.declared.Found.{Found}
use Rattle.written.specs.declared.Written.{Written}
use Rattle.checker.specs.declared.Checked.{Checked}
use Rattle.theorems_check.specs.CheckedByRules.{CheckedByRules}
use Rattle.theorems_read.specs.ReadByRules.{GivesMatches, ReadByRules}
use Rattle.theorems_read.proofs.ReadAccepted.{accepted⇒matches}
use Rattle.theorems_layout.specs.WrittenLayout.{WrittenLayout}
use Rattle.theorems_search.specs.SearchedByRules.{Searched, SearchedByRules}
use Rattle.theorems_search.proofs.SearchAccepted.{opened_few}
use Rattle.theorems_write.specs.WrittenByRules.{InputOf, HoldsRecords, WrittenByRules}
use Rattle.theorems_write.proofs.NumberTheorems.{exact_0}

-- ---- checking, reading and searching a file that holds these records

-- r and the results give the records of rs that match, in order, each as often as given
unfoldable pub GivesRecords : (rs : List (List ℕ)) (file : List ℕ) → Query → (room : ℕ) (r : ReadAnswer) (results : List ℕ) → Type 0
GivesRecords rs file q room r results = (ms : List Text) × (map (λ m. m.bytes) ms ≡ keep (matches q) rs) × GivesMatches file ms room r results

module _ (metadata input : List ℕ) (rs : List (List ℕ)) (file : List ℕ) (bs : List Block) (holds : HoldsRecords metadata input rs file bs) where
  matching_bytes : (q : Query) → map (λ m. m.bytes) (matching q (records_of bs)) ≡ keep (matches q) rs
  unfolding matching
  matching_bytes q = keep_map (matches q) (λ m. m.bytes) (records_of bs) ∙ ap (keep (matches q)) holds.records_are

  matching_count : (q : Query) → length (matching q (records_of bs)) ≡ length (keep (matches q) rs)
  matching_count q = sym (length-map (matching q (records_of bs)) (λ m. m.bytes)) ∙ ap length (matching_bytes q)

  matching_fits : (q : Query) (room : ℕ) → room_for (length (keep (matches q) rs)) ≤ room → room_for (length (matching q (records_of bs))) ≤ room
  matching_fits q room h = subst (λ (n : ℕ). room_for n ≤ room) (sym (matching_count q)) h

  -- every block is ordinary
  all_ordinary : ordinary bs ≡ bs
  unfolding ordinary is_ordinary
  all_ordinary = keep_all (λ b. is_ordinary b.frame.level) bs (λ b m. le-leb b.frame.level 63 (let low = holds.low b m in omega arith))

  -- it passes the check, with a place for each block
  pub written⇒checked : (places : ℕ) (r : Checked) → CheckedByRules file places r → length bs ≤ places
      → r ≡ record { number = 0; place = 0; blocks = length bs; records = length rs }
  written⇒checked places r checked enough =
      let a = checked.only (checked.every bs holds.rules (rw all_ordinary enough)) in
      a.1.counted ∙ ap counts (answer_injective a.0 bs (sym a.1.accepted ∙ holds.accepted))
      ∙ ap₂ (λ (b n : ℕ). record { number = 0; place = 0; blocks = b; records = n }) (ap length all_ordinary)
      (sym (length-map (records_of bs) (λ m. m.bytes)) ∙ ap length holds.records_are)
    where
      counts : List Block → Checked
      counts cs = record { number = 0; place = 0; blocks = length (ordinary cs); records = length (records_of cs) }

  -- front to back, with room for those that match
  pub written⇒read : (q : Query) (room : ℕ) (r : ReadAnswer) (results : List ℕ) → ReadByRules file q room r results
      → room_for (length (keep (matches q) rs)) ≤ room → GivesRecords rs file q room r results
  unfolding ReadByRules GivesRecords
  written⇒read q room r results read fits =
      (matching q (records_of bs), matching_bytes q, read bs holds.accepted (matching_fits q room fits))

  -- the empty query gives all of them
  pub written⇒read_all : (stop : List ℕ) (room : ℕ) (r : ReadAnswer) (results : List ℕ) → ReadByRules file (query_of [] false stop []) room r results
      → room_for (length rs) ≤ room → (ms : List Text) × (map (λ m. m.bytes) ms ≡ rs) × GivesMatches file ms room r results
  unfolding GivesRecords
  written⇒read_all stop room r results read fits =
      let q = query_of [] false stop [] in
      let all = keep_all (matches q) rs (λ x m. matches_unbounded stop x) in
      let g = written⇒read q room r results read (subst (λ (l : List (List ℕ)). room_for (length l) ≤ room) (sym all) fits) in
      (g.0, g.1 ∙ all, g.2)

  -- through the index, with a place for each block and room for those that match
  pub written⇒searched : (q : Query) (places room : ℕ) (r : Found) (list results : List ℕ) → SearchedByRules file q places room r list results
      → length bs ≤ places → room_for (length (keep (matches q) rs)) ≤ room
      → GivesRecords rs file q room (record { number = r.number; place = r.place; matches = r.matches }) results
  unfolding SearchedByRules GivesRecords
  written⇒searched q places room r list results searched enough fits =
      let s = searched bs holds.accepted in
      let few = opened_few file bs holds.accepted q s.0 s.1 in
      let all = ap length all_ordinary in
      let h = matching_fits q room fits in
      (matching q (records_of bs), matching_bytes q, found s.0 (s.2 (omega arith) h) h)
    where
      found : (opened : List ℕ) → Searched file bs q opened places room r list results → room_for (length (matching q (records_of bs))) ≤ room
          → GivesMatches file (matching q (records_of bs)) room (record { number = r.number; place = r.place; matches = r.matches }) results
      found opened s fits =
          rw (s.same_number, s.same_place, s.same-matches, s.same_results) (accepted⇒matches file bs holds.accepted q room fits)

-- ---- what was written

-- the output of a call that wasn't refused begins with a file that holds the records of the input, laid out as claimed
pub written_output_lem : (metadata input : List ℕ) (per_block per_index room : ℕ) (r : Written) (output : List ℕ)
    → WrittenByRules metadata input per_block per_index room r output → r.number ≡ 0
    → (rs : List (List ℕ)) × InputOf input rs
    × ((bs : List Block) × HoldsRecords metadata input rs (take r.length output) bs × WrittenLayout per_block per_index (take r.length output) bs)
written_output_lem metadata input per_block per_index room r output w z =
    let s = ((exact_0 metadata input per_block per_index room r output w).0 z).0 in
    let written = w.written s.records s.form z in (
      s.records,
      s.form,
      subst (λ (file : List ℕ). (bs : List Block) × HoldsRecords metadata input s.records file bs × WrittenLayout per_block per_index file bs)
          (sym written.0.front_is) written.1,
    )
