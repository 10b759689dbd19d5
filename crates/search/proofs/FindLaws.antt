-- Laws of putting the matching records of a data block on the result list.
-- Assumes nothing.
use Rattle.std.specs.Prelude.{Result, Ok, Err}
use Rattle.std.specs.Prelude.{Option as Given}
use Rattle.outcome.specs.Fault.{number}
use Rattle.outcome.specs.declared.Fault.TheVariants.{ResultRoom}
use Rattle.outcome.specs.declared.Refusal.{Refusal}
use Rattle.part.specs.declared.Part.{Part}
use mathlib.Core.Path.{◌≡◌, refl, sym, ap, ap₂, ◌∙◌, subst}
use mathlib.Core.Bool.{Bool, true, false}
use mathlib.Core.List.{List, [], ◌∷◌, ◌++◌, append-nil}
use Prim.Native.Nat.{ℕ, ◌+◌, ◌≤◌, ◌<◌}
use native.Mathlib.Omega.{arith}
use lib.Dec.{leb}
use lib.ListN.{length, take, length-append}
use lib.Seq.{append_snoc}
use borrow.Author.Tests.{le-leb, leb-true, leb-false}
use Rattle.output_list.specs.OutputList.{padded}
use Rattle.outcome.specs.Outcome.{answer, refused}
use Rattle.outcome.proofs.OutcomeLaws.{kept, broken}
use Rattle.framing.specs.declared.Frame.{Frame}
use Rattle.payload.specs.Payload.{Text}
use Rattle.block.specs.Block.{Block, block_in}
use Rattle.query.specs.Query.{Query}
use Rattle.matching.specs.Matching.{matching, records_from}
use Rattle.matching.specs.ResultList.{room_for, numbers_of, Stored, put_all}
use Rattle.matching.proofs.ResultListLaws.{room_for_mono, stored-after, count_put_all, length_put_all}
use Rattle.matching.proofs.FrameRecordsLaws.{inside⇒records}
use Rattle.search.specs.declared.walk.Progress.{Progress}
use Rattle.search.specs.Search.{Walked, with_match, add_matches, walk_of}
use Rattle.search.specs.Steps.{bound_of, StaysWithin, FindAsks, ListsHold, Reaches, WalkSaid}

-- ---- adding matches to what was found

-- there is room for all: all are added
pub add_matches_all : (room : ℕ) (ms : List Text) (s : Walked) → room_for (length s.matches + length ms) ≤ room
    → add_matches room ms s ≡ answer (record { opened = s.opened; matches = s.matches ++ ms })
unfolding add_matches with_match
add_matches_all room [] s h = ap (λ (l : List Text). answer (record { opened = s.opened; matches = l })) (sym (append-nil s.matches))
add_matches_all room (r ∷ rs) s h =
    let more = length-append s.matches (r ∷ []) in
    let one = room_for_mono (length s.matches + 1) (length s.matches + length (r ∷ rs)) (omega arith) in
    let rest = room_for_mono (length (s.matches ++ (r ∷ [])) + length rs) (length s.matches + length (r ∷ rs)) (omega arith) in
    kept (leb (room_for (length s.matches + 1)) room) 27 0 _ (le-leb _ room (omega arith))
    ∙ add_matches_all room rs (with_match r s) (omega arith)
    ∙ ap (λ (l : List Text). answer (record { opened = s.opened; matches = l })) (append_snoc s.matches r rs)

-- there is not: 27 at the first match that finds no room left
pub add_matches_27 : (room : ℕ) (ms : List Text) (s : Walked) → room_for (length s.matches) ≤ room → room < room_for (length s.matches + length ms)
    → add_matches room ms s ≡ refused 27 0
unfolding add_matches with_match
add_matches_27 room [] s few many =
    let same = room_for_mono (length s.matches + 0) (length s.matches) (omega arith) in
    absurd (omega arith)
add_matches_27 room (r ∷ rs) s few many = go (leb (room_for (length s.matches + 1)) room) refl (add_matches_27 room rs (with_match r s))
  where
    go : (b : Bool) → leb (room_for (length s.matches + 1)) room ≡ b
        → (room_for (length (with_match r s).matches) ≤ room → room < room_for (length (with_match r s).matches + length rs)
        → add_matches room rs (with_match r s) ≡ refused 27 0)
        → add_matches room (r ∷ rs) s ≡ refused 27 0
    go true e rest =
        let fits = leb-true (room_for (length s.matches + 1)) room e in
        let more = length-append s.matches (r ∷ []) in
        let one = room_for_mono (length (s.matches ++ (r ∷ []))) (length s.matches + 1) (omega arith) in
        let all = room_for_mono (length s.matches + length (r ∷ rs)) (length (s.matches ++ (r ∷ [])) + length rs) (omega arith) in
        kept (leb (room_for (length s.matches + 1)) room) 27 0 _ e ∙ rest (omega arith) (omega arith)
    go false e rest = broken (leb (room_for (length s.matches + 1)) room) 27 0 _ e

-- ---- the records of a data block

-- the code put the matching records of a payload after what was found: `many` matches, and the list
module _ (q : Query) (first : List ℕ) {file : List ℕ} {f : Frame} {p : Progress} {many : ℕ} {list : List ℕ} (asks : FindAsks file f p (length first))
    (is : (place : ℕ) → ◌≡◌ {A = Stored} (record { count = many; list = list })
    (put_all (record { count = p.found; list = first }) (matching q (records_from place (take f.end file) (f.body + 1)))))
    (opened_list : List ℕ) (from : ℕ) (above : Given Part) (used : p.used ≤ length opened_list) where
  -- the list is as long as before
  list_long : length list ≡ length first
  list_long = ap (λ (t : Stored). length t.list) (is 0) ∙ length_put_all (record { count = p.found; list = first }) _

  abbrev Said : Result Progress Refusal → Type 0
  Said r = WalkSaid file q from f above p opened_list first r opened_list list

  -- what is said of adding the matches is said of the walk
  leaf_said : (r : Result Progress Refusal) → StaysWithin r (length opened_list) (length first)
      → ((b : Block) (s : Walked) → block_in file f ≡ answer b → ListsHold opened_list first p s
      → Reaches r opened_list list (add_matches (length first) (matching q b.records) s))
      → Said r
  unfolding walk_of
  leaf_said r stays found =
      record {
        stays = stays;
        reaches = λ b s e h.
            subst (λ (l : ℕ). Reaches r opened_list list (walk_of file q (length opened_list) (length first) from l b (bound_of file above) s))
            (sym asks.leaf) (found b s e h);
      }

  module _ (b : Block) (s : Walked) (inside : block_in file f ≡ answer b) (h : ListsHold opened_list first p s) where
    abbrev found : List Text
    found = matching q b.records

    put_records : record { count = many; list = list } ≡ put_all (record { count = length s.matches; list = first }) found
    put_records =
        is f.start
        ∙ ap₂ (λ (n : ℕ) (rs : List Text). put_all (record { count = n; list = first }) (matching q rs)) h.matched
        (inside⇒records file f b inside asks.leaf)

    found_many : many ≡ length s.matches + length found
    found_many = ap (λ (t : Stored). t.count) put_records ∙ count_put_all _ found

    reaches_27 : length list < room_for many → add_matches (length first) found s ≡ refused 27 0
    reaches_27 more =
        let long = list_long in
        let few : room_for (length s.matches) ≤ length first = subst (λ (n : ℕ). room_for n ≤ length first) h.matched asks.fits in
        let all : length list < room_for (length s.matches + length found) = subst (λ (n : ℕ). length list < room_for n) found_many more in
        add_matches_27 (length first) found s few (omega arith)

    reaches_all : room_for many ≤ length list
        → (t : Walked) × (add_matches (length first) found s ≡ answer t) × ListsHold opened_list list (record { used = p.used; found = many }) t
    reaches_all few =
        let long = list_long in
        let fits : room_for (length s.matches + length found) ≤ length first =
        subst (λ (n : ℕ). room_for (length s.matches + length found) ≤ n) long (subst (λ (n : ℕ). room_for n ≤ length list) found_many few) in (
          record { opened = s.opened; matches = s.matches ++ found },
          add_matches_all (length first) found s fits,
          record {
            opens = h.opens;
            finds =
                ap (λ (t : Stored). t.list)
                (put_records
                ∙ ap (λ (l : List ℕ). put_all (record { count = length s.matches; list = l }) found) h.finds
                ∙ stored-after (length first) s.matches found fits)
                ∙ ap (λ (n : ℕ). padded n (numbers_of (s.matches ++ found))) (sym long);
            many = h.many;
            matched = found_many ∙ sym (length-append s.matches found);
          },
        )

  -- there is no room for all
  pub find_overflow : leb (room_for many) (length list) ≡ false → Said (Err (record { fault = ResultRoom; place = 0 }))
  unfolding number StaysWithin Reaches
  find_overflow full = leaf_said (Err (record { fault = ResultRoom; place = 0 })) tt (λ b s e h. reaches_27 b s e h (leb-false (room_for many) (length list) full))

  -- there is
  pub find_fit : leb (room_for many) (length list) ≡ true → Said (Ok (record { used = p.used; found = many }))
  unfolding StaysWithin Reaches
  find_fit fits =
      let few = leb-true (room_for many) (length list) fits in
      let long = list_long in
      leaf_said (Ok (record { used = p.used; found = many })) (record { opened = used; found = omega arith }) (λ b s e h. reaches_all b s e h few)
