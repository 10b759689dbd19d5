-- Laws of the loop over the records of a payload.
-- Assumes nothing.
use mathlib.Core.Path.{◌≡◌, refl, sym, ap, ◌∙◌}
use mathlib.Core.Bool.{true, false}
use mathlib.Core.List.{List, [], ◌∷◌, flat_map}
use Prim.Native.Nat.{ℕ, ◌+◌, ◌-◌, ◌≤◌, ◌<◌}
use native.Mathlib.Omega.{arith}
use lib.ListN.{length}
use Rattle.outcome.specs.Outcome.{answer, refused}
use Rattle.items.specs.Items.{sound_from}
use Rattle.part.specs.Part.{part}
use Rattle.part.proofs.PartLaws.{length_part}
use Rattle.payload.specs.Payload.{text_at}
use Rattle.payload.specs.Answers.{text_in}
use Rattle.payload.proofs.PayloadLaws.{text⇒Placed}
use Rattle.query.specs.Query.{Query, matches}
use Rattle.lists.proofs.RisingLaws.{each-once}
use Rattle.matching.specs.Matching.{matching, records_from}
use Rattle.matching.specs.ResultList.{with_record, Stored, put, put_all}
use Rattle.matching.proofs.MatchLaws.{matching_nil, matching_kept, matching_passed}
use Rattle.matching.proofs.ResultListLaws.{length-with_record}
use Rattle.matching.proofs.CollectLaws.{Collected, collected_more, collected_stopped}

-- where a byte string that was read lies
pub text_bounds : (place : ℕ) (s : List ℕ) (at start n : ℕ) → text_at place s at ≡ answer (record { item = text_in s start n; next = start + n })
    → (at < start) × (start + n ≤ length s)
unfolding text_in
text_bounds place s at start n e =
    let t = text⇒Placed place s at _ e in
    (t.forward, t.within)

module _ (s : List ℕ) (from : ℕ) (q : Query) (first : Stored) where
  -- each record is an item
  abbrev pub RecordsCollected : ℕ → Stored → Type 0
  RecordsCollected at stored = Collected (λ place. text_at place s) (λ r. r ∷ []) q (length s) from first at stored

  -- the record at `at` was read: it begins at `start` and has n bytes
  module _ (at : ℕ) (stored : Stored) (p : RecordsCollected at stored) (start n : ℕ)
      (e : (place : ℕ) → text_at place s at ≡ answer (record { item = text_in s start n; next = start + n })) where
    -- a record that matches is put
    pub records_kept : matches q (part s start n) ≡ true
        → (list : List ℕ) → list ≡ with_record stored.list stored.count start n
        → RecordsCollected (start + n) (record { count = stored.count + 1; list = list })
    unfolding put put_all text_in
    records_kept m list is =
        let b = text_bounds 0 s at start n (e 0) in
        let few = p.few in
        let forward = b.0 in
        let within = b.1 in
        collected_more (λ place. text_at place s) (λ r. r ∷ []) q (length s) from first at stored p (omega arith)
        (record { item = text_in s start n; next = start + n }) e (omega arith)
        (record { count = stored.count + 1; list = list })
        (ap (λ (l : List ℕ). record { count = stored.count + 1; list = l })
        (is ∙ ap (with_record stored.list stored.count start) (sym (length_part s start n b.1)))
        ∙ sym (ap (put_all stored)
        (matching_kept q (text_in s start n) [] m ∙ ap (λ l. text_in s start n ∷ l) (matching_nil q))))
        (omega arith)
        (ap length is ∙ length-with_record stored.list stored.count start n)

    -- any other is passed
    pub records_passed : matches q (part s start n) ≡ false → RecordsCollected (start + n) stored
    unfolding put_all text_in
    records_passed m =
        let b = text_bounds 0 s at start n (e 0) in
        let few = p.few in
        let forward = b.0 in
        let within = b.1 in
        collected_more (λ place. text_at place s) (λ r. r ∷ []) q (length s) from first at stored p (omega arith)
        (record { item = text_in s start n; next = start + n }) e (omega arith) stored
        (sym (ap (put_all stored) (matching_passed q (text_in s start n) [] m ∙ matching_nil q)))
        (omega arith)
        refl

  -- the records of the items are the records
  all_records : (place : ℕ) (stored : Stored)
      → stored ≡ put_all first (matching q (flat_map (λ r. r ∷ []) (sound_from (text_at place s) (length s) (length s - from) from)))
      → stored ≡ put_all first (matching q (records_from place s from))
  unfolding records_from
  all_records place stored e = e ∙ ap (λ rs. put_all first (matching q rs)) (each-once (sound_from (text_at place s) (length s) (length s - from) from))

  -- nothing is left to put where no record can be read, at the end or before
  pub records_end : (at : ℕ) (stored : Stored) → RecordsCollected at stored → (place number : ℕ) → text_at place s at ≡ refused number place
      → stored ≡ put_all first (matching q (records_from place s from))
  records_end at stored p place number e =
      all_records place stored
      (collected_stopped (λ place. text_at place s) (λ r. r ∷ []) q (length s) from first at stored p place number place e)
