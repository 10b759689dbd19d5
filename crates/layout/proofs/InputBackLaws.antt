-- The input form determines its records: bytes that are records, each after its length, are read back as these records.
-- Assumes nothing.
use mathlib.Core.Path.{◌≡◌, refl, sym, ap, ◌∙◌}
use mathlib.Core.Logic.{◌≢◌, ◌⊎◌, inl, inr}
use mathlib.Core.Bool.{true, false}
use mathlib.Core.List.Memᴰ
use mathlib.Core.List.{List, [], ◌∷◌, map, Memᴰ}
use Prim.Native.Nat.{ℕ, ◌-◌, ◌^◌, ◌≤◌, ◌<◌}
use native.Mathlib.Omega.{arith}
use lib.Dec.{ltb}
use lib.ListN.{length}
use borrow.Author.Tests.{lt-ltb}
use Rattle.outcome.specs.Outcome.{answer, refused}
use Rattle.outcome.proofs.OutcomeLaws.{answer_injective, kept, broken, bind_answer}
use Rattle.items.specs.Items.{items_from}
use Rattle.items.specs.declared.Step.{Step}
use Rattle.items.proofs.ItemsLaws.{Row, row_end, row_more}
use Rattle.part.proofs.PartLaws.{length_part}
use Rattle.framing.proofs.FrameLaws.{numbered}
use Rattle.payload.specs.Payload.{Text, text_at, rising, payload_at, records_at}
use Rattle.payload.specs.Answers.{text_in}
use Rattle.payload.proofs.PayloadLaws.{text⁻¹}
use Rattle.layout.specs.Blocks.{text_bytes, records_bytes}
use Rattle.layout.specs.Placed.{placed_text, placed_records}
use Rattle.layout.proofs.LiesLaws.{lies_last}
use Rattle.layout.proofs.ReadBackLaws.{text_some, text_back}
use Rattle.layout.proofs.ItemsBackLaws.{items_back}
use Rattle.layout.proofs.PayloadBackLaws.{record_length, placed_records_lem, placed_records_bytes, payload_of_lem}

-- records whose lengths a number of at most nine bytes can say
abbrev pub ShortRecords : List (List ℕ) → Type 0
ShortRecords rs = (r : List ℕ) → Memᴰ r rs → length r < 2 ^ 63

module _ (place : ℕ) (s : List ℕ) (rs : List (List ℕ)) (form : s ≡ records_bytes rs) (short : ShortRecords rs) where
  pub input_items : (fuel : ℕ) → length s ≤ fuel → items_from (text_at place s) (length s) fuel 0 ≡ answer (placed_records 0 rs)
  unfolding records_bytes
  input_items fuel enough =
      items_back text_bytes placed_text (text_at place s) s text_some (length s) rs (λ r m at l. text_back place s at r (short r m) l) 0 fuel
      (lies_last s [] (records_bytes rs) 0 form refl) (let long = ap length form in omega arith) (omega arith)
      ∙ ap answer (sym (placed_records_lem 0 rs))

  module _ (some : rs ≢ []) where
    pub input_long : 0 < length s
    input_long = go rs some (ap length form)
      where
        go : (xs : List (List ℕ)) → xs ≢ [] → length s ≡ length (records_bytes xs) → 0 < length s
        go [] none long = absurd (none refl)
        go (x ∷ xs) none long = let least = record_length (x ∷ xs) x (Memᴰ.head refl) in omega arith

    -- records that rise are answered
    pub input_rising : rising rs ≡ true → records_at place s 0 ≡ answer (placed_records 0 rs)
    unfolding records_at
    input_rising rise =
        payload_of_lem (text_at place s) (λ r. r) 16 place (length s) 0 (placed_records 0 rs) input_long (input_items (length s - 0) (omega arith))
        (ap rising (placed_records_bytes 0 rs) ∙ rise)

    -- others are refused with 16
    pub input_falling : rising rs ≡ false → records_at place s 0 ≡ refused 16 place
    unfolding records_at payload_at
    input_falling fall =
        kept (ltb 0 (length s)) 15 place _ (lt-ltb 0 (length s) input_long)
        ∙ bind_answer (items_from (text_at place s) (length s) (length s - 0) 0) _ (placed_records 0 rs) (input_items (length s - 0) (omega arith))
        ∙ broken (rising (map (λ (r : Text). r.bytes) (placed_records 0 rs))) 16 place _ (ap rising (placed_records_bytes 0 rs) ∙ fall)

-- the same bytes are the same records
pub input_injective : (rs ss : List (List ℕ)) → ShortRecords rs → ShortRecords ss → records_bytes rs ≡ records_bytes ss → rs ≡ ss
input_injective rs ss h k same =
    let s = records_bytes rs in
    sym (placed_records_bytes 0 rs)
    ∙ ap (map (λ (r : Text). r.bytes))
    (answer_injective _ _ (sym (input_items 0 s rs refl h (length s) (omega arith)) ∙ input_items 0 s ss same k (length s) (omega arith)))
    ∙ placed_records_bytes 0 ss

-- ---- and back

-- records that are read are short
pub row_short : (place : ℕ) (s : List ℕ) (at : ℕ) (xs : List Text) → Row (text_at place s) (length s) at xs → ShortRecords (map (λ x. x.bytes) xs)
unfolding text_in
row_short place s at xs (row_end h) r m = absurd (Memᴰ.not-nil m)
row_short place s at xs (row_more t more before e row) r m = go (Memᴰ.cases_cons m) (λ i. row_short place s t.next more row r i)
  where
    first : length t.item.bytes < 2 ^ 63
    first =
        let read = text⁻¹ place s at t e in
        let n = read.0 in
        let small = (numbered 15 place s at n read.1).small in
        let long = length_part s n.next n.item read.2 in
        let same = ap (λ (x : Step Text). length x.item.bytes) read.3 in
        omega arith

    go : (r ≡ t.item.bytes) ⊎ Memᴰ r (map (λ x. x.bytes) more) → (Memᴰ r (map (λ x. x.bytes) more) → length r < 2 ^ 63) → length r < 2 ^ 63
    go (inl same) rest = let moved = ap length same in omega (arith, first)
    go (inr later) rest = rest later
