-- Records that are read one after the other are their input form: bytes that are read as records are the bytes that these records encode to.
-- Assumes nothing.
use mathlib.Core.Path.{◌≡◌, refl, sym, ap, ◌∙◌, subst}
use mathlib.Core.List.{List, [], ◌∷◌, ◌++◌, flat_map, map, append-nil, append_assoc}
use Prim.Native.Nat.{ℕ, ◌+◌, ◌-◌, ◌≤◌, ◌<◌}
use native.Mathlib.Nat.{sub_self}
use native.Mathlib.Omega.{arith}
use lib.ListN.{length, take, drop, drop_of_length-le, take-append-drop}
use lib.Seq.{drop-drop, take-add}
use Rattle.byte_string.specs.Order.{AreBytes}
use Rattle.byte_string.proofs.BytesLaws.{bytes_drop}
use Rattle.uleb128.specs.Number.{number, reading}
use Rattle.uleb128.specs.Encoding.{encoding}
use Rattle.uleb128.proofs.EncodingLaws.{reading⇒encoding}
use Rattle.part.specs.Part.{part}
use Rattle.part.proofs.PartLaws.{part-add, length_part}
use Rattle.outcome.specs.Outcome.{answer}
use Rattle.outcome.proofs.OutcomeLaws.{answer_injective}
use Rattle.items.specs.declared.Step.{Step}
use Rattle.items.proofs.ItemsLaws.{Row, row_end, row_more}
use Rattle.framing.proofs.FrameLaws.{Numbered, numbered, number_read}
use Rattle.payload.specs.Payload.{Text, text_at}
use Rattle.payload.specs.Answers.{text_in}
use Rattle.payload.proofs.PayloadLaws.{text⁻¹}
use Rattle.layout.specs.Blocks.{text_bytes, records_bytes}

-- a record that is read
pub record Encoded (s : List ℕ) (at : ℕ) (t : Step Text) : Type 0 where
  pub forward : at < t.next
  pub within : t.next ≤ length s
  pub bytes : part s at (t.next - at) ≡ text_bytes t.item.bytes

pub text_encoded : (place : ℕ) (s : List ℕ) (at : ℕ) (t : Step Text) → AreBytes s → text_at place s at ≡ answer t → Encoded s at t
unfolding text_bytes text_in part
text_encoded place s at t bytes e =
    let r = text⁻¹ place s at t e in
    go r.0 (numbered 15 place s at r.0 r.1) (number_read 15 place s at r.0 r.1) r.2 r.3
  where
    go : (n : Step ℕ) → Numbered s at n → (used : ℕ) × (reading (drop at s) ≡ number n.item used) × (n.next ≡ at + used) → n.next + n.item ≤ length s
        → record { item = text_in s n.next n.item; next = n.next + n.item } ≡ t → Encoded s at t
    go n numbers r h same =
        let used = r.0 in
        let ends = r.2 in
        let forward = numbers.forward in
        let long : length (part s n.next n.item) ≡ n.item = length_part s n.next n.item h in
        let size : n.next + n.item - at ≡ used + n.item = omega arith in
        subst (Encoded s at) same
        (record {
          forward = omega arith;
          within = h;
          bytes = ap (part s at) size ∙ part-add s at used n.item
              ∙ ap (λ (l : List ℕ). l ++ part s (at + used) n.item) (reading⇒encoding (drop at s) n.item used (bytes_drop at s bytes) r.1)
              ∙ ap (λ (k : ℕ). encoding n.item ++ part s k n.item) (sym ends)
              ∙ ap (λ (k : ℕ). encoding k ++ part s n.next n.item) (sym long);
        })

-- records in a row are the rest of the bytes
pub row_encoded : (place : ℕ) (s : List ℕ) (at : ℕ) (xs : List Text) → AreBytes s → Row (text_at place s) (length s) at xs
    → drop at s ≡ records_bytes (map (λ x. x.bytes) xs)
unfolding records_bytes flat_map part
row_encoded place s at xs bytes (row_end h) = drop_of_length-le s h
row_encoded place s at xs bytes (row_more t more before e row) =
    let first = text_encoded place s at t bytes e in
    let rest = row_encoded place s t.next more bytes row in
    sym (take-append-drop (t.next - at) (drop at s)) ∙ ap (λ (l : List ℕ). l ++ drop (t.next - at) (drop at s)) first.bytes
    ∙ ap (λ (l : List ℕ). text_bytes t.item.bytes ++ l) (drop-drop (t.next - at) at s ∙ ap (λ (k : ℕ). drop k s) (after first.forward) ∙ rest)
  where
    after : at < t.next → at + (t.next - at) ≡ t.next
    after f = omega arith

-- ---- a loop over the next records of a row

-- from `from` to `at` there stand the records of the row that were taken, and the others follow
pub record Taken (place : ℕ) (s : List ℕ) (from : ℕ) (xs : List Text) (at taken : ℕ) : Type 0 where
  pub after : from ≤ at
  pub within : at ≤ length s
  pub row : Row (text_at place s) (length s) at (drop taken xs)
  pub bytes : part s from (at - from) ≡ records_bytes (map (λ x. x.bytes) (take taken xs))

pub taken_none : (place : ℕ) (s : List ℕ) (from : ℕ) (xs : List Text) → from ≤ length s → Row (text_at place s) (length s) from xs → Taken place s from xs from 0
unfolding records_bytes flat_map part
taken_none place s from xs h row = record { after = omega arith; within = h; row = row; bytes = rw (sub_self from, map) refl }

pub taken_more : (place : ℕ) (s : List ℕ) (from : ℕ) (xs : List Text) (at taken : ℕ) → AreBytes s → Taken place s from xs at taken → at < length s
    → (t : Step Text) → text_at place s at ≡ answer t → Taken place s from xs t.next (taken + 1)
unfolding records_bytes flat_map
taken_more place s from xs at taken are_bytes k before t e = go (drop taken xs) refl k.row
  where
    first : Encoded s at t
    first = text_encoded place s at t are_bytes e

    joined : (ys : List Text) (y : Text) → records_bytes (map (λ x. x.bytes) ys) ++ text_bytes y.bytes ≡ records_bytes (map (λ x. x.bytes) (ys ++ (y ∷ [])))
    joined [] y = sym (append-nil (text_bytes y.bytes))
    joined (x ∷ ys) y =
        append_assoc (text_bytes x.bytes) (records_bytes (map (λ z. z.bytes) ys)) (text_bytes y.bytes) ∙ ap (λ (l : List ℕ). text_bytes x.bytes ++ l) (joined ys y)

    go : (ys : List Text) → drop taken xs ≡ ys → Row (text_at place s) (length s) at ys → Taken place s from xs t.next (taken + 1)
    go ys same (row_end h) = absurd (omega arith)
    go ys same (row_more u more h again row) =
        let forward = first.forward in
        let after = k.after in
        let t-is : u ≡ t = answer_injective u t (sym again ∙ e) in
        let sum : t.next - from ≡ at - from + (t.next - at) = omega arith in
        let place_is : from + (at - from) ≡ at = omega arith in
        record {
          after = omega arith;
          within = first.within;
          row = subst (λ (z : Step Text). Row (text_at place s) (length s) z.next (drop (taken + 1) xs)) t-is
              (subst (Row (text_at place s) (length s) u.next) (sym (ap (drop 1) same) ∙ drop-drop 1 taken xs) row);
          bytes = ap (part s from) sum ∙ part-add s from (at - from) (t.next - at)
              ∙ ap (λ (j : ℕ). part s from (at - from) ++ part s j (t.next - at)) place_is
              ∙ ap (λ (l : List ℕ). l ++ part s at (t.next - at)) k.bytes
              ∙ ap (λ (l : List ℕ). records_bytes (map (λ x. x.bytes) (take taken xs)) ++ l) first.bytes
              ∙ joined (take taken xs) t.item
              ∙ ap (λ (l : List Text). records_bytes (map (λ x. x.bytes) l))
              (ap (λ (z : Step Text). take taken xs ++ (z.item ∷ [])) (sym t-is) ∙ sym (ap (λ (l : List Text). take taken xs ++ take 1 l) same) ∙ sym (take-add taken 1 xs));
        }
