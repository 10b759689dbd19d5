-- A number, a byte string and an entry that stand in a payload are those that are read there.
-- Assumes nothing.
use mathlib.Core.Path.{◌≡◌, refl, sym, ap, ◌∙◌, subst, subst⁻¹}
use mathlib.Core.List.{List}
use Prim.Native.Nat.{ℕ, ◌+◌, ◌-◌, ◌≤◌, ◌<◌}
use native.Mathlib.Omega.{arith}
use lib.ListN.{length, take, drop}
use lib.Seq.{take-take}
use Rattle.uleb128.specs.Number.{number, reading}
use Rattle.uleb128.proofs.NumberLaws.{number_local}
use Rattle.outcome.specs.Outcome.{answer}
use Rattle.items.specs.declared.Step.{Step}
use Rattle.part.specs.Part.{part}
use Rattle.outcome.proofs.OutcomeLaws.{bind_answer}
use Rattle.part.proofs.PartLaws.{length_part}
use Rattle.framing.specs.Frame.{read_as, number_at}
use Rattle.payload.specs.Payload.{Text, Entry, text_at, entry_at, entry_sized}
use Rattle.payload.specs.Answers.{text_in}
use Rattle.framing.proofs.FrameLaws.{number_read, numbered}
use Rattle.payload.proofs.PayloadLaws.{text_found, entry_read, text⁻¹, EntryRead, entry⁻¹}
use Rattle.payload.proofs.ReadLaws.{text_forward, text_within, entry_forward, entry_within}
use Rattle.theorems_check.specs.Rules.{NumberIn, StandsIn, TextIn, EntryIn}

-- ---- numbers

-- a number at the front of what is left is one of the part that it takes, and back
reading-part : (s : List ℕ) (at value used : ℕ) → reading (drop at s) ≡ number value used → reading (part s at used) ≡ number value used
unfolding part
reading-part s at value used e = number_local (drop at s) (take used (drop at s)) value used e (take-take used used (drop at s) (omega arith))

part-reading : (s : List ℕ) (at value used : ℕ) → reading (part s at used) ≡ number value used → reading (drop at s) ≡ number value used
unfolding part
part-reading s at value used e = number_local (take used (drop at s)) (drop at s) value used e (sym (take-take used used (drop at s) (omega arith)))

pub number⇒NumberIn : (cut place : ℕ) (s : List ℕ) (at : ℕ) (n : Step ℕ) → number_at cut place s at ≡ answer n → NumberIn s at n.next n.item
unfolding NumberIn
number⇒NumberIn cut place s at n e = go (number_read cut place s at n e)
  where
    go : ((used : ℕ) × (reading (drop at s) ≡ number n.item used) × (n.next ≡ at + used)) → (at < n.next) × (n.next ≤ length s) × (reading (part s at (n.next - at)) ≡ number n.item (n.next - at))
    go r =
        let ends = r.2 in
        let taken : r.0 ≡ n.next - at = omega arith in
        let b = numbered cut place s at n e in
        (b.forward, b.within, subst (λ (u : ℕ). reading (part s at u) ≡ number n.item u) taken (reading-part s at n.item r.0 r.1))

pub NumberIn⇒number : (cut place : ℕ) (s : List ℕ) (at next value : ℕ) → NumberIn s at next value → number_at cut place s at ≡ answer (record { item = value; next = next })
unfolding NumberIn number_at read_as
NumberIn⇒number cut place s at next value h =
    let before = h.0 in
    let ends : at + (next - at) ≡ next = omega arith in
    ap (read_as cut place at) (part-reading s at value (next - at) h.2) ∙ ap (λ (a : ℕ). answer (record { item = value; next = a })) ends

pub NumberIn⇒forward : (s : List ℕ) (at next value : ℕ) → NumberIn s at next value → (at < next) × (next ≤ length s)
unfolding NumberIn
NumberIn⇒forward s at next value h = (h.0, h.1)

-- ---- byte strings

pub text⇒TextIn : (place : ℕ) (s : List ℕ) (at : ℕ) (t : Step Text) → text_at place s at ≡ answer t → TextIn s at t.next t.item
unfolding TextIn StandsIn text_in
text⇒TextIn place s at t e =
    let r = text⁻¹ place s at t e in
    subst (λ (u : Step Text). TextIn s at u.next u.item) r.3 (placed r.0 (number⇒NumberIn 15 place s at r.0 r.1) r.2)
  where
    placed : (n : Step ℕ) → NumberIn s at n.next n.item → n.next + n.item ≤ length s → TextIn s at (n.next + n.item) (record { at = n.next; bytes = part s n.next n.item })
    placed n stands h =
        subst⁻¹ (λ (k : ℕ). NumberIn s at n.next k × ((n.next + k ≤ length s) × (part s n.next k ≡ part s n.next n.item)) × (n.next + n.item ≡ n.next + k))
        (length_part s n.next n.item h) (stands, (h, refl), refl)

pub TextIn⇒text : (place : ℕ) (s : List ℕ) (at next : ℕ) (t : Text) → TextIn s at next t → text_at place s at ≡ answer (record { item = t; next = next })
unfolding TextIn StandsIn text_in
TextIn⇒text place s at next t h =
    text_found place s at (record { item = length t.bytes; next = t.at }) (NumberIn⇒number 15 place s at t.at (length t.bytes) h.0) h.1.0
    ∙ ap (λ (l : List ℕ). answer (record { item = record { at = t.at; bytes = l }; next = t.at + length t.bytes })) h.1.1
    ∙ ap (λ (a : ℕ). answer (record { item = t; next = a })) (sym h.2)

pub TextIn⇒forward : (s : List ℕ) (at next : ℕ) (t : Text) → TextIn s at next t → (at < next) × (next ≤ length s)
TextIn⇒forward s at next t h = let e = TextIn⇒text 0 s at next t h in (text_forward 0 s at _ e, text_within 0 s at _ e)

-- ---- entries

pub entry⇒EntryIn : (place : ℕ) (s : List ℕ) (at : ℕ) (x : Step Entry) → entry_at place s at ≡ answer x → EntryIn s at x.next x.item
entry⇒EntryIn place s at x e = go (entry⁻¹ place s at x e)
  where
    go : EntryRead place s at x → EntryIn s at x.next x.item
    go r =
        subst (λ (y : Step Entry). EntryIn s at y.next y.item) r.entry_is
        (record {
          after_key = r.key.next;
          after_offset = r.offset.next;
          keyed = text⇒TextIn place s at r.key r.key_read;
          placed = number⇒NumberIn 15 place s r.key.next r.offset r.offset_read;
          sized = number⇒NumberIn 15 place s r.offset.next r.size r.size_read;
        })

pub EntryIn⇒entry : (place : ℕ) (s : List ℕ) (at next : ℕ) (x : Entry) → EntryIn s at next x → entry_at place s at ≡ answer (record { item = x; next = next })
unfolding entry_sized
EntryIn⇒entry place s at next x h =
    entry_read place s at (record { item = x.key; next = h.after_key }) (record { item = x.offset; next = h.after_offset })
    (TextIn⇒text place s at h.after_key x.key h.keyed)
    (NumberIn⇒number 15 place s h.after_key h.after_offset x.offset h.placed)
    ∙ bind_answer (number_at 15 place s h.after_offset) _ (record { item = x.size; next = next }) (NumberIn⇒number 15 place s h.after_offset next x.size h.sized)

pub EntryIn⇒forward : (s : List ℕ) (at next : ℕ) (x : Entry) → EntryIn s at next x → (at < next) × (next ≤ length s)
EntryIn⇒forward s at next x h = let e = EntryIn⇒entry 0 s at next x h in (entry_forward 0 s at _ e, entry_within 0 s at _ e)
