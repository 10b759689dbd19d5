-- Laws of the items of a payload.
-- Assumes nothing.
use mathlib.Core.Path.{◌≡◌, refl, ◌∙◌, subst}
use mathlib.Core.List.{List}
use Prim.Native.Nat.{ℕ, ◌+◌, ◌≤◌, ◌<◌}
use native.Mathlib.Omega.{arith}
use lib.Dec.{leb}
use lib.ListN.{length}
use borrow.Author.Tests.{le-leb, lt-leb, leb-true}
use Rattle.std.specs.Prelude.{Result, Ok}
use Rattle.std.specs.Result.{IsErrAnd}
use Rattle.std.proofs.lemmas.Result.{err_from_is_err_and}
use Rattle.outcome.specs.declared.Fault.{Fault}
use Rattle.outcome.specs.Fault.{number}
use Rattle.outcome.specs.Outcome.{Outcome, answer, refused}
use Rattle.part.specs.declared.Part.{Part}
use Rattle.items.specs.declared.Step.{Step}
use Rattle.outcome.proofs.OutcomeLaws.{answer_injective, kept, broken, kept⁻¹, bind_answer, bind_refused, bind⁻¹}
use Rattle.part.proofs.PartLaws.{length_part}
use Rattle.framing.specs.Frame.{number_at}
use Rattle.payload.specs.Payload.{Text, Entry, text_at, entry_at, entry_sized}
use Rattle.payload.specs.declared.Entry.{Entry as Found}
use Rattle.payload.specs.Answers.{text_in, text_said, entry_said, KeyWithin, ItemRead}
use Rattle.framing.proofs.FrameLaws.{Numbered, numbered}

-- ---- a fault that is handed on

pub text_fault : (place : ℕ) (s : List ℕ) (r : Result Part Fault) (f : Fault) → IsErrAnd r (λ x. x ≡ f) → text_said place s r ≡ refused (number f) place
unfolding text_said
text_fault place s r f h = let p = err_from_is_err_and r h in rw (p.1, p.2)

pub entry_fault : (place : ℕ) (s : List ℕ) (r : Result (Step Found) Fault) (f : Fault) → IsErrAnd r (λ x. x ≡ f) → entry_said place s r ≡ refused (number f) place
unfolding entry_said
entry_fault place s r f h = let p = err_from_is_err_and r h in rw (p.1, p.2)

-- it names no key
pub no_key : (s : List ℕ) (r : Result (Step Found) Fault) (f : Fault) → IsErrAnd r (λ x. x ≡ f) → KeyWithin s r
unfolding KeyWithin
no_key s r f h = let p = err_from_is_err_and r h in rw p.1 tt

-- and nothing stands there
pub item_fault : {A : Type 0} (step_at : ℕ → List ℕ → ℕ → Outcome (Step A)) (text_of : A → Text) (s : List ℕ) (at : ℕ) (r : Result (Step Part) Fault) (f : Fault)
    → IsErrAnd r (λ x. x ≡ f) → ((place : ℕ) → step_at place s at ≡ refused (number f) place) → ItemRead step_at text_of s at r
unfolding ItemRead
item_fault step_at text_of s at r f h none = let p = err_from_is_err_and r h in rw (p.1, p.2) none

module _ (place : ℕ) (s : List ℕ) (at : ℕ) where
  -- ---- a number and that many bytes

  pub text_refused : (n p : ℕ) → number_at 15 place s at ≡ refused n p → text_at place s at ≡ refused n p
  unfolding text_at
  text_refused n p e = bind_refused (number_at 15 place s at) _ n p e

  pub text_short : (n : Step ℕ) → number_at 15 place s at ≡ answer n → length s < n.next + n.item → text_at place s at ≡ refused 15 place
  unfolding text_at
  text_short n e h = bind_answer (number_at 15 place s at) _ n e ∙ broken (leb (n.next + n.item) (length s)) 15 place _ (lt-leb _ _ h)

  pub text_found : (n : Step ℕ) → number_at 15 place s at ≡ answer n → n.next + n.item ≤ length s
      → text_at place s at ≡ answer (record { item = text_in s n.next n.item; next = n.next + n.item })
  unfolding text_at text_in
  text_found n e h = bind_answer (number_at 15 place s at) _ n e ∙ kept (leb (n.next + n.item) (length s)) 15 place _ (le-leb _ _ h)

  -- a byte string that was read, taken apart
  pub text⁻¹ : (t : Step Text) → text_at place s at ≡ answer t
      → (n : Step ℕ) × (number_at 15 place s at ≡ answer n) × (n.next + n.item ≤ length s)
      × (record { item = text_in s n.next n.item; next = n.next + n.item } ≡ t)
  unfolding text_at text_in
  text⁻¹ t e =
      let first = bind⁻¹ (number_at 15 place s at) _ t e in
      let n = first.0 in
      let all = kept⁻¹ (leb (n.next + n.item) (length s)) 15 place _ t first.2 in
      (n, first.1, leb-true _ _ all.0, answer_injective _ t all.1)

  -- where a byte string that was read lies
  pub record Placed (t : Step Text) : Type 0 where
    pub length_at : ℕ
    pub item_is : t.item ≡ text_in s t.item.at length_at
    pub long : length t.item.bytes ≡ length_at
    pub forward : at < t.item.at
    pub ends : t.next ≡ t.item.at + length_at
    pub within : t.next ≤ length s

  pub text⇒Placed : (t : Step Text) → text_at place s at ≡ answer t → Placed t
  unfolding text_in
  text⇒Placed t e = let r = text⁻¹ t e in placed r.0 (numbered 15 place s at r.0 r.1) r.2 r.3
    where
      placed : (n : Step ℕ) → Numbered s at n → n.next + n.item ≤ length s → record { item = text_in s n.next n.item; next = n.next + n.item } ≡ t → Placed t
      placed n numbers h same = subst Placed same
          (record {
            length_at = n.item;
            item_is = refl;
            long = length_part s n.next n.item h;
            forward = numbers.forward;
            ends = refl;
            within = h;
          })

  -- ---- entries

  pub entry_keyless : (n p : ℕ) → text_at place s at ≡ refused n p → entry_at place s at ≡ refused n p
  unfolding entry_at
  entry_keyless n p e = bind_refused (text_at place s at) _ n p e

  pub entry_refused : (key : Step Text) (n p : ℕ) → text_at place s at ≡ answer key → number_at 15 place s key.next ≡ refused n p → entry_at place s at ≡ refused n p
  unfolding entry_at
  entry_refused key n p e q = bind_answer (text_at place s at) _ key e ∙ bind_refused (number_at 15 place s key.next) _ n p q

  pub entry_read : (key : Step Text) (offset : Step ℕ) → text_at place s at ≡ answer key → number_at 15 place s key.next ≡ answer offset
      → entry_at place s at ≡ entry_sized place s key.item offset.item offset.next
  unfolding entry_at
  entry_read key offset e q = bind_answer (text_at place s at) _ key e ∙ bind_answer (number_at 15 place s key.next) _ offset q

  pub entry_sizeless : (key : Step Text) (offset : Step ℕ) (n p : ℕ) → text_at place s at ≡ answer key → number_at 15 place s key.next ≡ answer offset
      → number_at 15 place s offset.next ≡ refused n p → entry_at place s at ≡ refused n p
  unfolding entry_sized
  entry_sizeless key offset n p e q r = entry_read key offset e q ∙ bind_refused (number_at 15 place s offset.next) _ n p r

  pub entry_found : (key : Step Text) (offset size : Step ℕ) → text_at place s at ≡ answer key → number_at 15 place s key.next ≡ answer offset
      → number_at 15 place s offset.next ≡ answer size
      → entry_at place s at ≡ answer (record { item = record { key = key.item; offset = offset.item; size = size.item }; next = size.next })
  unfolding entry_sized
  entry_found key offset size e q r = entry_read key offset e q ∙ bind_answer (number_at 15 place s offset.next) _ size r

  -- where an entry that was read lies
  pub record Entered (e : Step Entry) : Type 0 where
    pub forward : at < e.next
    pub within : e.next ≤ length s

-- an entry that was read: its key, its two numbers
pub record EntryRead (place : ℕ) (s : List ℕ) (at : ℕ) (x : Step Entry) : Type 0 where
  pub key : Step Text
  pub offset : Step ℕ
  pub size : Step ℕ
  pub key_read : text_at place s at ≡ answer key
  pub offset_read : number_at 15 place s key.next ≡ answer offset
  pub size_read : number_at 15 place s offset.next ≡ answer size
  pub entry_is : record { item = record { key = key.item; offset = offset.item; size = size.item }; next = size.next } ≡ x

pub entry⁻¹ : (place : ℕ) (s : List ℕ) (at : ℕ) (x : Step Entry) → entry_at place s at ≡ answer x → EntryRead place s at x
unfolding entry_at entry_sized
entry⁻¹ place s at x e =
    let first = bind⁻¹ (text_at place s at) _ x e in
    let second = bind⁻¹ (number_at 15 place s first.0.next) _ x first.2 in
    let third = bind⁻¹ (number_at 15 place s second.0.next) _ x second.2 in
    record {
      key = first.0;
      offset = second.0;
      size = third.0;
      key_read = first.1;
      offset_read = second.1;
      size_read = third.1;
      entry_is = answer_injective _ x third.2;
    }

pub entry⇒Entered : (place : ℕ) (s : List ℕ) (at : ℕ) (e : Step Entry) → entry_at place s at ≡ answer e → Entered place s at e
entry⇒Entered place s at e h = go (entry⁻¹ place s at e h)
  where
    go : EntryRead place s at e → Entered place s at e
    go r =
        let key = text⇒Placed place s at r.key r.key_read in
        let offset = numbered 15 place s r.key.next r.offset r.offset_read in
        let size = numbered 15 place s r.offset.next r.size r.size_read in
        subst (Entered place s at) r.entry_is
        (record {
          forward = let ends = key.ends in let forward = key.forward in let n₁ = offset.forward in let n₂ = size.forward in omega arith;
          within = size.within;
        })

-- the key of an entry that an answer names
pub within_told : (s : List ℕ) (r : Result (Step Found) Fault) (e : Step Found) → r ≡ Ok e → KeyWithin s r → e.item.key.offset + e.item.key.length ≤ length s
unfolding KeyWithin
within_told s r e told h = subst (KeyWithin s) told h
