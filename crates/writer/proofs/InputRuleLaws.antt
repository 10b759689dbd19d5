-- Laws of the refusals that come before the file is made.
-- Assumes nothing.
use mathlib.Core.Path.{◌≡◌, sym, ap, ◌∙◌, refl}
use mathlib.Core.Bool.{true, false, Bool, cond}
use mathlib.Core.List.{List, map}
use Prim.Native.Nat.{ℕ}
use native.Mathlib.Omega.{arith}
use lib.ListN.{length}
use borrow.Author.Tests.{ne_eqb, eq-eqb}
use Rattle.outcome.specs.declared.Fault.{Fault}
use Rattle.outcome.specs.declared.Fault.TheVariants.{RecordOrder}
use Rattle.outcome.specs.Fault.{number}
use Rattle.outcome.specs.Outcome.{answer, refused, ◌>>=◌, Outcome}
use Rattle.outcome.proofs.OutcomeLaws.{kept, broken, bind_answer, bind_refused, bind⁻¹, map_refused⁻¹}
use Rattle.header.specs.Metadata.{is_metadata}
use Rattle.payload.specs.Payload.{Text, records_at}
use Rattle.payload.specs.Answers.{counted}
use Rattle.layout.specs.File.{counts_fit}
use Rattle.writer.specs.Steps.{tested}
use Rattle.writer.specs.Write.{input_refusal, refused_as, input_of, records_to_write}
use lib.Dec.{eqb}

-- ---- the records of the input

pub input_some : (input : List ℕ) (ts : List Text) → records_at 0 input 0 ≡ answer ts → input_of input ≡ answer (map (λ r. r.bytes) ts)
unfolding input_of refused_as ◌>>=◌
input_some input ts e = ap (λ o. refused_as input_refusal o >>= λ rs. answer (map (λ r. r.bytes) rs)) e

pub input_none : (input : List ℕ) (n place : ℕ) → records_at 0 input 0 ≡ refused n place → input_of input ≡ refused (input_refusal n) 0
unfolding input_of refused_as ◌>>=◌
input_none input n place e = ap (λ o. refused_as input_refusal o >>= λ rs. answer (map (λ r. r.bytes) rs)) e

pub not_rising : (n : ℕ) → n ≡ 16 → 29 ≡ input_refusal n
unfolding input_refusal
not_rising n e = rw (eq-eqb n 16 e)

pub malformed : (n : ℕ) → (n ≡ 16 → ⊥) → 28 ≡ input_refusal n
unfolding input_refusal
malformed n e = rw (ne_eqb n 16 e)

-- only records that don't rise are refused with 16
pub order_only : (f : Fault) → number f ≡ 16 → f ≡ RecordOrder
unfolding number
order_only f e = grind arith

-- ---- the number of the refusal

module _ (metadata input : List ℕ) (b i : ℕ) where
  pub refused_at_30 : counts_fit b i ≡ false → records_to_write metadata input b i ≡ refused 30 0
  unfolding records_to_write
  refused_at_30 h = broken (counts_fit b i) 30 0 _ h

  pub refused_at_9 : counts_fit b i ≡ true → is_metadata metadata ≡ false → records_to_write metadata input b i ≡ refused 9 0
  unfolding records_to_write
  refused_at_9 h k = kept (counts_fit b i) 30 0 _ h ∙ broken (is_metadata metadata) 9 0 _ k

  -- what the test of the input says
  tested_refused : (n : ℕ) → records_to_write metadata input b i ≡ refused n 0 → refused n 0 ≡ tested (records_to_write metadata input b i)
  unfolding tested
  tested_refused n e = sym (bind_refused (records_to_write metadata input b i) _ n 0 e)

  pub refused_30 : counts_fit b i ≡ false → refused 30 0 ≡ tested (records_to_write metadata input b i)
  refused_30 h = tested_refused 30 (refused_at_30 h)

  pub refused_9 : counts_fit b i ≡ true → is_metadata metadata ≡ false → refused 9 0 ≡ tested (records_to_write metadata input b i)
  refused_9 h k = tested_refused 9 (refused_at_9 h k)

  module _ (h : counts_fit b i ≡ true) (k : is_metadata metadata ≡ true) where
    pub to_input : records_to_write metadata input b i ≡ input_of input
    unfolding records_to_write
    to_input = rw (kept (counts_fit b i) 30 0 _ h, kept (is_metadata metadata) 9 0 _ k)

    pub input_answer : (count : ℕ) → answer count ≡ counted (records_at 0 input 0) → answer tt ≡ tested (records_to_write metadata input b i)
    unfolding counted tested
    input_answer count e =
        let r = bind⁻¹ (records_at 0 input 0) _ count (sym e) in
        sym (bind_answer (records_to_write metadata input b i) _ _ (to_input ∙ input_some input r.0 r.1))

    pub input_refused : (n : ℕ) → refused n 0 ≡ counted (records_at 0 input 0) → refused (input_refusal n) 0 ≡ tested (records_to_write metadata input b i)
    unfolding counted
    input_refused n e =
        tested_refused (input_refusal n) (to_input ∙ input_none input n 0 (map_refused⁻¹ (records_at 0 input 0) length n 0 (sym e)))

-- ---- whatever the input is

-- the records, or a refusal at place 0 whose number isn't 0
pub data Known (o : Outcome (List (List ℕ))) : Type 0 where
  some : (rs : List (List ℕ)) → o ≡ answer rs → Known o
  none : (n : ℕ) → (n ≡ 0 → ⊥) → o ≡ refused n 0 → Known o

input_refusal_some : (n : ℕ) → input_refusal n ≡ 0 → ⊥
unfolding input_refusal
input_refusal_some n e = go (eqb n 16) e
  where
    go : (b : Bool) → ◌≡◌ {A = ℕ} (cond b 29 28) 0 → ⊥
    go true h = omega arith
    go false h = omega arith

pub known : (metadata input : List ℕ) (b i : ℕ) → Known (records_to_write metadata input b i)
known metadata input b i = counts (counts_fit b i) refl
  where
    read : counts_fit b i ≡ true → is_metadata metadata ≡ true → (o : Outcome (List Text)) → records_at 0 input 0 ≡ o → Known (records_to_write metadata input b i)
    read h k (answer ts) e = some (map (λ r. r.bytes) ts) (to_input metadata input b i h k ∙ input_some input ts e)
    read h k (refused n place) e = none (input_refusal n) (input_refusal_some n) (to_input metadata input b i h k ∙ input_none input n place e)

    rule : counts_fit b i ≡ true → (c : Bool) → is_metadata metadata ≡ c → Known (records_to_write metadata input b i)
    rule h true k = read h k (records_at 0 input 0) refl
    rule h false k = none 9 (λ z. omega arith) (refused_at_9 metadata input b i h k)

    counts : (c : Bool) → counts_fit b i ≡ c → Known (records_to_write metadata input b i)
    counts true h = rule h (is_metadata metadata) refl
    counts false h = none 30 (λ z. omega arith) (refused_at_30 metadata input b i h)
