-- The input form: it determines its records, and reading an input finds them or says what is wrong.
-- Assumes nothing.
use mathlib.Core.Path.{◌≡◌, refl, sym, ap, ◌∙◌, subst}
use mathlib.Core.Logic.{◌≢◌, ◌↔◌}
use mathlib.Core.Bool.{Bool, true, false, false≢true}
use mathlib.Core.List.{List, map}
use Prim.Native.Nat.{ℕ, ◌-◌, ◌<◌}
use native.Mathlib.Omega.{arith}
use lib.Dec.{ltb}
use lib.ListN.{length, length-map}
use borrow.Author.Tests.{ltb-true, ltb-false}
use Rattle.byte_string.specs.Order.{AreBytes}
use Rattle.outcome.specs.Outcome.{Outcome, answer, refused, number_of}
use Rattle.outcome.proofs.OutcomeLaws.{answer_injective, answer_not_refused, refused_not_answer, kept, broken, bind_refused}
use Rattle.items.specs.Items.{items_from}
use Rattle.items.proofs.ItemsLaws.{row_some, items⇒row}
use Rattle.items.proofs.RefusalItemsLaws.{refuses_items}
use Rattle.payload.specs.Payload.{Text, text_at, rising, payload_at, records_at}
use Rattle.payload.proofs.ReadLaws.{text_forward}
use Rattle.payload.proofs.RefusalLaws.{text_refuses}
use Rattle.layout.specs.Placed.{placed_records}
use Rattle.layout.proofs.PayloadBackLaws.{placed_records_bytes}
use Rattle.layout.proofs.InputLaws.{row_encoded}
use Rattle.layout.proofs.InputBackLaws.{ShortRecords, input_items, input_long, input_rising, input_falling, input_injective, row_short}
use Rattle.theorems_check.specs.Rules.{Sorted}
use Rattle.theorems_check.proofs.SortedLaws.{rising⇒Sorted, Sorted⇒rising}
use Rattle.writer.specs.Write.{input_of}
use Rattle.writer.proofs.InputRuleLaws as rule
use Rattle.theorems_write.specs.WrittenByRules.{InputOf}

-- ---- the form is that of one list of records

short_records : (input : List ℕ) (rs : List (List ℕ)) → InputOf input rs → ShortRecords rs
short_records input rs r x m = omega (arith, r.short x m)

pub input_unique : (input : List ℕ) (rs ss : List (List ℕ)) → InputOf input rs → InputOf input ss → rs ≡ ss
input_unique input rs ss r s = input_injective rs ss (short_records input rs r) (short_records input ss s) (sym r.bytes ∙ s.bytes)

-- ---- how reading an input ends, and why

pub data InputEnds (input : List ℕ) : Outcome (List (List ℕ)) → Type 0 where
  sorted : (rs : List (List ℕ)) → InputOf input rs → Sorted rs → InputEnds input (answer rs)
  unsorted : (rs : List (List ℕ)) → InputOf input rs → (Sorted rs → ⊥) → InputEnds input (refused 29 0)
  malformed : ((rs : List (List ℕ)) → InputOf input rs → ⊥) → InputEnds input (refused 28 0)

module _ (input : List ℕ) where
  -- the items of the input, read as those of a block are
  abbrev items : Outcome (List Text)
  items = items_from (text_at 0 input) (length input) (length input - 0) 0

  -- they are read where the input is some records
  form⇒items : (rs : List (List ℕ)) → InputOf input rs → items ≡ answer (placed_records 0 rs)
  form⇒items rs r = input_items 0 input rs r.bytes (short_records input rs r) (length input - 0) (omega arith)

  -- and they are not refused with 16
  items_16 : (n place : ℕ) → items ≡ refused n place → n ≢ 16
  items_16 =
      (refuses_items (λ n. n ≢ 16) (text_at 0 input) (length input)
      (text_refuses (λ n. n ≢ 16) (λ z. omega arith) (λ z. omega arith) (λ z. omega arith) 0 input) (length input - 0) 0).among

  without : (n place : ℕ) → n ≢ 16 → records_at 0 input 0 ≡ refused n place → ((rs : List (List ℕ)) → InputOf input rs → ⊥) → InputEnds input (input_of input)
  without n place other e none =
      subst (InputEnds input) (sym (rule.input_none input n place e ∙ ap (λ (k : ℕ). refused k 0) (sym (rule.malformed n other)))) (malformed none)

  with_form : (rs : List (List ℕ)) → InputOf input rs → InputEnds input (input_of input)
  with_form rs r = go (rising rs) refl
    where
      go : (b : Bool) → rising rs ≡ b → InputEnds input (input_of input)
      go true rise =
          let read = input_rising 0 input rs r.bytes (short_records input rs r) r.some rise in
          subst (InputEnds input) (sym (rule.input_some input (placed_records 0 rs) read ∙ ap answer (placed_records_bytes 0 rs)))
          (sorted rs r (rising⇒Sorted rs rise))
      go false fall =
          let read = input_falling 0 input rs r.bytes (short_records input rs r) r.some fall in
          subst (InputEnds input) (sym (rule.input_none input 16 0 read ∙ ap (λ (k : ℕ). refused k 0) (sym (rule.not_rising 16 refl))))
          (unsorted rs r (λ s. false≢true (sym fall ∙ Sorted⇒rising rs s)))

  -- items that are read are the records of the input
  items⇒form : AreBytes input → 0 < length input → (ts : List Text) → items ≡ answer ts → InputOf input (map (λ t. t.bytes) ts)
  items⇒form bytes long ts e =
      let row = items⇒row (text_at 0 input) (length input) (text_forward 0 input) (length input - 0) 0 ts (omega arith) e in
      record {
        bytes = row_encoded 0 input 0 ts bytes row;
        some = λ none. let some = row_some (text_at 0 input) (length input) 0 ts row long in
            let same = sym (length-map ts (λ t. t.bytes)) ∙ ap length none in
            omega arith;
        short = λ x m. omega (arith, row_short 0 input 0 ts row x m);
      }

  pub input_ends : AreBytes input → InputEnds input (input_of input)
  unfolding records_at payload_at
  input_ends bytes = some (ltb 0 (length input)) refl
    where
      read : 0 < length input → ltb 0 (length input) ≡ true → (o : Outcome (List Text)) → items ≡ o → InputEnds input (input_of input)
      read long e (answer ts) f = with_form (map (λ t. t.bytes) ts) (items⇒form bytes long ts f)
      read long e (refused n place) f =
          without n place (items_16 n place f) (kept (ltb 0 (length input)) 15 0 _ e ∙ bind_refused items _ n place f)
          (λ rs r. answer_not_refused (placed_records 0 rs) n place (sym (form⇒items rs r) ∙ f))

      some : (b : Bool) → ltb 0 (length input) ≡ b → InputEnds input (input_of input)
      some true e = read (ltb-true 0 (length input) e) e items refl
      some false e =
          without 15 0 (λ z. omega arith) (broken (ltb 0 (length input)) 15 0 _ e)
          (λ rs r. let none = ltb-false 0 (length input) e in
          let long = input_long 0 input rs r.bytes (short_records input rs r) r.some in omega arith)

  -- ---- each exactly for its reason

  module _ (bytes : AreBytes input) where
    -- records exactly where the input is these and they rise
    pub input_read : (rs : List (List ℕ)) → (input_of input ≡ answer rs) ↔ (InputOf input rs × Sorted rs)
    input_read rs = (λ e. there (input_of input) (input_ends bytes) e, λ p. back (input_of input) (input_ends bytes) p.0 p.1)
      where
        there : (o : Outcome (List (List ℕ))) → InputEnds input o → o ≡ answer rs → InputOf input rs × Sorted rs
        there o (sorted ss r s) e = subst (λ (l : List (List ℕ)). InputOf input l × Sorted l) (answer_injective ss rs e) (r, s)
        there o (unsorted ss r f) e = absurd (refused_not_answer rs 29 0 e)
        there o (malformed none) e = absurd (refused_not_answer rs 28 0 e)

        back : (o : Outcome (List (List ℕ))) → InputEnds input o → InputOf input rs → Sorted rs → o ≡ answer rs
        back o (sorted ss r s) q t = ap answer (input_unique input ss rs r q)
        back o (unsorted ss r f) q t = absurd (f (subst Sorted (input_unique input rs ss q r) t))
        back o (malformed none) q t = absurd (none rs q)

    -- 29 exactly where it is some records that don't rise
    pub input_29 : (input_of input ≡ refused 29 0) ↔ ((rs : List (List ℕ)) × InputOf input rs × (Sorted rs → ⊥))
    unfolding number_of
    input_29 = (λ e. there (input_of input) (input_ends bytes) e, λ p. back (input_of input) (input_ends bytes) p.0 p.1 p.2)
      where
        there : (o : Outcome (List (List ℕ))) → InputEnds input o → o ≡ refused 29 0 → (rs : List (List ℕ)) × InputOf input rs × (Sorted rs → ⊥)
        there o (sorted ss r s) e = absurd (answer_not_refused ss 29 0 e)
        there o (unsorted ss r f) e = (ss, r, f)
        there o (malformed none) e = absurd (let z = ap number_of e in omega arith)

        back : (o : Outcome (List (List ℕ))) → InputEnds input o → (rs : List (List ℕ)) → InputOf input rs → (Sorted rs → ⊥) → o ≡ refused 29 0
        back o (sorted ss r s) rs q f = absurd (f (subst Sorted (input_unique input ss rs r q) s))
        back o (unsorted ss r g) rs q f = refl
        back o (malformed none) rs q f = absurd (none rs q)

    -- 28 exactly where it is not the form of any records
    pub input_28 : (input_of input ≡ refused 28 0) ↔ ((rs : List (List ℕ)) → InputOf input rs → ⊥)
    unfolding number_of
    input_28 = (λ e. there (input_of input) (input_ends bytes) e, λ none. back (input_of input) (input_ends bytes) none)
      where
        there : (o : Outcome (List (List ℕ))) → InputEnds input o → o ≡ refused 28 0 → (rs : List (List ℕ)) → InputOf input rs → ⊥
        there o (sorted ss r s) e = absurd (answer_not_refused ss 28 0 e)
        there o (unsorted ss r f) e = absurd (let z = ap number_of e in omega arith)
        there o (malformed none) e = none

        back : (o : Outcome (List (List ℕ))) → InputEnds input o → ((rs : List (List ℕ)) → InputOf input rs → ⊥) → o ≡ refused 28 0
        back o (sorted ss r s) none = absurd (none ss r)
        back o (unsorted ss r f) none = absurd (none ss r)
        back o (malformed other) none = refl
