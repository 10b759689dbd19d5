-- Each number that writing answers is given exactly for its reason.
-- Assumes nothing.
use mathlib.Core.Path.{◌≡◌, refl, sym, ◌∙◌, subst}
use mathlib.Core.Logic.{◌↔◌, ◌⊎◌, inl, inr}
use mathlib.Core.Bool.{Bool, true, false}
use mathlib.Core.List.{List}
use Prim.Native.Nat.{ℕ, ◌^◌, ◌≤◌, ◌<◌}
use native.Mathlib.Omega.{arith}
use lib.Dec.{ltb}
use lib.ListN.{length}
use borrow.Author.Tests.{ltb-true, ltb-false}
use Rattle.lists.specs.Groups.{groups}
use Rattle.header.specs.Metadata.{Metadata}
use Rattle.layout.specs.File.{file_of}
use Rattle.written.specs.declared.Written.{Written}
use Rattle.theorems_check.specs.Rules.{Sorted}
use Rattle.theorems_write.specs.WrittenByRules.{CountsFit, InputOf, Fits, WrittenByRules}
use Rattle.theorems_write.specs.WrittenByRules.{Ends, counts_out_of_range, no_metadata, malformed, unsorted, too_long, done}
use Rattle.theorems_write.proofs.InputTheorems.{input_unique}

-- ---- tests one after the other

-- a test, the number where it fails, and what follows where it doesn't
data Tested (Test : Type 0) (number : ℕ) (Rest : ℕ → Type 0) : ℕ → Type 0 where
  fails : (Test → ⊥) → Tested Test number Rest number
  holds : {n : ℕ} → Test → Rest n → Tested Test number Rest n

abbrev OneNumber : (ℕ → Type 0) → Type 0
OneNumber Rest = (m n : ℕ) → Rest m → Rest n → m ≡ n

tested_one : (Test : Type 0) (number : ℕ) (Rest : ℕ → Type 0) → OneNumber Rest → OneNumber (Tested Test number Rest)
tested_one Test number Rest one m n (fails f) (fails g) = refl
tested_one Test number Rest one m n (fails f) (holds t r) = absurd (f t)
tested_one Test number Rest one m n (holds t r) (fails f) = absurd (f t)
tested_one Test number Rest one m n (holds t r) (holds u s) = one m n r s

-- ---- the tests of writing

module _ (metadata input : List ℕ) (per_block per_index room : ℕ) where
  abbrev file : List (List ℕ) → List ℕ
  file rs = file_of metadata (groups per_block rs) per_index

  abbrev Rise : Type 0
  Rise = (rs : List (List ℕ)) → InputOf input rs → Sorted rs

  abbrev Fit : Type 0
  Fit = (rs : List (List ℕ)) → InputOf input rs → Fits room (file rs)

  abbrev Form : Type 0
  Form = (rs : List (List ℕ)) × InputOf input rs

  abbrev AfterForm : ℕ → Type 0
  AfterForm = Tested Rise 29 (Tested Fit 31 (λ (n : ℕ). n ≡ 0))

  abbrev InOrder : ℕ → Type 0
  InOrder = Tested (CountsFit per_block per_index) 30 (Tested (Metadata metadata) 9 (Tested Form 28 AfterForm))

  in_order_one : OneNumber InOrder
  in_order_one = tested_one _ 30 _ (tested_one _ 9 _ (tested_one _ 28 _ (tested_one _ 29 _ (tested_one _ 31 _ (λ m n e f. e ∙ sym f)))))

  -- what holds of the records of an input holds of all that are its records
  of_all : (P : List (List ℕ) → Type 0) (rs : List (List ℕ)) → InputOf input rs → P rs → (ss : List (List ℕ)) → InputOf input ss → P ss
  of_all P rs r p ss s = subst P (input_unique input rs ss r s) p

  in_order : (n : ℕ) → Ends metadata input per_block per_index room n → InOrder n
  in_order n (counts_out_of_range f) = fails f
  in_order n (no_metadata c f) = holds c (fails f)
  in_order n (malformed c m f) = holds c (holds m (fails (λ p. f p.0 p.1)))
  in_order n (unsorted c m rs r f) = holds c (holds m (holds (rs, r) (fails (λ all. f (all rs r)))))
  in_order n (too_long c m rs r s f) =
      holds c (holds m (holds (rs, r) (holds (of_all Sorted rs r s) (fails (λ all. f (all rs r))))))
  in_order n (done c m rs r s f) =
      holds c (holds m (holds (rs, r) (holds (of_all Sorted rs r s) (holds (of_all (λ ss. Fits room (file ss)) rs r f) refl))))

  -- the cases exclude each other
  pub ends_one : (m n : ℕ) → Ends metadata input per_block per_index room m → Ends metadata input per_block per_index room n → m ≡ n
  ends_one m n a b = in_order_one m n (in_order m a) (in_order n b)

  -- none of 30, 9, 28 and 29 applies
  pub record Sound : Type 0 where
    pub counts : CountsFit per_block per_index
    pub rule : Metadata metadata
    pub records : List (List ℕ)
    pub form : InputOf input records
    pub rise : Sorted records

  -- the length of the file to be written
  abbrev pub file_length : Sound → ℕ
  file_length s = length (file_of metadata (groups per_block s.records) per_index)

  not_fits : (long : ℕ) → ((long ≤ room) × (long ≤ 2 ^ 30) → ⊥) → (room < long) ⊎ (2 ^ 30 < long)
  not_fits long f = go (ltb room long) refl
    where
      go : (b : Bool) → ltb room long ≡ b → (room < long) ⊎ (2 ^ 30 < long)
      go true e = inl (ltb-true room long e)
      go false e = inr (limit (ltb (2 ^ 30) long) refl)
        where
          limit : (b : Bool) → ltb (2 ^ 30) long ≡ b → 2 ^ 30 < long
          limit true h = ltb-true (2 ^ 30) long h
          limit false h = absurd (f (ltb-false room long e, ltb-false (2 ^ 30) long h))

  module _ (r : Written) (output : List ℕ) (w : WrittenByRules metadata input per_block per_index room r output) where
    -- a number is answered exactly if its reason holds
    pub number_exactly : (n : ℕ) → (r.number ≡ n) ↔ Ends metadata input per_block per_index room n
    number_exactly n = (λ e. subst (Ends metadata input per_block per_index room) e w.ends, λ e. ends_one r.number n w.ends e)

    -- 31 exactly where no other refusal applies and the file is longer than the output or than 2^30 bytes
    pub exact_31 : (r.number ≡ 31) ↔ ((s : Sound) × ((room < file_length s) ⊎ (2 ^ 30 < file_length s)))
    unfolding Fits
    exact_31 = (λ e. there r.number w.ends e, λ p. (number_exactly 31).1 (back p.0 p.1))
      where
        there : (n : ℕ) → Ends metadata input per_block per_index room n → n ≡ 31 → (s : Sound) × ((room < file_length s) ⊎ (2 ^ 30 < file_length s))
        there n (counts_out_of_range f) e = absurd (omega arith)
        there n (no_metadata c f) e = absurd (omega arith)
        there n (malformed c m f) e = absurd (omega arith)
        there n (unsorted c m rs i f) e = absurd (omega arith)
        there n (too_long c m rs i s f) e =
            (record { counts = c; rule = m; records = rs; form = i; rise = s }, not_fits (length (file rs)) (λ p. f (omega (arith, p.0), omega (arith, p.1))))
        there n (done c m rs i s f) e = absurd (omega arith)

        back : (s : Sound) → (room < file_length s) ⊎ (2 ^ 30 < file_length s) → Ends metadata input per_block per_index room 31
        back s (inl more) = too_long s.counts s.rule s.records s.form s.rise (λ p. omega (arith, p.0, more))
        back s (inr more) = too_long s.counts s.rule s.records s.form s.rise (λ p. omega (arith, p.1, more))

    -- 0 exactly if none applies and the file fits
    pub exact_0 : (r.number ≡ 0) ↔ ((s : Sound) × Fits room (file_of metadata (groups per_block s.records) per_index))
    exact_0 = (λ e. there r.number w.ends e, λ p. (number_exactly 0).1 (done p.0.counts p.0.rule p.0.records p.0.form p.0.rise p.1))
      where
        there : (n : ℕ) → Ends metadata input per_block per_index room n → n ≡ 0 → (s : Sound) × Fits room (file s.records)
        there n (counts_out_of_range f) e = absurd (omega arith)
        there n (no_metadata c f) e = absurd (omega arith)
        there n (malformed c m f) e = absurd (omega arith)
        there n (unsorted c m rs i f) e = absurd (omega arith)
        there n (too_long c m rs i s f) e = absurd (omega arith)
        there n (done c m rs i s f) e = (record { counts = c; rule = m; records = rs; form = i; rise = s }, f)
