-- Items that stand side by side up to an end are the items that are read one after the other.
-- Assumes nothing.
use mathlib.Core.Path.{◌≡◌, refl, sym, subst}
use mathlib.Core.Logic.{◌≢◌}
use mathlib.Core.List.{List, []}
use Prim.Native.Nat.{ℕ, ◌-◌, ◌≤◌, ◌<◌}
use native.Mathlib.Omega.{arith}
use Rattle.outcome.specs.Outcome.{Outcome, answer}
use Rattle.items.specs.Items.{items_from}
use Rattle.items.specs.declared.Step.{Step}
use Rattle.items.proofs.ItemsLaws.{Row, row_end, row_more, items⇒row, row⇒items}
use Rattle.theorems_check.specs.Rules.{Fill, full, item}

-- ---- what fills a part

module _ {A : Type 0} (Stands : ℕ → ℕ → A → Type 0) (end : ℕ) where
  -- no item fills nothing
  pub fill_none : (at : ℕ) → at ≡ end → Fill Stands end at []
  fill_none at h = subst (λ (a : ℕ). Fill Stands end a []) (sym h) full

  -- what is filled by no item is empty
  pub fill_empty : (at : ℕ) (xs : List A) → Fill Stands end at xs → xs ≡ [] → at ≡ end
  fill_empty at xs full e = refl
  fill_empty at xs (item s r) e = absurd (let z : ◌≡◌ {A = ℕ} 0 1 = cc in omega arith)

  module _ (forward : (at next : ℕ) (x : A) → Stands at next x → (at < next) × (next ≤ end)) where
    -- what is filled lies before the end
    pub fill_within : (at : ℕ) (xs : List A) → Fill Stands end at xs → at ≤ end
    fill_within at xs full = omega arith
    fill_within at xs (item {next = next} {x = x} s r) = let f = forward at next x s in omega arith

    -- what is filled by some item is not empty
    pub fill_some : (at : ℕ) (xs : List A) → Fill Stands end at xs → xs ≢ [] → at < end
    fill_some at xs full some = absurd (some refl)
    fill_some at xs (item {next = next} {x = x} s r) some = let f = forward at next x s in omega arith

-- ---- reading

module _ {A : Type 0} (step : ℕ → Outcome (Step A)) (Stands : ℕ → ℕ → A → Type 0) (end : ℕ)
    (stands : (at : ℕ) (s : Step A) → step at ≡ answer s → Stands at s.next s.item)
    (steps : (at next : ℕ) (x : A) → Stands at next x → step at ≡ answer (record { item = x; next = next }))
    (forward : (at next : ℕ) (x : A) → Stands at next x → (at < next) × (next ≤ end)) where
  -- items that were all read fill, and back
  row⇒Fill : (at : ℕ) (xs : List A) → Row step end at xs → at ≤ end → Fill Stands end at xs
  row⇒Fill at xs (row_end past) h = fill_none Stands end at (omega arith)
  row⇒Fill at xs (row_more s more before e r) h = let one = stands at s e in item one (row⇒Fill s.next more r (forward at s.next s.item one).1)

  Fill⇒row : (at : ℕ) (xs : List A) → Fill Stands end at xs → Row step end at xs
  Fill⇒row at xs full = let past : end ≤ end = omega arith in row_end past
  Fill⇒row at xs (item {next = next} {x = x} {xs = more} s r) =
      let f = forward at next x s in
      let before : at < end = omega arith in
      row_more (record { item = x; next = next }) more before (steps at next x s) (Fill⇒row next more r)

  steps_on : (at : ℕ) (s : Step A) → step at ≡ answer s → at < s.next
  steps_on at s e = (forward at s.next s.item (stands at s e)).0

  pub items⇒Fill : (fuel at : ℕ) (xs : List A) → end - at ≤ fuel → at ≤ end → items_from step end fuel at ≡ answer xs → Fill Stands end at xs
  items⇒Fill fuel at xs enough h e = row⇒Fill at xs (items⇒row step end steps_on fuel at xs enough e) h

  pub Fill⇒items : (fuel at : ℕ) (xs : List A) → Fill Stands end at xs → end - at ≤ fuel → items_from step end fuel at ≡ answer xs
  Fill⇒items fuel at xs fill enough = row⇒items step end steps_on at xs (Fill⇒row at xs fill) fuel enough
