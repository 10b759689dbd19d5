-- The laws of `merged`: its steps, and that each step leaves fewer records.
-- Assumes nothing.
use Prim.Native.Nat.{ℕ, zero, suc, ◌+◌, ◌≤◌, ◌<◌}
use native.Mathlib.Omega.{arith}
use mathlib.Core.Path.{◌≡◌, refl, sym, ap, ◌∙◌}
use mathlib.Core.Bool.{Bool, true, false}
use mathlib.Core.List.{List, [], ◌∷◌, ◌++◌}
use lib.Dec.{eqb}
use lib.ListN.{length, drop, length-drop, length-append}
use borrow.Author.Tests.{eqb-true, eqb-false, eq-eqb, ne_eqb}
use Rattle.byte_string.specs.Order.{at_most}
use Rattle.payload.specs.Payload.{Text}
use Rattle.byte_string.specs.Order.{same}
use Rattle.differences.specs.Differences.{Difference}
use Rattle.differences.specs.Merge.{leading, Next, none, next, next_of, listed, merged_by, merged_with, merged}
use Rattle.byte_string.proofs.SameLaws.{same_refl}

-- ---- the copies at the front

pub leading_end : (x : List ℕ) → leading x [] ≡ 0
unfolding leading
leading_end x = refl

pub leading_passed : (x : List ℕ) (r : Text) (rs : List Text) → same r.bytes x ≡ false → leading x (r ∷ rs) ≡ 0
unfolding leading
leading_passed x r rs e = rw e

pub leading_more : (x : List ℕ) (r : Text) (rs : List Text) → same r.bytes x ≡ true → leading x (r ∷ rs) ≡ suc (leading x rs)
unfolding leading
leading_more x r rs e = rw e

pub leading_few : (x : List ℕ) (rs : List Text) → leading x rs ≤ length rs
leading_few x [] = let e = leading_end x in omega arith
leading_few x (r ∷ rs) = go (same r.bytes x) refl (leading_few x rs)
  where
    go : (b : Bool) → same r.bytes x ≡ b → leading x rs ≤ length rs → leading x (r ∷ rs) ≤ suc (length rs)
    go true e few = let step = leading_more x r rs e in omega arith
    go false e few = let step = leading_passed x r rs e in omega arith

-- the first record is a copy of itself
leading_own : (r : Text) (rs : List Text) → 0 < leading r.bytes (r ∷ rs)
leading_own r rs = let step = leading_more r.bytes r rs (same_refl r.bytes) in omega arith

-- ---- the record that comes next

pub next_end : next_of [] [] ≡ none
unfolding next_of
next_end = refl

pub next_second_only : (y : Text) (ys : List Text) → next_of [] (y ∷ ys) ≡ next 2 y
unfolding next_of
next_second_only y ys = refl

pub next_first_only : (x : Text) (xs : List Text) → next_of (x ∷ xs) [] ≡ next 1 x
unfolding next_of
next_first_only x xs = refl

pub next_first : (x : Text) (xs : List Text) (y : Text) (ys : List Text) → at_most x.bytes y.bytes ≡ true → next_of (x ∷ xs) (y ∷ ys) ≡ next 1 x
unfolding next_of
next_first x xs y ys e = rw e

pub next_second : (x : Text) (xs : List Text) (y : Text) (ys : List Text) → at_most x.bytes y.bytes ≡ false → next_of (x ∷ xs) (y ∷ ys) ≡ next 2 y
unfolding next_of
next_second x xs y ys e = rw e

pub next_record : (which other : ℕ) (r s : Text) → next which r ≡ next other s → r ≡ s
next_record which other r s e = cc

-- nothing comes next where both lists are at their end
pub next_none : (xs ys : List Text) → next_of xs ys ≡ none → (xs ≡ []) × (ys ≡ [])
next_none [] [] e = (refl, refl)
next_none [] (y ∷ ys) e = absurd (let z : ◌≡◌ {A = ℕ} 0 1 = cc (next_second_only y ys) in omega arith)
next_none (x ∷ xs) [] e = absurd (let z : ◌≡◌ {A = ℕ} 0 1 = cc (next_first_only x xs) in omega arith)
next_none (x ∷ xs) (y ∷ ys) e = absurd (go (at_most x.bytes y.bytes) refl)
  where
    go : (b : Bool) → at_most x.bytes y.bytes ≡ b → ⊥
    go true l = let z : ◌≡◌ {A = ℕ} 0 1 = cc (next_first x xs y ys l) in omega arith
    go false l = let z : ◌≡◌ {A = ℕ} 0 1 = cc (next_second x xs y ys l) in omega arith

-- it stands at the front of one of the two, so one of the two counts of copies is not zero
pub next_passes : (xs ys : List Text) (which : ℕ) (r : Text) → next_of xs ys ≡ next which r → 0 < leading r.bytes xs + leading r.bytes ys
next_passes [] [] which r e = absurd (let z : ◌≡◌ {A = ℕ} 0 1 = cc (next_end) in omega arith)
next_passes [] (y ∷ ys) which r e = second (next_record 2 which y r (sym (next_second_only y ys) ∙ e))
  where
    second : y ≡ r → 0 < leading r.bytes [] + leading r.bytes (y ∷ ys)
    second same-one = rw (← same-one) (let own = leading_own y ys in omega arith)
next_passes (x ∷ xs) [] which r e = first (next_record 1 which x r (sym (next_first_only x xs) ∙ e))
  where
    first : x ≡ r → 0 < leading r.bytes (x ∷ xs) + leading r.bytes []
    first same-one = rw (← same-one) (let own = leading_own x xs in omega arith)
next_passes (x ∷ xs) (y ∷ ys) which r e = go (at_most x.bytes y.bytes) refl
  where
    first : x ≡ r → 0 < leading r.bytes (x ∷ xs) + leading r.bytes (y ∷ ys)
    first same-one = rw (← same-one) (let own = leading_own x xs in omega arith)

    second : y ≡ r → 0 < leading r.bytes (x ∷ xs) + leading r.bytes (y ∷ ys)
    second same-one = rw (← same-one) (let own = leading_own y ys in omega arith)

    go : (b : Bool) → at_most x.bytes y.bytes ≡ b → 0 < leading r.bytes (x ∷ xs) + leading r.bytes (y ∷ ys)
    go true l = first (next_record 1 which x r (sym (next_first x xs y ys l) ∙ e))
    go false l = second (next_record 2 which y r (sym (next_second x xs y ys l) ∙ e))

-- fewer records are left
pub merged_falls : (xs ys : List Text) (which : ℕ) (r : Text) → next_of xs ys ≡ next which r
    → length (drop (leading r.bytes xs) xs) + length (drop (leading r.bytes ys) ys) < length xs + length ys
merged_falls xs ys which r e =
    let some = next_passes xs ys which r e in
    let a = leading_few r.bytes xs in
    let b = leading_few r.bytes ys in
    simp length-drop (omega arith)

-- ---- the steps

with_none : (fuel : ℕ) (xs ys : List Text) → next_of xs ys ≡ none → merged_with fuel xs ys ≡ []
unfolding merged_with merged_by
with_none zero xs ys e = refl
with_none (suc fuel) xs ys e = rw e

with_next : (fuel : ℕ) (xs ys : List Text) (which : ℕ) (r : Text) → next_of xs ys ≡ next which r
    → merged_with (suc fuel) xs ys ≡ listed which r (leading r.bytes xs) (leading r.bytes ys)
    ++ merged_with fuel (drop (leading r.bytes xs) xs) (drop (leading r.bytes ys) ys)
unfolding merged_with merged_by
with_next fuel xs ys which r e = rw e

-- more fuel than there are records changes nothing
with_enough : (fuel more : ℕ) (xs ys : List Text) → length xs + length ys ≤ fuel → length xs + length ys ≤ more → merged_with fuel xs ys ≡ merged_with more xs ys
with_enough zero more xs ys h k = go (next_of xs ys) refl
  where
    go : (o : Next) → next_of xs ys ≡ o → merged_with zero xs ys ≡ merged_with more xs ys
    go none e = with_none zero xs ys e ∙ sym (with_none more xs ys e)
    go (next which r) e = absurd (let falls = merged_falls xs ys which r e in omega arith)
with_enough (suc fuel) zero xs ys h k = go (next_of xs ys) refl
  where
    go : (o : Next) → next_of xs ys ≡ o → merged_with (suc fuel) xs ys ≡ merged_with zero xs ys
    go none e = with_none (suc fuel) xs ys e ∙ sym (with_none zero xs ys e)
    go (next which r) e = absurd (let falls = merged_falls xs ys which r e in omega arith)
with_enough (suc fuel) (suc more) xs ys h k = go (next_of xs ys) refl (with_enough fuel more)
  where
    go : (o : Next) → next_of xs ys ≡ o
        → ((vs ws : List Text) → length vs + length ws ≤ fuel → length vs + length ws ≤ more → merged_with fuel vs ws ≡ merged_with more vs ws)
        → merged_with (suc fuel) xs ys ≡ merged_with (suc more) xs ys
    go none e ih = with_none (suc fuel) xs ys e ∙ sym (with_none (suc more) xs ys e)
    go (next which r) e ih =
        let falls = merged_falls xs ys which r e in
        with_next fuel xs ys which r e
        ∙ ap (λ (ds : List Difference). listed which r (leading r.bytes xs) (leading r.bytes ys) ++ ds)
        (ih (drop (leading r.bytes xs) xs) (drop (leading r.bytes ys) ys) (omega arith) (omega arith))
        ∙ sym (with_next more xs ys which r e)

pub merged_none : (xs ys : List Text) → next_of xs ys ≡ none → merged xs ys ≡ []
unfolding merged
merged_none xs ys e = with_none (length xs + length ys) xs ys e

pub merged_next : (xs ys : List Text) (which : ℕ) (r : Text) → next_of xs ys ≡ next which r
    → merged xs ys ≡ listed which r (leading r.bytes xs) (leading r.bytes ys)
    ++ merged (drop (leading r.bytes xs) xs) (drop (leading r.bytes ys) ys)
unfolding merged
merged_next xs ys which r e =
    let falls = merged_falls xs ys which r e in
    let m = leading r.bytes xs in
    let n = leading r.bytes ys in
    with_enough (length xs + length ys) (suc (length xs + length ys)) xs ys (omega arith) (omega arith)
    ∙ with_next (length xs + length ys) xs ys which r e
    ∙ ap (λ (ds : List Difference). listed which r m n ++ ds)
    (with_enough (length xs + length ys) (length (drop m xs) + length (drop n ys)) (drop m xs) (drop n ys) (omega arith) (omega arith))

-- what holds where nothing comes next, and of both lists where it holds of what follows, holds of all lists
module _ (P : List Text → List Text → Type 0) (end : (xs ys : List Text) → next_of xs ys ≡ none → P xs ys)
    (step : (xs ys : List Text) (which : ℕ) (r : Text) → next_of xs ys ≡ next which r
    → P (drop (leading r.bytes xs) xs) (drop (leading r.bytes ys) ys) → P xs ys) where
  within : (fuel : ℕ) (xs ys : List Text) → length xs + length ys < fuel → P xs ys
  within zero xs ys h = absurd (omega arith)
  within (suc fuel) xs ys h = go (next_of xs ys) refl (within fuel)
    where
      go : (o : Next) → next_of xs ys ≡ o → ((vs ws : List Text) → length vs + length ws < fuel → P vs ws) → P xs ys
      go none e ih = end xs ys e
      go (next which r) e ih =
          let falls = merged_falls xs ys which r e in
          step xs ys which r e (ih (drop (leading r.bytes xs) xs) (drop (leading r.bytes ys) ys) (omega arith))

  pub merge_induction : (xs ys : List Text) → P xs ys
  merge_induction xs ys = within (suc (length xs + length ys)) xs ys (omega arith)

-- ---- what a step lists

pub listed_none : (which : ℕ) (r : Text) (m n : ℕ) → m ≡ n → listed which r m n ≡ []
unfolding listed
listed_none which r m n e = rw (eq-eqb m n e)

pub listed_one : (which : ℕ) (r : Text) (m n : ℕ) → (m ≡ n → ⊥)
    → listed which r m n ≡ record { which = which; offset = r.at; bytes = r.bytes; first = m; second = n } ∷ []
unfolding listed
listed_one which r m n h = rw (ne_eqb m n h)

listed_few : (which : ℕ) (r : Text) (m n : ℕ) → length (listed which r m n) ≤ 1
listed_few which r m n = go (eqb m n) refl
  where
    go : (b : Bool) → eqb m n ≡ b → length (listed which r m n) ≤ 1
    go true e = rw (listed_none which r m n (eqb-true m n e)) (omega arith)
    go false e = rw (listed_one which r m n (eqb-false m n e)) (omega arith)

-- not more differences than records
pub merged_few : (xs ys : List Text) → length (merged xs ys) ≤ length xs + length ys
merged_few =
    merge_induction (λ (xs ys : List Text). length (merged xs ys) ≤ length xs + length ys)
    (λ xs ys e. rw (merged_none xs ys e) (omega arith))
    (λ xs ys which r e few.
    let m = leading r.bytes xs in
    let n = leading r.bytes ys in
    let one = listed_few which r m n in
    let falls = merged_falls xs ys which r e in
    rw (merged_next xs ys which r e, length-append) (omega arith))
