-- Laws of items that follow one another, and of a loop that goes through them.
-- Assumes nothing.
use mathlib.Core.Path.{◌≡◌, refl, sym, ap, ◌∙◌, subst}
use mathlib.Core.Bool.{Bool, true, false, cond}
use mathlib.Core.List.{List, [], ◌∷◌, ◌++◌, append-nil}
use Prim.Native.Nat.{ℕ, zero, suc, ◌-◌, ◌≤◌, ◌<◌}
use native.Mathlib.Omega.{arith}
use lib.Dec.{leb}
use lib.ListN.{length}
use lib.Seq.{append_snoc}
use borrow.Author.Tests.{le-leb, lt-leb, leb-true, leb-false}
use Rattle.outcome.specs.Outcome.{Outcome, answer, refused, ◌>>=◌}
use Rattle.items.specs.Items.{items_from, sound_from, where_answered}
use Rattle.items.specs.declared.Step.{Step}
use Rattle.outcome.proofs.OutcomeLaws.{bind⁻¹, bind_answer, bind_same, bind_assoc, bind_right, answer_injective, refused_not_answer}

module _ {A : Type 0} (step : ℕ → Outcome (Step A)) (end : ℕ) where
  -- ---- one item at a time

  pub items_end_lem : (fuel at : ℕ) → end ≤ at → items_from step end fuel at ≡ answer []
  unfolding items_from
  items_end_lem zero at h = refl
  items_end_lem (suc fuel) at h = rw (le-leb end at h)

  pub items_step : (fuel at : ℕ) (s : Step A) → at < end → step at ≡ answer s
      → items_from step end (suc fuel) at ≡ (items_from step end fuel s.next >>= λ more. answer (s.item ∷ more))
  unfolding items_from ◌>>=◌
  items_step fuel at s h e = rw (lt-leb end at h, e)

  pub items_refused : (fuel at number place : ℕ) → at < end → step at ≡ refused number place → items_from step end (suc fuel) at ≡ refused number place
  unfolding items_from ◌>>=◌
  items_refused fuel at number place h e = rw (lt-leb end at h, e)

  pub sound_end : (fuel at : ℕ) → end ≤ at → sound_from step end fuel at ≡ []
  unfolding sound_from
  sound_end zero at h = refl
  sound_end (suc fuel) at h = rw (le-leb end at h)

  pub sound_step : (fuel at : ℕ) (s : Step A) → at < end → step at ≡ answer s → sound_from step end (suc fuel) at ≡ s.item ∷ sound_from step end fuel s.next
  unfolding sound_from where_answered
  sound_step fuel at s h e = rw (lt-leb end at h, e)

  pub sound_refused : (fuel at number place : ℕ) → at < end → step at ≡ refused number place → sound_from step end (suc fuel) at ≡ []
  unfolding sound_from where_answered
  sound_refused fuel at number place h e = rw (lt-leb end at h, e)

  -- ---- taking apart

  -- how items that were all read begin
  pub data Read (fuel at : ℕ) : List A → Type 0 where
    at_end : end ≤ at → Read fuel at []
    one_more : (s : Step A) (more : List A) → at < end → step at ≡ answer s → items_from step end fuel s.next ≡ answer more → Read fuel at (s.item ∷ more)

  pub items⁻¹ : (fuel at : ℕ) (xs : List A) → items_from step end (suc fuel) at ≡ answer xs → Read fuel at xs
  items⁻¹ fuel at xs e = by_end (leb end at) refl
    where
      read : (ys : List A) → Read fuel at ys → ys ≡ xs → Read fuel at xs
      read ys r same = subst (Read fuel at) same r

      stepped : (o : Outcome (Step A)) → step at ≡ o → at < end → Read fuel at xs
      stepped (answer s) p h =
          let all = bind⁻¹ (items_from step end fuel s.next) (λ more. answer (s.item ∷ more)) xs (sym (items_step fuel at s h p) ∙ e) in
          read (s.item ∷ all.0) (one_more s all.0 h p all.1) (answer_injective (s.item ∷ all.0) xs all.2)
      stepped (refused number place) p h = absurd (refused_not_answer xs number place (sym (items_refused fuel at number place h p) ∙ e))

      by_end : (b : Bool) → leb end at ≡ b → Read fuel at xs
      by_end true p =
          let h = leb-true end at p in
          read [] (at_end h) (answer_injective [] xs (sym (items_end_lem (suc fuel) at h) ∙ e))
      by_end false p = stepped (step at) refl (leb-false end at p)

  -- ---- a loop that goes through the items

  -- Going on at `at` with the items seen so far gives what going through all items from `from` gives.
  pub record Progress (from at : ℕ) (seen : List A) : Type 0 where
    pub fuel : ℕ
    pub enough : end - at ≤ fuel
    pub leads : items_from step end (end - from) from ≡ (items_from step end fuel at >>= λ more. answer (seen ++ more))

  pub progress_start : (from : ℕ) → Progress from from []
  unfolding ◌>>=◌
  progress_start from = record { fuel = end - from; enough = omega arith; leads = same (items_from step end (end - from) from) }
    where
      same : (o : Outcome (List A)) → o ≡ (o >>= λ more. answer ([] ++ more))
      same (answer xs) = refl
      same (refused number place) = refl

  joined : (seen : List A) (x : A) (more : List A)
      → ◌≡◌ {A = Outcome (List A)} (answer (x ∷ more) >>= λ rest. answer (seen ++ rest)) (answer (seen ++ (x ∷ []) ++ more))
  unfolding ◌>>=◌
  joined seen x more = ap answer (sym (append_snoc seen x more))

  pub progress_more : (from at : ℕ) (seen : List A) (s : Step A) → Progress from at seen → at < end → step at ≡ answer s → at < s.next
      → Progress from s.next (seen ++ (s.item ∷ []))
  progress_more from at seen s p h e forward = more p.fuel p.enough p.leads
    where
      more : (fuel : ℕ) → end - at ≤ fuel → items_from step end (end - from) from ≡ (items_from step end fuel at >>= λ more. answer (seen ++ more))
          → Progress from s.next (seen ++ (s.item ∷ []))
      more zero enough leads = absurd (omega arith)
      more (suc fuel) enough leads =
          record {
            fuel = fuel;
            enough = omega arith;
            leads =
                leads
                ∙ ap (λ (o : Outcome (List A)). o >>= λ more. answer (seen ++ more)) (items_step fuel at s h e)
                ∙ bind_assoc (items_from step end fuel s.next) (λ more. answer (s.item ∷ more)) (λ more. answer (seen ++ more))
                ∙ bind_right (items_from step end fuel s.next) _ _ (joined seen s.item);
          }

  pub progress_end : (from at : ℕ) (seen : List A) → Progress from at seen → end ≤ at → items_from step end (end - from) from ≡ answer seen
  unfolding ◌>>=◌
  progress_end from at seen p h =
      p.leads
      ∙ ap (λ (o : Outcome (List A)). o >>= λ more. answer (seen ++ more)) (items_end_lem p.fuel at h)
      ∙ ap answer (append-nil seen)

  pub progress_refused : (from at number place : ℕ) (seen : List A) → Progress from at seen → at < end → step at ≡ refused number place
      → items_from step end (end - from) from ≡ refused number place
  unfolding ◌>>=◌
  progress_refused from at number place seen p h e = go p.fuel p.enough p.leads
    where
      go : (fuel : ℕ) → end - at ≤ fuel → items_from step end (end - from) from ≡ (items_from step end fuel at >>= λ more. answer (seen ++ more))
          → items_from step end (end - from) from ≡ refused number place
      go zero enough leads = absurd (omega arith)
      go (suc fuel) enough leads = leads ∙ ap (λ (o : Outcome (List A)). o >>= λ more. answer (seen ++ more)) (items_refused fuel at number place h e)

  -- ---- items in a row

  -- items from `at` to the end, each read where the one before it ends
  pub data Row : ℕ → List A → Type 0 where
    row_end : {at : ℕ} → end ≤ at → Row at []
    row_more : {at : ℕ} (s : Step A) (more : List A) → at < end → step at ≡ answer s → Row s.next more → Row at (s.item ∷ more)

  -- a row of items that begins before the end has an item
  pub row_some : (at : ℕ) (xs : List A) → Row at xs → at < end → 0 < length xs
  row_some at xs (row_end h) before = absurd (omega arith)
  row_some at xs (row_more s more h e r) before = omega arith

  module _ (forward : (at : ℕ) (s : Step A) → step at ≡ answer s → at < s.next) where
    -- with enough fuel the items that are all read are the row
    pub items⇒row : (fuel at : ℕ) (xs : List A) → end - at ≤ fuel → items_from step end fuel at ≡ answer xs → Row at xs
    unfolding items_from
    items⇒row zero at xs enough e = subst (Row at) (answer_injective [] xs e) (row_end (omega arith))
    items⇒row (suc fuel) at xs enough e = go xs (items⁻¹ fuel at xs e) (λ (s : Step A) (more : List A). items⇒row fuel s.next more)
      where
        go : (ys : List A) → Read fuel at ys
            → ((s : Step A) (more : List A) → end - s.next ≤ fuel → items_from step end fuel s.next ≡ answer more → Row s.next more) → Row at ys
        go ys (at_end h) rest = row_end h
        go ys (one_more s more h p q) rest = let f = forward at s p in row_more s more h p (rest s more (omega arith) q)

    pub row⇒items : (at : ℕ) (xs : List A) → Row at xs → (fuel : ℕ) → end - at ≤ fuel → items_from step end fuel at ≡ answer xs
    row⇒items at xs (row_end h) fuel enough = items_end_lem fuel at h
    row⇒items at xs (row_more s more h e r) zero enough = absurd (omega arith)
    row⇒items at xs (row_more s more h e r) (suc fuel) enough =
        let f = forward at s e in
        items_step fuel at s h e ∙ bind_answer (items_from step end fuel s.next) _ more (row⇒items s.next more r fuel (omega arith))

-- ---- two ways to read

-- where one way answers what the other answers, it reads the same row
pub row_change : {A : Type 0} (step other : ℕ → Outcome (Step A)) (end : ℕ) → ((at : ℕ) (s : Step A) → step at ≡ answer s → other at ≡ answer s)
    → (at : ℕ) (xs : List A) → Row step end at xs → Row other end at xs
row_change step other end same at xs (row_end h) = row_end h
row_change step other end same at xs (row_more s more h e r) = row_more s more h (same at s e) (row_change step other end same s.next more r)

-- and the same items, in front of its first refusal
pub items⇒sound_same : {A : Type 0} (step other : ℕ → Outcome (Step A)) (end : ℕ) → ((at : ℕ) (s : Step A) → step at ≡ answer s → other at ≡ answer s)
    → (fuel at : ℕ) (xs : List A) → items_from step end fuel at ≡ answer xs → sound_from other end fuel at ≡ xs
unfolding items_from sound_from
items⇒sound_same step other end same zero at xs e = answer_injective [] xs e
items⇒sound_same {A} step other end same (suc fuel) at xs e =
    go xs (items⁻¹ step end fuel at xs e) (λ (s : Step A) (more : List A). items⇒sound_same step other end same fuel s.next more)
  where
    go : (ys : List A) → Read step end fuel at ys
        → ((s : Step A) (more : List A) → items_from step end fuel s.next ≡ answer more → sound_from other end fuel s.next ≡ more)
        → sound_from other end (suc fuel) at ≡ ys
    go ys (at_end h) rest = sound_end other end (suc fuel) at h
    go ys (one_more s more h p r) rest = sound_step other end fuel at s h (same at s p) ∙ ap (λ (l : List A). s.item ∷ l) (rest s more r)

-- the items that are all read are those in front of the first refusal
pub items⇒sound : {A : Type 0} (step : ℕ → Outcome (Step A)) (end fuel at : ℕ) (xs : List A) → items_from step end fuel at ≡ answer xs
    → sound_from step end fuel at ≡ xs
items⇒sound step end fuel at xs e = items⇒sound_same step step end (λ a s p. p) fuel at xs e

-- there are at most as many items as the fuel
pub sound_few : {A : Type 0} (step : ℕ → Outcome (Step A)) (end fuel at : ℕ) → length (sound_from step end fuel at) ≤ fuel
unfolding sound_from where_answered
sound_few step end zero at = omega arith
sound_few step end (suc fuel) at = by_end (leb end at) (by_step (step at) (λ next. sound_few step end fuel next))
  where
    by_step : (o : Outcome (Step _)) → ((next : ℕ) → length (sound_from step end fuel next) ≤ fuel)
        → length (where_answered o (λ s. s.item ∷ sound_from step end fuel s.next)) ≤ suc fuel
    by_step (answer s) rest = let few = rest s.next in omega arith
    by_step (refused number place) rest = omega arith

    by_end : (b : Bool) → length (where_answered (step at) (λ s. s.item ∷ sound_from step end fuel s.next)) ≤ suc fuel
        → length (cond b [] (where_answered (step at) (λ s. s.item ∷ sound_from step end fuel s.next))) ≤ suc fuel
    by_end true few = omega arith
    by_end false few = few

pub items_length : {A : Type 0} (step : ℕ → Outcome (Step A)) (end fuel at : ℕ) (xs : List A) → items_from step end fuel at ≡ answer xs → length xs ≤ fuel
items_length {A} step end fuel at xs e = subst (λ (l : List A). length l ≤ fuel) (items⇒sound step end fuel at xs e) (sound_few step end fuel at)

-- two ways to read that agree from an offset on read the same items from there on, or refuse the same
module _ {A : Type 0} (step other : ℕ → Outcome (Step A)) (end from : ℕ) (forward : (at : ℕ) (s : Step A) → step at ≡ answer s → at < s.next)
    (same : (at : ℕ) → from ≤ at → step at ≡ other at) where
  pub items_agree : (fuel at : ℕ) → from ≤ at → items_from step end fuel at ≡ items_from other end fuel at
  unfolding items_from
  items_agree zero at h = refl
  items_agree (suc fuel) at h = go (λ (a : ℕ). items_agree fuel a)
    where
      go : ((a : ℕ) → from ≤ a → items_from step end fuel a ≡ items_from other end fuel a) → items_from step end (suc fuel) at ≡ items_from other end (suc fuel) at
      go rest =
          ap (cond (leb end at) (answer []))
          (bind_same (step at) (other at) _ _ (same at h)
          (λ s e. let f = forward at s e in
          ap (λ (o : Outcome (List A)). o >>= λ more. answer (s.item ∷ more)) (rest s.next (omega arith))))

  listed_same : (o p : Outcome (Step A)) (f g : Step A → List A) → o ≡ p → ((s : Step A) → o ≡ answer s → f s ≡ g s) → where_answered o f ≡ where_answered p g
  unfolding where_answered
  listed_same (answer s) p f g e h = h s refl ∙ ap (λ (o : Outcome (Step A)). where_answered o g) e
  listed_same (refused number place) p f g e h = ap (λ (o : Outcome (Step A)). where_answered o g) e

  pub sound_agree : (fuel at : ℕ) → from ≤ at → sound_from step end fuel at ≡ sound_from other end fuel at
  unfolding sound_from
  sound_agree zero at h = refl
  sound_agree (suc fuel) at h = go (λ (a : ℕ). sound_agree fuel a)
    where
      go : ((a : ℕ) → from ≤ a → sound_from step end fuel a ≡ sound_from other end fuel a) → sound_from step end (suc fuel) at ≡ sound_from other end (suc fuel) at
      go rest =
          ap (cond (leb end at) [])
          (listed_same (step at) (other at) _ _ (same at h) (λ s e. let f = forward at s e in ap (λ (l : List A). s.item ∷ l) (rest s.next (omega arith))))
