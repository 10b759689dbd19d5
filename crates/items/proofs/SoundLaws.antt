-- Laws of the items in front of the first refusal, one at a time: fuel that is enough has no influence, nor has what a refusal says.
-- Assumes nothing.
use mathlib.Core.Path.{◌≡◌, refl, sym, ap, ◌∙◌}
use mathlib.Core.Bool.{Bool, true, false}
use mathlib.Core.List.{List, [], ◌∷◌}
use Prim.Native.Nat.{ℕ, zero, suc, ◌-◌, ◌≤◌, ◌<◌}
use native.Mathlib.Omega.{arith}
use lib.Dec.{leb}
use borrow.Author.Tests.{leb-true, leb-false}
use Rattle.outcome.specs.Outcome.{Outcome, answer, refused}
use Rattle.outcome.proofs.OutcomeLaws.{refused_not_answer}
use Rattle.items.specs.Items.{sound_from}
use Rattle.items.specs.declared.Step.{Step}
use Rattle.items.proofs.ItemsLaws.{sound_end, sound_step, sound_refused}

-- two ways to read that give the same answers give the same items
module _ {A : Type 0} (step other : ℕ → Outcome (Step A)) (end : ℕ) (forward : (at : ℕ) (s : Step A) → step at ≡ answer s → at < s.next)
    (to : (at : ℕ) (s : Step A) → step at ≡ answer s → other at ≡ answer s) (back : (at : ℕ) (s : Step A) → other at ≡ answer s → step at ≡ answer s) where
  pub sound_same : (fuel more at : ℕ) → end - at ≤ fuel → end - at ≤ more → sound_from step end fuel at ≡ sound_from other end more at
  sound_same zero more at h k = sound_end step end 0 at (omega arith) ∙ sym (sound_end other end more at (omega arith))
  sound_same (suc fuel) more at h k = by_end (leb end at) refl (λ (n a : ℕ). sound_same fuel n a)
    where
      Rest : Type 0
      Rest = (n a : ℕ) → end - a ≤ fuel → end - a ≤ n → sound_from step end fuel a ≡ sound_from other end n a

      stepped : (n : ℕ) → end - at ≤ n → at < end → (o p : Outcome (Step A)) → step at ≡ o → other at ≡ p → Rest
          → sound_from step end (suc fuel) at ≡ sound_from other end n at
      stepped zero l before o p e f rest = absurd (omega arith)
      stepped (suc n) l before (answer s) p e f rest =
          let onward = forward at s e in
          sound_step step end fuel at s before e ∙ ap (λ (xs : List A). s.item ∷ xs) (rest n s.next (omega arith) (omega arith))
          ∙ sym (sound_step other end n at s before (to at s e))
      stepped (suc n) l before (refused number place) (answer s) e f rest = absurd (refused_not_answer s number place (sym e ∙ back at s f))
      stepped (suc n) l before (refused number place) (refused m q) e f rest =
          sound_refused step end fuel at number place before e ∙ sym (sound_refused other end n at m q before f)

      by_end : (b : Bool) → leb end at ≡ b → Rest → sound_from step end (suc fuel) at ≡ sound_from other end more at
      by_end true e rest = sound_end step end (suc fuel) at (leb-true end at e) ∙ sym (sound_end other end more at (leb-true end at e))
      by_end false e rest = stepped more k (leb-false end at e) (step at) (other at) refl refl rest

module _ {A : Type 0} (step : ℕ → Outcome (Step A)) (end : ℕ) where
  -- the first item, and those after it
  pub sound_first : ((at : ℕ) (s : Step A) → step at ≡ answer s → at < s.next) → (at : ℕ) (s : Step A) → at < end → step at ≡ answer s
      → sound_from step end (end - at) at ≡ s.item ∷ sound_from step end (end - s.next) s.next
  sound_first forward at s before e =
      let onward = forward at s e in
      sound_same step step end forward (λ a x h. h) (λ a x h. h) (end - at) (suc (end - at)) at (omega arith) (omega arith)
      ∙ sound_step step end (end - at) at s before e
      ∙ ap (λ (xs : List A). s.item ∷ xs)
      (sound_same step step end forward (λ a x h. h) (λ a x h. h) (end - at) (end - s.next) s.next (omega arith) (omega arith))

  -- none before a refusal
  pub sound_none : (at number place : ℕ) → step at ≡ refused number place → sound_from step end (end - at) at ≡ []
  sound_none at number place e = go (end - at) (leb end at) refl (omega arith)
    where
      go : (fuel : ℕ) (b : Bool) → leb end at ≡ b → end - at ≤ fuel → sound_from step end fuel at ≡ []
      go fuel true h enough = sound_end step end fuel at (leb-true end at h)
      go zero false h enough = let before = leb-false end at h in absurd (omega arith)
      go (suc fuel) false h enough = sound_refused step end fuel at number place (leb-false end at h) e
