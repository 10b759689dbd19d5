-- A loop through the items before the first refusal: going on from here gives what the whole gives.
-- Assumes nothing.
use mathlib.Core.Path.{◌≡◌, refl, sym, ap, ◌∙◌}
use mathlib.Core.List.{List, [], ◌∷◌, ◌++◌, append-nil}
use Prim.Native.Nat.{ℕ, zero, suc, ◌-◌, ◌≤◌, ◌<◌}
use native.Mathlib.Omega.{arith}
use lib.Seq.{append_snoc}
use Rattle.outcome.specs.Outcome.{Outcome, answer, refused}
use Rattle.items.specs.Items.{sound_from}
use Rattle.items.specs.declared.Step.{Step}
use Rattle.items.proofs.ItemsLaws.{sound_end, sound_step, sound_refused}

-- `run` goes through a list of items with a state
module _ {A S R : Type 0} (run : List A → S → R) (step : ℕ → Outcome (Step A)) (end : ℕ) (whole : R) where
  pub record Going (at : ℕ) (s : S) : Type 0 where
    pub fuel : ℕ
    pub enough : end - at ≤ fuel
    pub leads : whole ≡ run (sound_from step end fuel at) s

  pub going_start : (from : ℕ) (s : S) → whole ≡ run (sound_from step end (end - from) from) s → Going from s
  going_start from s e = record { fuel = end - from; enough = omega arith; leads = e }

  pub going_end : (at : ℕ) (s : S) → Going at s → end ≤ at → whole ≡ run [] s
  going_end at s g h = g.leads ∙ ap (λ (l : List A). run l s) (sound_end step end g.fuel at h)

  module _ (at : ℕ) (s : S) (before : at < end) where
    go_refused : (fuel : ℕ) → end - at ≤ fuel → (number place : ℕ) → step at ≡ refused number place → sound_from step end fuel at ≡ []
    go_refused zero enough number place e = absurd (omega arith)
    go_refused (suc fuel) enough number place e = sound_refused step end fuel at number place before e

    pub going_refused : Going at s → (number place : ℕ) → step at ≡ refused number place → whole ≡ run [] s
    going_refused g number place e = g.leads ∙ ap (λ (l : List A). run l s) (go_refused g.fuel g.enough number place e)

    -- the next item leads to another state
    pub going_more : Going at s → (x : Step A) → step at ≡ answer x → at < x.next → (next : S) → ((more : List A) → run (x.item ∷ more) s ≡ run more next) → Going x.next next
    going_more g x e forward next h = go g.fuel g.enough g.leads
      where
        go : (fuel : ℕ) → end - at ≤ fuel → whole ≡ run (sound_from step end fuel at) s → Going x.next next
        go zero enough leads = absurd (omega arith)
        go (suc fuel) enough leads =
            record {
              fuel = fuel;
              enough = omega arith;
              leads = leads ∙ ap (λ (l : List A). run l s) (sound_step step end fuel at x before e) ∙ h (sound_from step end fuel x.next);
            }

    -- the next item decides
    pub going_stop : Going at s → (x : Step A) → step at ≡ answer x → (r : R) → ((more : List A) → run (x.item ∷ more) s ≡ r) → whole ≡ r
    going_stop g x e r h = go g.fuel g.enough g.leads
      where
        go : (fuel : ℕ) → end - at ≤ fuel → whole ≡ run (sound_from step end fuel at) s → whole ≡ r
        go zero enough leads = absurd (omega arith)
        go (suc fuel) enough leads = leads ∙ ap (λ (l : List A). run l s) (sound_step step end fuel at x before e) ∙ h (sound_from step end fuel x.next)

-- ---- going on with the items seen

module _ {A : Type 0} (step : ℕ → Outcome (Step A)) (end : ℕ) where
  abbrev then_these : List A → List A → List A
  then_these rest seen = seen ++ rest

  -- going on at `at` after the items seen so far gives all items from `from` on
  abbrev pub SoundProgress : (from at : ℕ) → List A → Type 0
  SoundProgress from at seen = Going then_these step end (sound_from step end (end - from) from) at seen

  pub sound_progress_start : (from : ℕ) → SoundProgress from from []
  sound_progress_start from = going_start then_these step end _ from [] refl

  module _ (from at : ℕ) (seen : List A) (p : SoundProgress from at seen) where
    -- at the end, or at a refusal, all items are seen
    pub sound_progress_end : end ≤ at → sound_from step end (end - from) from ≡ seen
    sound_progress_end h = going_end then_these step end _ at seen p h ∙ append-nil seen

    pub sound_progress_refused : at < end → (number place : ℕ) → step at ≡ refused number place → sound_from step end (end - from) from ≡ seen
    sound_progress_refused h number place e = going_refused then_these step end _ at seen h p number place e ∙ append-nil seen

    module _ (s : Step A) (h : at < end) (e : step at ≡ answer s) (forward : at < s.next) where
      pub sound_progress_more : SoundProgress from s.next (seen ++ (s.item ∷ []))
      sound_progress_more = going_more then_these step end _ at seen h p s e forward (seen ++ (s.item ∷ [])) (λ more. sym (append_snoc seen s.item more))

      -- the item read here is the next one
      pub sound_progress_next : (rest : List A) × (sound_from step end (end - from) from ≡ seen ++ (s.item ∷ rest))
      sound_progress_next =
          let q = sound_progress_more in
          (sound_from step end q.fuel s.next, q.leads ∙ append_snoc seen s.item (sound_from step end q.fuel s.next))
