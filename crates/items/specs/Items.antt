-- Items that follow one another in a byte string: records or entries in a payload, blocks in a file.
use Rattle.std.specs.Prelude.{ℕ, zero, suc, cond, List, [], ◌∷◌, leb}
use Rattle.outcome.specs.Outcome.{Outcome, answer, refused, ◌>>=◌}
use Rattle.items.specs.declared.Step.{Step}

-- what is listed where there is an answer; after a refusal nothing
unfoldable pub where_answered : {A B : Type 0} → Outcome A → (A → List B) → List B
where_answered (answer a) listed = listed a
where_answered (refused number place) listed = []

module _ {A : Type 0} (step : ℕ → Outcome (Step A)) (end : ℕ) where
  -- the items from `at` to the end, each read where the one before it ends, or the first refusal; at most `fuel` items
  unfoldable pub items_from : (fuel at : ℕ) → Outcome (List A)
  items_from zero at = answer []
  items_from (suc fuel) at =
      cond (leb end at) (answer [])
      (step at >>= λ s. items_from fuel s.next >>= λ more. answer (s.item ∷ more))

  -- the items in front of the first refusal
  unfoldable pub sound_from : (fuel at : ℕ) → List A
  sound_from zero at = []
  sound_from (suc fuel) at =
      cond (leb end at) [] (where_answered (step at) (λ s. s.item ∷ sound_from fuel s.next))
