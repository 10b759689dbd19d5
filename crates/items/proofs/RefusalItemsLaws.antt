-- Which numbers a list of items is refused with.
-- Assumes nothing.
use mathlib.Core.Path.{◌≡◌, refl, sym, subst}
use mathlib.Core.Bool.{Bool, true, false}
use mathlib.Core.List.{[], ◌∷◌}
use Prim.Native.Nat.{ℕ, zero, suc}
use lib.Dec.{leb}
use borrow.Author.Tests.{leb-true}
use Rattle.outcome.specs.Outcome.{Outcome, answer, ◌>>=◌}
use Rattle.outcome.proofs.RefusalLaws.{Refuses, refuses_answer, refuses_bind}
use Rattle.items.specs.Items.{items_from}
use Rattle.items.specs.declared.Step.{Step}
use Rattle.items.proofs.ItemsLaws.{items_end_lem}

pub refuses_items : (Kind : ℕ → Type 0) {A : Type 0} (step : ℕ → Outcome (Step A)) (end : ℕ) → ((at : ℕ) → Refuses Kind (step at)) → (fuel at : ℕ)
    → Refuses Kind (items_from step end fuel at)
unfolding items_from
refuses_items Kind step end h zero at = refuses_answer Kind []
refuses_items Kind {A} step end h (suc fuel) at = go (leb end at) refl (λ (a : ℕ). refuses_items Kind step end h fuel a)
  where
    go : (b : Bool) → leb end at ≡ b → ((a : ℕ) → Refuses Kind (items_from step end fuel a)) → Refuses Kind (items_from step end (suc fuel) at)
    go true e rest = subst (Refuses Kind) (sym (items_end_lem step end (suc fuel) at (leb-true end at e))) (refuses_answer Kind [])
    go false e rest =
        subst (Refuses Kind) (sym same)
        (refuses_bind Kind (step at) _ (h at)
        (λ s. refuses_bind Kind (items_from step end fuel s.next) _ (rest s.next) (λ more. refuses_answer Kind (s.item ∷ more))))
      where
        same : items_from step end (suc fuel) at ≡ (step at >>= λ s. items_from step end fuel s.next >>= λ more. answer (s.item ∷ more))
        same = rw e
