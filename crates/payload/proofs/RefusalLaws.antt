-- Which numbers a record, an entry and a payload are refused with.
-- Assumes nothing.
use mathlib.Core.List.{List}
use Prim.Native.Nat.{ℕ, ◌-◌}
use Rattle.outcome.specs.Outcome.{Outcome}
use Rattle.outcome.proofs.RefusalLaws.{Refuses, refuses_answer, refuses_bind, refuses_rule}
use Rattle.items.specs.Items.{items_from}
use Rattle.items.specs.declared.Step.{Step}
use Rattle.items.proofs.RefusalItemsLaws.{refuses_items}
use Rattle.framing.specs.Frame.{number_at}
use Rattle.framing.proofs.RefusalLaws.{number_refuses}
use Rattle.payload.specs.Payload.{Text, text_at, entry_at, entry_sized, payload_at}

module _ (Kind : ℕ → Type 0) (k11 : Kind 11) (k12 : Kind 12) (k15 : Kind 15) where
  pub text_refuses : (place : ℕ) (s : List ℕ) (at : ℕ) → Refuses Kind (text_at place s at)
  unfolding text_at
  text_refuses place s at =
      refuses_bind Kind (number_at 15 place s at) _ (number_refuses Kind k11 k12 15 place s at k15)
      (λ n. refuses_rule Kind _ 15 place _ k15 (refuses_answer Kind _))

  pub entry_refuses : (place : ℕ) (s : List ℕ) (at : ℕ) → Refuses Kind (entry_at place s at)
  unfolding entry_at entry_sized
  entry_refuses place s at =
      refuses_bind Kind (text_at place s at) _ (text_refuses place s at)
      (λ key. refuses_bind Kind (number_at 15 place s key.next) _ (number_refuses Kind k11 k12 15 place s key.next k15)
      (λ offset. refuses_bind Kind (number_at 15 place s offset.next) _ (number_refuses Kind k11 k12 15 place s offset.next k15)
      (λ size. refuses_answer Kind _)))

  pub payload_refuses : {A : Type 0} (step : ℕ → Outcome (Step A)) (text_of : A → Text) (unsorted place end at : ℕ) → Kind unsorted
      → ((a : ℕ) → Refuses Kind (step a)) → Refuses Kind (payload_at step text_of unsorted place end at)
  unfolding payload_at
  payload_refuses step text_of unsorted place end at k h =
      refuses_rule Kind _ 15 place _ k15
      (refuses_bind Kind (items_from step end (end - at) at) _ (refuses_items Kind step end h (end - at) at)
      (λ xs. refuses_rule Kind _ unsorted place _ k (refuses_answer Kind xs)))
