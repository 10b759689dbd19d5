-- Which numbers an outcome is refused with.
-- Assumes nothing.
use mathlib.Core.Path.{◌≡◌, refl, subst}
use mathlib.Core.Bool.{Bool, true, false}
use Prim.Native.Nat.{ℕ}
use Rattle.outcome.specs.Outcome.{Outcome, answer, refused, ◌>>=◌, ◌>>◌, must}
use Rattle.outcome.proofs.OutcomeLaws.{answer_not_refused}

-- every refusal has a number of this kind
pub record Refuses {A : Type 0} (Kind : ℕ → Type 0) (o : Outcome A) : Type 0 where
  pub among : (n p : ℕ) → o ≡ refused n p → Kind n

-- another kind that these numbers are of
pub refuses_more : {A : Type 0} (Kind Other : ℕ → Type 0) (o : Outcome A) → ((n : ℕ) → Kind n → Other n) → Refuses Kind o → Refuses Other o
refuses_more Kind Other o h r = record { among = λ n p e. h n (r.among n p e) }

module _ (Kind : ℕ → Type 0) where
  pub refuses_answer : {A : Type 0} (a : A) → Refuses Kind (answer a)
  refuses_answer a = record { among = λ n p e. absurd (answer_not_refused a n p e) }

  pub refuses_refused : {A : Type 0} (number place : ℕ) → Kind number → Refuses {A = A} Kind (refused number place)
  refuses_refused {A} number place k = record { among = λ n p e. subst Kind (same n p e) k }
    where
      same : (n p : ℕ) → ◌≡◌ {A = Outcome A} (refused number place) (refused n p) → number ≡ n
      same n p e = cc

  -- a rule
  pub refuses_must : (b : Bool) (number place : ℕ) → Kind number → Refuses Kind (must b number place)
  unfolding must
  refuses_must true number place k = refuses_answer tt
  refuses_must false number place k = refuses_refused number place k

  -- one after the other
  pub refuses_stage : {A B : Type 0} (o : Outcome A) (next : Outcome B) → Refuses Kind o → Refuses Kind next → Refuses Kind (o >> next)
  unfolding ◌>>◌
  refuses_stage (answer a) next r s = s
  refuses_stage (refused number place) next r s = refuses_refused number place (r.among number place refl)

  pub refuses_bind : {A B : Type 0} (o : Outcome A) (next : A → Outcome B) → Refuses Kind o → ((a : A) → Refuses Kind (next a)) → Refuses Kind (o >>= next)
  unfolding ◌>>=◌
  refuses_bind (answer a) next r s = s a
  refuses_bind (refused number place) next r s = refuses_refused number place (r.among number place refl)

  pub refuses_rule : {A : Type 0} (b : Bool) (number place : ℕ) (next : Outcome A) → Kind number → Refuses Kind next
      → Refuses Kind (must b number place >> next)
  refuses_rule b number place next k r = refuses_stage (must b number place) next (refuses_must b number place k) r
