-- Laws of results that are handed on by `?`.
-- Assumes nothing.
use mathlib.Core.Path.{◌≡◌, refl}
use Prim.Native.Nat.{ℕ}
use Rattle.std.specs.Prelude.{Result, Err}
use Rattle.std.specs.Result.{IsErrAnd}
use Rattle.std.proofs.lemmas.Result.{err_from_is_err_and}
use Rattle.outcome.specs.Outcome.{refused}
use Rattle.outcome.specs.declared.Fault.{Fault}
use Rattle.outcome.specs.declared.Refusal.{Refusal}
use Rattle.outcome.specs.Fault.{number, at_front, said_at, said}

-- what was handed on
pub err_on : {A E : Type 0} (r : Result A E) (e : E) → IsErrAnd r (λ x. x ≡ e) → r ≡ Err e
err_on r e h = let p = err_from_is_err_and r h in rw (p.1, p.2) refl

-- a fault whose place the caller knows
pub fault_on : {A : Type 0} (place : ℕ) (r : Result A Fault) (f : Fault) → IsErrAnd r (λ x. x ≡ f) → said_at place r ≡ refused (number f) place
unfolding said_at
fault_on place r f h = let p = err_from_is_err_and r h in rw (p.1, p.2)

-- a refusal
pub refusal_on : {A : Type 0} (r : Result A Refusal) (e : Refusal) → IsErrAnd r (λ x. x ≡ e) → said r ≡ refused (number e.fault) e.place
unfolding said
refusal_on r e h = let p = err_from_is_err_and r h in rw (p.1, p.2)

-- a fault without a place of its own becomes a refusal
pub front_on : {A : Type 0} (r : Result A Refusal) (f : Fault) → IsErrAnd r (λ x. x ≡ at_front f) → said r ≡ refused (number f) 0
unfolding said at_front
front_on r f h = let p = err_from_is_err_and r h in rw (p.1, p.2)
