-- Laws of outcomes: when a chain of rules is answered, and with what it is refused.
-- Assumes nothing.
use mathlib.Core.Path.{◌≡◌, refl, ap, ◌∙◌}
use mathlib.Core.Bool.{Bool, true, false}
use Prim.Native.Nat.{ℕ}
use native.Mathlib.Omega.{arith}
use Rattle.outcome.specs.Outcome.{Outcome, answer, refused, ◌>>=◌, ◌>>◌, must}
use Rattle.outcome.specs.declared.Fault.{Fault}
use Rattle.outcome.specs.declared.Refusal.{Refusal}
use Rattle.std.specs.Prelude.{Result, Ok, Err}
use Rattle.outcome.specs.Fault.{number, said_at, said}

-- ---- constructors

pub answer_injective : {A : Type 0} (a b : A) → answer a ≡ answer b → a ≡ b
answer_injective a b e = cc

pub answer_not_refused : {A : Type 0} (a : A) (number place : ℕ) → answer a ≡ refused number place → ⊥
answer_not_refused a number place e = let z : ◌≡◌ {A = ℕ} 0 1 = cc in omega arith

pub refused_not_answer : {A : Type 0} (a : A) (number place : ℕ) → refused number place ≡ answer a → ⊥
refused_not_answer a number place e = let z : ◌≡◌ {A = ℕ} 0 1 = cc in omega arith

-- ---- one rule

pub must_kept : (b : Bool) (number place : ℕ) → b ≡ true → must b number place ≡ answer tt
unfolding must
must_kept b number place e = rw e

pub must_broken : (b : Bool) (number place : ℕ) → b ≡ false → must b number place ≡ refused number place
unfolding must
must_broken b number place e = rw e

-- a rule with an answer is kept
pub must⁻¹ : (b : Bool) (number place : ℕ) → must b number place ≡ answer tt → b ≡ true
unfolding must
must⁻¹ true number place e = refl
must⁻¹ false number place e = absurd (refused_not_answer tt number place e)

-- a rule that is kept is passed over; one that is broken decides
pub kept : {A : Type 0} (b : Bool) (number place : ℕ) (o : Outcome A) → b ≡ true → (must b number place >> o) ≡ o
unfolding must ◌>>◌
kept b number place o e = rw e

pub broken : {A : Type 0} (b : Bool) (number place : ℕ) (o : Outcome A) → b ≡ false → (must b number place >> o) ≡ refused number place
unfolding must ◌>>◌
broken b number place o e = rw e

-- an answer after a rule says that the rule is kept
pub kept⁻¹ : {A : Type 0} (b : Bool) (number place : ℕ) (o : Outcome A) (a : A) → (must b number place >> o) ≡ answer a → (b ≡ true) × (o ≡ answer a)
unfolding must ◌>>◌
kept⁻¹ true number place o a e = (refl, e)
kept⁻¹ false number place o a e = absurd (refused_not_answer a number place e)

-- ---- going on

pub bind_answer : {A B : Type 0} (o : Outcome A) (next : A → Outcome B) (a : A) → o ≡ answer a → (o >>= next) ≡ next a
unfolding ◌>>=◌
bind_answer o next a e = rw e

pub bind_refused : {A B : Type 0} (o : Outcome A) (next : A → Outcome B) (number place : ℕ) → o ≡ refused number place → (o >>= next) ≡ refused number place
unfolding ◌>>=◌
bind_refused o next number place e = rw e

pub after_answer : {A B : Type 0} (o : Outcome A) (next : Outcome B) (a : A) → o ≡ answer a → (o >> next) ≡ next
unfolding ◌>>◌
after_answer o next a e = rw e

pub after_refused : {A B : Type 0} (o : Outcome A) (next : Outcome B) (number place : ℕ) → o ≡ refused number place → (o >> next) ≡ refused number place
unfolding ◌>>◌
after_refused o next number place e = rw e

pub after_assoc : {A B C : Type 0} (o : Outcome A) (p : Outcome B) (q : Outcome C) → (o >> (p >> q)) ≡ (o >> p >> q)
unfolding ◌>>◌
after_assoc (answer a) p q = refl
after_assoc (refused number place) p q = refl

pub after_bind : {A B C : Type 0} (o : Outcome A) (p : Outcome B) (f : B → Outcome C) → (o >> p >>= f) ≡ (o >> (p >>= f))
unfolding ◌>>=◌ ◌>>◌
after_bind (answer a) p f = refl
after_bind (refused number place) p f = refl

-- an answer after a stage says that the stage is passed
pub passed⁻¹ : {A : Type 0} (o : Outcome (Unit {0})) (next : Outcome A) (a : A) → (o >> next) ≡ answer a → (o ≡ answer tt) × (next ≡ answer a)
unfolding ◌>>◌
passed⁻¹ (answer u) next a e = (refl, e)
passed⁻¹ (refused number place) next a e = absurd (refused_not_answer a number place e)

-- an answer in the end says that there was one before
pub bind⁻¹ : {A B : Type 0} (o : Outcome A) (next : A → Outcome B) (b : B) → (o >>= next) ≡ answer b → (a : A) × (o ≡ answer a) × (next a ≡ answer b)
unfolding ◌>>=◌
bind⁻¹ (answer a) next b e = (a, refl, e)
bind⁻¹ (refused number place) next b e = absurd (refused_not_answer b number place e)

pub bind_assoc : {A B C : Type 0} (o : Outcome A) (f : A → Outcome B) (g : B → Outcome C) → (o >>= f >>= g) ≡ (o >>= λ a. f a >>= g)
unfolding ◌>>=◌
bind_assoc (answer a) f g = refl
bind_assoc (refused number place) f g = refl

pub bind_right : {A B : Type 0} (o : Outcome A) (f g : A → Outcome B) → ((a : A) → f a ≡ g a) → (o >>= f) ≡ (o >>= g)
unfolding ◌>>=◌
bind_right (answer a) f g h = h a
bind_right (refused number place) f g h = refl

-- a refusal in the end, where only the answer is changed, is a refusal before
pub map_refused⁻¹ : {A B : Type 0} (o : Outcome A) (f : A → B) (number place : ℕ) → (o >>= λ a. answer (f a)) ≡ refused number place → o ≡ refused number place
unfolding ◌>>=◌
map_refused⁻¹ (answer a) f number place e = absurd (answer_not_refused (f a) number place e)
map_refused⁻¹ (refused n p) f number place e = cc

-- outcomes that agree, followed by what agrees wherever there is an answer
pub bind_same : {A B : Type 0} (o p : Outcome A) (f g : A → Outcome B) → o ≡ p → ((a : A) → o ≡ answer a → f a ≡ g a) → (o >>= f) ≡ (p >>= g)
unfolding ◌>>=◌
bind_same (answer a) p f g e h = h a refl ∙ ap (λ o. o >>= g) e
bind_same (refused number place) p f g e h = ap (λ o. o >>= g) e

-- and where a stage is passed, what follows it
pub after_same : {B : Type 0} (o : Outcome (Unit {0})) (p q : Outcome B) → (o ≡ answer tt → p ≡ q) → (o >> p) ≡ (o >> q)
unfolding ◌>>◌
after_same (answer u) p q h = h refl
after_same (refused number place) p q h = refl

-- ---- what a result says

pub says_answer : {A : Type 0} (place : ℕ) (r : Result A Fault) (a : A) → r ≡ Ok a → said_at place r ≡ answer a
unfolding said_at
says_answer place r a e = rw e

pub says_fault : {A : Type 0} (place : ℕ) (r : Result A Fault) (f : Fault) → r ≡ Err f → said_at place r ≡ refused (number f) place
unfolding said_at
says_fault place r f e = rw e

pub says_done : {A : Type 0} (r : Result A Refusal) (a : A) → r ≡ Ok a → said r ≡ answer a
unfolding said
says_done r a e = rw e

pub says_refusal : {A : Type 0} (r : Result A Refusal) (f : Refusal) → r ≡ Err f → said r ≡ refused (number f.fault) f.place
unfolding said
says_refusal r f e = rw e
