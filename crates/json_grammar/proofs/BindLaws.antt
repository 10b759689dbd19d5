-- Laws of going on with what is left, and of going on by a test.
-- Assumes nothing.
use Prim.Native.Nat.{ℕ}
use mathlib.Core.Path.{◌≡◌, refl}
use mathlib.Core.Bool.{Bool, true, false, cond}
use mathlib.Core.List.{List}
use mathlib.Core.Option.{Option, none, some}
use native.Mathlib.Omega.{arith}
use Rattle.json_grammar.specs.Recogniser.{◌>>=◌}

pub some_injective : (s t : List ℕ) → some s ≡ some t → s ≡ t
some_injective s t e = cc

pub none_not_some : (s : List ℕ) → none ≡ some s → ⊥
none_not_some s e = let z : ◌≡◌ {A = ℕ} 0 1 = cc in omega arith

pub bind_some : (o : Option (List ℕ)) (next : List ℕ → Option (List ℕ)) (s : List ℕ) → o ≡ some s → (o >>= next) ≡ next s
unfolding ◌>>=◌
bind_some o next s e = rw e

pub bind_none : (o : Option (List ℕ)) (next : List ℕ → Option (List ℕ)) → o ≡ none → (o >>= next) ≡ none
unfolding ◌>>=◌
bind_none o next e = rw e

pub bind_same : (o : Option (List ℕ)) (f g : List ℕ → Option (List ℕ)) → ((s : List ℕ) → o ≡ some s → f s ≡ g s) → (o >>= f) ≡ (o >>= g)
unfolding ◌>>=◌
bind_same none f g same = refl
bind_same (some s) f g same = same s refl

pub bind⁻¹ : (o : Option (List ℕ)) (next : List ℕ → Option (List ℕ)) (r : List ℕ) → (o >>= next) ≡ some r
    → (s : List ℕ) × (o ≡ some s) × (next s ≡ some r)
unfolding ◌>>=◌
bind⁻¹ none next r e = absurd (none_not_some r e)
bind⁻¹ (some s) next r e = (s, refl, e)

-- by a test, both ways
pub by_cond : {A : Type 0} (b : Bool) (x y : Option (List ℕ)) (r : List ℕ) → cond b x y ≡ some r → (b ≡ true → x ≡ some r → A)
    → (b ≡ false → y ≡ some r → A) → A
by_cond true x y r e then else = then refl e
by_cond false x y r e then else = else refl e

-- a test that has to hold
pub only⁻¹ : (b : Bool) (x : Option (List ℕ)) (r : List ℕ) → cond b x none ≡ some r → (b ≡ true) × (x ≡ some r)
only⁻¹ true x r e = (refl, e)
only⁻¹ false x r e = absurd (none_not_some r e)
