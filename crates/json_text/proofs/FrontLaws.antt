-- Laws of what is left after the bytes at the front that pass a test, and of going on with it.
-- Assumes nothing.
use Rattle.std.proofs.Common.{◌≡◌, ℕ, ◌-◌, ◌<◌, ◌≤◌, length, Bool, true, false, ◌&&◌, cond, List, [], ◌∷◌, take, drop, get_or, refl, arith}
use Rattle.std.proofs.lemmas.Grind.{common_steps}
use Rattle.std.proofs.Math.Option.{Option, none}
use Rattle.json_grammar.proofs.BindLaws.{bind_some, bind_none}
use Rattle.json_grammar.specs.Recogniser.{skip_while}

-- ---- passing over the bytes that a test takes

module _ (test : ℕ → Bool) where
  pub skip_none : (s : List ℕ) → length s < 1 → s ≡ skip_while test s
  unfolding skip_while
  skip_none [] h = refl
  skip_none (b ∷ s) h = absurd (omega arith)

  pub skip_stop : (s : List ℕ) → 1 ≤ length s → false ≡ test (get_or s 0 0) → s ≡ skip_while test s
  unfolding skip_while
  skip_stop [] h e = refl
  skip_stop (b ∷ s) h e = rw (← e)

  pub skip_more : (s : List ℕ) → 1 ≤ length s → true ≡ test (get_or s 0 0) → skip_while test (take (length s - 1) (drop 1 s)) ≡ skip_while test s
  unfolding skip_while
  skip_more [] h e = absurd (omega arith)
  skip_more (b ∷ s) h e = rw (← e) (grind (arith, common_steps))

-- two tests that must hold
pub both : (x y : Bool) (o : Option (List ℕ)) → cond x (cond y o none) none ≡ cond (x && y) o none
both true y o = refl
both false y o = refl

-- for tactics: going on with what is left
pub ruleset going_on = (bind_some, bind_none)
