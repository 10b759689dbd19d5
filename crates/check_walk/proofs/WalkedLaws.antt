-- What the walks report, one after the other.
-- Assumes nothing.
use mathlib.Core.Path.{◌≡◌, sym, ap, ◌∙◌}
use mathlib.Core.Logic.{◌≢◌}
use mathlib.Core.List.{List}
use Prim.Native.Nat.{ℕ}
use borrow.Author.Tests.{eq-eqb, ne_eqb}
use Rattle.outcome.specs.Outcome.{answer, refused, ◌>>◌}
use Rattle.outcome.proofs.OutcomeLaws.{after_answer, after_refused}
use Rattle.framing.specs.Frame.{frame_at}
use Rattle.check_walk.specs.declared.keys.Keys.{Keys}
use Rattle.check_walk.specs.Lookup.{level_of}
use Rattle.check_walk.specs.Ascent.{ascent_of}
use Rattle.check_walk.specs.Keys.{no_keys, keys_of}
use Rattle.check_walk.specs.Walk.{place_said, keys_said, walked_of}

-- ---- a place that was found

pub said_none : (number m : ℕ) → m ≡ 0 → place_said number m ≡ answer tt
unfolding place_said
said_none number m h = rw (eq-eqb m 0 h)

pub said_place : (number m : ℕ) → m ≢ 0 → place_said number m ≡ refused number m
unfolding place_said
said_place number m h = rw (ne_eqb m 0 h)

-- ---- 23 and 24

module _ (k : Keys) where
  pub keys_unordered : k.unordered ≢ 0 → keys_said k ≡ refused 23 k.unordered
  unfolding keys_said
  keys_unordered h = after_refused (place_said 23 k.unordered) _ 23 k.unordered (said_place 23 k.unordered h)

  keys_ordered : k.unordered ≡ 0 → keys_said k ≡ place_said 24 k.misfit
  unfolding keys_said
  keys_ordered z = after_answer (place_said 23 k.unordered) _ tt (said_none 23 k.unordered z)

  pub keys_misfit : k.unordered ≡ 0 → k.misfit ≢ 0 → keys_said k ≡ refused 24 k.misfit
  keys_misfit z h = keys_ordered z ∙ said_place 24 k.misfit h

  pub keys_sound : k.unordered ≡ 0 → k.misfit ≡ 0 → keys_said k ≡ answer tt
  keys_sound z h = keys_ordered z ∙ said_none 24 k.misfit h

-- ---- 22, then those

module _ (file : List ℕ) (root level : ℕ) (e : level ≡ level_of (frame_at file root)) where
  walked_from : walked_of file root ≡ (ascent_of file level root 0 >> keys_said (keys_of file level root no_keys))
  unfolding walked_of
  walked_from = ap (λ (l : ℕ). ascent_of file l root 0 >> keys_said (keys_of file l root no_keys)) (sym e)

  pub walked_refused : (number place : ℕ) → ascent_of file level root 0 ≡ refused number place → walked_of file root ≡ refused number place
  walked_refused number place h = walked_from ∙ after_refused (ascent_of file level root 0) _ number place h

  pub walked_risen : (least : ℕ) → ascent_of file level root 0 ≡ answer least → walked_of file root ≡ keys_said (keys_of file level root no_keys)
  walked_risen least h = walked_from ∙ after_answer (ascent_of file level root 0) _ least h
