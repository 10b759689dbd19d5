-- Laws of white space, and of the structural characters between it.
-- Assumes nothing.
use Prim.Native.Nat.{ℕ, ◌≤◌}
use mathlib.Core.Path.{◌≡◌, refl, ap, ◌∙◌, subst}
use mathlib.Core.Bool.{Bool, true, false, cond}
use mathlib.Core.List.{List, [], ◌∷◌, ◌++◌, append_assoc}
use mathlib.Core.Option.{some}
use native.Mathlib.Omega.{arith}
use lib.Dec.{eqb}
use lib.ListN.{length, length-append}
use borrow.Author.Tests.{eqb-true, eq-eqb}
use Rattle.json_grammar.specs.Grammar.{Ws, ws_none, ws_more, Structural, structural}
use Rattle.json_grammar.specs.Recogniser.{is_space, skip_while, skip, structural_end}
use Rattle.json_grammar.proofs.ByteLaws.{one_of⇒member, member⇒one_of}
use Rattle.json_grammar.proofs.BindLaws.{only⁻¹, none_not_some, some_injective}
use Rattle.json_grammar.proofs.FrontLaws.{Front, Both, both, Sound, front_none, front_more}

-- ---- white space

-- a first byte that isn't white space stays
pub skip_kept : (b : ℕ) (s : List ℕ) → is_space b ≡ false → skip (b ∷ s) ≡ b ∷ s
unfolding skip_while
skip_kept b s e = rw e

-- what is passed over is white space
pub skip_sound : (s : List ℕ) → Front Ws s (skip s)
unfolding skip_while is_space
skip_sound [] = front_none [] ws_none
skip_sound (b ∷ s) = go (is_space b) refl (skip_sound s)
  where
    go : (space : Bool) → is_space b ≡ space → Front Ws s (skip s) → Front Ws (b ∷ s) (cond space (skip s) (b ∷ s))
    go true e x = front_more b s (skip s) (λ t. ws_more (one_of⇒member _ b e)) x
    go false e x = front_none (b ∷ s) ws_none

-- white space is passed over
pub skip_complete : (w r : List ℕ) → Ws w → skip (w ++ r) ≡ skip r
unfolding skip_while is_space
skip_complete w r ws_none = refl
skip_complete w r (ws_more {b} {s} m more) = rw (member⇒one_of _ b m) (skip_complete s r more)

pub skip_shorter : (s : List ℕ) → length (skip s) ≤ length s
skip_shorter s = let x = skip_sound s in omega (arith, simp length-append at (ap length x.whole))

pub ws_append : {v w : List ℕ} → Ws v → Ws w → Ws (v ++ w)
ws_append ws_none x = x
ws_append (ws_more m more) x = ws_more m (ws_append more x)

-- ---- structural characters

-- white space before the character belongs to it
pub structural_spaced : {P : List ℕ → Type 0} (c : ℕ) (t : List ℕ) → Both (Both P Ws) (Structural c) t → Both P (Structural c) t
structural_spaced {P} c t (both (both {s = p} {t = u} x before) (structural {v} {w} y after)) =
    subst (Both P (Structural c)) (regroup p u v (c ∷ w)) (both x (structural (ws_append before y) after))
  where
    regroup : (p u v w : List ℕ) → p ++ ((u ++ v) ++ w) ≡ (p ++ u) ++ (v ++ w)
    regroup p u v w = simp append_assoc

-- at the front, with the white space after it
pub structural_front : (c : ℕ) (s : List ℕ) → Front (Structural c) (c ∷ s) (skip s)
structural_front c s = front_more c s (skip s) (λ t. structural ws_none) (skip_sound s)

pub structural_sound : (c : ℕ) → Sound (structural_end c) (Structural c)
unfolding structural_end
structural_sound c [] r e = absurd (none_not_some r e)
structural_sound c (b ∷ s) r e =
    let x = only⁻¹ (eqb b c) (some (skip s)) r e in
    rw (eqb-true b c x.0, ← some_injective (skip s) r x.1) (structural_front c s)

-- what begins with the character
pub structural_first : (c : ℕ) (s r : List ℕ) → structural_end c s ≡ some r → (t : List ℕ) × (s ≡ c ∷ t)
unfolding structural_end
structural_first c [] r e = absurd (none_not_some r e)
structural_first c (b ∷ s) r e = (s, ap (λ (a : ℕ). a ∷ s) (eqb-true b c (only⁻¹ (eqb b c) (some (skip s)) r e).0))

-- white space before the character is passed over
pub structural_skip : (c : ℕ) (t r : List ℕ) → Structural c t → is_space c ≡ false → (s : List ℕ) × (skip (t ++ r) ≡ c ∷ s) × (skip s ≡ skip r)
structural_skip c t r (structural {v} {w} before after) e =
    (w ++ r, rw append_assoc (skip_complete v (c ∷ (w ++ r)) before ∙ skip_kept c (w ++ r) e), skip_complete w r after)

pub structural_complete : (c : ℕ) (t r : List ℕ) → Structural c t → is_space c ≡ false → structural_end c (skip (t ++ r)) ≡ some (skip r)
unfolding structural_end
structural_complete c t r x e =
    let y = structural_skip c t r x e in
    rw (y.1, eq-eqb c c refl, y.2)
