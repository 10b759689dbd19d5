-- Which numbers a number is refused with.
-- Assumes nothing.
use mathlib.Core.Path.{◌≡◌, refl, sym, subst}
use mathlib.Core.Logic.{◌⊎◌, inl, inr}
use mathlib.Core.Bool.{Bool, true, false, cond, ◌&&◌}
use mathlib.Core.List.{List}
use Prim.Native.Nat.{ℕ, ◌+◌}
use native.Mathlib.Omega.{arith}
use lib.Dec.{leb, ltb, eqb}
use lib.ListN.{length, take, drop, get_or}
use Rattle.uleb128.specs.Number.{Reading, number, cut_off, reading, continuing, sevens}
use Rattle.uleb128.specs.Number.{refused as badNumber}
use Rattle.outcome.proofs.RefusalLaws.{Refuses, refuses_answer, refuses_refused}
use Rattle.framing.specs.Frame.{read_as, number_at}

-- a number that is refused is too wide or not shortest
bad_number : (s : List ℕ) (k : ℕ) → reading s ≡ badNumber k → (k ≡ 11) ⊎ (k ≡ 12)
unfolding reading
bad_number s k e = go (leb 9 (continuing s)) (leb (length s) (continuing s)) (ltb 0 (continuing s) && eqb (get_or s (continuing s) 0) 0) e
  where
    impossible : ◌≡◌ {A = ℕ} 0 1 → (k ≡ 11) ⊎ (k ≡ 12)
    impossible z = absurd (omega arith)

    go : (wide cut long : Bool)
        → cond wide (badNumber 11) (cond cut cut_off (cond long (badNumber 12) (number (sevens (take (continuing s + 1) s)) (continuing s + 1)))) ≡ badNumber k
        → (k ≡ 11) ⊎ (k ≡ 12)
    go true cut long h = inl (cc)
    go false true long h = impossible (cc)
    go false false true h = inr (cc)
    go false false false h = impossible (cc)

pub number_refuses : (Kind : ℕ → Type 0) → Kind 11 → Kind 12 → (cut place : ℕ) (s : List ℕ) (at : ℕ) → Kind cut → Refuses Kind (number_at cut place s at)
unfolding number_at read_as
number_refuses Kind k11 k12 cut place s at k = go (reading (drop at s)) refl
  where
    kind : (n : ℕ) → (n ≡ 11) ⊎ (n ≡ 12) → Kind n
    kind n (inl e) = subst Kind (sym e) k11
    kind n (inr e) = subst Kind (sym e) k12

    go : (r : Reading) → reading (drop at s) ≡ r → Refuses Kind (read_as cut place at r)
    go (number value used) e = refuses_answer Kind _
    go cut_off e = refuses_refused Kind cut place k
    go (badNumber n) e = refuses_refused Kind n place (kind n (bad_number (drop at s) n e))
