-- The stages differ.
-- Assumes nothing.
use mathlib.Core.Path.{◌≡◌}
use Prim.Native.Nat.{ℕ}
use native.Mathlib.Omega.{arith}
use Rattle.session_value.specs.Stage.{Draft, afresh, begun, finished}

pub begun_injective : (c d : Draft) → begun c ≡ begun d → c ≡ d
begun_injective c d e = cc

pub afresh_not_begun : (d : Draft) → afresh ≡ begun d → ⊥
afresh_not_begun d e = let z : ◌≡◌ {A = ℕ} 0 1 = cc in omega arith

pub finished_not_begun : (c d : Draft) → finished c ≡ begun d → ⊥
finished_not_begun c d e = let z : ◌≡◌ {A = ℕ} 0 1 = cc in omega arith

pub finished_not_afresh : (d : Draft) → finished d ≡ afresh → ⊥
finished_not_afresh d e = let z : ◌≡◌ {A = ℕ} 0 1 = cc in omega arith
