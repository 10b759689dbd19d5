-- `of` meets its contract: the range has the part's start and its end. Assumes nothing.
use native.Mathlib.Omega.{arith}
use mathlib.Core.List.{List}
use mathlib.Core.Path.{◌≡◌, ap, ◌∙◌}
use Prim.Native.Nat.{ℕ, ◌+◌, ◌-◌}
use lib.ListN.{take, drop}
use Rattle.part.specs.Part.{part}
use Rattle.part.proofs.Part.of.Goals as goal

lent : (s : List ℕ) (at n from end : ℕ) → from ≡ at → end ≡ at + n → take (end - from) (drop from s) ≡ part s at n
unfolding part
lent s at n from end start stop = ap (λ (a : ℕ). take (end - from) (drop a s)) start ∙ ap (λ (k : ℕ). take k (drop at s)) span
  where
    span : end - from ≡ n
    span = omega arith

pub returns-clause-result_value : goal.returns-clause-result_value
returns-clause-result_value c = lent c.args.s.now c.args.self.offset c.args.self.length _ _ (omega arith) (omega arith)
