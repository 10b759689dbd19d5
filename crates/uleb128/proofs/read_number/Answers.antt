use mathlib.Core.Path.{sym}
use native.Mathlib.Omega.{arith}
use Rattle.uleb128.specs.Number.{reading_said}
use Rattle.uleb128.proofs.PassedLaws.{passed_step, passed_long}
use Rattle.uleb128.proofs.read_number.Goals as goal

pub returns-then-n-gt0 : goal.returns-then-n-gt0
unfolding reading_said
returns-then-n-gt0 c = sym (passed_long _ _ _ c.loop-n.n c.loop-n.invariant (omega arith) (omega arith) (omega arith))

pub loop-n-preserved : goal.loop-n-preserved
loop-n-preserved c =
    passed_step _ _ _ c.loop-n.n c.loop-n.invariant (omega arith) (omega arith) (omega (arith, c.type_inv.part c.loop-n.n)) (λ e. omega arith)
