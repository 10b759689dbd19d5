use Rattle.std.proofs.Common.{◌≡◌, ◌∙◌, arith, refl}
use Rattle.crc64_register.specs.Crc64.{byte_step, bit_steps}
use Rattle.crc64_register.proofs.Crc64Laws.{bit_step_one, bit_step_zero, bit_steps_more}
use Rattle.crc64_register.proofs.byte_step.Goals.{then-r-eq1, else-r-eq1}
use Rattle.crc64_register.proofs.byte_step.Goals as goal

pub loop-init : goal.loop-init
unfolding bit_steps
loop-init c = refl

pub loop-preserved : goal.loop-preserved
loop-preserved c =
    bit_steps_more _ _ _ _ c.loop.invariant
    (elim c.if-r-eq1.branch [
      | then-r-eq1 w ↦ w.r-is ∙ bit_step_one _ (omega (arith, w.if-r-eq1.true))
      | else-r-eq1 w ↦ w.r-is ∙ bit_step_zero _ (λ e. omega (arith, w.if-r-eq1.false))
    ])

pub returns : goal.returns
unfolding byte_step
returns c =
    let done : c.loop.counter ≡ 8 = omega arith in
    rw done at c.loop.invariant
