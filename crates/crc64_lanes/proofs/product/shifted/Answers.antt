use Rattle.std.proofs.Common.{refl, ◌∙◌, arith}
use Rattle.crc64_lanes.proofs.ProductLaws.{powered_none, powered_one, powered_zero, powered_end}
use Rattle.crc64_lanes.proofs.product.shifted.Goals.{then-left-eq1, else-left-eq1}
use Rattle.crc64_lanes.proofs.product.shifted.Goals as goal

pub loop-power-init : goal.loop-power-init
loop-power-init c = powered_none _ _ c.requires refl

pub loop-power-preserved : goal.loop-power-preserved
loop-power-preserved c =
    elim c.if-left-eq1.branch [
      | then-left-eq1 w ↦ powered_one _ _ _ _ c.loop-power.invariant (omega arith) _ _ c.powers-power-items.ensures (omega (arith, w.if-left-eq1.true)) (w.r-is ∙ w.product-r.ensures)
      | else-left-eq1 w ↦ powered_zero _ _ _ _ c.loop-power.invariant (omega arith) _ (λ e. omega (arith, w.if-left-eq1.false)) w.r-is
    ]

pub returns : goal.returns
returns c = powered_end _ _ _ _ c.loop-power.invariant (omega arith)
