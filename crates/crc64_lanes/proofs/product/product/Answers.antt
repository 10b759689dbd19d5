use native.Mathlib.Omega.{arith}
use Rattle.crc64_register.proofs.LinearLaws.{digit_lt}
use Rattle.crc64_lanes.proofs.ProductLaws.{multiplied_none, multiplied_more, multiplied_all, digit_times_lt}
use Rattle.crc64_lanes.proofs.product.product.Goals as goal

pub loop-init : goal.loop-init
loop-init c = multiplied_none _ _

pub overflow_mul-r-in-loop : goal.overflow_mul-r-in-loop
overflow_mul-r-in-loop c =
    omega (arith, digit_times_lt _ c.args.a (digit_lt c.loop.left) (omega arith))

pub loop-preserved : goal.loop-preserved
loop-preserved c = multiplied_more _ _ _ _ _ c.loop.invariant (omega arith)

pub returns : goal.returns
returns c = multiplied_all _ _ _ _ _ c.loop.invariant (omega arith)
