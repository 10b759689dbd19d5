-- `put` meets its contract: where the bytes fit, they stand in their place.
-- Assumes nothing.
use native.Mathlib.Omega.{arith}
use Rattle.output_bytes.proofs.OutputBytesLaws.{storing_none, storing_more, put_none, put_all}
use Rattle.output_bytes.proofs.put.Goals as goal

pub returns-then-output-at : goal.returns-then-output-at
returns-then-output-at c = put_none _ _ _ (omega arith)

pub loop-i-init : goal.loop-i-init
loop-i-init c = storing_none _ _ _ (omega arith)

pub loop-i-preserved : goal.loop-i-preserved
loop-i-preserved c = storing_more _ _ _ _ _ c.loop-i.invariant (omega arith)

pub returns : goal.returns
returns c = put_all _ _ _ _ _ c.loop-i.invariant (omega arith)
