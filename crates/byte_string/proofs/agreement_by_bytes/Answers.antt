use native.Mathlib.Omega.{arith}
use Rattle.byte_string.proofs.AgreeingLaws.{agreed_more, agreed_differ, agreed_both}
use Rattle.byte_string.proofs.agreement_by_bytes.Goals as goal

pub loop-n-init : goal.loop-n-init
loop-n-init c = c.requires.2

pub returns-then-x-n : goal.returns-then-x-n
returns-then-x-n c = agreed_differ _ _ _ (omega arith) (omega arith) c.if-x-n.true c.loop-n.invariant

pub loop-n-preserved : goal.loop-n-preserved
loop-n-preserved c = agreed_more _ _ _ (omega arith) (omega arith) c.if-x-n.false c.loop-n.invariant

pub returns : goal.returns
returns c = agreed_both _ _ _ _ c.requires.1 (omega arith) c.loop-n.invariant
