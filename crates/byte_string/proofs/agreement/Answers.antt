-- `agreement` meets its contract: where the first bytes differ, none agree. Assumes nothing.
use native.Mathlib.Omega.{arith}
use Rattle.byte_string.proofs.AgreeingLaws.{agreed_none, agreed_more, agreed_differ}
use Rattle.byte_string.proofs.agreement.Goals as goal

pub returns-then-x-y : goal.returns-then-x-y
returns-then-x-y c = agreed_differ _ _ 0 (omega arith) (omega arith) c.if-x-y.true (agreed_none _ _)

-- and where they are the same, one does
pub agreement_by_bytes-requires : goal.agreement_by_bytes-requires
agreement_by_bytes-requires c = (omega arith, omega arith, agreed_more _ _ 0 (omega arith) (omega arith) c.if-x-y.false (agreed_none _ _))
