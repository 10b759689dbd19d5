use Prim.Native.Nat.{◌*◌}
use native.Mathlib.Omega.{arith}
use lib.ListN.{length-take, length-drop}
use Rattle.byte_string.proofs.AgreeingLaws.{agreed_none, agreed_at, eight_parted, eight_agreed}
use Rattle.byte_string.proofs.agreement_by_eights.Goals as goal

pub loop-k-init : goal.loop-k-init
loop-k-init c = agreed_none _ _

pub agreement_of_eight-more-requires : goal.agreement_of_eight-more-requires
agreement_of_eight-more-requires c = (rw (length-take, length-drop) (omega arith), rw (length-take, length-drop) (omega arith))

pub returns-then-more-lt8 : goal.returns-then-more-lt8
returns-then-more-lt8 c =
    eight_parted _ _ _ _ c.agreement_of_eight-more.ensures (agreed_at _ _ _ _ (omega arith) c.loop-k.invariant) (omega arith)

pub loop-k-preserved : goal.loop-k-preserved
loop-k-preserved c =
    eight_agreed _ _ (8 * c.loop-k.k) _ c.agreement_of_eight-more.ensures c.loop-k.invariant (omega arith) _ (omega arith)

pub agreement_by_bytes-requires : goal.agreement_by_bytes-requires
agreement_by_bytes-requires c = (omega arith, c.requires, agreed_at _ _ _ _ (omega arith) c.loop-k.invariant)
