use Rattle.std.proofs.Common.{◌≡◌, ◌+◌, take, drop, get_or, arith, get_or-take, length-take, add_comm, ◌∙◌, ap, ℕ}
use Rattle.std.proofs.lemmas.List.{get_or-drop}
use lib.Bits.{bit_xor}
use Rattle.crc64_lanes.proofs.LaneLaws.{joined_none, joined_next}
use Rattle.crc64_lanes.proofs.join.Goals as goal

pub loop-next-init : goal.loop-next-init
loop-next-init c = joined_none _ _

pub loop-next-preserved : goal.loop-next-preserved
loop-next-preserved c =
    let i = c.loop-next.next-index in
    let rs = c.args.registers in
    let next : get_or (take 7 (drop 1 rs)) i 0 ≡ get_or rs (i + 1) 0 =
    get_or-take 7 (drop 1 rs) i 0 (omega (arith, length-take 7 (drop 1 rs))) ∙ get_or-drop 1 rs i 0 ∙ ap (λ (k : ℕ). get_or rs k 0) (add_comm 1 i) in
    ap (bit_xor c.product.result) next ∙ joined_next _ _ _ _ _ c.loop-next.invariant c.product.ensures

pub returns : goal.returns
returns c = let last : c.loop-next.next-index ≡ 7 = omega arith in
    rw last at c.loop-next.invariant
