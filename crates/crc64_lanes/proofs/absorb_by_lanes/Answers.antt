-- `absorb_by_lanes` meets its contract: the lanes joined are the register after their bytes, and the rest follows.
-- Assumes nothing.
use Prim.Native.Nat.{ℕ}
use native.Mathlib.Omega.{arith}
use Rattle.part.proofs.BytesLaws.{bytes_of_below}
use Rattle.crc64_lanes.proofs.LaneLaws.{lanes_absorbed}
use Rattle.crc64_lanes.proofs.absorb_by_lanes.Goals as goal

pub returns : goal.returns
returns c =
    let bytes = bytes_of_below c.args.bytes.now (λ (k : ℕ) _. (c.type_inv.bytes k).fits) in lanes_absorbed c.args.register
    c.args.bytes.now c.words_of-count.result c.registers_of-registers.result c.shifted.result c.join-r.result _ bytes (omega arith) (omega arith)
    c.registers_of-registers.ensures c.shifted.ensures c.join-r.ensures c.absorb_by_table.ensures
