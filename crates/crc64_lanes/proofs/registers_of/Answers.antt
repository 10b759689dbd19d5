use Prim.Native.Nat.{ℕ, ◌*◌}
use native.Mathlib.Omega.{arith}
use Rattle.part.proofs.BytesLaws.{bytes_of_below}
use Rattle.crc64_lanes.proofs.LaneLaws.{lanes_none, lanes_more, lanes_all}
use Rattle.crc64_lanes.proofs.registers_of.Goals as goal

pub loop-i-init : goal.loop-i-init
loop-i-init c = lanes_none c.args.register c.args.bytes.now (8 * c.args.count)

pub loop-i-preserved : goal.loop-i-preserved
loop-i-preserved c =
    lanes_more c.args.register c.args.bytes.now (8 * c.args.count) c.loop-i.i c.loop-i.r c.put_words.result c.word_steps-next.result
    (bytes_of_below c.args.bytes.now (λ (k : ℕ) _. (c.type_inv.bytes k).fits))
    (omega arith) (omega arith) c.loop-i.invariant c.put_words.ensures c.word_steps-next.ensures

pub returns : goal.returns
returns c =
    lanes_all c.args.register c.args.bytes.now c.args.count c.loop-i.i c.loop-i.r (omega arith) (omega arith) c.loop-i.invariant
