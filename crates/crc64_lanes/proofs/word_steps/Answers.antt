use native.Mathlib.Omega.{arith}
use Rattle.crc64_lanes.proofs.LaneLaws.{steps_none, steps_more, steps_all}
use Rattle.crc64_lanes.proofs.word_steps.Goals as goal

pub loop-init : goal.loop-init
loop-init c = steps_none c.args.registers

pub loop-preserved : goal.loop-preserved
loop-preserved c = steps_more c.loop.counter c.args.registers c.loop.r c.byte_steps-next.result c.loop.invariant c.byte_steps-next.ensures

pub returns : goal.returns
returns c = steps_all c.loop.counter c.args.registers c.loop.r (omega arith) (omega arith) c.loop.invariant
