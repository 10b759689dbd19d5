-- `frame_at` meets its contract: a number that was read lies within the file. Assumes nothing.
use mathlib.Core.Path.{sym}
use native.Mathlib.Omega.{arith}
use Rattle.outcome.specs.Fault.{said_at, number}
use Rattle.framing.proofs.FrameLaws.{numbered}
use Rattle.framing.proofs.frame_at.Goals as goal

pub framed-requires : goal.framed-requires
unfolding said_at number
framed-requires c =
    let n = numbered 10 c.args.at c.args.file.now c.args.at _ (sym (c.in_ok-extent.ensures c.args.at)) in
    omega arith
