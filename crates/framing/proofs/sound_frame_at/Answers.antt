-- `sound_frame_at` meets its contract: a frame that was read lies within the file. Assumes nothing.
use mathlib.Core.Path.{sym}
use native.Mathlib.Omega.{arith}
use Rattle.outcome.specs.Fault.{said_at}
use Rattle.framing.proofs.FrameLaws.{frame⇒Framed}
use Rattle.framing.proofs.sound_frame_at.Goals as goal

pub crc_right-requires : goal.crc_right-requires
unfolding said_at
crc_right-requires c = let f = frame⇒Framed c.args.file.now c.args.at _ (sym c.in_ok-frame.ensures) in omega arith
