-- `text_at` meets its contract: a byte below 80 hex is a number, and the rule that its bytes are there. Assumes nothing.
use mathlib.Core.Path.{refl, sym}
use native.Mathlib.Omega.{arith}
use Rattle.payload.specs.Answers.{text_said}
use Rattle.framing.proofs.FrameLaws.{number_of_byte}
use Rattle.payload.proofs.PayloadLaws.{text_found}
use Rattle.payload.proofs.text_at.Goals as goal

pub returns-then-first-s : goal.returns-then-first-s
unfolding text_said
returns-then-first-s c place = sym (text_found place _ _ _ (number_of_byte 15 place _ _ _ _ (omega arith) (omega arith) refl (omega arith))
    (omega arith))
