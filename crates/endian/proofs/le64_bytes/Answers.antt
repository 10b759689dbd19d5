-- std's bytes of the operand, whose value is the number's.
use Rattle.std.proofs.Common.{ap, ◌∙◌, arith}
use Rattle.endian.specs.FixedWidth.{little_bytes}
use Rattle.endian.proofs.StdLaws.{bytes_low_first-little}
use Rattle.endian.proofs.le64_bytes.Goals as goal

pub returns : goal.returns
returns c = c.to_le_bytes.ensures ∙ bytes_low_first-little 8 _ ∙ ap (little_bytes 8) (omega arith)
