-- std's bytes of the operand, whose value is the number's.
use Rattle.std.proofs.Common.{ap, ◌∙◌, arith}
use Rattle.endian.specs.FixedWidth.{big_bytes}
use Rattle.endian.proofs.StdLaws.{bytes_high_first-big}
use Rattle.endian.proofs.be64_bytes.Goals as goal

pub returns : goal.returns
returns c = c.to_be_bytes.ensures ∙ bytes_high_first-big 8 _ ∙ ap (big_bytes 8) (omega arith)
