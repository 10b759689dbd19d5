-- `put_word` meets its contract: the word is lent. Assumes nothing.
use Rattle.std.proofs.Common.{ap, ◌∙◌}
use lib.Bits.{bit_xor}
use Rattle.endian.specs.FixedWidth.{little_endian}
use Rattle.crc64_lanes.proofs.LaneLaws.{word_lent}
use Rattle.crc64_lanes.proofs.put_word.Goals as goal

pub returns : goal.returns
returns c = ap (bit_xor c.args.register) (c.le64.ensures ∙ ap little_endian (word_lent c.args.bytes.now c.args.from))
