-- The definition, call by call.
use Rattle.std.proofs.Common.{sym, arith}
use Rattle.sha256_block.specs.Compression.{add}
use Rattle.sha256_block.proofs.BlockLaws.{next_word-take}
use Rattle.sha256_block.proofs.block.next_word.Goals as goal

pub returns : goal.returns
unfolding add
returns c long = rw (c.small_sigma0.ensures, c.small_sigma1.ensures) (sym (next_word-take c.args.w.now c.args.t (omega arith) long))
