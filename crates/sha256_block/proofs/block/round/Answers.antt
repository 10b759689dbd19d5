-- The definition, call by call.
use Rattle.sha256_block.specs.Compression.{round, add}
use Rattle.sha256_block.proofs.block.round.Goals as goal

pub returns : goal.returns
unfolding round add
returns c = cc
