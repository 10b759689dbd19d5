-- The definition, rotation by rotation.
use Rattle.sha256_block.specs.Compression.{σ₀, rotr, shr}
use Rattle.sha256_block.proofs.word.small_sigma0.Goals as goal

pub returns : goal.returns
unfolding σ₀ rotr shr
returns c = rw (c.rotate_right.ensures, c.rotate_right-2.ensures)
