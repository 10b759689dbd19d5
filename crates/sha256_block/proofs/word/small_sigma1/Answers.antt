-- The definition, rotation by rotation.
use Rattle.sha256_block.specs.Compression.{σ₁, rotr, shr}
use Rattle.sha256_block.proofs.word.small_sigma1.Goals as goal

pub returns : goal.returns
unfolding σ₁ rotr shr
returns c = rw (c.rotate_right.ensures, c.rotate_right-2.ensures)
