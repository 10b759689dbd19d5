-- The definition, rotation by rotation.
use Rattle.sha256_block.specs.Compression.{Σ₁, rotr}
use Rattle.sha256_block.proofs.word.big_sigma1.Goals as goal

pub returns : goal.returns
unfolding Σ₁ rotr
returns c = rw (c.rotate_right.ensures, c.rotate_right-2.ensures, c.rotate_right-3.ensures)
