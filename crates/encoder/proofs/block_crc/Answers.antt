-- `block_crc` meets its contract. Assumes nothing.
use Rattle.crc64.specs.Crc64.{register, crc64}
use Rattle.encoder.proofs.block_crc.Goals as goal

pub returns : goal.returns
unfolding register crc64
returns c =
    rw (c.finish.ensures, c.absorb-2.ensures, c.absorb.ensures, c.begin.ensures)
