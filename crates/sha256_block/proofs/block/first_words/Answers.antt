use Rattle.std.proofs.Common.{◌≡◌, refl, arith, length-set}
use Rattle.sha256_block.specs.Compression.{words_of}
use Rattle.sha256_block.proofs.BlockLaws.{words_of_set}
use Rattle.sha256_block.proofs.block.first_words.Goals as goal

pub loop-t-init : goal.loop-t-init
unfolding words_of
loop-t-init c = (refl, refl)

pub loop-t-preserved : goal.loop-t-preserved
loop-t-preserved c =
    let more = words_of_set c.loop-t.w c.args.block.now c.loop-t.t c.be32_at.result in
    (simp length-set c.loop-t.invariant.0, more (omega arith) c.loop-t.invariant.1 c.be32_at.ensures)

pub returns : goal.returns
returns c = let done : c.loop-t.t ≡ 16 = omega arith in
    rw done at c.loop-t.invariant.1
