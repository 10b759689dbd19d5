use Rattle.std.proofs.Common.{sym, ap, ◌∙◌, arith}
use Rattle.sha256_block.specs.Compression.{over}
use Rattle.sha256_block.proofs.BlockLaws.{over_short, over_front}
use Rattle.sha256_block.proofs.over.Goals as goal

pub loop-block-preserved : goal.loop-block-preserved
loop-block-preserved c =
    let taken = c.in-Some.ensures.steps in
    let left = c.next.new.self.rest.now in
    let block = over_front c.loop-block.v c.in-Some.block.now left (taken.1.1 ∙ c.loop-block.invariant.0) in
    (taken.0 ∙ c.loop-block.invariant.0, rw c.compress-v.ensures (sym block ∙ ap (over c.loop-block.v) (sym taken.1.0) ∙ c.loop-block.invariant.1))

pub returns : goal.returns
returns c =
    let few = c.in-None.ensures.steps.1.0 in
    sym (over_short c.loop-block.v c.loop-block.block-iterator.rest.now (omega (arith, few, c.loop-block.invariant.0))) ∙ c.loop-block.invariant.1
