-- The loop's invariant: going on with the blocks that are left gives what the whole gives.
use Rattle.std.proofs.Common.{◌≡◌}
use Rattle.sha256_block.specs.Compression.{over}
use Rattle.sha256_block.proofs.over.Given as goal

abbrev pub invariant-loop-block : goal.invariant-loop-block
invariant-loop-block l = (l.block-iterator.size ≡ 64) × (over l.v l.block-iterator.rest.now ≡ over l.initial.v l.s)
