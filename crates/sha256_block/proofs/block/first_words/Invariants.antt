-- The loop's invariant: the first `t` words of the array are those of the block.
use Rattle.std.proofs.Common.{◌≡◌, length, take}
use Rattle.sha256_block.specs.Compression.{words_of}
use Rattle.sha256_block.proofs.block.first_words.Given as goal

abbrev pub invariant-loop-t : goal.invariant-loop-t
invariant-loop-t l = (length l.w ≡ 64) × (take l.t l.w ≡ words_of l.t l.block)
