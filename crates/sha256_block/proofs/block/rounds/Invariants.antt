-- The loop's invariant is `Mixed`: before a turn's first step `t` there are `t + 16` words.
use Rattle.std.proofs.Common.{◌*◌}
use Rattle.sha256_block.specs.Compression.{words_of}
use Rattle.sha256_block.proofs.BlockLaws.{Mixed}
use Rattle.sha256_block.proofs.block.rounds.Given as goal

abbrev pub invariant-loop-turn : goal.invariant-loop-turn
invariant-loop-turn l = Mixed (words_of 16 l.block) l.initial.v l.w l.v (4 * l.turn)
