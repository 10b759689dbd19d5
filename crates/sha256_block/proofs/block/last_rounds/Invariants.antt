-- The loop's invariant: going on with what is left gives what all sixteen steps give.
use Rattle.std.proofs.Common.{◌≡◌, drop}
use Rattle.sha256_block.specs.Compression.{rounds}
use Rattle.sha256_block.proofs.block.last_rounds.Given as goal

abbrev pub invariant-loop-k : goal.invariant-loop-k
invariant-loop-k l = rounds l.k-iterator.a.rest.now l.k-iterator.b.rest.now l.v ≡ rounds (drop 48 l.k) (drop 48 l.w) l.initial.v
