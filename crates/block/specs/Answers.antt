-- What the tests of one block report, in the terms of the definitions.
use Rattle.std.specs.Prelude.{length}
use Rattle.outcome.specs.Outcome.{Outcome, answer, ◌>>=◌}
use Rattle.block.specs.declared.Tallied.{Tallied}
use Rattle.block.specs.Block.{Block}

-- the block's frame, and how many records it has
unfoldable pub tallied : Outcome Block → Outcome Tallied
tallied o = o >>= λ b. answer (record { frame = b.frame; records = length b.records })
