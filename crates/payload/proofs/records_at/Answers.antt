-- `records_at` meets its contract: the items are records. Assumes nothing.
use Rattle.outcome.specs.Fault.{number}
use Rattle.payload.specs.Payload.{records_at}
use Rattle.payload.proofs.records_at.Goals as goal

pub returns : goal.returns
unfolding number records_at
returns c = c.items_at.ensures
