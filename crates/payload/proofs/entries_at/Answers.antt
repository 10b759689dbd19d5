-- `entries_at` meets its contract: the items are entries. Assumes nothing.
use Rattle.outcome.specs.Fault.{number}
use Rattle.payload.specs.Payload.{entries_at}
use Rattle.payload.proofs.entries_at.Goals as goal

pub returns : goal.returns
unfolding number entries_at
returns c = c.items_at.ensures
