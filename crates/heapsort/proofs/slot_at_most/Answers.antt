-- `heapsort::slot_at_most` meets its contract, by those of the functions that it calls.
-- Assumes nothing.
use Rattle.heapsort.proofs.HeapsortLaws.{at_most_of}
use Rattle.heapsort.proofs.slot_at_most.Goals as goal

pub returns : goal.returns
returns c =
    at_most_of _ _ _ _ _ _ _ c.load.ensures c.load-2.ensures c.at_most.ensures
