-- `heapsort::swap` meets its contract: two loads and two stores are an exchange.
-- Assumes nothing.
use Rattle.heapsort.proofs.HeapsortLaws.{swapped_of}
use Rattle.heapsort.proofs.swap.Goals as goal

pub returns : goal.returns
returns c =
    swapped_of _ _ _ _ _ _ _ c.load-x.ensures c.load-y.ensures c.store.ensures c.store-2.ensures
