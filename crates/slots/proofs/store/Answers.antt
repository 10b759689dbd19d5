-- `slots::store` meets its contract: the 8 bytes of the number in the place of those of slot k.
-- Assumes nothing.
use native.Mathlib.Omega.{arith}
use Rattle.slots.proofs.SlotLaws.{slots_store, slots_store_none}
use Rattle.slots.proofs.store.Goals as goal

pub returns-then-s-k : goal.returns-then-s-k
returns-then-s-k c = slots_store_none _ _ _ _ (omega arith)

pub returns : goal.returns
returns c =
    slots_store _ _ _ _ _ _ _ (omega arith) (omega arith) c.ranges.value.fits c.le64_bytes.ensures c.put.ensures.1
