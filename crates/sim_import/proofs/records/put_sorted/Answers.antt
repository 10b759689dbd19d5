-- `put_sorted` meets its contract: the offsets stand in order in the last slots, and the records are put over them. Assumes nothing.
use mathlib.Core.Path.{refl}
use native.Mathlib.Omega.{arith}
use Rattle.sim_import.proofs.RecordLaws.{exact_slots, exact_many, exact_ready, exact_sorted}
use Rattle.sim_import.proofs.records.put_sorted.Goals as goal

pub overflow_mul-base : goal.overflow_mul-base
overflow_mul-base c =
    let slots = exact_slots _ _ _ _ (c.requires) in omega (arith, slots)

pub overflow_sub-base : goal.overflow_sub-base
overflow_sub-base c =
    let slots = exact_slots _ _ _ _ (c.requires) in omega (arith, slots)

pub put_order-requires : goal.put_order-requires
put_order-requires c =
    exact_many _ _ _ _ (c.requires) _ refl

pub put_records-requires : goal.put_records-requires
put_records-requires c =
    exact_ready _ _ _ _ (c.requires) _ _ refl c.put_order.auto.s c.put_order.ensures

pub returns : goal.returns
returns c =
    exact_sorted _ _ _ _ (c.requires) _ _ refl c.put_order.auto.s c.put_order.ensures _ c.put_records.ensures
