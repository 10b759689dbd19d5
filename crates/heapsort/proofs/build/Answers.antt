use native.Mathlib.Omega.{arith}
use mathlib.Core.Path.{refl, sym, ◌∙◌}
use Rattle.heapsort.proofs.HeapsortLaws.{building_start, building_heap, building_more, building_last}
use Rattle.slots.proofs.SlotLaws.{length_slots}
use Rattle.heapsort.proofs.build.Goals as goal

pub loop-start-init : goal.loop-start-init
loop-start-init c = (building_start _ _ _ (sym (length_slots _ _)), refl)

pub sift_down-requires : goal.sift_down-requires
sift_down-requires c =
    (omega (arith, c.loop-start.invariant.0.count, c.loop-start.invariant.0.size), building_heap _ _ _ _ _ c.loop-start.invariant.0 (omega arith))

pub loop-start-preserved : goal.loop-start-preserved
loop-start-preserved c =
    (building_more _ _ _ _ _ c.loop-start.invariant.0 _ c.sift_down.ensures, c.sift_down.auto.s ∙ c.loop-start.invariant.1)

pub returns : goal.returns
returns c = building_last _ _ _ _ _ c.loop-start.invariant.0 (omega arith)
