use native.Mathlib.Omega.{arith}
use mathlib.Core.Path.{refl, ◌∙◌}
use Rattle.heapsort.proofs.HeapsortLaws.{taking_start, taking_within, taking_heap, taking_more, taking_last}
use Rattle.slots.proofs.SlotLaws.{length_slots}
use Rattle.heapsort.proofs.sort.Goals as goal

pub loop-end-init : goal.loop-end-init
loop-end-init c =
    (taking_start _ _ _ _ (omega (arith, length_slots 8 c.build.new.s)) c.build.ensures, refl)

pub sift_down-requires : goal.sift_down-requires
sift_down-requires c = (
  taking_within _ _ _ _ (omega arith) c.loop-end.invariant.0 _ c.swap.ensures,
  taking_heap _ _ _ _ (omega arith) c.loop-end.invariant.0 _ c.swap.ensures,
)

pub loop-end-preserved : goal.loop-end-preserved
loop-end-preserved c = (
  taking_more _ _ _ _ (omega arith) c.loop-end.invariant.0 _ _ c.swap.ensures c.sift_down.ensures,
  c.sift_down.auto.s ∙ c.swap.auto.s ∙ c.loop-end.invariant.1,
)

pub returns : goal.returns
returns c =
    taking_last _ _ _ _ _ (omega arith) c.build.ensures c.loop-end.invariant.0
