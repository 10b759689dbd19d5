use native.Mathlib.Omega.{arith}
use mathlib.Core.Path.{refl, ◌∙◌}
use Rattle.heapsort.proofs.HeapsortLaws.{sifting_start, sifting_last, sifting_stop, sifting_more}
use Rattle.heapsort.proofs.sift_down.Goals as goal

pub loop-hole-init : goal.loop-hole-init
loop-hole-init c =
    (sifting_start _ _ _ _ (omega arith) c.requires.1, refl)

pub returns-then-slot_at_most : goal.returns-then-slot_at_most
returns-then-slot_at_most c =
    sifting_stop _ _ _ _ _ _ c.loop-hole.invariant.0 _ _ c.larger_below-child.ensures c.slot_at_most.ensures c.if-slot_at_most.true

pub loop-hole-preserved : goal.loop-hole-preserved
loop-hole-preserved c = (
  sifting_more _ _ _ _ _ _ c.loop-hole.invariant.0 _ _ _ c.larger_below-child.ensures c.slot_at_most.ensures c.if-slot_at_most.false c.swap.ensures,
  c.swap.auto.s ∙ c.loop-hole.invariant.1,
)

pub returns : goal.returns
returns c = sifting_last _ _ _ _ _ _ c.loop-hole.invariant.0 (omega arith)
