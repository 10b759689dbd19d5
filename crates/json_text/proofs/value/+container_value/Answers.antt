-- Each turn of the loop passes an item and a comma. Assumes nothing.
use Rattle.std.proofs.Common.{◌≡◌, ◌-◌, ◌∙◌, arith}
use Rattle.json_text.proofs.ContainerLaws.{turn_same, turn_shorter}
use Rattle.json_text.proofs.value.+container_value.Goals as goal

pub container-loop-after-preserved : goal.container-loop-after-preserved
container-loop-after-preserved t c =
    let less : c.in_ok-inner.inner ≡ c.args.depth - 1 = omega (arith, c.in_ok-inner.ensures) in
    let turn =
    turn_same c.args.kind c.in_ok-inner.inner _ _ _ _ c.in_ok-after_name.ensures c.in_ok-after.ensures
    (rw c.closing-in-loop-after.ensures at c.in_default-structural.ensures) c.in_ok-rest-2.ensures in
    rw less at turn ∙ c.loop-after.invariant

pub container-loop-after-smaller : goal.container-loop-after-smaller
container-loop-after-smaller t c =
    turn_shorter c.args.kind c.in_ok-inner.inner _ _ _ _ c.in_ok-after_name.ensures c.in_ok-after.ensures c.in_ok-rest-2.ensures
