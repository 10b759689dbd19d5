use mathlib.Core.Path.{refl, ap, ◌∙◌}
use mathlib.Core.List.{[], ◌∷◌}
use Prim.Native.Nat.{◌*◌}
use lib.Seq.{take_all}
use Rattle.output_list.specs.OutputList.{with_numbers}
use Rattle.differences.specs.Differences.{room_for}
use Rattle.comparer.proofs.ListLaws.{put_more}
use Rattle.comparer.proofs.merge.put_difference.Goals as goal

pub loop-i-init : goal.loop-i-init
unfolding with_numbers
loop-i-init c = refl

pub loop-i-preserved : goal.loop-i-preserved
loop-i-preserved c = put_more _ _ _ _ _ _ c.loop-i-test.true c.loop-i.invariant c.put.ensures.1

pub returns : goal.returns
unfolding room_for
returns c =
    c.loop-i.invariant
    ∙ ap (with_numbers c.args.list.now (5 * c.args.count)) (take_all _ _ c.loop-i-test.false
    ∙ ap (λ n. n ∷ c.args.text.offset ∷ c.args.text.length ∷ c.args.first ∷ c.args.second ∷ []) c.number.ensures)
