use mathlib.Core.Path.{sym, ap, ◌∙◌}
use native.Mathlib.Omega.{arith}
use Rattle.payload.specs.Payload.{text_at}
use Rattle.payload.specs.Answers.{text_said}
use Rattle.index_encoder.specs.Children.{Within}
use Rattle.index_encoder.proofs.LastRecordLaws.{passing_start, passing_refused, passing_forward, passing_more}
use Rattle.index_encoder.proofs.child.last_record.Goals as goal

pub loop-next-init : goal.loop-next-init
loop-next-init c = passing_start _ _ c.requires

pub end-requires : goal.end-requires
unfolding Within
end-requires c = let within = c.loop-next.invariant.within in omega (arith, c.well_formed)

pub loop-next-smaller : goal.loop-next-smaller
unfolding text_said
loop-next-smaller c =
    let forward = passing_forward _ _ _ _ c.loop-next.invariant _
    (ap (text_at 0 c.args.s.now) (sym c.end.ensures) ∙ sym (c.in-Ok.ensures 0)) in omega arith

pub loop-next-preserved : goal.loop-next-preserved
unfolding text_said
loop-next-preserved c =
    passing_more _ _ _ _ c.loop-next.invariant _ (ap (text_at 0 c.args.s.now) (sym c.end.ensures) ∙ sym (c.in-Ok.ensures 0))

pub returns : goal.returns
unfolding text_said
returns c =
    let both = passing_refused _ _ _ _ c.loop-next.invariant _ _
    (ap (text_at 0 c.args.s.now) (sym c.end.ensures) ∙ sym (c.in_default.ensures 0)) in record { result_value = both.0; within = both.1 }
