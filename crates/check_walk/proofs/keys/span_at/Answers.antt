-- A record more joins the span, and where no record can be read all have.
use mathlib.Core.Path.{sym, ap, ◌∙◌}
use native.Mathlib.Omega.{arith}
use lib.ListN.{take}
use lib.Seq.{length-take-le}
use Rattle.payload.specs.Answers.{text_said}
use Rattle.payload.proofs.PayloadLaws.{text⇒Placed}
use Rattle.check_walk.specs.Lookup.{no_part}
use Rattle.check_walk.specs.Keys.{no_span}
use Rattle.check_walk.proofs.LookupLaws.{going_over}
use Rattle.items.proofs.GoingLaws.{going_more}
use Rattle.check_walk.proofs.KeyLaws.{over_records_start, over_record_read, over_records_end}
use Rattle.check_walk.proofs.keys.span_at.Goals as goal

pub loop-text-init : goal.loop-text-init
unfolding no_span no_part
loop-text-init c =
    over_records_start c.args.file.now c.args.at c.payload_at-payload.result c.payload_at-payload.ensures.value _
    (ap (λ n. take n c.args.file.now) c.end.ensures)

pub end-place-requires : goal.end-place-requires
unfolding text_said
end-place-requires c =
    let p = text⇒Placed c.args.at (take c.end.result c.args.file.now) c.loop-text.place _ (sym (c.in-Ok.ensures c.args.at)) in
    let all = length-take-le c.end.result c.args.file.now (omega (arith, c.end.ensures, c.payload_at-payload.ensures.length_in_bounds)) in
    omega (arith, p.within, all, c.end.ensures, c.payload_at-payload.ensures.length_in_bounds, c.well_formed)

pub loop-text-smaller : goal.loop-text-smaller
unfolding text_said
loop-text-smaller c =
    let p = text⇒Placed c.args.at (take c.end.result c.args.file.now) c.loop-text.place _ (sym (c.in-Ok.ensures c.args.at)) in
    omega (arith, p.within, p.forward, c.end-place.ensures)

pub loop-text-preserved : goal.loop-text-preserved
unfolding text_said
loop-text-preserved c =
    let read = sym (c.in-Ok.ensures c.args.at) in
    let p = text⇒Placed c.args.at (take c.end.result c.args.file.now) c.loop-text.place _ read in
    rw c.end-place.ensures
    (going_more _ _ _ _ _ _ (omega (arith, p.within, p.forward)) c.loop-text.invariant _ read (omega (arith, p.forward)) _
    (over_record_read (take c.end.result c.args.file.now) c.in-Ok.text p.within _ _ c.joined-span.ensures))

pub returns : goal.returns
unfolding text_said
returns c = sym (going_over _ _ _ _ _ _ c.loop-text.invariant _ _ (sym (c.in_default.ensures c.args.at)) ∙ over_records_end _)
