-- `collect` meets its contract: each way on is one law of `FramesLaws`. Assumes nothing.
use mathlib.Core.Path.{sym}
use Prim.Native.Nat.{◌^◌}
use native.Mathlib.Omega.{arith}
use lib.Seq.{length-take-le}
use Rattle.outcome.specs.Fault.{said_at}
use Rattle.framing.proofs.FrameLaws.{Framed, frame⇒Framed}
use Rattle.matching.proofs.CollectLaws.{collected_start}
use Rattle.reader.proofs.FramesLaws.{frames_room, frames_data, frames_other, frames_end, frames_refused}
use Rattle.reader.proofs.laid.collect.Goals.{In-Ok}
use Rattle.reader.proofs.laid.collect.Goals as goal

-- where the parts of the frame lie
framed : (c : In-Ok) → Framed c.args.file.now c.loop-at.at c.in-Ok.frame
unfolding said_at
framed c = frame⇒Framed c.args.file.now c.loop-at.at _ (sym c.in-Ok.ensures)

pub loop-at-init : goal.loop-at-init
loop-at-init c = collected_start _ _ _ _ _ _

pub returns-in_default : goal.returns-in_default
unfolding said_at
returns-in_default c = frames_refused _ _ _ _ _ _ c.loop-at.invariant c.loop-at-test.true _ _ (sym c.in_default.ensures)

pub overflow_add-at : goal.overflow_add-at
overflow_add-at c =
    let l = framed ((goal.at.overflow_add-at c).In-Ok) in let within = l.within in omega (arith, c.well_formed)

pub overflow_add-frame : goal.overflow_add-frame
overflow_add-frame c =
    let l = framed ((goal.at.overflow_add-frame c).In-Ok) in let some = l.some in let sized = l.sized in let within = l.within in
    omega (arith, c.well_formed)

pub slice_bounds-collect_records-end : goal.slice_bounds-collect_records-end
slice_bounds-collect_records-end c =
    let l = framed ((goal.at.slice_bounds-collect_records-end c).In-Ok) in let sized = l.sized in let within = l.within in
    sym (length-take-le _ c.args.file.now (omega arith))

pub collect_records-found-requires : goal.collect_records-found-requires
unfolding said_at
collect_records-found-requires c =
    frames_room _ _ _ _ _ _ c.loop-at.invariant c.loop-at-test.true _ (sym c.in-Ok.ensures) (2 ^ 64) (omega (arith, c.well_formed)) c.requires

pub loop-at-smaller-then-frame-eq0 : goal.loop-at-smaller-then-frame-eq0
loop-at-smaller-then-frame-eq0 c =
    let l = framed ((goal.at.loop-at-smaller-then-frame-eq0 c).In-Ok) in let number = l.number in let some = l.some in let sized = l.sized in
    let within = l.within in omega arith

pub loop-at-preserved-then-frame-eq0 : goal.loop-at-preserved-then-frame-eq0
unfolding said_at
loop-at-preserved-then-frame-eq0 c =
    frames_data _ _ _ _ _ _ c.loop-at.invariant c.loop-at-test.true _ (sym c.in-Ok.ensures) (omega arith) _ (c.collect_records-found.ensures _)

pub loop-at-smaller : goal.loop-at-smaller
loop-at-smaller c =
    let l = framed ((goal.at.loop-at-smaller c).In-Ok) in let number = l.number in let some = l.some in let sized = l.sized in
    let within = l.within in omega arith

pub loop-at-preserved : goal.loop-at-preserved
unfolding said_at
loop-at-preserved c =
    frames_other _ _ _ _ _ _ c.loop-at.invariant c.loop-at-test.true _ (sym c.in-Ok.ensures) (λ z. omega arith)

pub returns : goal.returns
returns c = frames_end _ _ _ _ _ _ c.loop-at.invariant c.loop-at-test.false
