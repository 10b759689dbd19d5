use native.Mathlib.Omega.{arith}
use mathlib.Core.Path.{sym, ◌∙◌}
use Rattle.outcome.specs.Fault.{said_at}
use Rattle.framing.proofs.FrameLaws.{Framed, frame⇒Framed}
use Rattle.payload.specs.Answers.{text_said}
use Rattle.block.specs.Block.{is_data}
use Rattle.cursor.specs.Cursor.{behind, record_said, PartWithin, RecordWithin}
use Rattle.cursor.proofs.CursorLaws.{end_few, follow_within, follow_text, follow_block, follow_none}
use Rattle.cursor.proofs.Cursor.record_in.Goals as goal
use Rattle.cursor.proofs.Cursor.record_in.Goals.{In-Ok-frame_at}

pub loop-text-init : goal.loop-text-init
loop-text-init c = follow_within c.args.file.now c.args.self _ c.min.ensures

-- the frame that was read
framed : (c : In-Ok-frame_at) → Framed c.args.file.now c.loop-text.here.block c.in-Ok-frame_at.f
unfolding said_at
framed c = frame⇒Framed c.args.file.now c.loop-text.here.block _ (sym c.in-Ok-frame_at.ensures)

pub returns-in-Ok : goal.returns-in-Ok
unfolding text_said record_said RecordWithin PartWithin behind
returns-in-Ok c =
    let text = follow_text c.args.file.now c.loop-text.here.at c.loop-text.here.end c.loop-text.here.block _ _ (sym (c.in-Ok.ensures 0)) in
    let before = text.0 in
    record { result_value = sym text.1 ∙ c.loop-text.invariant.1; record_within = omega arith; here_follows = c.loop-text.invariant.1 }

pub returns-in_default-frame_at : goal.returns-in_default-frame_at
unfolding text_said said_at record_said RecordWithin PartWithin
returns-in_default-frame_at c =
    record {
      result_value = sym (follow_none c.args.file.now c.loop-text.here.at c.loop-text.here.end c.loop-text.here.block _ _ (sym (c.in_default.ensures 0)) _ _
          (sym c.in_default-frame_at.ensures)) ∙ c.loop-text.invariant.1;
      record_within = tt;
      here_follows = c.loop-text.invariant.1;
    }

pub overflow_add-here : goal.overflow_add-here
overflow_add-here c =
    let l = framed (goal.at.overflow_add-here c).In-Ok-frame_at in
    let number = l.number in let some = l.some in let sized = l.sized in let within = l.within in omega (arith, c.well_formed)

pub overflow_add-here-in-loop-text : goal.overflow_add-here-in-loop-text
overflow_add-here-in-loop-text c =
    let l = framed (goal.at.overflow_add-here-in-loop-text c).In-Ok-frame_at in
    let number = l.number in let some = l.some in let sized = l.sized in let within = l.within in omega (arith, c.well_formed)

pub loop-text-smaller : goal.loop-text-smaller
loop-text-smaller c =
    let l = framed (goal.at.loop-text-smaller c).In-Ok-frame_at in
    let number = l.number in let some = l.some in let sized = l.sized in let within = l.within in omega arith

pub loop-text-preserved : goal.loop-text-preserved
unfolding text_said said_at
loop-text-preserved c =
    let l = framed (goal.at.loop-text-preserved c).In-Ok-frame_at in
    let number = l.number in let some = l.some in let sized = l.sized in let within = l.within in (
      end_few (is_data _) _ _ _ c.records_end.ensures (omega arith),
      sym (follow_block c.args.file.now c.loop-text.here.at c.loop-text.here.end c.loop-text.here.block _ _ (sym (c.in_default.ensures 0)) _
          (sym c.in-Ok-frame_at.ensures) _ c.records_end.ensures) ∙ c.loop-text.invariant.1,
    )
