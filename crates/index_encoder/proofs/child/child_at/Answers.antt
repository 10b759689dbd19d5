-- `child_at` meets its contract: the frame, the first byte string of the payload, and for a data block its key and its last record.
-- Assumes nothing.
use mathlib.Core.Path.{sym}
use native.Mathlib.Omega.{arith}
use lib.Seq.{length-take-le}
use Rattle.outcome.specs.Fault.{said_at}
use Rattle.framing.proofs.FrameLaws.{frame⇒Framed}
use Rattle.payload.specs.Answers.{text_said}
use Rattle.index_encoder.specs.Children.{bytes_of}
use Rattle.index_encoder.proofs.ChildLaws.{child_fault, child_frameless, child_keyless, first-within, index_child_told, data_child_told}
use Rattle.index_encoder.proofs.child.child_at.Goals as goal

pub returns-in_err-frame : goal.returns-in_err-frame
unfolding said_at
returns-in_err-frame c =
    let both = child_fault c.args.s.now c.args.at _ _ c.from_residual.ensures.1
    (child_frameless c.args.s.now (bytes_of c.args.s.now c.args.at.before) c.args.at.offset _ _ (sym c.in_err-frame.ensures)) in
    record { result_value = both.0; child_within = both.1 }

pub slice_bounds-block-end : goal.slice_bounds-block-end
unfolding said_at
slice_bounds-block-end c =
    let f = frame⇒Framed c.args.s.now c.args.at.offset _ (sym c.in_ok-frame.ensures) in
    let sized = f.sized in let within = f.within in sym (length-take-le _ c.args.s.now (omega arith))

pub overflow_add-frame : goal.overflow_add-frame
unfolding said_at
overflow_add-frame c =
    let f = frame⇒Framed c.args.s.now c.args.at.offset _ (sym c.in_ok-frame.ensures) in
    let some = f.some in let sized = f.sized in let within = f.within in omega (arith, c.well_formed)

pub returns-in_err-first : goal.returns-in_err-first
unfolding said_at text_said
returns-in_err-first c =
    let both = child_fault c.args.s.now c.args.at _ _ c.from_residual-in_err-first.ensures.1
    (child_keyless c.args.s.now (bytes_of c.args.s.now c.args.at.before) c.args.at.offset _ (sym c.in_ok-frame.ensures) _ _
    (sym (c.in_err-first.ensures c.args.at.offset))) in
    record { result_value = both.0; child_within = both.1 }

pub returns-then-frame-ne0 : goal.returns-then-frame-ne0
unfolding said_at text_said
returns-then-frame-ne0 c =
    let both = index_child_told c.args.s.now c.args.at _ (sym c.in_ok-frame.ensures) _ (sym (c.in_ok-first.ensures c.args.at.offset))
    c.if-frame-ne0.true in record { result_value = both.0; child_within = both.1 }

pub key_after-requires : goal.key_after-requires
unfolding said_at text_said
key_after-requires c = (
  c.requires,
  (first-within c.args.s.now c.args.at _ (sym c.in_ok-frame.ensures) _ (sym (c.in_ok-first.ensures c.args.at.offset))).0,
)

pub last_record-requires : goal.last_record-requires
unfolding said_at text_said
last_record-requires c =
    (first-within c.args.s.now c.args.at _ (sym c.in_ok-frame.ensures) _ (sym (c.in_ok-first.ensures c.args.at.offset))).1

pub returns : goal.returns
unfolding said_at text_said
returns c =
    let both = data_child_told c.args.s.now c.args.at _ (sym c.in_ok-frame.ensures) _ (sym (c.in_ok-first.ensures c.args.at.offset))
    c.if-frame-ne0.false _ _ c.key_after.ensures.result_value c.key_after.ensures.offset_value.0 c.key_after.ensures.offset_value.1
    c.last_record.ensures.result_value c.last_record.ensures.within in record { result_value = both.0; child_within = both.1 }
