-- `write_cleared` meets its contract. Assumes nothing.
use mathlib.Core.Path.{ap, ◌∙◌}
use mathlib.Core.Logic.{inl, inr}
use Rattle.outcome.specs.Fault.{said_at}
use Rattle.output_list.specs.OutputList.{zeros}
use Rattle.writer.proofs.WriteLaws.{input_passed, write_stops, write_ended}
use Rattle.writer.proofs.write_cleared.Goals.{then-is_none, else-is_none}
use Rattle.writer.proofs.write_cleared.Goals as goal

pub returns-in_err-check_input : goal.returns-in_err-check_input
unfolding said_at
returns-in_err-check_input c =
    let both = write_stops c.args.metadata.now c.args.records.now _ _ _ _ c.in_err-check_input.ensures _ c.from_residual.ensures.1 c.requires in
    record { value = both.0; output_after = both.1 }

pub put_file-length-requires : goal.put_file-length-requires
unfolding said_at
put_file-length-requires c =
    (c.requires, input_passed c.args.metadata.now c.args.records.now _ _ 0 c.in_ok-check_input.ensures)

pub returns : goal.returns
unfolding said_at
returns c =
    let known = input_passed c.args.metadata.now c.args.records.now _ _ 0 c.in_ok-check_input.ensures in
    let both = write_ended c.args.metadata.now c.args.records.now _ _ _ known.0 known.1 _ _ (c.put_file-length.ensures known.0 known.1) c.is_none.ensures
    (elim c.if-is_none.branch [
      | then-is_none w ↦ inl (w.if-is_none.true, w.output-is ∙ w.clear.ensures ∙ ap zeros c.put_file-length.auto.output)
      | else-is_none w ↦ inr (w.if-is_none.false, w.output-is)
    ]) c.ok_or.ensures.value in
    record { value = both.0; output_after = both.1 }
