-- `block_in` meets its contract: the level says which tests a payload has. Assumes nothing.
use mathlib.Core.Path.{sym, ◌∙◌}
use Rattle.outcome.proofs.ResultLaws.{fault_on}
use Rattle.outcome.specs.Fault.{said_at}
use Rattle.block.proofs.BlockLaws.{data_sound, data_unsound, index_sound, index_unsound, reserved_sound}
use Rattle.block.proofs.pass.block_in.Goals as goal

pub returns-in_err-records : goal.returns-in_err-records
unfolding said_at
returns-in_err-records c =
    fault_on _ _ _ c.from_residual.ensures.1
    ∙ sym (data_unsound c.args.file.now c.args.f _ _ c.if-f-eq0.true (sym (c.in_err-records.ensures c.args.f.start)))

pub returns-in_err-entries_at : goal.returns-in_err-entries_at
unfolding said_at
returns-in_err-entries_at c =
    fault_on _ _ _ c.from_residual-in_err-entries_at.ensures.1
    ∙ sym (index_unsound c.args.file.now c.args.f _ _ c.if-f-eq0.false (sym c.if-is_ordinary.ensures) (sym (c.in_err-entries_at.ensures c.args.f.start)))

pub returns-in_ok-records : goal.returns-in_ok-records
unfolding said_at
returns-in_ok-records c = sym (data_sound c.args.file.now c.args.f _ c.if-f-eq0.true (sym (c.in_ok-records.ensures c.args.f.start)))

pub returns-in_ok-entries_at : goal.returns-in_ok-entries_at
unfolding said_at
returns-in_ok-entries_at c =
    sym (index_sound c.args.file.now c.args.f _ c.if-f-eq0.false (sym c.if-is_ordinary.ensures) (sym (c.in_ok-entries_at.ensures c.args.f.start)))

pub returns-else-is_ordinary : goal.returns-else-is_ordinary
unfolding said_at
returns-else-is_ordinary c = sym (reserved_sound _ _ c.if-f-eq0.false (sym c.if-is_ordinary.ensures))
