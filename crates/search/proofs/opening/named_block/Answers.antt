-- `named_block` meets its contract: the offset, the frame there, then the block in it.
-- Assumes nothing.
use mathlib.Core.Path.{sym}
use Rattle.outcome.specs.Fault.{said_at, said}
use Rattle.search.proofs.OpeningLaws.{frame_within, named_before, named_after, named_unsound, named_sound}
use Rattle.search.proofs.opening.named_block.Goals as goal

pub returns-then-offset-from : goal.returns-then-offset-from
unfolding said
returns-then-offset-from c =
    named_before c.args.file.now c.args.from c.args.named c.if-offset-from.true

pub returns-then-file-offset : goal.returns-then-file-offset
unfolding said
returns-then-file-offset c =
    named_after c.args.file.now c.args.from c.args.named c.if-offset-from.false c.if-file-offset.true

pub fitting_block-requires : goal.fitting_block-requires
unfolding said_at
fitting_block-requires c =
    frame_within c.args.file.now c.args.named.offset _ (sym c.in-Ok.ensures)

pub returns-in-Err : goal.returns-in-Err
unfolding said said_at
returns-in-Err c =
    named_unsound c.args.file.now c.args.from c.args.named c.if-offset-from.false c.if-file-offset.false _ _ (sym c.in-Err.ensures)

pub returns-in-Ok : goal.returns-in-Ok
unfolding said_at
returns-in-Ok c =
    named_sound c.args.file.now c.args.from c.args.named c.if-offset-from.false c.if-file-offset.false _ _ (sym c.in-Ok.ensures)
    c.fitting_block.ensures
