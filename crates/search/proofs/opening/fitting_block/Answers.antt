-- `fitting_block` meets its contract: size and level, then the block in the frame.
-- Assumes nothing.
use mathlib.Core.Path.{sym}
use Rattle.outcome.specs.Fault.{said_at, said}
use Rattle.search.proofs.OpeningLaws.{fitting_size, fitting_low, fitting_high, fitting_unsound, fitting_sound}
use Rattle.search.proofs.opening.fitting_block.Goals as goal

pub returns-then-f-named : goal.returns-then-f-named
unfolding said
returns-then-f-named c =
    fitting_size c.args.file.now c.args.named c.args.f c.if-f-named.true

pub returns-then-f-named-2 : goal.returns-then-f-named-2
unfolding said
returns-then-f-named-2 c =
    fitting_low c.args.file.now c.args.named c.args.f c.if-f-named.false c.if-f-named-2.true

pub returns-then-named-f : goal.returns-then-named-f
unfolding said
returns-then-named-f c =
    fitting_high c.args.file.now c.args.named c.args.f c.if-f-named.false c.if-f-named-2.false c.if-named-f.true

pub returns-in-Err : goal.returns-in-Err
unfolding said said_at
returns-in-Err c =
    fitting_unsound c.args.file.now c.args.named c.args.f c.if-f-named.false c.if-f-named-2.false c.if-named-f.false _ _ (sym c.in-Err.ensures)

pub returns-in-Ok : goal.returns-in-Ok
unfolding said said_at
returns-in-Ok c =
    fitting_sound c.args.file.now c.args.named c.args.f c.if-f-named.false c.if-f-named-2.false c.if-named-f.false _ _ (sym c.in-Ok.ensures)
