-- `name_block` meets its contract: the frame at a start is that of the block there.
use mathlib.Core.Path.{sym}
use native.Mathlib.Omega.{arith}
use borrow.Author.Tests.{eq-eqb}
use Rattle.outcome.specs.Fault.{said_at}
use Rattle.framing.proofs.FrameLaws.{frame⇒Framed}
use Rattle.check_names.proofs.BlockNamesLaws.{block_framed, block_none, block_index}
use Rattle.check_names.proofs.names.name_block.Goals as goal

pub name_entries-requires : goal.name_entries-requires
unfolding said_at
name_entries-requires c =
    let l = frame⇒Framed c.args.file.now c.args.start c.in-Ok.frame (sym c.in-Ok.ensures) in (l.some, omega (arith, l.sized, l.within))

pub returns-then-frame-eq0 : goal.returns-then-frame-eq0
unfolding said_at
returns-then-frame-eq0 c first seen b k m at =
    rw (eq-eqb _ _ c.if-frame-eq0.true)
    (block_none c.args.file.now first seen c.args.work.now k b m c.args.start at c.in-Ok.frame (sym c.in-Ok.ensures) c.if-frame-eq0.true)

pub returns-else-frame-eq0 : goal.returns-else-frame-eq0
unfolding said_at
returns-else-frame-eq0 c first seen b k m at =
    block_index c.args.file.now first seen c.args.work.now k b m c.args.start at c.in-Ok.frame (sym c.in-Ok.ensures) c.if-frame-eq0.false _ _
    c.name_entries.ensures

pub returns-in-Err : goal.returns-in-Err
unfolding said_at
returns-in-Err c first seen b k m at =
    absurd (block_framed c.args.file.now first seen c.args.work.now k b m c.args.start at _ _ (sym c.in-Err.ensures))
