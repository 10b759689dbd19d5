use native.Mathlib.Omega.{arith}
use Rattle.check_names.proofs.BlockNamesLaws.{passing_start, passing_more, passing_broken, passing_end}
use Rattle.check_names.proofs.names.name_blocks.Goals as goal

pub loop-i-init : goal.loop-i-init
loop-i-init c = passing_start c.args.file.now c.args.work.now

pub returns-then-not-name_block : goal.returns-then-not-name_block
returns-then-not-name_block c =
    passing_broken c.args.file.now c.args.work.now c.loop-i.work c.loop-i.i c.loop-i.invariant (omega arith) _ _ c.name_block.ensures c.if-not-name_block.true

pub loop-i-preserved : goal.loop-i-preserved
loop-i-preserved c =
    passing_more c.args.file.now c.args.work.now c.loop-i.work c.loop-i.i c.loop-i.invariant (omega arith) _ _ c.name_block.ensures c.if-not-name_block.false

pub returns : goal.returns
returns c = passing_end c.args.file.now c.args.work.now c.loop-i.work c.loop-i.i c.loop-i.invariant (omega arith)
