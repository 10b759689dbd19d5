use native.Mathlib.Omega.{arith}
use lib.ListN.{length-take}
use Rattle.index_encoder.proofs.LevelLaws.{leveling_none, leveling_held, leveling_more}
use Rattle.index_encoder.proofs.LevelLaws.{level_all, level_requires, level_falls, level_none, level_size}
use Rattle.index_encoder.proofs.level.put_level.Goals as goal

pub loop-at-init : goal.loop-at-init
loop-at-init c = rw c.start-at.ensures (leveling_none _ _ _ _ _ c.requires.1)

pub measure-group-requires : goal.measure-group-requires
measure-group-requires c =
    let low = c.requires.1 in let short = c.requires.2 in (
      simp length-take (omega arith),
      leveling_held _ _ _ _ _ _ _ _ _ c.loop-at.invariant,
    )

pub returns-then-group-eq0 : goal.returns-then-group-eq0
returns-then-group-eq0 c =
    level_all _ _ _ _ _ _ _ _ _ c.loop-at.invariant c.requires.0 _ c.measure-group.ensures (let none = c.if-group-eq0.true in omega arith)

pub put_index_block-requires : goal.put_index_block-requires
put_index_block-requires c =
    level_requires _ _ _ _ _ _ _ _ _ c.loop-at.invariant c.requires.0 _ c.measure-group.ensures

pub loop-at-smaller : goal.loop-at-smaller
loop-at-smaller c =
    level_falls _ _ _ _ _ _ _ _ _ c.loop-at.invariant c.requires.0 _ c.measure-group.ensures (let some = c.if-group-eq0.false in omega arith)

pub returns-in_err-end : goal.returns-in_err-end
returns-in_err-end c =
    rw c.from_residual.ensures (level_none _ _ _ _ _ _ _ _ _ c.loop-at.invariant c.requires.0 _ c.measure-group.ensures
    (let some = c.if-group-eq0.false in omega arith) c.in_err-end.ensures.value c.in_err-end.ensures.output_after)

pub overflow_add-end : goal.overflow_add-end
overflow_add-end c =
    let put = level_size _ _ _ _ _ _ _ _ _ c.loop-at.invariant c.requires.0 _ c.measure-group.ensures
    (let some = c.if-group-eq0.false in omega arith) c.in_ok-end.ensures.value c.in_ok-end.ensures.output_after in
    let short = c.requires.2 in omega (arith, put.1)

pub loop-at-preserved : goal.loop-at-preserved
loop-at-preserved c =
    leveling_more _ _ _ _ _ _ _ _ _ c.loop-at.invariant c.requires.0 _ c.measure-group.ensures (let some = c.if-group-eq0.false in omega arith)
    c.in_ok-end.ensures.value c.in_ok-end.ensures.output_after
