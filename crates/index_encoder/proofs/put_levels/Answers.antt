use mathlib.Core.Path.{subst}
use native.Mathlib.Omega.{arith}
use Rattle.index_encoder.specs.Level.{LevelPut}
use Rattle.index_encoder.proofs.LevelsLaws.{raising_none, raising_requires, raising_refused, raising_nothing, raising_root, raising_more, raising_ends}
use Rattle.index_encoder.proofs.put_levels.Goals as goal

pub loop-put-init : goal.loop-put-init
loop-put-init c = raising_none _ _ _ _ c.requires.0 c.requires.2 c.requires.1

pub put_level-requires : goal.put_level-requires
put_level-requires c =
    raising_requires _ _ _ _ c.requires.0 c.requires.2 _ _ _ _ c.loop-put.invariant

pub returns-in_err-put : goal.returns-in_err-put
returns-in_err-put c =
    raising_refused _ _ _ _ c.requires.0 c.requires.2 _ _ _ _ c.loop-put.invariant _ _ c.put_level.ensures
    c.in_err-put.ensures.ok_part c.in_err-put.ensures.value _ c.from_residual.ensures.1

pub returns-in-0 : goal.returns-in-0
returns-in-0 c =
    raising_nothing _ _ _ _ c.requires.0 c.requires.2 _ _ _ _ c.loop-put.invariant _ _
    (subst (LevelPut _ _ _ _) c.in_ok-put.ensures.ok_part c.put_level.ensures) c.in-0.is

pub overflow_sub-result : goal.overflow_sub-result
overflow_sub-result c =
    raising_ends _ _ _ _ c.requires.0 c.requires.2 _ _ _ _ c.loop-put.invariant _ _
    (subst (LevelPut _ _ _ _) c.in_ok-put.ensures.ok_part c.put_level.ensures)

pub returns-in-1 : goal.returns-in-1
returns-in-1 c =
    raising_root _ _ _ _ c.requires.0 c.requires.2 _ _ _ _ c.loop-put.invariant _ _
    (subst (LevelPut _ _ _ _) c.in_ok-put.ensures.ok_part c.put_level.ensures) c.in-1.is

pub overflow_add-level : goal.overflow_add-level
overflow_add-level c = let low = c.loop-put.invariant.low in omega arith

pub loop-put-smaller : goal.loop-put-smaller
loop-put-smaller c = let low = c.loop-put.invariant.low in omega arith

pub loop-put-preserved : goal.loop-put-preserved
loop-put-preserved c =
    raising_more _ _ _ _ c.requires.0 c.requires.2 _ _ _ _ c.loop-put.invariant _ _
    (subst (LevelPut _ _ _ _) c.in_ok-put.ensures.ok_part c.put_level.ensures) (omega arith)
