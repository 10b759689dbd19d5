use native.Mathlib.Omega.{arith}
use Rattle.sim_import.proofs.RecordLaws.{writing_none, writing_fits, writing_more, writing_all}
use Rattle.sim_import.proofs.records.put_records.Goals as goal

pub loop-k-init : goal.loop-k-init
loop-k-init c = writing_none _ _ _

pub put_record-used-requires : goal.put_record-used-requires
put_record-used-requires c =
    writing_fits _ _ _ _ (c.requires) _ _ _ _ c.loop-k.invariant c.loop-k-test.true c.le64_at-from.ensures

pub overflow_add-used : goal.overflow_add-used
overflow_add-used c =
    let fits = writing_fits _ _ _ _ (c.requires) _ _ _ _ c.loop-k.invariant c.loop-k-test.true c.le64_at-from.ensures in omega
    (arith, c.put_record-used.ensures.0)

pub loop-k-preserved : goal.loop-k-preserved
loop-k-preserved c =
    writing_more _ _ _ _ (c.requires) _ _ _ _ c.loop-k.invariant c.loop-k-test.true c.le64_at-from.ensures _ _ c.put_record-used.ensures.0
    c.put_record-used.ensures.1

pub returns : goal.returns
returns c =
    writing_all _ _ _ _ (c.requires) _ _ _ c.loop-k.invariant c.loop-k-test.false
