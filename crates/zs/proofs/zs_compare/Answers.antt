-- `zs_compare` meets its contract: that of `compare_files`, and what the theorems say of its answer and list.
-- Assumes nothing.
use lib.ListN.{length}
use Rattle.theorems_compare.proofs.CompareTheorems.{compare_by_rules}
use Rattle.zs.proofs.zs_compare.Goals as goal

pub returns : goal.returns
returns c =
    let told = c.compare_files.ensures in
    record {
      value = told.value;
      list_after = told.list_after;
      work_after = told.work_after;
      compared_by_rules = compare_by_rules c.args.first.now c.args.second.now (length c.args.work.now)
          (length c.args.list.now) _ _ told.value told.list_after;
    }
