-- `zs_check` meets its contract: that of `check`, and what the theorems say of its answer. Assumes nothing.
use lib.ListN.{length}
use borrow.Author.Rules.{rules}
use Rattle.theorems_check.proofs.CheckTheorems.{check_by_rules}
use Rattle.zs.proofs.zs_check.Goals as goal

pub returns-clause-checked_by_rules : goal.returns-clause-checked_by_rules
returns-clause-checked_by_rules c = check_by_rules c.args.file.now (length c.args.work.now) _ (search rules)
