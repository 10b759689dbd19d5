-- `zs_store` meets its contract: that of `store`, and what the theorems say of its answer.
-- Assumes nothing.
use borrow.Author.Rules.{rules}
use Rattle.theorems_stores.proofs.StoreTheorems.{store_by_rules}
use Rattle.zs.proofs.zs_store.Goals as goal

pub returns-clause-store_by_rules : goal.returns-clause-store_by_rules
returns-clause-store_by_rules c = store_by_rules _ _ _ (search rules)
