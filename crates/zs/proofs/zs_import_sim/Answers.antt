-- `zs_import_sim` meets its contract: that of `import_sim`, and what the theorems say of its answer and output. Assumes nothing.
use lib.ListN.{length}
use Rattle.theorems_import.proofs.ImportTheorems.{import_by_rules}
use Rattle.zs.proofs.zs_import_sim.Goals as goal

pub returns : goal.returns
returns c =
    let by-rules = import_by_rules c.args.dump.now _ (length c.args.output.now) _ _ c.import_sim.ensures.value c.import_sim.ensures.output_after in
    record { value = c.import_sim.ensures.value; output_after = c.import_sim.ensures.output_after; imported_by_rules = by-rules }
