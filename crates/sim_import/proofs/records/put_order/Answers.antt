-- `put_order` meets its contract. Assumes nothing.
use Rattle.sim_import.proofs.RecordLaws.{ordered}
use Rattle.sim_import.proofs.records.put_order.Goals as goal

pub returns : goal.returns
returns c =
    ordered c.args.dump.name_length c.args.dump.bytes.now _ _ c.put_offsets.ensures c.sort.ensures
