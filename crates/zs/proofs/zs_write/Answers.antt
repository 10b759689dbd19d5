-- `zs_write` meets its contract: that of `write`, and what the theorems say of its answer and output. Metadata and records are slices of u8, so
-- they are bytes. Assumes nothing.
use native.Mathlib.Omega.{arith}
use lib.ListN.{length}
use Rattle.byte_string.proofs.BytesLaws.{bytes_of_below}
use Rattle.theorems_write.proofs.WriteTheorems.{write_by_rules}
use Rattle.theorems_stores.proofs.WrittenTheorems.{write_in_stores}
use Rattle.zs.proofs.zs_write.Goals as goal

pub returns : goal.returns
returns c =
    let metadata_bytes = bytes_of_below c.args.metadata.now (λ k l. omega (arith, c.type_inv.metadata k)) in
    let records_bytes = bytes_of_below c.args.records.now (λ k l. omega (arith, c.type_inv.records k)) in
    let room = length c.args.output.now in
    let by_rules = write_by_rules c.args.metadata.now c.args.records.now _ _ room metadata_bytes records_bytes _ _ c.write.ensures.value
    c.write.ensures.output_after in
    let in_stores = write_in_stores c.args.metadata.now c.args.records.now _ _ room metadata_bytes records_bytes _ _ c.write.ensures.value
    c.write.ensures.output_after in
    record { value = c.write.ensures.value; output_after = c.write.ensures.output_after; written_by_rules = by_rules; written_in_stores = in_stores }
