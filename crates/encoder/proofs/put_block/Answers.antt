-- `put_block` meets its contract: number, level byte, payload and CRC stand side by side. Assumes nothing.
use Prim.Native.Nat.{◌+◌, ◌≤◌}
use native.Mathlib.Omega.{arith}
use mathlib.Core.Path.{ap, ◌∙◌}
use lib.ListN.{length}
use Rattle.endian.specs.FixedWidth.{little_bytes}
use Rattle.encoder.proofs.PutLaws.{size_out, size_within, block_number, block_stored}
use Rattle.encoder.proofs.put_block.Goals.{After-put_number}
use Rattle.encoder.proofs.put_block.Goals as goal

pub returns-in_err-size : goal.returns-in_err-size
returns-in_err-size c = rw c.from_residual.ensures (size_out _ _ _ _ c.in_err-size.ensures)

-- the block lies within the output, the bytes of its number counted
within : (c : After-put_number) → c.args.at + (c.put_number.result + (length c.args.payload.now + 9)) ≤ length c.args.output.now
within c =
    let fits = (size_within c.args.output.now c.args.at c.args.payload.now _ c.in_ok-size.ensures).1 in
    (block_number c.args.output.now c.args.at c.args.payload.now fits c.put_number.ensures.0).1

pub overflow_add-body : goal.overflow_add-body
overflow_add-body c = let h = within ((goal.at.overflow_add-body c).After-put_number) in omega arith

pub overflow_add-body-2 : goal.overflow_add-body-2
overflow_add-body-2 c = let h = within ((goal.at.overflow_add-body-2 c).After-put_number) in omega arith

pub overflow_add-end : goal.overflow_add-end
overflow_add-end c = let h = within ((goal.at.overflow_add-end c).After-put_number) in omega arith

pub overflow_add-end-2 : goal.overflow_add-end-2
overflow_add-end-2 c = let h = within ((goal.at.overflow_add-end-2 c).After-put_number) in omega arith

pub returns : goal.returns
returns c =
    let fits = size_within c.args.output.now c.args.at c.args.payload.now _ c.in_ok-size.ensures in
    let number = block_number c.args.output.now c.args.at c.args.payload.now fits.1 c.put_number.ensures.0 in
    block_stored c.args.output.now c.args.at _ c.args.payload.now fits.1 fits.0 number.0
    (c.le64_bytes-crc.ensures ∙ ap (little_bytes 8) c.block_crc.ensures) c.put_number.ensures.1 c.put.ensures.1 c.put-2.ensures.1 c.put-3.ensures.1
