-- `put_record` meets its contract: each step leaves what the laws of the open block say. Assumes nothing.
use Prim.Native.Nat.{◌+◌, ◌≤◌}
use native.Mathlib.Omega.{arith}
use mathlib.Core.Path.{◌≡◌, ap, ◌∙◌}
use lib.ListN.{length}
use Rattle.endian.specs.FixedWidth.{little_bytes}
use Rattle.open_block.proofs.OpenBlockLaws.{room_text, room_block, old_less, number_put, put-register, put_block}
use Rattle.open_block.proofs.put_record.Goals.{After-number_length, After-number_length-2, After-put_number-number}
use Rattle.open_block.proofs.put_record.Goals as goal

-- the block fits, before the width of its number is known and with it
fits : (c : After-number_length) → c.args.start + (c.args.payload + (c.number_length.result + length c.args.bytes.now)) + 9 ≤ length c.args.output.now
fits c = room_text c.args.output.now c.args.start c.args.payload c.args.bytes.now c.requires c.number_length.ensures

room : (c : After-number_length-2)
    → c.args.start + c.number_length-2.result + (c.args.payload + (c.number_length.result + length c.args.bytes.now)) + 9 ≤ length c.args.output.now
room c =
    room_block c.args.output.now c.args.start c.args.payload c.args.bytes.now c.requires c.number_length.ensures _ c.number_length-2.ensures (omega arith)

-- all bytes of the record's number are put
number : (c : After-put_number-number) → c.put_number-number.result ≡ c.number_length.result
number c =
    number_put c.args.output.now c.args.start c.args.payload c.args.bytes.now c.requires c.number_length.ensures _ c.number_length-2.ensures (omega arith)
    c.number_length-3.ensures _ _ _ c.copy.ensures.1 c.put_number.ensures.1 (omega arith) (omega arith) (omega arith) _ c.put_number-number.ensures.0
    (omega arith)

pub overflow_add-text : goal.overflow_add-text
overflow_add-text c = omega (arith, fits ((goal.at.overflow_add-text c).After-number_length))

pub overflow_add-longer : goal.overflow_add-longer
overflow_add-longer c = omega (arith, fits ((goal.at.overflow_add-longer c).After-number_length))

pub overflow_add-longer-2 : goal.overflow_add-longer-2
overflow_add-longer-2 c = omega (arith, fits ((goal.at.overflow_add-longer-2 c).After-number_length))

pub overflow_add-body : goal.overflow_add-body
overflow_add-body c = omega (arith, room ((goal.at.overflow_add-body c).After-number_length-2))

pub overflow_add-payload : goal.overflow_add-payload
overflow_add-payload c = omega (arith, room ((goal.at.overflow_add-payload c).After-number_length-2))

pub overflow_add-source : goal.overflow_add-source
overflow_add-source c =
    let within = room ((goal.at.overflow_add-source c).After-number_length-2) in
    let less = old_less c.args.output.now c.args.start c.args.payload c.args.bytes.now c.requires c.number_length.ensures _
    c.number_length-2.ensures (omega arith) c.number_length-3.ensures in
    omega arith

pub overflow_add-source-2 : goal.overflow_add-source-2
overflow_add-source-2 c = omega (arith, room ((goal.at.overflow_add-source-2 c).After-number_length-2))

pub overflow_add-longer-3 : goal.overflow_add-longer-3
overflow_add-longer-3 c = omega (arith, room ((goal.at.overflow_add-longer-3 c).After-number_length-2))

pub overflow_add-at : goal.overflow_add-at
overflow_add-at c = omega (arith, room ((goal.at.overflow_add-at c).After-number_length-2))

pub overflow_add-at-2 : goal.overflow_add-at-2
overflow_add-at-2 c = omega (arith, room ((goal.at.overflow_add-at-2 c).After-number_length-2))

pub overflow_add-at-3 : goal.overflow_add-at-3
overflow_add-at-3 c =
    let within = room ((goal.at.overflow_add-at-3 c).After-number_length-2) in
    omega (arith, number ((goal.at.overflow_add-at-3 c).After-put_number-number))

pub overflow_add-end : goal.overflow_add-end
overflow_add-end c = omega (arith, room ((goal.at.overflow_add-end c).After-number_length-2))

pub slice_bounds-absorb-end : goal.slice_bounds-absorb-end
slice_bounds-absorb-end c = omega (arith, room ((goal.at.slice_bounds-absorb-end c).After-number_length-2))

pub returns : goal.returns
returns c =
    record {
      value = put-register c.args.output.now c.args.start c.args.payload c.args.bytes.now c.requires c.number_length.ensures _
          c.number_length-2.ensures (omega arith) c.number_length-3.ensures _ _ _ c.copy.ensures.1 c.put_number.ensures.1 (omega arith)
          (omega arith) (omega arith) _ c.put_number-number.ensures.0 (omega arith) c.put_number-number.ensures.1 c.put.ensures.1 _ c.args.register
          c.absorb-more.ensures (omega arith);
      by_index = put_block c.args.output.now c.args.start c.args.payload c.args.bytes.now c.requires
          c.number_length.ensures _ c.number_length-2.ensures (omega arith) c.number_length-3.ensures _ _ _ c.copy.ensures.1
          c.put_number.ensures.1 (omega arith) (omega arith) (omega arith) _ c.put_number-number.ensures.0 (omega arith) c.put_number-number.ensures.1
          c.put.ensures.1 _ c.args.register c.absorb-more.ensures (omega arith) (c.le64_bytes-crc.ensures ∙ ap (little_bytes 8) c.finish.ensures)
          c.put-2.ensures.1;
    }
