-- `put_index_block` meets its contract: number, level byte, entries and CRC stand side by side. Assumes nothing.
use native.Mathlib.Omega.{arith}
use Rattle.index_encoder.proofs.LevelLaws.{block_none, index_room, index_number, index_fits, index_ends, index_stored}
use Rattle.index_encoder.proofs.level.put_index_block.Goals as goal

pub returns-in_err-size : goal.returns-in_err-size
returns-in_err-size c =
    let both = block_none c.args.output.now c.args.level c.args.to c.args.from c.args.group.count c.args.place
    c.args.group.length c.requires.0 c.requires.1 c.requires.2 c.in_err-size.ensures in
    rw c.from_residual.ensures (record { value = both.0; output_after = both.1 })

pub overflow_add-group : goal.overflow_add-group
overflow_add-group c =
    let room = index_room c.args.output.now c.args.level c.args.to c.args.from c.args.group.count c.args.place
    c.args.group.length c.requires.0 c.requires.1 c.requires.2 c.in_ok-size.ensures in omega (arith, c.well_formed)

pub overflow_add-body : goal.overflow_add-body
overflow_add-body c =
    let number = index_number c.args.output.now c.args.level c.args.to c.args.from c.args.group.count c.args.place
    c.args.group.length c.requires.0 c.requires.1 c.requires.2 c.in_ok-size.ensures c.put_number.ensures.0 in omega (arith, number.1)

pub overflow_add-body-2 : goal.overflow_add-body-2
overflow_add-body-2 c =
    let number = index_number c.args.output.now c.args.level c.args.to c.args.from c.args.group.count c.args.place
    c.args.group.length c.requires.0 c.requires.1 c.requires.2 c.in_ok-size.ensures c.put_number.ensures.0 in omega (arith, number.1)

pub put_entries-end-requires : goal.put_entries-end-requires
put_entries-end-requires c =
    index_fits c.args.output.now c.args.level c.args.to c.args.from c.args.group.count c.args.place c.args.group.length c.requires.0
    c.requires.1 c.requires.2 c.in_ok-size.ensures c.put_number.ensures.0 c.put_number.ensures.1 c.put.ensures.1

pub slice_bounds-checksum-count : goal.slice_bounds-checksum-count
slice_bounds-checksum-count c =
    let ends = index_ends c.args.output.now c.args.level c.args.to c.args.from c.args.group.count c.args.place
    c.args.group.length c.requires.0 c.requires.1 c.requires.2 c.in_ok-size.ensures c.put_number.ensures.0 c.put_number.ensures.1
    c.put.ensures.1 c.put_entries-end.ensures.value c.put_entries-end.ensures.output_after in omega (arith, ends.0)

pub slice_bounds-checksum-start : goal.slice_bounds-checksum-start
slice_bounds-checksum-start c =
    let ends = index_ends c.args.output.now c.args.level c.args.to c.args.from c.args.group.count c.args.place
    c.args.group.length c.requires.0 c.requires.1 c.requires.2 c.in_ok-size.ensures c.put_number.ensures.0 c.put_number.ensures.1
    c.put.ensures.1 c.put_entries-end.ensures.value c.put_entries-end.ensures.output_after in omega (arith, ends.0, ends.1)

pub slice_bounds-checksum-end : goal.slice_bounds-checksum-end
slice_bounds-checksum-end c =
    let ends = index_ends c.args.output.now c.args.level c.args.to c.args.from c.args.group.count c.args.place
    c.args.group.length c.requires.0 c.requires.1 c.requires.2 c.in_ok-size.ensures c.put_number.ensures.0 c.put_number.ensures.1
    c.put.ensures.1 c.put_entries-end.ensures.value c.put_entries-end.ensures.output_after in omega (arith, ends.0, ends.1)

pub returns : goal.returns
returns c =
    let both = index_stored c.args.output.now c.args.level c.args.to c.args.from c.args.group.count c.args.place c.args.group.length
    c.requires.0 c.requires.1 c.requires.2 c.in_ok-size.ensures c.put_number.ensures.0 c.put_number.ensures.1 c.put.ensures.1
    c.put_entries-end.ensures.value c.put_entries-end.ensures.output_after c.checksum.ensures c.le64_bytes-crc.ensures c.put-2.ensures.1 in
    record { value = both.0; output_after = both.1 }
