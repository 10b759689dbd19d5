-- `put_entry` meets its contract: the key's length, the key, the offset and the size stand side by side. Assumes nothing.
use native.Mathlib.Omega.{arith}
use Rattle.index_encoder.proofs.EntryLaws.{entry_number, entry_offset, entry_stored}
use Rattle.index_encoder.proofs.entries.put_entry.Goals as goal

pub overflow_add-text : goal.overflow_add-text
overflow_add-text c =
    let number = entry_number c.args.output.now c.args.place c.args.child.key c.args.offset c.args.child.size c.requires.0 c.requires.1
    c.put_number.ensures.0 in omega (arith, number.1)

pub overflow_add-after : goal.overflow_add-after
overflow_add-after c =
    let number = entry_number c.args.output.now c.args.place c.args.child.key c.args.offset c.args.child.size c.requires.0 c.requires.1
    c.put_number.ensures.0 in omega (arith, number.1)

pub overflow_add-next : goal.overflow_add-next
overflow_add-next c =
    let second = entry_offset c.args.output.now c.args.place c.args.child.key c.args.offset c.args.child.size c.requires.0 c.requires.1
    c.put_number.ensures.0 c.put_number.ensures.1 c.copy.ensures.1 c.put_number-2.ensures.0 in omega (arith, second.1)

pub overflow_add-result : goal.overflow_add-result
overflow_add-result c =
    let all = entry_stored c.args.output.now c.args.place c.args.child.key c.args.offset c.args.child.size c.requires.0 c.requires.1
    c.put_number.ensures.0 c.put_number.ensures.1 c.copy.ensures.1 c.put_number-2.ensures.0 c.put_number-2.ensures.1
    c.put_number-3.ensures.0 c.put_number-3.ensures.1 in omega (arith, all.2)

pub returns : goal.returns
returns c =
    let all = entry_stored c.args.output.now c.args.place c.args.child.key c.args.offset c.args.child.size c.requires.0 c.requires.1
    c.put_number.ensures.0 c.put_number.ensures.1 c.copy.ensures.1 c.put_number-2.ensures.0 c.put_number-2.ensures.1
    c.put_number-3.ensures.0 c.put_number-3.ensures.1 in record { value = all.0; output_after = all.1 }
