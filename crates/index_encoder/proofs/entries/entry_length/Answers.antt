-- `entry_length` meets its contract: the lengths of the four parts. Assumes nothing.
use native.Mathlib.Omega.{arith}
use Rattle.index_encoder.proofs.EntryLaws.{number_few, length_entry_in}
use Rattle.index_encoder.proofs.entries.entry_length.Goals as goal

pub overflow_add-result : goal.overflow_add-result
overflow_add-result c =
    let few = number_few c.args.child.key.length c.requires.0 in let long = c.number_length.ensures in omega arith

pub overflow_add-result-2 : goal.overflow_add-result-2
overflow_add-result-2 c =
    let few = number_few c.args.child.key.length c.requires.0 in let long = c.number_length.ensures in let few2 = number_few c.args.offset c.requires.1
    in let long2 = c.number_length-2.ensures in omega arith

pub overflow_add-result-3 : goal.overflow_add-result-3
overflow_add-result-3 c =
    let few = number_few c.args.child.key.length c.requires.0 in let long = c.number_length.ensures in let few2 = number_few c.args.offset c.requires.1
    in let long2 = c.number_length-2.ensures in let few3 = number_few c.args.child.size c.requires.2 in let long3 = c.number_length-3.ensures in omega arith

pub returns : goal.returns
returns c s within =
    let long = c.number_length.ensures in let long2 = c.number_length-2.ensures in let long3 = c.number_length-3.ensures in let all
    = length_entry_in s c.args.child.key c.args.offset c.args.child.size within in omega arith
