-- `added` meets its contract. Assumes nothing.
use native.Mathlib.Omega.{arith}
use Rattle.session_value.proofs.ValueLaws.{size_least, added_is}
use Rattle.session_value.proofs.Session.added.Goals as goal

pub overflow_sub-result : goal.overflow_sub-result
overflow_sub-result c =
    let least = size_least c.args.self.payload c.args.length c.args.size c.requires.1 in omega arith

pub overflow_sub-result-2 : goal.overflow_sub-result-2
overflow_sub-result-2 c =
    let least = size_least c.args.self.payload c.args.length c.args.size c.requires.1 in omega arith

pub overflow_add-result-3 : goal.overflow_add-result-3
overflow_add-result-3 c =
    let least = size_least c.args.self.payload c.args.length c.args.size c.requires.1 in omega arith

pub overflow_add-result-4 : goal.overflow_add-result-4
overflow_add-result-4 c =
    let least = size_least c.args.self.payload c.args.length c.args.size c.requires.1 in omega arith

pub returns : goal.returns
returns c =
    added_is c.args.self c.args.length c.args.size c.args.crc c.number_length.ensures (omega arith) (omega arith) (omega arith)
    (omega arith) (omega arith)
