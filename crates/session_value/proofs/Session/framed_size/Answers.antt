-- `framed_size` meets its contract. Assumes nothing.
use native.Mathlib.Omega.{arith}
use Rattle.uleb128.proofs.EncodingLaws.{encoding-length}
use Rattle.session_value.proofs.ValueLaws.{size_over, size_is}
use Rattle.session_value.proofs.Session.framed_size.Goals as goal

pub returns-then-most-length : goal.returns-then-most-length
returns-then-most-length c =
    size_over c.args.self c.args.length c.args.room _ (λ e. c.file_room-most.ensures.2 e) (omega arith)

pub overflow_add-payload : goal.overflow_add-payload
overflow_add-payload c = let few = encoding-length 9 c.args.length (omega arith) in omega (arith, c.file_room-most.ensures.1)

pub overflow_add-payload-2 : goal.overflow_add-payload-2
overflow_add-payload-2 c = let few = encoding-length 9 c.args.length (omega arith) in omega (arith, c.file_room-most.ensures.1)

pub returns : goal.returns
returns c = size_is c.args.self c.args.length c.args.room _ (λ e. c.file_room-most.ensures.2 e) _ (omega arith) c.block_size.ensures
