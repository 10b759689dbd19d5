-- `block_size` meets its contract: a block whose size is no number doesn't fit. Assumes nothing.
use Prim.Native.Nat.{◌+◌}
use mathlib.Core.Path.{◌≡◌, ◌∙◌}
use native.Mathlib.Omega.{arith}
use Rattle.layout.specs.Blocks.{block_size}
use Rattle.uleb128.proofs.EncodingLaws.{encoding-length}
use Rattle.encoder.proofs.PutLaws.{block_size_lem, block_size_some, size_none, size_is}
use Rattle.encoder.proofs.block_size.Goals.{After-number_length-number}
use Rattle.encoder.proofs.block_size.Goals as goal

pub returns-in_err-checked_add : goal.returns-in_err-checked_add
returns-in_err-checked_add c =
    let some = block_size_some c.args.payload in
    c.from_residual.ensures ∙ size_none _ _ _ (omega (arith, c.in_err-checked_add.ensures))

pub overflow_add-number : goal.overflow_add-number
overflow_add-number c =
    let value = c.in_ok-checked_add.ensures in
    let few = encoding-length 9 c.in_ok-checked_add.field-0 (omega arith) in omega arith

-- the full size, as it is counted
full : (c : After-number_length-number) → c.args.payload + (c.number_length-number.result + 9) ≡ block_size c.args.payload
full c = block_size_lem _ _ _ c.in_ok-checked_add.ensures.1 c.number_length-number.ensures

pub returns-in_err-size : goal.returns-in_err-size
returns-in_err-size c =
    let size = full ((goal.at.returns-in_err-size c).After-number_length-number) in
    c.from_residual-in_err-size.ensures ∙ size_none _ _ _ (omega (arith, c.in_err-size.ensures))

pub returns-in_err-end : goal.returns-in_err-end
returns-in_err-end c =
    let size = full ((goal.at.returns-in_err-end c).After-number_length-number) in
    c.from_residual-in_err-end.ensures ∙ size_none _ _ _ (omega (arith, c.in_err-end.ensures, c.in_ok-size.ensures))

pub returns : goal.returns
returns c =
    let size = full ((goal.at.returns c).After-number_length-number) in
    c.then_some.ensures ∙ size_is _ _ _ _ _ (c.in_ok-size.ensures.1 ∙ size) c.in_ok-end.ensures.1
