-- `input_fault` meets its contract. Assumes nothing.
use mathlib.Core.Path.{ap}
use Rattle.outcome.specs.Fault.{number}
use Rattle.writer.proofs.InputRuleLaws.{not_rising, malformed, order_only}
use Rattle.writer.proofs.input.input_fault.Goals as goal

pub returns-in-RecordOrder : goal.returns-in-RecordOrder
unfolding number
returns-in-RecordOrder c = not_rising _ (ap number c.in-RecordOrder.is)

pub returns-in_default : goal.returns-in_default
unfolding number
returns-in_default c = malformed _ (λ e. c.in_default.not-RecordOrder (order_only _ e))
