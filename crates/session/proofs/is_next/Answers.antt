-- `is_next` meets its contract. Assumes nothing.
use mathlib.Core.Path.{ap, ◌∙◌}
use native.Mathlib.Omega.{arith}
use Rattle.record.specs.Record.{record_of}
use Rattle.session.proofs.LastLaws.{first_next, compared_next}
use Rattle.session.proofs.is_next.Goals as goal

pub returns-then-session-eq0 : goal.returns-then-session-eq0
returns-then-session-eq0 c =
    λ d held. first_next d c.args.session c.args.output.now held c.args.«record».now c.if-session-eq0.true

pub returns : goal.returns
returns c =
    λ d held. compared_next d c.args.session c.args.output.now held c.if-session-eq0.false c.args.«record».now
    (c.record-last.ensures.result_value ∙ ap (record_of c.args.output.now c.args.session.last) (omega arith)) c.compare.ensures c.at_most.ensures
