-- `survey_record` meets its contract: each way through the tests is the definition's. Assumes nothing.
use mathlib.Core.Path.{sym, ap, ap₂, ◌∙◌}
use Prim.Native.Nat.{◌+◌}
use native.Mathlib.Omega.{arith}
use Rattle.std.proofs.lemmas.Result.{err_from_is_err_and}
use Rattle.part.specs.Part.{part}
use Rattle.outcome.specs.Fault.{said_at}
use Rattle.sim.specs.Adn.{judged, name_of}
use Rattle.sim.proofs.AdnLaws.{filled_parts}
use Rattle.sim_import.proofs.SurveyLaws.{survey_free, judged_refused, judged_some, size_bytes, size_small, part_short}
use Rattle.sim_import.proofs.survey.survey_record.Goals as goal

pub returns-then-is_free : goal.returns-then-is_free
unfolding said_at
returns-then-is_free c =
    survey_free _ _ (sym (c.is_free.ensures ∙ filled_parts _ _ _ _ c.record-adn.ensures.field c.record-adn.ensures.rest) ∙ c.if-is_free.true)

pub returns-in_err-check : goal.returns-in_err-check
unfolding said_at
returns-in_err-check c =
    let p = err_from_is_err_and c.from_residual.result c.from_residual.ensures.1 in
    rw (p.1, p.2)
    (judged_refused _ _ _ (sym (c.is_free.ensures ∙ filled_parts _ _ _ _ c.record-adn.ensures.field c.record-adn.ensures.rest) ∙ c.if-is_free.false)
    (c.in_err-check.ensures ∙ ap₂ judged c.record-adn.ensures.field c.record-adn.ensures.rest))

pub overflow_add-result : goal.overflow_add-result
overflow_add-result c =
    let few = part_short c.args.dump.bytes.now c.args.at (c.args.dump.name_length + 14) in
    let small =
    size_small _ (part c.args.dump.bytes.now c.args.at (c.args.dump.name_length + 14)) _ _ _
    (c.name.ensures ∙ ap name_of c.record-adn.ensures.field) c.record-adn.ensures.rest c.number_length.ensures (omega arith) in
    omega arith

pub returns : goal.returns
unfolding said_at
returns c =
    judged_some _ _ _ _ (sym (c.is_free.ensures ∙ filled_parts _ _ _ _ c.record-adn.ensures.field c.record-adn.ensures.rest) ∙ c.if-is_free.false)
    (c.in_ok-check.ensures ∙ ap₂ judged c.record-adn.ensures.field c.record-adn.ensures.rest)
    (size_bytes _ _ _ _ _ (c.name.ensures ∙ ap name_of c.record-adn.ensures.field) c.record-adn.ensures.rest c.number_length.ensures)
