-- `read_file` meets its contract: each way out is one law of `ReadLaws`. Assumes nothing.
use mathlib.Core.Path.{sym, ◌∙◌}
use Rattle.outcome.specs.Fault.{number, said_at, said, at_front}
use Rattle.header.specs.Header.{blocks_from}
use Rattle.header.proofs.HeaderLaws.{is_header}
use Rattle.query.specs.Asked.{asked}
use Rattle.outcome.proofs.ResultLaws.{refusal_on, front_on}
use Rattle.reader.proofs.ReadLaws.{header_refuses, header_stops, survey_refuses, survey_stops, room_stops, overflow_list, room_fits, list_of_refusal}
use Rattle.reader.proofs.read_file.Goals as goal

pub returns-in_err-header-clause-value : goal.returns-in_err-header-clause-value
unfolding said_at
returns-in_err-header-clause-value c =
    front_on _ _ c.from_residual.ensures.1 ∙ header_stops c.args.file.now (asked c.args.query) _ _ _ (sym c.in_err-header.ensures)

pub returns-in_err-header-clause-results_after : goal.returns-in_err-header-clause-results_after
unfolding said_at
returns-in_err-header-clause-results_after c =
    c.requires ∙ sym (list_of_refusal _ _ _ _ (header_refuses c.args.file.now (asked c.args.query) _ _ _ (sym c.in_err-header.ensures)))

pub returns-in_err-survey-clause-value : goal.returns-in_err-survey-clause-value
unfolding said said_at blocks_from
returns-in_err-survey-clause-value c =
    refusal_on _ _ c.from_residual-in_err-survey.ensures.1
    ∙ survey_stops c.args.file.now (asked c.args.query) _ _ (sym c.in_ok-header.ensures) _ _ (sym c.in_err-survey.ensures)

pub returns-in_err-survey-clause-results_after : goal.returns-in_err-survey-clause-results_after
unfolding said said_at blocks_from
returns-in_err-survey-clause-results_after c =
    c.requires
    ∙ sym (list_of_refusal _ _ _ _
    (survey_refuses c.args.file.now (asked c.args.query) _ _ (sym c.in_ok-header.ensures) _ _ (sym c.in_err-survey.ensures)))

pub collect-found-requires : goal.collect-found-requires
unfolding said_at
collect-found-requires c = (is_header c.args.file.now _ (sym c.in_ok-header.ensures)).small

pub returns-then-not-has_room-clause-value : goal.returns-then-not-has_room-clause-value
unfolding number said said_at at_front blocks_from
returns-then-not-has_room-clause-value c =
    rw c.into.ensures (room_stops c.args.file.now (asked c.args.query) _ _ c.args.results.now c.requires _ _
    c.collect-found.ensures _ (sym c.in_ok-survey.ensures) (sym c.in_ok-header.ensures) (sym c.has_room.ensures ∙ c.if-not-has_room.true))

pub returns-then-not-has_room-clause-results_after : goal.returns-then-not-has_room-clause-results_after
unfolding said said_at blocks_from
returns-then-not-has_room-clause-results_after c =
    c.clear.ensures
    ∙ overflow_list c.args.file.now (asked c.args.query) _ _ c.args.results.now c.requires _ _
    c.collect-found.ensures _ (sym c.in_ok-survey.ensures) (sym c.in_ok-header.ensures) (sym c.has_room.ensures ∙ c.if-not-has_room.true)

pub returns-clause-value : goal.returns-clause-value
unfolding said said_at blocks_from
returns-clause-value c = (room_fits c.args.file.now (asked c.args.query) _ _ c.args.results.now c.requires _ _
    c.collect-found.ensures _ (sym c.in_ok-survey.ensures) (sym c.in_ok-header.ensures) (sym c.has_room.ensures ∙ c.if-not-has_room.false)).0

pub returns-clause-results_after : goal.returns-clause-results_after
unfolding said said_at blocks_from
returns-clause-results_after c = (room_fits c.args.file.now (asked c.args.query) _ _ c.args.results.now c.requires _ _
    c.collect-found.ensures _ (sym c.in_ok-survey.ensures) (sym c.in_ok-header.ensures) (sym c.has_room.ensures ∙ c.if-not-has_room.false)).1
