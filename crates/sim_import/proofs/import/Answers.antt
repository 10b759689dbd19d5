-- `import` meets its contract: each way through the tests is the definition's. Assumes nothing.
use mathlib.Core.Path.{◌∙◌}
use lib.ListN.{length}
use Rattle.std.proofs.lemmas.Result.{err_from_is_err_and}
use Rattle.outcome.specs.Fault.{number, said_at}
use Rattle.sim_import.specs.Steps.{Whole}
use Rattle.sim_import.proofs.ImportLaws.{said_wide, said_broken, said_refused, said_full, exactly, said_done}
use Rattle.sim_import.proofs.import.Goals as goal

pub returns-then-name_length-gt-MAX_NAME : goal.returns-then-name_length-gt-MAX_NAME
unfolding number said_at
returns-then-name_length-gt-MAX_NAME c =
    let told = said_wide c.args.bytes.now c.args.name_length (length c.args.output.now) c.if-name_length-gt-MAX_NAME.true in
    record { value = told.0; output_after = c.clear.ensures ∙ told.1 }

pub returns-then-bytes-width-ne0 : goal.returns-then-bytes-width-ne0
unfolding number said_at
returns-then-bytes-width-ne0 c =
    let told =
    said_broken c.args.bytes.now c.args.name_length (length c.args.output.now) c.if-name_length-gt-MAX_NAME.false
    (rw (← c.width.ensures) c.if-bytes-width-ne0.true) in
    record { value = told.0; output_after = c.clear.ensures ∙ told.1 }

pub survey_dump-requires : goal.survey_dump-requires
unfolding Whole
survey_dump-requires c = rw (← c.width.ensures) c.if-bytes-width-ne0.false

pub returns-in_err-found : goal.returns-in_err-found
unfolding said_at
returns-in_err-found c =
    let p = err_from_is_err_and c.from_residual.result c.from_residual.ensures.1 in
    let told =
    said_refused c.args.bytes.now c.args.name_length (length c.args.output.now) c.if-name_length-gt-MAX_NAME.false
    (rw (← c.width.ensures) c.if-bytes-width-ne0.false) _ c.in_err-found.ensures in
    record { value = rw (p.1, p.2) told.0; output_after = c.clear.ensures ∙ told.1 }

pub returns-then-output-found : goal.returns-then-output-found
unfolding number said_at
returns-then-output-found c =
    let told =
    said_full c.args.bytes.now c.args.name_length (length c.args.output.now) c.if-name_length-gt-MAX_NAME.false
    (rw (← c.width.ensures) c.if-bytes-width-ne0.false) _ c.in_ok-found.ensures (rw (← c.clear.auto.output) c.if-output-found.true) in
    record { value = told.0; output_after = c.clear.ensures ∙ told.1 }

pub put_sorted-requires : goal.put_sorted-requires
unfolding said_at
put_sorted-requires c =
    exactly c.args.bytes.now c.args.name_length (length c.args.output.now) c.if-name_length-gt-MAX_NAME.false
    (rw (← c.width.ensures) c.if-bytes-width-ne0.false) _ c.in_ok-found.ensures _ c.if-output-found.false

pub returns : goal.returns
unfolding said_at
returns c =
    let told =
    said_done c.args.bytes.now c.args.name_length (length c.args.output.now) c.if-name_length-gt-MAX_NAME.false
    (rw (← c.width.ensures) c.if-bytes-width-ne0.false) _ c.in_ok-found.ensures _ _ c.clear.ensures c.if-output-found.false c.put_sorted.ensures in
    record { value = told.0; output_after = told.1 }
