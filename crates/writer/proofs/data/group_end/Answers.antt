use mathlib.Core.Path.{sym}
use native.Mathlib.Omega.{arith}
use Rattle.byte_string.proofs.BytesLaws.{bytes_of_below}
use Rattle.payload.specs.Answers.{text_said}
use Rattle.layout.proofs.InputLaws.{text_encoded}
use Rattle.writer.proofs.DataLaws.{taking_none, taking_more, taking_all, taking_end}
use Rattle.writer.proofs.data.group_end.Goals as goal

pub loop-init : goal.loop-init
loop-init c = taking_none _ _ _

pub returns-in_default : goal.returns-in_default
unfolding text_said
returns-in_default c = λ xs h row. taking_end _ _ _ _ _ c.loop.invariant xs h row _ _ (sym (c.in_default.ensures 0))

pub end-at-requires : goal.end-at-requires
unfolding text_said
end-at-requires c =
    let bytes = bytes_of_below c.args.records.now (λ k l. omega (arith, c.type_inv.records k)) in
    let t = text_encoded 0 c.args.records.now c.loop.at _ bytes (sym (c.in-Ok.ensures 0)) in
    let within = t.within in omega (arith, c.well_formed)

pub loop-preserved : goal.loop-preserved
unfolding text_said
loop-preserved c =
    let bytes = bytes_of_below c.args.records.now (λ k l. omega (arith, c.type_inv.records k)) in
    rw c.end-at.ensures (taking_more _ _ _ _ _ bytes c.loop.invariant c.loop-test.true _ (sym (c.in-Ok.ensures 0)))

pub returns : goal.returns
returns c = λ xs h row. taking_all _ _ _ _ _ c.loop.invariant xs h row c.loop-test.false
