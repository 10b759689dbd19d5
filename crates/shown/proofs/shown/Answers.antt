-- `shown` meets its contract: the part lies within its file, and is lent.
-- Assumes nothing.
use mathlib.Core.Path.{ap, ◌∙◌}
use lib.ListN.{length}
use native.Mathlib.Omega.{arith}
use Prim.Native.Nat.{ℕ, ◌+◌}
use Rattle.part.specs.Part.{part}
use Rattle.shown.proofs.ShownLaws.{shown_fits, shown_lent, shown_place}
use Rattle.shown.proofs.shown.Goals as goal

pub of-requires-2 : goal.of-requires-2
of-requires-2 c =
    let fits = shown_fits c.args.first.now c.args.second.now c.args.offset c.args.length _ _ _ c.place-file.ensures in
    let long = ap length c.of.ensures.result_value in
    omega arith

pub returns-clause-result_value : goal.returns-clause-result_value
returns-clause-result_value c =
    c.of-2.ensures.result_value
    ∙ ap (λ s. part s c.place-file.result.1.offset c.place-file.result.1.length) c.of.ensures.result_value
    ∙ shown_lent c.args.first.now c.args.second.now c.args.offset c.args.length _ _ _ c.place-file.ensures

pub returns-clause-ref_ptr_value : goal.returns-clause-ref_ptr_value
returns-clause-ref_ptr_value c =
    c.of-2.ensures.ref_ptr_value
    ∙ ap (λ (at : ℕ × ℕ). (at.0, at.1 + c.place-file.result.1.offset)) c.of.ensures.ref_ptr_value
    ∙ shown_place c.args.first.now c.args.second.now c.args.offset c.args.length _ _ _ c.place-file.ensures c.args.first.ref_ptr c.args.second.ref_ptr
