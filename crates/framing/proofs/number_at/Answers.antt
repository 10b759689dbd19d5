-- `number_at` meets its contract: each answer is one case of `read_as`. Assumes nothing.
use mathlib.Core.Path.{sym, ◌∙◌}
use native.Mathlib.Omega.{arith}
use lib.ListN.{length-take, length-drop}
use Rattle.uleb128.specs.Number.{reading_said}
use Rattle.uleb128.proofs.NumberLaws.{number_used}
use Rattle.framing.specs.Frame.{read_as}
use Rattle.framing.specs.Answers.{number_said}
use Rattle.framing.proofs.FrameLaws.{number_lent, number_past, number_fault}
use Rattle.framing.proofs.number_at.Goals as goal

pub returns-then-s-at : goal.returns-then-s-at
unfolding number_said
returns-then-s-at c cut place = sym (number_past cut place c.args.s.now c.args.at (omega arith))

pub returns-in_err-read : goal.returns-in_err-read
unfolding reading_said
returns-in_err-read c cut place =
    number_fault cut place c.args.at _ _ c.from_residual.ensures.1 ∙ number_lent cut place c.args.s.now c.args.at _ c.in_err-read.ensures

pub overflow_add-result : goal.overflow_add-result
unfolding reading_said
overflow_add-result c =
    let used = (number_used _ _ _ (sym c.in_ok-read.ensures)).2 in
    omega (arith, c.well_formed, simp (length-take, length-drop) at used)

pub returns : goal.returns
unfolding number_said read_as reading_said
returns c cut place = number_lent cut place c.args.s.now c.args.at _ c.in_ok-read.ensures
