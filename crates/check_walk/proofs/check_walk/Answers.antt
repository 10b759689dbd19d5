-- `check_walk` meets its contract: 22 by its walk, then 23 and 24 by theirs. Assumes nothing.
use mathlib.Core.Path.{sym, ◌∙◌}
use Rattle.std.proofs.lemmas.Result.{err_from_is_err_and}
use Rattle.outcome.specs.Fault.{said}
use Rattle.check_walk.proofs.WalkedLaws.{walked_refused, walked_risen}
use Rattle.check_walk.proofs.check_walk.Goals as goal

pub returns-in_err-ascend : goal.returns-in_err-ascend
unfolding said
returns-in_err-ascend c =
    let p = err_from_is_err_and c.from_residual.result c.from_residual.ensures.1 in
    rw (p.1, p.2) (sym (walked_refused c.args.file.now c.args.root _ c.level_at-level.ensures _ _ (sym c.in_err-ascend.ensures)))

pub returns : goal.returns
unfolding said
returns c =
    c.check_keys.ensures ∙ sym (walked_risen c.args.file.now c.args.root _ c.level_at-level.ensures _ (sym c.in_ok-ascend.ensures))
