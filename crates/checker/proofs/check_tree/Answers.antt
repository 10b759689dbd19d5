-- `check_tree` meets its contract: names, walk and hash, one after the other. Assumes nothing.
use mathlib.Core.Path.{sym, ◌∙◌}
use lib.ListN.{length}
use Rattle.std.proofs.lemmas.Result.{err_from_is_err_and}
use Rattle.outcome.specs.Fault.{said}
use Rattle.checker.proofs.StageLaws.{tree_names, tree_walk, tree_hash}
use Rattle.checker.proofs.check_tree.Goals as goal

pub returns-in_err-check_names : goal.returns-in_err-check_names
unfolding said
returns-in_err-check_names c =
    let p = err_from_is_err_and c.from_residual.result c.from_residual.ensures.1 in
    rw (p.1, p.2)
    (sym (tree_names c.args.file.now c.args.from c.args.root (length c.args.work.now) _ _ (sym c.in_err-check_names.ensures.result_value)))

pub returns-in_err-check_walk : goal.returns-in_err-check_walk
unfolding said
returns-in_err-check_walk c =
    let p = err_from_is_err_and c.from_residual-in_err-check_walk.result c.from_residual-in_err-check_walk.ensures.1 in
    rw (p.1, p.2)
    (sym (tree_walk c.args.file.now c.args.from c.args.root (length c.args.work.now) (sym c.in_ok-check_names.ensures.result_value) _ _
    (sym c.in_err-check_walk.ensures)))

pub returns : goal.returns
unfolding said
returns c =
    c.check_hash.ensures
    ∙ sym (tree_hash c.args.file.now c.args.from c.args.root (length c.args.work.now) (sym c.in_ok-check_names.ensures.result_value)
    (sym c.in_ok-check_walk.ensures))
