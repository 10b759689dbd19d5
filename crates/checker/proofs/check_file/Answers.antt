-- `check_file` meets its contract: each way out is one law of `CheckLaws`. Assumes nothing.
use mathlib.Core.Path.{refl, sym}
use borrow.Author.Tests.{not-true, not-false}
use lib.ListN.{length}
use Rattle.std.proofs.lemmas.Result.{err_from_is_err_and}
use Rattle.outcome.specs.Fault.{number, at_front, said_at, said}
use Rattle.header.specs.Header.{blocks_from}
use Rattle.checker.specs.Check.{check_of}
use Rattle.checker.specs.Reported.{refused_as, reported}
use Rattle.checker.proofs.CheckLaws.{told, check_header, told_unsound, told_17, told_fault, told_sound}
use Rattle.checker.proofs.check_file.Goals as goal

pub returns-in_err-header : goal.returns-in_err-header
unfolding said_at reported refused_as at_front
returns-in_err-header c =
    let p = err_from_is_err_and c.from_residual.result c.from_residual.ensures.1 in
    rw (p.1, p.2)
    (told (check_of c.args.file.now (length c.args.work.now)) _ _ (check_header c.args.file.now (length c.args.work.now) _ _ (sym c.in_err-header.ensures))
    _ refl)

pub returns-in_err-stage : goal.returns-in_err-stage
unfolding said_at said reported refused_as blocks_from
returns-in_err-stage c =
    let p = err_from_is_err_and c.from_residual-in_err-stage.result c.from_residual-in_err-stage.ensures.1 in
    rw (p.1, p.2)
    (told_unsound c.args.file.now (length c.args.work.now) c.in_ok-header.header (sym c.in_ok-header.ensures) _ _ (sym c.in_err-stage.ensures) _ refl)

pub returns-then-not-stage : goal.returns-then-not-stage
unfolding said_at said reported refused_as at_front number blocks_from
returns-then-not-stage c =
    rw c.into.ensures
    (told_17 c.args.file.now (length c.args.work.now) c.in_ok-header.header (sym c.in_ok-header.ensures) c.in_ok-stage.stage (sym c.in_ok-stage.ensures)
    (not-true _ c.if-not-stage.true) _ refl)

pub returns-in_err-check_tree : goal.returns-in_err-check_tree
unfolding said_at said reported refused_as blocks_from
returns-in_err-check_tree c =
    let p = err_from_is_err_and c.from_residual-in_err-check_tree.result c.from_residual-in_err-check_tree.ensures.1 in
    rw (p.1, p.2)
    (told_fault c.args.file.now (length c.args.work.now) c.in_ok-header.header (sym c.in_ok-header.ensures) c.in_ok-stage.stage (sym c.in_ok-stage.ensures)
    (not-false _ c.if-not-stage.false) _ _ (sym c.in_err-check_tree.ensures) _ refl)

pub returns : goal.returns
unfolding said_at said reported blocks_from
returns c =
    told_sound c.args.file.now (length c.args.work.now) c.in_ok-header.header (sym c.in_ok-header.ensures) c.in_ok-stage.stage (sym c.in_ok-stage.ensures)
    (not-false _ c.if-not-stage.false) (sym c.in_ok-check_tree.ensures)
