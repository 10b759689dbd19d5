-- `naming` meets its contract: the starts are filled in (18), then 19, then 20.
use native.Mathlib.Omega.{arith}
use lib.ListN.{length}
use Rattle.std.proofs.lemmas.Result.{err_from_is_err_and}
use Rattle.outcome.specs.Fault.{number, at_front, said}
use Rattle.check_names.proofs.WordLaws.{kept_front}
use Rattle.check_names.proofs.NamesLaws.{names_long, names_full, names_broken, names-counted}
use Rattle.check_names.proofs.names.naming.Goals as goal

pub returns-then-file-gt-MAX_FILE : goal.returns-then-file-gt-MAX_FILE
unfolding said number at_front
returns-then-file-gt-MAX_FILE c =
    rw c.into.ensures (names_long c.args.file.now c.args.from c.args.root (length c.args.work.now) c.if-file-gt-MAX_FILE.true)

pub returns-then-work-blocks : goal.returns-then-work-blocks
unfolding said number at_front
returns-then-work-blocks c =
    rw c.into-then-work-blocks.ensures
    (names_full c.args.file.now c.args.from c.args.root (length c.args.work.now) c.if-file-gt-MAX_FILE.false c.fill-blocks.result
    c.fill-blocks.ensures.value (omega arith))

pub returns-in_err-name_blocks : goal.returns-in_err-name_blocks
unfolding said
returns-in_err-name_blocks c =
    let p = err_from_is_err_and c.from_residual.result c.from_residual.ensures.1 in
    rw (p.1, p.2)
    (names_broken c.args.file.now c.args.from c.args.root (length c.args.work.now) c.if-file-gt-MAX_FILE.false c.fill-blocks.result
    c.fill-blocks.ensures.value (omega arith) _ _ (c.in_err-name_blocks.ensures c.args.from
    (kept_front c.args.file.now c.args.from c.fill-blocks.new.work c.fill-blocks.result c.if-file-gt-MAX_FILE.false c.fill-blocks.ensures.value
    (omega arith) (c.fill-blocks.ensures.begins (omega arith)))))

pub returns : goal.returns
unfolding said
returns c = names-counted c.args.file.now c.args.from c.args.root (length c.args.work.now) c.if-file-gt-MAX_FILE.false c.fill-blocks.result
    c.fill-blocks.ensures.value (omega arith) _ (c.in_ok-name_blocks.ensures c.args.from
    (kept_front c.args.file.now c.args.from c.fill-blocks.new.work c.fill-blocks.result c.if-file-gt-MAX_FILE.false c.fill-blocks.ensures.value
    (omega arith) (c.fill-blocks.ensures.begins (omega arith)))) _ (c.count_names.ensures c.args.file.now c.args.from)
