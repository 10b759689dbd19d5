-- `named` meets its contract: the search finds the block, and its frame tells size and level.
use Rattle.payload.specs.Answers.{entry_in}
use Rattle.check_names.proofs.EntryLaws.{named_none, named_read, named_unfit, named_fit}
use Rattle.check_names.proofs.names.named.Goals.{else-frame-entry-via-then-frame-entry+else-frame-level, else-frame-entry-via-else-frame-entry}
use Rattle.check_names.proofs.names.named.Goals as goal

pub returns-in_err-i-clause-value : goal.returns-in_err-i-clause-value
unfolding entry_in
returns-in_err-i-clause-value c from seen s k =
    rw c.from_residual.ensures
    (named_none c.args.file.now from seen c.args.work.now k (entry_in s c.args.entry) c.args.level c.in_err-i.ensures.located)

pub returns-in_err-frame-clause-value : goal.returns-in_err-frame-clause-value
unfolding entry_in
returns-in_err-frame-clause-value c from seen s k =
    absurd (named_read c.args.file.now from seen c.args.work.now k (entry_in s c.args.entry) c.args.level c.in_ok-i.i c.in_ok-i.ensures.inside
    c.in_ok-i.ensures.located c.frame_at.result c.in_err-frame.ensures.value c.frame_at.ensures)

pub returns-then-frame-level-clause-value : goal.returns-then-frame-level-clause-value
unfolding entry_in
returns-then-frame-level-clause-value c from seen s k =
    named_fit c.args.file.now from seen c.args.work.now k (entry_in s c.args.entry) c.args.level c.in_ok-i.i c.in_ok-i.ensures.inside
    c.in_ok-i.ensures.located c.frame_at.result c.in_ok-frame.frame c.in_ok-frame.ensures.value c.frame_at.ensures
    c.if-frame-entry.true c.if-frame-level.true

pub returns-else-frame-entry-clause-value : goal.returns-else-frame-entry-clause-value
unfolding entry_in
returns-else-frame-entry-clause-value c from seen s k =
    named_unfit c.args.file.now from seen c.args.work.now k (entry_in s c.args.entry) c.args.level c.in_ok-i.i c.in_ok-i.ensures.inside
    c.in_ok-i.ensures.located c.frame_at.result c.in_ok-frame.frame c.in_ok-frame.ensures.value c.frame_at.ensures
    (λ size lower. elim c.else-frame-entry.branch [
      | else-frame-entry-via-then-frame-entry+else-frame-level w ↦ w.if-frame-level.false lower
      | else-frame-entry-via-else-frame-entry w ↦ w.if-frame-entry.false size
    ])
