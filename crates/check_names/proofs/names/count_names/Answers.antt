use mathlib.Core.Path.{sym, ◌∙◌}
use borrow.Author.Tests.{eq-eqb, ne_eqb}
use Rattle.outcome.specs.Fault.{number, said}
use Rattle.check_names.proofs.CountLaws.{counting_start, counting_more, counting_broken, counting_end}
use Rattle.check_names.proofs.names.count_names.Goals.{then-start-root, else-start-root}
use Rattle.check_names.proofs.names.count_names.Goals as goal

pub loop-word-init : goal.loop-word-init
loop-word-init c = counting_start c.args.work.now c.args.root

pub returns-then-word-wanted : goal.returns-then-word-wanted
unfolding said number
returns-then-word-wanted c file first k =
    counting_broken c.args.work.now c.args.root c.loop-word.word-index c.loop-word.invariant c.loop-word-test.true file first k
    (λ e. c.if-word-wanted.true (e ∙ sym (elim c.if-start-root.branch [
      | then-start-root w ↦ rw (eq-eqb _ _ w.if-start-root.true) w.wanted-is
      | else-start-root w ↦ rw (ne_eqb _ _ w.if-start-root.false) w.wanted-is
    ])))

pub loop-word-preserved : goal.loop-word-preserved
loop-word-preserved c =
    counting_more c.args.work.now c.args.root c.loop-word.word-index c.loop-word.invariant c.loop-word-test.true
    (c.if-word-wanted.false ∙ elim c.if-start-root.branch [
      | then-start-root w ↦ rw (eq-eqb _ _ w.if-start-root.true) w.wanted-is
      | else-start-root w ↦ rw (ne_eqb _ _ w.if-start-root.false) w.wanted-is
    ])

pub returns : goal.returns
unfolding said
returns c = counting_end c.args.work.now c.args.root c.loop-word.word-index c.loop-word.invariant c.loop-word-test.false
