-- `leaf_keys` meets its contract by its two tests. Assumes nothing.
use mathlib.Core.Path.{sym, ap, ◌∙◌}
use mathlib.Core.Bool.{not, false≢true}
use borrow.Author.Tests.{ne_eqb}
use Rattle.byte_string.specs.Order.{at_most}
use Rattle.check_walk.specs.Lookup.{bytes_in}
use Rattle.check_walk.specs.Keys.{Within}
use Rattle.check_walk.proofs.KeyLaws.{leaf_before, leaf_ordered, leaf_unordered, records_within}
use Rattle.check_walk.proofs.keys.leaf_keys.Goals.{then-before-ne0, else-before-ne0}
use Rattle.check_walk.proofs.keys.leaf_keys.Goals as goal

pub part_at_most-requires : goal.part_at_most-requires
unfolding Within
part_at_most-requires c =
    (c.requires.1, rw c.start.ensures (records_within c.args.file.now c.args.at _ c.span_at-span.ensures).0)

pub returns-then-part_at_most : goal.returns-then-part_at_most
returns-then-part_at_most c =
    elim c.if-before-ne0.branch [
      | then-before-ne0 w ↦ leaf_before c.args.file.now c.args.at c.args.before _ c.span_at-span.ensures w.if-before-ne0.true
      | else-before-ne0 w ↦
          leaf_ordered c.args.file.now c.args.at c.args.before _ c.span_at-span.ensures w.if-before-ne0.false _
          (w.part_at_most.ensures ∙ ap (λ p. at_most (bytes_in c.args.file.now c.args.before.span.last) (bytes_in c.args.file.now p)) w.start.ensures)
          (sym w.value-is ∙ c.if-part_at_most.true)
    ]

pub returns-else-part_at_most : goal.returns-else-part_at_most
returns-else-part_at_most c =
    elim c.if-before-ne0.branch [
      | then-before-ne0 w ↦ absurd (false≢true (sym c.if-part_at_most.false ∙ w.value-is ∙ ap not (ne_eqb _ _ w.if-before-ne0.true)))
      | else-before-ne0 w ↦
          leaf_unordered c.args.file.now c.args.at c.args.before _ c.span_at-span.ensures w.if-before-ne0.false _
          (w.part_at_most.ensures ∙ ap (λ p. at_most (bytes_in c.args.file.now c.args.before.span.last) (bytes_in c.args.file.now p)) w.start.ensures)
          (sym w.value-is ∙ c.if-part_at_most.false)
    ]
