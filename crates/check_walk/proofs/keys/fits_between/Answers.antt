-- `fits_between` meets its contract: both tests, the second where the first holds. Assumes nothing.
use mathlib.Core.Path.{sym, ap, ◌∙◌}
use Rattle.byte_string.specs.Order.{at_most}
use Rattle.check_walk.specs.Lookup.{bytes_in}
use Rattle.check_walk.specs.Keys.{fits_between}
use Rattle.lists.proofs.ListsLaws.{both_false, both_rest}
use Rattle.check_walk.proofs.keys.fits_between.Goals as goal

pub returns-then-part_at_most : goal.returns-then-part_at_most
unfolding fits_between
returns-then-part_at_most c =
    c.part_at_most-then-part_at_most.ensures
    ∙ ap (λ p. at_most (bytes_in c.args.file.now c.args.key) (bytes_in c.args.file.now p)) c.start.ensures
    ∙ sym (both_rest _ _ (sym c.if-part_at_most.ensures))

pub returns-else-part_at_most : goal.returns-else-part_at_most
unfolding fits_between
returns-else-part_at_most c = c.if-part_at_most.false ∙ sym (both_false _ _ (sym c.if-part_at_most.ensures))
