-- `counts_fit` meets its contract. Assumes nothing.
use mathlib.Core.Path.{◌∙◌}
use Rattle.file_encoder.proofs.CountsLaws.{in_range, counts_block, counts_index}
use Rattle.file_encoder.proofs.counts_fit.Goals as goal

pub returns-then-contains : goal.returns-then-contains
returns-then-contains c =
    counts_index _ _ (in_range 1 65535 _ c.if-contains.ensures.value c.new.ensures.start c.new.ensures.end c.new.ensures.exhausted)
    (in_range 2 65535 _ c.contains-then-contains.ensures.value c.new-then-contains.ensures.start c.new-then-contains.ensures.end
    c.new-then-contains.ensures.exhausted)

pub returns-else-contains : goal.returns-else-contains
returns-else-contains c =
    c.if-contains.false ∙ counts_block _ _ (in_range 1 65535 _ c.if-contains.ensures.value c.new.ensures.start c.new.ensures.end
    c.new.ensures.exhausted)
