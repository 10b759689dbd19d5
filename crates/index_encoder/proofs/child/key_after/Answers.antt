-- `key_after` meets its contract: the two records are compared, and the first is cut by how far they agree. Assumes nothing.
use native.Mathlib.Omega.{arith}
use Rattle.byte_string.proofs.ComparisonLaws.{compared_agreeing}
use Rattle.index_encoder.specs.Children.{bytes_of, Within}
use Rattle.index_encoder.proofs.KeyAfterLaws.{key_agreeing, key_parted}
use Rattle.index_encoder.proofs.child.key_after.Goals as goal

pub compare_parts-agreeing-requires : goal.compare_parts-agreeing-requires
unfolding Within
compare_parts-agreeing-requires c = c.requires

pub overflow_add-length : goal.overflow_add-length
unfolding bytes_of Within
overflow_add-length c =
    let inside = c.requires.1 in omega (
      arith,
      c.well_formed,
      (key_parted c.args.s.now c.args.before c.args.first c.requires.0 c.requires.1 (compared_agreeing _ _ _ c.compare_parts-agreeing.ensures)
          c.if-agreeing-first.false.0 c.if-agreeing-first.false.1).1.1,
    )

pub returns-then-agreeing-first : goal.returns-then-agreeing-first
unfolding bytes_of
returns-then-agreeing-first c =
    let both = key_agreeing c.args.s.now c.args.before c.args.first c.requires.0 c.requires.1
    (compared_agreeing _ _ _ c.compare_parts-agreeing.ensures) c.if-agreeing-first.either in
    record { result_value = both.0; offset_value = both.1 }

pub returns-else-agreeing-first : goal.returns-else-agreeing-first
unfolding bytes_of
returns-else-agreeing-first c =
    let both = key_parted c.args.s.now c.args.before c.args.first c.requires.0 c.requires.1
    (compared_agreeing _ _ _ c.compare_parts-agreeing.ensures) c.if-agreeing-first.false.0 c.if-agreeing-first.false.1 in
    record { result_value = both.0; offset_value = both.1 }
