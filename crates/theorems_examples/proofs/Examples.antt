-- The examples P1 to P14 of docs/FORMAT.md hold: the checker computes both sides of the table.
-- Assumes nothing.
use mathlib.Core.Path.{refl}
use Rattle.uleb128.specs.Number.{reading, continuing, sevens}
use Rattle.byte_string.specs.Order.{order, signed, agreeing, comparison, less, at_most, begins}
use Rattle.query.specs.Query.{before}
use Rattle.query.specs.Opening.{may_match, reaches, up_to, admits_prefix}
use Rattle.theorems_examples.specs.Examples.{answered, table, Confirmed}

pub examples_confirmed : Confirmed
unfolding Confirmed table answered signed reading continuing sevens order agreeing comparison
    less at_most begins before may_match reaches up_to admits_prefix
examples_confirmed = refl
