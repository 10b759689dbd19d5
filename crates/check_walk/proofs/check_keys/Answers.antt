-- `check_keys` meets its contract: the tests in the order of the refusals. Assumes nothing.
use mathlib.Core.Path.{sym, ap, ◌∙◌}
use native.Mathlib.Omega.{arith}
use Rattle.outcome.specs.Fault.{number, said}
use Rattle.check_walk.specs.Lookup.{no_part}
use Rattle.check_walk.specs.Keys.{no_span, no_keys, first_of, Within}
use Rattle.check_walk.specs.Walk.{keys_said}
use Rattle.check_walk.proofs.WalkedLaws.{keys_unordered, keys_misfit, keys_sound}
use Rattle.check_walk.proofs.check_keys.Goals as goal

pub keys_under-keys-requires : goal.keys_under-keys-requires
unfolding Within first_of no_part
keys_under-keys-requires c = (omega arith, omega arith)

pub returns-then-keys-ne0 : goal.returns-then-keys-ne0
unfolding said number no_keys no_span no_part
returns-then-keys-ne0 c =
    sym (ap keys_said (sym c.keys_under-keys.ensures) ∙ keys_unordered c.keys_under-keys.result c.if-keys-ne0.true)

pub returns-then-keys-ne0-2 : goal.returns-then-keys-ne0-2
unfolding said number no_keys no_span no_part
returns-then-keys-ne0-2 c =
    sym (ap keys_said (sym c.keys_under-keys.ensures) ∙ keys_misfit c.keys_under-keys.result c.if-keys-ne0.false c.if-keys-ne0-2.true)

pub returns : goal.returns
unfolding said no_keys no_span no_part
returns c =
    sym (ap keys_said (sym c.keys_under-keys.ensures) ∙ keys_sound c.keys_under-keys.result c.if-keys-ne0.false c.if-keys-ne0-2.false)
