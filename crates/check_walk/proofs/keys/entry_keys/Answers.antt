-- `entry_keys` meets its contract by the test of the key. Assumes nothing.
use mathlib.Core.Path.{sym}
use Rattle.check_walk.proofs.KeyLaws.{entry_is, fits_kept, fits_broken}
use Rattle.check_walk.specs.Lookup.{bytes_in}
use Rattle.check_walk.proofs.keys.entry_keys.Goals as goal

pub returns-then-fits_between : goal.returns-then-fits_between
returns-then-fits_between c =
    entry_is c.args.file.now c.args.at (bytes_in c.args.file.now c.args.key) c.args.before c.args.child _ _ c.joined-span.ensures
    (fits_kept _ _ _ (sym c.if-fits_between.ensures))

pub returns-else-fits_between : goal.returns-else-fits_between
returns-else-fits_between c =
    entry_is c.args.file.now c.args.at (bytes_in c.args.file.now c.args.key) c.args.before c.args.child _ _ c.joined-span.ensures
    (fits_broken _ _ _ _ (sym c.if-fits_between.ensures) c.earlier.ensures)
