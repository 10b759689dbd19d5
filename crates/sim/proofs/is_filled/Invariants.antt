-- `is_filled` meets its contract. The loop's invariant: what is left decides. Assumes nothing.
use mathlib.Core.Path.{◌≡◌}
use lib.ListN.{drop}
use Rattle.sim.specs.Adn.{is_filled}
use Rattle.sim.proofs.is_filled.Given as goal

abbrev pub invariant-loop-i : goal.invariant-loop-i
invariant-loop-i l = is_filled (drop l.i l.s) ≡ is_filled l.s
