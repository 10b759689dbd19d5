-- `level_at` meets its contract: the frame's level, or 0. Assumes nothing.
use mathlib.Core.Path.{ap}
use Rattle.outcome.specs.Fault.{said_at}
use Rattle.check_walk.specs.Lookup.{level_of}
use Rattle.check_walk.proofs.lookup.level_at.Goals as goal

pub returns-in-Ok : goal.returns-in-Ok
unfolding said_at level_of
returns-in-Ok c = ap level_of c.in-Ok.ensures

pub returns-in-Err : goal.returns-in-Err
unfolding said_at level_of
returns-in-Err c = ap level_of c.in-Err.ensures
