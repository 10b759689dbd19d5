-- `payload_at` meets its contract: what the frame says, or nothing. Assumes nothing.
use mathlib.Core.Path.{sym, ap}
use native.Mathlib.Omega.{arith}
use Rattle.outcome.specs.Fault.{said_at}
use Rattle.framing.proofs.FrameLaws.{Framed, frame⇒Framed}
use Rattle.check_walk.specs.Lookup.{payload_part, no_part}
use Rattle.check_walk.proofs.lookup.payload_at.Goals.{In-Ok}
use Rattle.check_walk.proofs.lookup.payload_at.Goals as goal

framed : (c : In-Ok) → Framed c.args.file.now c.args.at c.in-Ok.frame
unfolding said_at
framed c = frame⇒Framed c.args.file.now c.args.at c.in-Ok.frame (sym c.in-Ok.ensures)

pub overflow_add-offset : goal.overflow_add-offset
overflow_add-offset c = let f = framed (goal.at.overflow_add-offset c).In-Ok in omega (arith, f.some, f.sized, f.within, c.well_formed)

pub overflow_sub-result : goal.overflow_sub-result
overflow_sub-result c = let f = framed (goal.at.overflow_sub-result c).In-Ok in omega (arith, f.some)

pub returns-in-Ok-clause-value : goal.returns-in-Ok-clause-value
unfolding said_at payload_part
returns-in-Ok-clause-value c = ap payload_part c.in-Ok.ensures

pub returns-in-Ok-clause-length_in_bounds : goal.returns-in-Ok-clause-length_in_bounds
returns-in-Ok-clause-length_in_bounds c =
    let f = framed (goal.at.returns-in-Ok-clause-length_in_bounds c).In-Ok in omega (arith, f.some, f.sized, f.within)

pub returns-in-Err-clause-value : goal.returns-in-Err-clause-value
unfolding said_at payload_part no_part
returns-in-Err-clause-value c = ap payload_part c.in-Err.ensures
