-- `put` meets its contract: the place lies within the list exactly where there is room.
-- Assumes nothing.
use native.Mathlib.Omega.{arith}
use Rattle.output_list.proofs.OutputListLaws.{place_none, place_some}
use Rattle.output_list.proofs.put.Goals as goal

pub returns-then-list-count : goal.returns-then-list-count
returns-then-list-count c = place_none c.args.list.now c.args.count c.args.number (omega arith)

pub returns : goal.returns
returns c = place_some c.args.list.now c.args.count c.args.number (omega arith)
