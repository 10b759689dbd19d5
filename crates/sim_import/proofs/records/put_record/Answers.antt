-- `put_record` meets its contract: a number, the name and the rest, one after the other. Assumes nothing.
use Prim.Native.Nat.{◌+◌, ◌≤◌}
use lib.ListN.{length}
use native.Mathlib.Omega.{arith}
use Rattle.sim_import.proofs.RecordLaws.{text_length, text_fits, text_stored}
use Rattle.sim_import.proofs.records.put_record.Goals as goal
use Rattle.sim_import.proofs.records.put_record.Goals.{After-put_number-number}

-- what is put lies within the output
fits : (c : After-put_number-number)
    → c.args.at + (c.put_number-number.result + (length c.name-name.result.now + length c.record-adn.result.rest.now)) ≤ length c.args.output.now
fits c =
    text_fits c.args.dump.name_length c.args.dump.bytes.now c.args.from _ _ _ c.args.output.now c.args.at _ c.record-adn.ensures.field c.name-name.ensures
    c.record-adn.ensures.rest c.put_number-number.ensures.0 c.requires

pub overflow_add-at : goal.overflow_add-at
overflow_add-at c = let all = fits (goal.at.overflow_add-at c).After-put_number-number in omega (arith, all, c.well_formed)

pub overflow_add-at-2 : goal.overflow_add-at-2
overflow_add-at-2 c = let all = fits (goal.at.overflow_add-at-2 c).After-put_number-number in omega (arith, all, c.well_formed)

pub overflow_add-at-3 : goal.overflow_add-at-3
overflow_add-at-3 c = let all = fits (goal.at.overflow_add-at-3 c).After-put_number-number in omega (arith, all, c.well_formed)

pub overflow_add-result : goal.overflow_add-result
overflow_add-result c = let all = fits (goal.at.overflow_add-result c).After-put_number-number in omega (arith, all, c.well_formed)

pub returns : goal.returns
returns c =
    let x = c.args.dump.name_length in
    let dump = c.args.dump.bytes.now in (
      text_length x dump c.args.from _ _ _ c.args.output.now c.args.at _ c.record-adn.ensures.field c.name-name.ensures c.record-adn.ensures.rest
          c.put_number-number.ensures.0 c.requires,
      text_stored x dump c.args.from _ _ _ c.args.output.now c.args.at _ c.record-adn.ensures.field c.name-name.ensures c.record-adn.ensures.rest
          c.put_number-number.ensures.0 c.requires _ _ _ c.put_number-number.ensures.1 c.put.ensures.1 c.put-2.ensures.1,
    )
