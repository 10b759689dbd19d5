-- `find` meets its contract: the matching records of the payload, then the test for room.
-- Assumes nothing.
use mathlib.Core.Path.{sym, ◌∙◌}
use native.Mathlib.Omega.{arith}
use lib.Seq.{length-take-le}
use Rattle.query.specs.Asked.{asked}
use Rattle.outcome.specs.Fault.{at_front}
use Rattle.matching.proofs.ResultListLaws.{room_for_some}
use Rattle.search.proofs.FindLaws.{find_overflow, find_fit}
use Rattle.search.proofs.walk.find.Goals as goal

pub slice_bounds-collect_records-end : goal.slice_bounds-collect_records-end
slice_bounds-collect_records-end c =
    sym (length-take-le c.args.f.end c.args.file.now c.requires.frame.end)

pub collect_records-found-requires : goal.collect_records-found-requires
collect_records-found-requires c =
    let long = length-take-le c.args.f.end c.args.file.now c.requires.frame.end in let end = c.requires.frame.end in let small = c.requires.small in
    let room = c.requires.fits in let few = room_for_some c.args.p.found in (omega (arith, c.well_formed), omega arith)

pub returns-then-not-has_room : goal.returns-then-not-has_room
unfolding at_front
returns-then-not-has_room c opened_list from above used =
    rw c.into.ensures (find_overflow (asked c.args.query) c.args.results.now c.requires
    c.collect_records-found.ensures opened_list from above used (sym c.has_room.ensures ∙ c.if-not-has_room.true))

pub returns : goal.returns
returns c opened_list from above used =
    find_fit (asked c.args.query) c.args.results.now c.requires
    c.collect_records-found.ensures opened_list from above used (sym c.has_room.ensures ∙ c.if-not-has_room.false)
