-- `span_at` meets its contract. The loop's invariant: going on from here gives what all records give. Assumes nothing.
use Rattle.std.proofs.Common.{◌-◌, length}
use Rattle.payload.specs.Payload.{text_at}
use Rattle.check_walk.specs.Lookup.{records_in}
use Rattle.check_walk.specs.Keys.{no_span, span_over}
use Rattle.items.proofs.GoingLaws.{Going}
use Rattle.check_walk.proofs.keys.span_at.Given as goal

abbrev pub invariant-loop-text : goal.invariant-loop-text
invariant-loop-text l = Going span_over (text_at l.at l.records) (length l.records) (span_over (records_in l.file l.at) no_span) l.place l.span

abbrev pub decreases-loop-text : goal.decreases-loop-text
decreases-loop-text l = length l.records - l.place
