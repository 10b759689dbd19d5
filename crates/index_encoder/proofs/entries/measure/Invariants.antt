-- `measure` meets its contract. The loop's invariant: the blocks before the group's end are seen, and the bytes of their entries are counted.
-- Assumes nothing.
use mathlib.Core.Path.{◌≡◌}
use Rattle.index_encoder.proofs.EntryLaws.{Measuring}
use Rattle.index_encoder.proofs.entries.measure.Given as goal

abbrev pub invariant-loop : goal.invariant-loop
invariant-loop l = record {
  each : l.group.count ≡ l.counter;
  measuring : Measuring l.s l.fn.from l.most l.group.next l.group.count l.group.length;
}
