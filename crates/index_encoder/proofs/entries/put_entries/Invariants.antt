-- `put_entries` meets its contract. The loop's invariant: the entries for the blocks up to `at` are put. Assumes nothing.
use Prim.Native.Nat.{◌-◌}
use Rattle.index_encoder.proofs.EntryLaws.{Entering}
use Rattle.index_encoder.proofs.entries.put_entries.Given as goal

abbrev pub invariant-loop : goal.invariant-loop
invariant-loop l = Entering l.fn.output l.to l.fn.from l.count l.place l.output l.at l.end (l.count - l.counter)
