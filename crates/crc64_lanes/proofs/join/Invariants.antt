-- The loop's invariant: r is the registers up to the index as one.
use Rattle.std.proofs.Common.{◌≡◌}
use Rattle.crc64_lanes.specs.Lanes.{joined}
use Rattle.crc64_lanes.proofs.join.Given as goal

abbrev pub invariant-loop-next : goal.invariant-loop-next
invariant-loop-next l = l.r ≡ joined l.c l.fn.registers l.next-index
