-- The loop's invariant: i words of each lane have gone into its register.
use Prim.Native.Nat.{ℕ, ◌*◌}
use Rattle.part.specs.Part.{part}
use Rattle.crc64_register.specs.Crc64 as crc
use Rattle.crc64_lanes.specs.Lanes.{Eight, lane_start}
use Rattle.crc64_lanes.proofs.registers_of.Given as goal

abbrev pub invariant-loop-i : goal.invariant-loop-i
invariant-loop-i l = Eight (λ (j : ℕ). crc.register (lane_start l.register j) (part l.bytes (l.n * j) (8 * l.i))) l.r
