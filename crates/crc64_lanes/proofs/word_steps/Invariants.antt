-- The loop's invariant: eight bits have left each register in each turn.
use Prim.Native.Nat.{ℕ, ◌*◌}
use lib.ListN.{get_or}
use Rattle.crc64_register.specs.Crc64.{bit_steps}
use Rattle.crc64_lanes.specs.Lanes.{Eight}
use Rattle.crc64_lanes.proofs.word_steps.Given as goal

abbrev pub invariant-loop : goal.invariant-loop
invariant-loop l = Eight (λ (j : ℕ). bit_steps (8 * l.counter) (get_or l.initial.r j 0)) l.r
