-- The loop's invariant: as many bits have left the register as turns are made.
use Rattle.std.proofs.Common.{◌≡◌}
use lib.Bits.{bit_xor}
use Rattle.crc64_register.specs.Crc64.{bit_steps}
use Rattle.crc64_register.proofs.byte_step.Given as goal

abbrev pub invariant-loop : goal.invariant-loop
invariant-loop l = l.r ≡ bit_steps l.counter (bit_xor l.register l.b)
