-- The loop's invariant: with as many bits of the count gone as powers, the power for these is made.
use Rattle.crc64_lanes.proofs.ProductLaws.{Powered}
use Rattle.crc64_lanes.proofs.product.shifted.Given as goal

abbrev pub invariant-loop-power : goal.invariant-loop-power
invariant-loop-power l = Powered l.count l.power-index l.left l.r
