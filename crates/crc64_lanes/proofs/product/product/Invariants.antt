-- The loop's invariant: with as many bits of b gone as turns are made, those that are left lead from r to the product.
use Rattle.crc64_lanes.proofs.ProductLaws.{Multiplied}
use Rattle.crc64_lanes.proofs.product.product.Given as goal

abbrev pub invariant-loop : goal.invariant-loop
invariant-loop l = Multiplied l.a l.b l.counter l.r l.left
