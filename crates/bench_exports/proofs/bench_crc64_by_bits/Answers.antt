-- `bench_crc64_by_bits` meets its contract: begun, absorbed at once and finished.
-- Assumes nothing.
use native.Mathlib.Omega.{arith}
use Rattle.crc64.proofs.Crc64Laws.{crc64_of}
use Rattle.bench_exports.proofs.bench_crc64_by_bits.Goals as goal

pub returns : goal.returns
returns c = let whole = crc64_of _ _ _ _ c.begin.ensures c.absorb_by_bits.ensures c.finish.ensures in
    omega arith
