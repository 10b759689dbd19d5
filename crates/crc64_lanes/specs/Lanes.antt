-- The register over a byte string in eight lanes: equal parts of the string, each with a register of its own, and how those are joined.
use Rattle.std.specs.Prelude.{◌≡◌, List, ℕ, zero, suc, ◌*◌, ◌<◌, get_or}
use Rattle.std.specs.Int.Bits.{bit_xor}
use Rattle.part.specs.Part.{part}
use Rattle.crc64_lanes.specs.Product.{product}

-- eight numbers, of which number j is f j
unfoldable pub Eight : (ℕ → ℕ) → List ℕ → Type 0
Eight f xs = (j : ℕ) → j < 8 → get_or xs j 0 ≡ f j

-- where lane j starts: the first at the register, the others at zero
unfoldable pub lane_start : ℕ → ℕ → ℕ
lane_start r zero = r
lane_start r (suc j) = 0

-- the bytes of lane j, with n bytes to a lane
unfoldable pub lane : ℕ → List ℕ → ℕ → List ℕ
lane n s j = part s (n * j) n

-- the registers of the lanes 0 to j as one; c is what the bits of a lane make of the highest bit
unfoldable pub joined : ℕ → List ℕ → ℕ → ℕ
joined c rs zero = get_or rs 0 0
joined c rs (suc j) = bit_xor (product c (joined c rs j)) (get_or rs (suc j) 0)
