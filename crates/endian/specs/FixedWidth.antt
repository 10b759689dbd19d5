-- Numbers of a fixed width: a row of bytes as a number, and a number as n bytes, in either order of the bytes.
-- The width is a parameter: the header and the CRC use 8 bytes, SHA-256 uses 4 and 8.
use Rattle.std.specs.Prelude.{ℕ, zero, suc, ◌+◌, ◌*◌, ◌/◌, ◌%◌, List, [], ◌∷◌, reverse}

-- the number that the bytes stand for, the lowest byte first
unfoldable pub little_endian : List ℕ → ℕ
little_endian [] = 0
little_endian (b ∷ bs) = b + 256 * little_endian bs

-- the number that the bytes stand for, the highest byte first
unfoldable pub big_endian : List ℕ → ℕ
big_endian bs = little_endian (reverse bs)

-- the lowest n bytes of x, the lowest first
unfoldable pub little_bytes : ℕ → ℕ → List ℕ
little_bytes zero x = []
little_bytes (suc n) x = x % 256 ∷ little_bytes n (x / 256)

-- the lowest n bytes of x, the highest first
unfoldable pub big_bytes : ℕ → ℕ → List ℕ
big_bytes n x = reverse (little_bytes n x)
