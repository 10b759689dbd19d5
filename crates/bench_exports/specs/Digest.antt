-- What the benchmark takes of SHA-256: the first eight bytes of the digest as one number.
use Rattle.std.specs.Prelude.{ℕ, ◌^◌, cond, List, leb, length, take}
use Rattle.endian.specs.FixedWidth.{little_endian}
use Rattle.sha256.specs.Sha256.{sha256}

-- the lowest byte first; 0 for more than 2^30 bytes, which no archive has
unfoldable pub digest_start : List ℕ → ℕ
digest_start s = cond (leb (length s) (2 ^ 30)) (little_endian (take 8 (sha256 s))) 0
