-- SHA-256 of a whole message, as FIPS 180-4 defines it, in its order and with its names. Messages and digests are lists of bytes.
-- What becomes of a block is defined in crate sha256_block.
use Rattle.std.specs.Prelude.{ℕ, ◌-◌, ◌*◌, ◌%◌, ◌^◌, List, ◌∷◌, ◌++◌, length, replicate}
use Rattle.endian.specs.FixedWidth.{big_bytes}
use Rattle.sha256_block.specs.declared.Words.{Words}
use Rattle.sha256_block.specs.Compression.{over}

-- The initial hash value (5.3.3)
unfoldable pub initial : Words
initial =
    record {
      a = 0x6a09e667;
      b = 0xbb67ae85;
      c = 0x3c6ef372;
      d = 0xa54ff53a;
      e = 0x510e527f;
      f = 0x9b05688c;
      g = 0x1f83d9ab;
      h = 0x5be0cd19;
    }

-- Padding (5.1.1) of a message of n bytes: the bit 1, zeros up to 8 bytes before the end of a block, the length in bits
unfoldable pub padding : ℕ → List ℕ
padding n = 0x80 ∷ replicate ((119 - n % 64) % 64) 0 ++ big_bytes 8 (n * 8 % 2 ^ 64)

-- the digest of a hash value: its words, highest byte first
unfoldable pub digest : Words → List ℕ
digest hash =
    big_bytes 4 hash.a ++ big_bytes 4 hash.b ++ big_bytes 4 hash.c ++ big_bytes 4 hash.d
    ++ big_bytes 4 hash.e ++ big_bytes 4 hash.f ++ big_bytes 4 hash.g ++ big_bytes 4 hash.h

-- the hash of a byte string
unfoldable pub sha256 : List ℕ → List ℕ
sha256 message = digest (over initial (message ++ padding (length message)))
