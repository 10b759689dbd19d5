-- Texts and blocks as bytes.
use Rattle.std.specs.Prelude.{ℕ, ◌+◌, length}
use mathlib.Core.List.{List, ◌∷◌, ◌++◌, flat_map}
use Rattle.uleb128.specs.Encoding.{encoding}
use Rattle.endian.specs.FixedWidth.{little_bytes}
use Rattle.crc64.specs.Crc64.{crc64}

-- a record, or the key of an entry: its length and its bytes
unfoldable pub text_bytes : List ℕ → List ℕ
text_bytes s = encoding (length s) ++ s

-- a block: the number L, the L bytes (level byte and payload), and their CRC
unfoldable pub block_bytes : (level : ℕ) (payload : List ℕ) → List ℕ
block_bytes level payload = encoding (length payload + 1) ++ ((level ∷ payload) ++ little_bytes 8 (crc64 (level ∷ payload)))

-- the full size of a block with a payload of this length
unfoldable pub block_size : (payload : ℕ) → ℕ
block_size payload = length (encoding (payload + 1)) + (payload + 9)

-- records one after the other: the payload of a data block, and the writer's input form
unfoldable pub records_bytes : List (List ℕ) → List ℕ
records_bytes rs = flat_map text_bytes rs

-- the data block of these records
unfoldable pub data_bytes : List (List ℕ) → List ℕ
data_bytes rs = block_bytes 0 (records_bytes rs)
