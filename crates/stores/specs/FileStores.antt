-- The stores of a finished file.
use Rattle.std.specs.Prelude.{ℕ, ◌+◌, Bool, ◌&&◌, cond, List, [], ◌∷◌, length, drop, get_or}
use Rattle.byte_string.specs.Order.{begins}
use Rattle.part.specs.Part.{part}
use Rattle.part.specs.declared.Part.{Part}
use Rattle.header.specs.Header.{magic, unfinished_magic, H, holds_header}
use Rattle.stores.specs.Store.{Store}

-- the bytes begin with the magic of a finished file, and hold their header
unfoldable pub has_stores : List ℕ → Bool
has_stores file = begins magic file && holds_header file

-- the unfinished magic, all blocks, the header from byte 8 through its CRC, the magic
unfoldable pub four_stores : List ℕ → List Store
four_stores file =
    record { offset = 0; bytes = unfinished_magic }
    ∷ record { offset = 24 + H file; bytes = drop (24 + H file) file }
    ∷ record { offset = 8; bytes = part file 8 (16 + H file) }
    ∷ record { offset = 0; bytes = magic }
    ∷ []

-- the stores of a finished file; other bytes have none
unfoldable pub stores_of : List ℕ → List Store
stores_of file = cond (has_stores file) (four_stores file) []

-- where store i goes, and how long it is; no bytes at 0 where there is none
unfoldable pub extent : Store → Part
extent s = record { offset = s.offset; length = length s.bytes }

unfoldable pub store_part : (file : List ℕ) (i : ℕ) → Part
store_part file i = extent (get_or (stores_of file) i (record { offset = 0; bytes = [] }))
