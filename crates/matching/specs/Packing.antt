-- A match as one number, and back. A record lies within a file of at most 2^30 bytes, so nothing is lost.
use Rattle.std.specs.Prelude.{ℕ, ◌+◌, ◌*◌, ◌^◌, ◌/◌, ◌%◌}
use mathlib.Core.List.{List, [], ◌∷◌, flat_map}

-- the offset of the record's first byte times 2^32, plus its length
unfoldable pub packed : (offset length : ℕ) → ℕ
packed offset length = offset * 2 ^ 32 + length

-- the offset and the length of a packed match
unfoldable pub offset_of : ℕ → ℕ
offset_of n = n / 2 ^ 32

unfoldable pub length_of : ℕ → ℕ
length_of n = n % 2 ^ 32

-- the offset and the length of each
unfoldable pub unpacked : List ℕ → List ℕ
unpacked ns = flat_map (λ n. offset_of n ∷ length_of n ∷ []) ns
