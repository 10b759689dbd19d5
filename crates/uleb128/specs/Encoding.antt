-- A number of the format in its shortest form, as bytes.
use Rattle.std.specs.Prelude.{ℕ, zero, suc, ◌+◌, ◌/◌, ◌%◌, cond, List, [], ◌∷◌, ltb}

-- seven bits a byte, lowest first, the top bit set on all but the last byte; at most `more` bytes before the last
unfoldable pub encoding_with : (more n : ℕ) → List ℕ
encoding_with zero n = n ∷ []
encoding_with (suc more) n = cond (ltb n 128) (n ∷ []) ((128 + n % 128) ∷ encoding_with more (n / 128))

-- the bytes of a number; ten bytes hold every 64-bit number
unfoldable pub encoding : ℕ → List ℕ
encoding n = encoding_with 9 n
