-- A lent output of bytes, in which byte strings are stored. What stands in it and the zeros after that are `padded`, as in a lent list of
-- numbers.
use Rattle.std.specs.Prelude.{ℕ, ◌+◌, Bool, ◌&&◌, cond, Option, List, ◌++◌, leb, length, take, drop}
use Rattle.std.specs.Bool.{then_some}
use Rattle.part.specs.Part.{part}

-- a byte string fits from `at` on
unfoldable pub bytes_fit : (output : List ℕ) (at : ℕ) (bytes : List ℕ) → Bool
bytes_fit output at bytes = leb (at + length bytes) (length output)

-- the output with a byte string stored from `at` on, where it fits, or as it is
unfoldable pub stored : (output : List ℕ) (at : ℕ) (bytes : List ℕ) → List ℕ
stored output at bytes = cond (bytes_fit output at bytes) (take at output ++ (bytes ++ drop (at + length bytes) output)) output

-- how many bytes are stored: all or none
unfoldable pub stored_length : (output : List ℕ) (at : ℕ) (bytes : List ℕ) → ℕ
stored_length output at bytes = cond (bytes_fit output at bytes) (length bytes) 0

-- how many bytes are stored, where they fit
unfoldable pub stored_size : (output : List ℕ) (at : ℕ) (bytes : List ℕ) → Option ℕ
stored_size output at bytes = then_some (bytes_fit output at bytes) (length bytes)

-- a part of the output begins at `at` or before it, and a copy of it fits there
unfoldable pub copies : (output : List ℕ) (from length at : ℕ) → Bool
copies output from length at = leb from at && bytes_fit output at (part output from length)

-- the output with a copy of one of its parts stored from `at` on, where the part doesn't begin after it and the copy fits, or as it is
unfoldable pub copied : (output : List ℕ) (from length at : ℕ) → List ℕ
copied output from length at = cond (copies output from length at) (stored output at (part output from length)) output
