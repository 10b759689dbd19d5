-- A record as a part of the file: `length` bytes from `offset` on, or the file's empty part at 0 where they don't lie within.
use Rattle.std.specs.Prelude.{ℕ, ◌+◌, Bool, cond, List, leb, length}
use Rattle.part.specs.Part.{part}
use Rattle.part.specs.declared.Part.{Part}

-- the part lies within the file; the sum is on unbounded numbers
unfoldable pub is_within : List ℕ → (offset n : ℕ) → Bool
is_within file offset n = leb (offset + n) (length file)

-- where the part begins
unfoldable pub part_start : List ℕ → (offset n : ℕ) → ℕ
part_start file offset n = cond (is_within file offset n) offset 0

-- how long it is
unfoldable pub part_length : List ℕ → (offset n : ℕ) → ℕ
part_length file offset n = cond (is_within file offset n) n 0

-- the part
unfoldable pub part_of : List ℕ → (offset n : ℕ) → Part
part_of file offset n = record { offset = part_start file offset n; length = part_length file offset n }

-- its bytes
unfoldable pub record_of : List ℕ → (offset n : ℕ) → List ℕ
record_of file offset n = part file (part_start file offset n) (part_length file offset n)
