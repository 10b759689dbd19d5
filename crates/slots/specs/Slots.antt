-- Slots: numbers of w bytes each, the lowest byte first, one after the other.
use Rattle.std.specs.Prelude.{ℕ, zero, suc, ◌/◌, List, [], ◌∷◌, length, take, drop}
use Rattle.endian.specs.FixedWidth.{little_endian}

module _ (w : ℕ) where
  -- the numbers of the first m slots
  unfoldable pub numbers : (m : ℕ) (bytes : List ℕ) → List ℕ
  numbers zero bytes = []
  numbers (suc m) bytes = little_endian (take w bytes) ∷ numbers m (drop w bytes)

  -- the numbers of all slots; bytes that are left over at the end are none's
  unfoldable pub slots : (bytes : List ℕ) → List ℕ
  slots bytes = numbers (length bytes / w) bytes
