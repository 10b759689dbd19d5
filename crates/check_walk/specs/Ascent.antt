-- The walk of 22 as it is made: down from a block of a level, with the least offset that the next data block may have.
use Rattle.std.specs.Prelude.{ℕ, zero, suc, ◌+◌, ◌&&◌, List, [], ◌∷◌, leb, ltb, length}
use Rattle.outcome.specs.Outcome.{Outcome, answer, ◌>>=◌, ◌>>◌, must}
use Rattle.payload.specs.Payload.{Entry}
use Rattle.check_walk.specs.Lookup.{entries_in}

-- through the entries in order, with the walk of an entry's block
unfoldable pub ascent_over : (child : ℕ → ℕ → Outcome ℕ) → List Entry → ℕ → Outcome ℕ
ascent_over child [] least = answer least
ascent_over child (e ∷ es) least = child e.offset least >>= ascent_over child es

-- a data block within the file, at the least offset or after it
unfoldable pub leaf_of : (long at least : ℕ) → Outcome ℕ
leaf_of long at least = must (leb least at && ltb at long) 22 at >> answer (at + 1)

-- the walk down from the block of this level at an offset
unfoldable pub ascent_of : List ℕ → (level at least : ℕ) → Outcome ℕ
ascent_of file zero at least = leaf_of (length file) at least
ascent_of file (suc level) at least = ascent_over (ascent_of file level) (entries_in file at) least
