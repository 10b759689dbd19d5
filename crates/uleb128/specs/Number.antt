-- A number of the format (uleb128): seven bits a byte, lowest first, the top bit set on all but the last byte.
use Rattle.std.specs.Prelude.{ℕ, suc, ◌+◌, ◌*◌, ◌%◌, ◌&&◌, cond, List, [], ◌∷◌, leb, ltb, eqb, length, take, get_or, Result, Ok, Err}
use Rattle.uleb128.specs.declared.Number.{Number}
use Rattle.uleb128.specs.declared.NumberFault.{NumberFault}
use Rattle.uleb128.specs.declared.NumberFault.TheVariants.{CutOff, TooWide, NotShortest}

-- what reading a number at the front of a part finds
pub data Reading : Type 0 where
  -- a number: its value, and how many bytes it takes
  number : ℕ → ℕ → Reading
  -- the part ends first
  cut_off : Reading
  -- the refusal with this number
  refused : ℕ → Reading

-- how many bytes from 80 hex up stand at the front
unfoldable pub continuing : List ℕ → ℕ
continuing [] = 0
continuing (b ∷ s) = cond (leb 128 b) (suc (continuing s)) 0

-- the value of the lowest seven bits of each byte, the first byte lowest
unfoldable pub sevens : List ℕ → ℕ
sevens [] = 0
sevens (b ∷ s) = b % 128 + 128 * sevens s

-- The number at the front of a part. It ends at its first byte below 80 hex. Nine bytes from 80 hex up are too wide (11); more
-- than one byte with a last byte 00 is not shortest (12).
unfoldable pub reading : List ℕ → Reading
reading s =
    let n = continuing s in
    cond (leb 9 n) (refused 11)
    (cond (leb (length s) n) cut_off
    (cond (ltb 0 n && eqb (get_or s n 0) 0) (refused 12)
    (number (sevens (take (n + 1) s)) (n + 1))))

-- what an answer of `read_number` says
unfoldable pub reading_said : Result Number NumberFault → Reading
reading_said (Ok n) = number n.value n.used
reading_said (Err CutOff) = cut_off
reading_said (Err TooWide) = refused 11
reading_said (Err NotShortest) = refused 12
