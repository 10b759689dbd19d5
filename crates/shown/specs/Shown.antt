-- A part of one of two files, by three numbers: which file (1 or 2), offset and length.
use Rattle.std.specs.Prelude.{ℕ, Bool, ◌&&◌, ◌||◌, cond, List, eqb}
use Rattle.part.specs.Part.{part}
use Rattle.record.specs.Record.{is_within}
use Rattle.shown.specs.declared.place.Shown.{Shown}

module _ (first second : List ℕ) where
  -- the file of a part: 2 is the second
  unfoldable pub file_named : (which : ℕ) → List ℕ
  file_named which = cond (eqb which 2) second first

  -- the numbers name a part: one of the files, and bytes that lie within it
  unfoldable pub names_part : (which offset n : ℕ) → Bool
  names_part which offset n = (eqb which 1 || eqb which 2) && is_within (file_named which) offset n

  -- the part that they name, or the first file's empty part at 0
  unfoldable pub part_shown : (which offset n : ℕ) → Shown
  part_shown which offset n =
      cond (names_part which offset n) (record { which = which; offset = offset; length = n }) (record { which = 1; offset = 0; length = 0 })

  -- the bytes of a part
  unfoldable pub shown_bytes : Shown → List ℕ
  shown_bytes p = part (file_named p.which) p.offset p.length
