-- One of two files, and a part of it.
use Rattle.std.specs.Prelude.{ℕ, Result, Ok, Err, nat_eq, cond}
use Rattle.part.specs.declared.Part.{Part}
use Rattle.shown.specs.declared.place.Which.{Which}
use Rattle.shown.specs.declared.place.Which.TheVariants.{First, Second}
use Rattle.shown.specs.declared.place.Shown.{Shown}

unfoldable pub number : Which → ℕ
number First = 1
number Second = 2

-- the one of two that it is
unfoldable pub file_of : {A : Type 0} → (first second : A) → Which → A
file_of first second First = first
file_of first second Second = second

-- the file with this number, if any
unfoldable pub which_of : ℕ → Result Which (Unit {0})
which_of n = cond (nat_eq n 1) (Ok First) (cond (nat_eq n 2) (Ok Second) (Err tt))

-- a part of this file, by its numbers
unfoldable pub place_of : Which → Part → Shown
place_of which p = record { which = number which; offset = p.offset; length = p.length }
