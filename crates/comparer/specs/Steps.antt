-- The record that comes next in the merge.
use Rattle.std.specs.Prelude.{ℕ, ◌+◌, ◌≤◌, List, length, Option, Some, None}
use Rattle.part.specs.declared.Part.{Part}
use Rattle.payload.specs.Answers.{text_in}
use Rattle.shown.specs.declared.place.Which.{Which}
use Rattle.shown.specs.Which.{number, file_of}
use Rattle.differences.specs.Merge.{Next, none, next}

-- what an answer says of the record that comes next
unfoldable pub next_said : (first second : List ℕ) → Option (Which × Part) → Next
next_said first second (Some (w, p)) = next (number w) (text_in (file_of first second w) p.offset p.length)
next_said first second None = none

-- the record that an answer names lies within its file
unfoldable pub NextWithin : (first second : List ℕ) → Option (Which × Part) → Type 0
NextWithin first second (Some (w, p)) = p.offset + p.length ≤ length (file_of first second w)
NextWithin first second None = Unit {0}
