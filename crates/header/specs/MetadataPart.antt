-- Where the metadata of a file lie.
use Rattle.std.specs.Prelude.{ℕ, ◌+◌, ◌≤◌, ◌≡◌, List, length}
use Rattle.outcome.specs.Outcome.{Outcome, answer, refused}
use Rattle.part.specs.Part.{part}
use Rattle.part.specs.declared.Part.{Part}
use Rattle.header.specs.Metadata.{Metadata}
use Rattle.header.specs.Header.{M, header_of}
use Rattle.header.specs.declared.Header.{Header}

-- the M bytes from 96 on where the header is sound, else no bytes at 0
unfoldable pub metadata_in : Outcome Header → Part
metadata_in (answer h) = record { offset = 96; length = h.metadata }
metadata_in (refused number place) = record { offset = 0; length = 0 }

unfoldable pub metadata_part : List ℕ → Part
metadata_part file = metadata_in (header_of file)

-- what is claimed of the part of a file with a sound header: it lies within the file, and its bytes keep the metadata rule
pub record HoldsMetadata (file : List ℕ) (p : Part) : Type 0 where
  pub begins : p.offset ≡ 96
  pub long : p.length ≡ M file
  pub within : p.offset + p.length ≤ length file
  pub rule : Metadata (part file p.offset p.length)
