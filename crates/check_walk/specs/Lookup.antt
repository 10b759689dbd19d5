-- What lies at an offset of a file, read without tests: the level, the payload, and its entries or records up to the first fault. Where
-- there is no frame, the level is 0, the payload is empty and there are no items. The walks read blocks by this.
use Rattle.std.specs.Prelude.{ℕ, ◌+◌, ◌-◌, List}
use Rattle.outcome.specs.Outcome.{Outcome, answer, refused}
use Rattle.items.specs.Items.{where_answered}
use Rattle.part.specs.Part.{part}
use Rattle.part.specs.declared.Part.{Part}
use Rattle.framing.specs.declared.Frame.{Frame}
use Rattle.framing.specs.Frame.{frame_at}
use Rattle.payload.specs.Payload.{Text, Entry, text_at, entry_at}
use Rattle.block.specs.Laid.{laid_items}

-- no bytes: the empty part at 0
unfoldable pub no_part : Part
no_part = record { offset = 0; length = 0 }

-- the bytes of a part
unfoldable pub bytes_in : List ℕ → Part → List ℕ
bytes_in file p = part file p.offset p.length

unfoldable pub level_of : Outcome Frame → ℕ
level_of (answer f) = f.level
level_of (refused number place) = 0

-- the payload goes from after the level byte to the end of the L bytes
unfoldable pub payload_part : Outcome Frame → Part
payload_part (answer f) = record { offset = f.body + 1; length = f.end - (f.body + 1) }
payload_part (refused number place) = no_part

unfoldable pub entries_in : List ℕ → ℕ → List Entry
entries_in file at = where_answered (frame_at file at) (laid_items file entry_at)

unfoldable pub records_in : List ℕ → ℕ → List Text
records_in file at = where_answered (frame_at file at) (laid_items file text_at)
