-- A block at an offset of a file, and the blocks that fill a file.
use Rattle.std.specs.Prelude.{ℕ, ◌+◌, ◌-◌, cond, List, [], length, take}
use Rattle.outcome.specs.Outcome.{Outcome, answer, ◌>>=◌}
use Rattle.items.specs.Items.{items_from}
use Rattle.items.specs.declared.Step.{Step}
use Rattle.framing.specs.declared.Frame.{Frame}
unfoldable pub use Rattle.framing.specs.Frame.{is_data, is_ordinary}
use Rattle.framing.specs.Frame.{sound_frame_at}
use Rattle.payload.specs.Payload.{Text, Entry, records_at, entries_at}

-- a block: its frame, and its records or its entries; a reserved block has neither, since its payload is ignored
pub record Block : Type 0 where
  pub frame : Frame
  pub records : List Text
  pub entries : List Entry

-- the block that a sound frame encloses (15, 16, 21)
unfoldable pub block_in : List ℕ → Frame → Outcome Block
block_in file f =
    let payload = take f.end file in
    let from = f.body + 1 in
    cond (is_data f.level) (records_at f.start payload from >>= λ rs. answer (record { frame = f; records = rs; entries = [] }))
    (cond (is_ordinary f.level) (entries_at f.start payload from >>= λ es. answer (record { frame = f; records = []; entries = es }))
    (answer (record { frame = f; records = []; entries = [] })))

-- the block at an offset, with every test of one block
unfoldable pub block_at : List ℕ → ℕ → Outcome Block
block_at file at = sound_frame_at file at >>= block_in file

-- the block at an offset, and where the next one begins
unfoldable pub block_step : List ℕ → ℕ → Outcome (Step Block)
block_step file at = block_at file at >>= λ b. answer (record { item = b; next = at + b.frame.size })

-- the blocks that fill the file from an offset to its end, front to back, or the first refusal; every block takes at least a byte
unfoldable pub blocks_at : List ℕ → ℕ → Outcome (List Block)
blocks_at file at = items_from (block_step file) (length file) (length file - at) at
