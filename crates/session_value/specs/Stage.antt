-- What a session has written so far, and the bytes of it.
use Rattle.std.specs.Prelude.{ℕ, ◌+◌, length}
use mathlib.Core.List.{List, [], ◌∷◌, ◌++◌, flat_map}
use Rattle.output_list.specs.OutputList.{padded, zeros}
use Rattle.layout.specs.Blocks.{data_bytes}
use Rattle.layout.specs.File.{blocks_start, file_of}
use Rattle.file_encoder.specs.Begun.{begun_file}

-- a file that is being written: its data blocks, each a list of records, of which the last may be open
pub record Draft : Type 0 where
  pub metadata : List ℕ
  pub per_block : ℕ
  pub per_index : ℕ
  pub closed : List (List (List ℕ))
  -- the records of the open block; none where no block is open
  pub current : List (List ℕ)

-- before begin, from begin until finish, and once finished
pub data Stage : Type 0 where
  afresh : Stage
  begun : Draft → Stage
  finished : Draft → Stage

-- the open block, where there is one
unfoldable pub open_block : List (List ℕ) → List (List (List ℕ))
open_block [] = []
open_block (r ∷ rs) = (r ∷ rs) ∷ []

-- all data blocks, the open one last
unfoldable pub draft_blocks : Draft → List (List (List ℕ))
draft_blocks d = d.closed ++ open_block d.current

-- all records, in order
unfoldable pub draft_records : Draft → List (List ℕ)
draft_records d = flat_map (λ rs. rs) d.closed ++ d.current

-- where the data blocks end, the open one framed
unfoldable pub data_end : Draft → ℕ
data_end d = blocks_start d.metadata + length (flat_map data_bytes (draft_blocks d))

-- the finished file
unfoldable pub draft_file : Draft → List ℕ
draft_file d = file_of d.metadata (draft_blocks d) d.per_index

-- what an output of `room` bytes holds
unfoldable pub output_of : (room : ℕ) → Stage → List ℕ
output_of room afresh = zeros room
output_of room (begun d) = begun_file room d.metadata (draft_blocks d)
output_of room (finished d) = padded room (draft_file d)
