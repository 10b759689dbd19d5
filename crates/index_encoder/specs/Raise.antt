-- Putting the index over a run of blocks in an output.
use Rattle.std.specs.Prelude.{ℕ, ◌+◌, ◌-◌, ◌≤◌, ◌<◌, ◌≡◌, leb, length, take, Result, Ok, Err}
use mathlib.Core.List.{List, ◌++◌, flat_map}
use Rattle.output_list.specs.OutputList.{zeros}
use Rattle.outcome.specs.Outcome.{Outcome, answer, refused, ◌>>=◌, ◌>>◌, must}
use Rattle.outcome.specs.declared.Fault.{Fault}
use Rattle.outcome.specs.Fault.{number}
use Rattle.output_bytes.specs.OutputBytes.{stored}
use Rattle.layout.specs.Index.{IndexBlock, index_bytes, index_over, root_of}
use Rattle.layout.specs.File.{file_fits}
use Rattle.index_encoder.specs.Children.{children_from, start_at}
use Rattle.index_encoder.specs.declared.Raised.{Raised}

-- the index blocks over the blocks that stand in the output from `from` to `to`, to be put from `to` on
unfoldable pub index_for : (per_index : ℕ) (output : List ℕ) (from to : ℕ) → List IndexBlock
index_for per_index output from to = index_over per_index to (children_from (take to output) (start_at from))

-- the same, or a refusal: 30 where an index block would hold fewer than two entries, 31 where they don't fit
unfoldable pub raise_of : (per_index : ℕ) (output : List ℕ) (from to : ℕ) → Outcome (List IndexBlock)
raise_of per_index output from to = do
  must (leb 2 per_index) 30 0
  must (file_fits (length output) (to + length (flat_map index_bytes (index_for per_index output from to)))) 31 0
  answer (index_for per_index output from to)

-- what is answered of the index blocks: the root, which is the last, and where they end
unfoldable pub raised_from : (to : ℕ) → List IndexBlock → Raised
raised_from to bs = record { root = (root_of bs).offset; rootsize = (root_of bs).size; end = to + length (flat_map index_bytes bs) }

unfoldable pub raised_of : (per_index : ℕ) (output : List ℕ) (from to : ℕ) → Outcome Raised
raised_of per_index output from to = raise_of per_index output from to >>= λ bs. answer (raised_from to bs)

-- the output then: the index blocks stored from `to` on; after a refusal zeros from there on
unfoldable pub with_index : List ℕ → (to : ℕ) → Outcome (List IndexBlock) → List ℕ
with_index output to (answer bs) = stored output to (flat_map index_bytes bs)
with_index output to (refused number place) = take to output ++ zeros (length output - to)

-- the same before what was put is cleared after a refusal
unfoldable pub IndexPut : (old new : List ℕ) (to : ℕ) → Outcome (List IndexBlock) → Type 0
IndexPut old new to (answer bs) = new ≡ stored old to (flat_map index_bytes bs)
IndexPut old new to (refused number place) = take to new ≡ take to old

-- what `put_levels` answers: all levels are put, or they don't fit and what stands before them is as it was
unfoldable pub LevelsPut : (old new : List ℕ) (to : ℕ) → List IndexBlock → Result Raised Fault → Type 0
LevelsPut old new to bs (Ok r) =
    (r ≡ raised_from to bs) × (to + length (flat_map index_bytes bs) ≤ length old) × (new ≡ stored old to (flat_map index_bytes bs))
LevelsPut old new to bs (Err fault) =
    (number fault ≡ 31) × (length old < to + length (flat_map index_bytes bs)) × (take to new ≡ take to old)
