-- Which number each step of a session gives, and why. The cases of a step exclude each other, so each number is given exactly for its reason.
use Rattle.std.specs.Prelude.{ℕ, ◌^◌, ◌≤◌, ◌<◌, ◌≡◌, ◌≢◌, ◌⊎◌, true, List, [], ◌∷◌, ◌++◌, length}
use Rattle.byte_string.specs.Order.{at_most}
use Rattle.header.specs.Metadata.{Metadata}
use Rattle.layout.specs.File.{blocks_start}
use Rattle.theorems_write.specs.WrittenByRules.{CountsFit}
use Rattle.session_value.specs.Stage.{Draft, Stage, afresh, begun, draft_records, data_end, draft_file}
use Rattle.session_value.specs.Steps.{add_to}

-- so many bytes fit an output of `room` bytes, and the format
unfoldable pub FitsIn : (room long : ℕ) → Type 0
FitsIn room long = (long ≤ room) × (long ≤ 2 ^ 30)

-- or they exceed one of them
unfoldable pub Exceeds : (room long : ℕ) → Type 0
Exceeds room long = (room < long) ⊎ (2 ^ 30 < long)

-- a record is at least the last one, where there is one
unfoldable pub NotBefore : Draft → (r : List ℕ) → Type 0
NotBefore d r = (earlier : List (List ℕ)) (last : List ℕ) → draft_records d ≡ earlier ++ (last ∷ []) → at_most last r ≡ true

-- before begin, or once finished
unfoldable pub NotBegun : Stage → Type 0
NotBegun stage = (d : Draft) → stage ≡ begun d → ⊥

-- begin: 28 for the second time and once finished, 30, 9, or 31 where the header exceeds the output or 2^30
pub data BeginEnds (stage : Stage) (metadata : List ℕ) (per_block per_index room : ℕ) : (number : ℕ) → Type 0 where
  begin_again : stage ≢ afresh → BeginEnds stage metadata per_block per_index room 28
  begin_counts : stage ≡ afresh → (CountsFit per_block per_index → ⊥) → BeginEnds stage metadata per_block per_index room 30
  begin_no_metadata : stage ≡ afresh → CountsFit per_block per_index → (Metadata metadata → ⊥) → BeginEnds stage metadata per_block per_index room 9
  begin_too_long : stage ≡ afresh → CountsFit per_block per_index → Metadata metadata → Exceeds room (blocks_start metadata)
      → BeginEnds stage metadata per_block per_index room 31
  begin_done : stage ≡ afresh → CountsFit per_block per_index → Metadata metadata → FitsIn room (blocks_start metadata)
      → BeginEnds stage metadata per_block per_index room 0

-- add: 28 before begin and once finished, 29 where the records would fall, or 31 where the header and the data blocks with the new record, the open
-- one framed, would exceed the output or 2^30
pub data AddEnds (stage : Stage) (r : List ℕ) (room : ℕ) : (number : ℕ) → Type 0 where
  add_not_begun : NotBegun stage → AddEnds stage r room 28
  add_falls : (d : Draft) → stage ≡ begun d → (NotBefore d r → ⊥) → AddEnds stage r room 29
  add_too_long : (d : Draft) → stage ≡ begun d → NotBefore d r → Exceeds room (data_end (add_to d r)) → AddEnds stage r room 31
  add_done : (d : Draft) → stage ≡ begun d → NotBefore d r → FitsIn room (data_end (add_to d r)) → AddEnds stage r room 0

-- close: 28 before begin, once finished, and where the block has no record
pub data CloseEnds (stage : Stage) : (number : ℕ) → Type 0 where
  close_not_begun : NotBegun stage → CloseEnds stage 28
  close_no_record : (d : Draft) → stage ≡ begun d → d.current ≡ [] → CloseEnds stage 28
  close_done : (d : Draft) → stage ≡ begun d → d.current ≢ [] → CloseEnds stage 0

-- finish: 28 before begin, once finished, and without records, or 31 where the finished file exceeds the output or 2^30
pub data FinishEnds (stage : Stage) (room : ℕ) : (number : ℕ) → Type 0 where
  finish_not_begun : NotBegun stage → FinishEnds stage room 28
  finish_no_record : (d : Draft) → stage ≡ begun d → draft_records d ≡ [] → FinishEnds stage room 28
  finish_too_long : (d : Draft) → stage ≡ begun d → draft_records d ≢ [] → Exceeds room (length (draft_file d)) → FinishEnds stage room 31
  finish_done : (d : Draft) → stage ≡ begun d → draft_records d ≢ [] → FitsIn room (length (draft_file d)) → FinishEnds stage room 0
