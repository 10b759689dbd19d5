-- The steps of a session: begin, add a record, close the block, finish. Each gives what is written then, or a refusal. Starting afresh is no
-- more than `afresh`, from any stage.
use Rattle.std.specs.Prelude.{ℕ, Bool, true, false, cond, List, [], ◌∷◌, ◌++◌, leb, length}
use Rattle.lists.specs.Groups.{last_or}
use Rattle.byte_string.specs.Order.{at_most}
use Rattle.outcome.specs.Outcome.{Outcome, answer, refused, ◌>>=◌, ◌>>◌, must}
use Rattle.header.specs.Metadata.{is_metadata}
use Rattle.layout.specs.File.{blocks_start, counts_fit, file_fits}
use Rattle.session_value.specs.Stage.{Draft, Stage, afresh, begun, finished, draft_records, data_end, draft_file}

unfoldable pub is_afresh : Stage → Bool
is_afresh afresh = true
is_afresh (begun d) = false
is_afresh (finished d) = false

-- what is being written, or 28 before begin and once finished
unfoldable pub draft_of : Stage → Outcome Draft
draft_of afresh = refused 28 0
draft_of (begun d) = answer d
draft_of (finished d) = refused 28 0

unfoldable pub begin_of : Stage → (metadata : List ℕ) (per_block per_index room : ℕ) → Outcome Stage
begin_of stage metadata per_block per_index room = do
  must (is_afresh stage) 28 0
  must (counts_fit per_block per_index) 30 0
  must (is_metadata metadata) 9 0
  must (file_fits room (blocks_start metadata)) 31 0
  answer (begun (record { metadata = metadata; per_block = per_block; per_index = per_index; closed = []; current = [] }))

-- the open block closed
unfoldable pub close_open : Draft → Draft
close_open d = record { metadata = d.metadata; per_block = d.per_block; per_index = d.per_index; closed = d.closed ++ (d.current ∷ []); current = [] }

-- the open block closed where it is full
unfoldable pub close_full : Draft → Draft
close_full d = cond (leb d.per_block (length d.current)) (close_open d) d

-- one record more in the open block
unfoldable pub add_open : Draft → List ℕ → Draft
add_open d r = record { metadata = d.metadata; per_block = d.per_block; per_index = d.per_index; closed = d.closed; current = d.current ++ (r ∷ []) }

-- adding to a full block closes it first
unfoldable pub add_to : Draft → List ℕ → Draft
add_to d r = add_open (close_full d) r

-- a record is at least the last one; the empty byte string, at most any other, where there is none
unfoldable pub is_next : Draft → List ℕ → Bool
is_next d r = at_most (last_or [] (draft_records d)) r

unfoldable pub add_of : Stage → (added : List ℕ) (room : ℕ) → Outcome Stage
add_of stage r room = do
  d ← draft_of stage
  must (is_next d r) 29 0
  must (file_fits room (data_end (add_to d r))) 31 0
  answer (begun (add_to d r))

unfoldable pub close_of : Stage → Outcome Stage
close_of stage = do
  d ← draft_of stage
  must (leb 1 (length d.current)) 28 0
  answer (begun (close_open d))

unfoldable pub finish_of : Stage → (room : ℕ) → Outcome Stage
finish_of stage room = do
  d ← draft_of stage
  must (leb 1 (length (draft_records d))) 28 0
  must (file_fits room (length (draft_file d))) 31 0
  answer (finished d)

-- what is written after a step; a refused one changes nothing
unfoldable pub after : Stage → Outcome Stage → Stage
after old (answer new) = new
after old (refused number place) = old
