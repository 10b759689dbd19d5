-- The number of finish beside that of the writer.
use Rattle.std.specs.Prelude.{ℕ, ◌≡◌, List}
use Rattle.outcome.specs.Outcome.{number_of}
use Rattle.layout.specs.Blocks.{records_bytes}
use Rattle.writer.specs.Write.{write_of}
use Rattle.session_value.specs.Stage.{Draft, begun}
use Rattle.session_value.specs.Steps.{finish_of}

-- finish gives the number that the writer gives for these records: 31 where it gives 31, otherwise 0
unfoldable pub EndsAsWriter : (room : ℕ) → Draft → (records : List (List ℕ)) → Type 0
EndsAsWriter room d records =
    number_of (finish_of (begun d) room) ≡ number_of (write_of d.metadata (records_bytes records) d.per_block d.per_index room)
