-- The writer: the refusals 30, 9, 28, 29 and 31 in this order, or the file.
use Rattle.std.specs.Prelude.{ℕ, cond, List, map, eqb, length}
use Rattle.lists.specs.Groups.{groups}
use Rattle.outcome.specs.Outcome.{Outcome, answer, refused, ◌>>=◌, ◌>>◌, must}
use Rattle.header.specs.Metadata.{is_metadata}
use Rattle.payload.specs.Payload.{records_at}
use Rattle.layout.specs.File.{file_of, counts_fit, file_fits}

-- the refusal for an input whose records are refused as those of a block: 29 where they don't rise (16), 28 for everything else
unfoldable pub input_refusal : ℕ → ℕ
input_refusal number = cond (eqb number 16) 29 28

unfoldable pub refused_as : {A : Type 0} → (ℕ → ℕ) → Outcome A → Outcome A
refused_as number (answer a) = answer a
refused_as number (refused n place) = refused (number n) 0

-- the records of an input, which is formed as the payload of a data block
unfoldable pub input_of : (input : List ℕ) → Outcome (List (List ℕ))
input_of input = do
  rs ← refused_as input_refusal (records_at 0 input 0)
  answer (map (λ r. r.bytes) rs)

-- the records to be written, or the first of the refusals 30, 9, 28 and 29
unfoldable pub records_to_write : (metadata input : List ℕ) (per_block per_index : ℕ) → Outcome (List (List ℕ))
records_to_write metadata input per_block per_index = do
  must (counts_fit per_block per_index) 30 0
  must (is_metadata metadata) 9 0
  input_of input

-- the file, for an output of `room` bytes
unfoldable pub write_of : (metadata input : List ℕ) (per_block per_index room : ℕ) → Outcome (List ℕ)
write_of metadata input per_block per_index room = do
  rs ← records_to_write metadata input per_block per_index
  must (file_fits room (length (file_of metadata (groups per_block rs) per_index))) 31 0
  answer (file_of metadata (groups per_block rs) per_index)
