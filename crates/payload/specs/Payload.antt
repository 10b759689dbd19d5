-- The payload of a data block, as records, and of an index block, as entries. A payload is given as a byte string s that ends where
-- the payload ends, so that offsets are those of the file.
use Rattle.std.specs.Prelude.{ℕ, ◌+◌, ◌-◌, List, map, leb, ltb, length}
unfoldable pub use Rattle.byte_string.specs.Rising.{rising_from, rising}
use Rattle.outcome.specs.Outcome.{Outcome, answer, ◌>>=◌, ◌>>◌, must}
use Rattle.items.specs.Items.{items_from}
use Rattle.items.specs.declared.Step.{Step}
use Rattle.part.specs.Part.{part}
use Rattle.framing.specs.Frame.{number_at}

-- a byte string that stands in the file: the offset of its first byte, and its bytes
pub record Text : Type 0 where
  pub at : ℕ
  pub bytes : List ℕ

-- an entry of an index block: the key, and the offset and full size of the block that it names
pub record Entry : Type 0 where
  pub key : Text
  pub offset : ℕ
  pub size : ℕ

module _ (place : ℕ) (s : List ℕ) where
  -- a number and that many bytes: a record, or a key
  unfoldable pub text_at : ℕ → Outcome (Step Text)
  text_at at = do
    n ← number_at 15 place s at
    must (leb (n.next + n.item) (length s)) 15 place
    answer (record { item = record { at = n.next; bytes = part s n.next n.item }; next = n.next + n.item })

  -- the entry whose key and offset have been read, with the number for the full size at `at`
  unfoldable pub entry_sized : Text → ℕ → ℕ → Outcome (Step Entry)
  entry_sized key offset at = do
    size ← number_at 15 place s at
    answer (record { item = record { key = key; offset = offset; size = size.item }; next = size.next })

  -- a key, a number for the block's offset, and a number for its full size
  unfoldable pub entry_at : ℕ → Outcome (Step Entry)
  entry_at at = do
    key ← text_at at
    offset ← number_at 15 place s key.next
    entry_sized key.item offset.item offset.next

-- One or more items that fill the payload from `at` to its end (11, 12, 15), whose byte strings rise (the refusal `unsorted`). Every item
-- takes at least a byte, so `end - at` is fuel enough.
unfoldable pub payload_at : {A : Type 0} (step : ℕ → Outcome (Step A)) (text_of : A → Text) (unsorted place end at : ℕ) → Outcome (List A)
payload_at step text_of unsorted place end at = do
  must (ltb at end) 15 place
  xs ← items_from step end (end - at) at
  must (rising (map (λ x. (text_of x).bytes) xs)) unsorted place
  answer xs

-- the records of a data block (16), and the entries of an index block (21); s ends with the payload
unfoldable pub records_at : (place : ℕ) (s : List ℕ) (at : ℕ) → Outcome (List Text)
records_at place s at = payload_at (text_at place s) (λ r. r) 16 place (length s) at

unfoldable pub entries_at : (place : ℕ) (s : List ℕ) (at : ℕ) → Outcome (List Entry)
entries_at place s at = payload_at (entry_at place s) (λ e. e.key) 21 place (length s) at
