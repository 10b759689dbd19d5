-- The walk of 23 and 24 as it is made: down from a block of a level, with what is known of the blocks met before.
use Rattle.std.specs.Prelude.{ℕ, zero, suc, ◌+◌, ◌≤◌, Bool, ◌&&◌, ◌||◌, not, cond, List, [], ◌∷◌, ltb, eqb, length, Some, None}
use Rattle.std.specs.Option.{option_or, unwrap_or}
use Rattle.byte_string.specs.Order.{at_most}
use Rattle.part.specs.declared.Part.{Part}
use Rattle.payload.specs.Payload.{Text, Entry}
use Rattle.check_walk.specs.declared.keys.Span.{Span}
use Rattle.check_walk.specs.declared.keys.Keys.{Keys}
use Rattle.check_walk.specs.Lookup.{no_part, bytes_in, entries_in, records_in}

-- no record yet
unfoldable pub no_span : Span
no_span = record { first = None; last = no_part }

-- records, and then the records of another span
unfoldable pub span_joined : Span → Span → Span
span_joined a b = record { first = option_or a.first b.first; last = b.last }

-- one record
unfoldable pub span_one : Text → Span
span_one t =
    let p : Part = record { offset = t.at; length = length t.bytes } in
    record { first = Some p; last = p }

-- records, and then these records
unfoldable pub span_over : List Text → Span → Span
span_over [] s = s
span_over (t ∷ ts) s = span_over ts (span_joined s (span_one t))

-- the first record, or no bytes
unfoldable pub first_of : Span → Part
first_of s = unwrap_or s.first no_part

-- both lie within the file
unfoldable pub Within : List ℕ → Span → Type 0
Within file s = ((first_of s).offset + (first_of s).length ≤ length file) × (s.last.offset + s.last.length ≤ length file)

-- the first place of two, where 0 is none
unfoldable pub earlier : ℕ → ℕ → ℕ
earlier m at = cond (eqb m 0 || ltb at m) at m

-- a data block: its records; it is out of order where its first record is below the last one before
unfoldable pub leaf_keys : List ℕ → (at : ℕ) → Keys → Keys
leaf_keys file at before =
    let own = span_over (records_in file at) no_span in
    record {
      span = own;
      unordered = cond (eqb before.unordered 0 && not (at_most (bytes_in file before.span.last) (bytes_in file (first_of own)))) at before.unordered;
      misfit = before.misfit;
    }

-- the key of an entry lies between the last record before and the first record of what its block leads to
unfoldable pub fits_between : List ℕ → (key : List ℕ) (before child : Span) → Bool
fits_between file key before child = at_most (bytes_in file before.last) key && at_most key (bytes_in file (first_of child))

-- an entry of the index block at `at`, with what the walk of its block hands back
unfoldable pub entry_keys : List ℕ → (at : ℕ) (key : List ℕ) (before child : Keys) → Keys
entry_keys file at key before child =
    record {
      span = span_joined before.span child.span;
      unordered = child.unordered;
      misfit = cond (fits_between file key before.span child.span) child.misfit (earlier child.misfit at);
    }

-- through the entries of the index block at `at`, with the walk of an entry's block
unfoldable pub over_keys : List ℕ → (at : ℕ) (child : ℕ → Keys → Keys) → List Entry → Keys → Keys
over_keys file at child [] before = before
over_keys file at child (e ∷ es) before = over_keys file at child es (entry_keys file at e.key.bytes before (child e.offset before))

-- at the start of an index block: nothing of what it leads to is met yet, the last record before stays
unfoldable pub keys_entering : Keys → Keys
keys_entering before = record { span = record { first = None; last = before.span.last }; unordered = before.unordered; misfit = before.misfit }

-- before the walk: no record, no fault
unfoldable pub no_keys : Keys
no_keys = record { span = no_span; unordered = 0; misfit = 0 }

-- the walk down from the block of this level at an offset
unfoldable pub keys_of : List ℕ → (level at : ℕ) → Keys → Keys
keys_of file zero at before = leaf_keys file at before
keys_of file (suc level) at before = over_keys file at (keys_of file level) (entries_in file at) (keys_entering before)
