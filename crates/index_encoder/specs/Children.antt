-- The blocks that stand side by side in an output, as the entries that name them.
use Rattle.std.specs.Prelude.{ℕ, zero, suc, ◌+◌, ◌-◌, ◌≤◌, ◌<◌, cond, List, [], ◌∷◌, map, length, take, Result, Ok, Err}
use Rattle.std.proofs.Math.Option.{some}
use Rattle.lists.specs.Groups.{last_or}
use Rattle.outcome.specs.Outcome.{Outcome, answer, refused, ◌>>=◌}
use Rattle.outcome.specs.declared.Fault.{Fault}
use Rattle.outcome.specs.Fault.{number}
use Rattle.items.specs.Items.{sound_from, where_answered}
use Rattle.part.specs.Part.{part}
use Rattle.part.specs.declared.Part.{Part}
use Rattle.framing.specs.Frame.{frame_at}
use Rattle.payload.specs.Payload.{Text, text_at}
use Rattle.block.specs.Block.{is_data}
use Rattle.layout.specs.Index.{IndexEntry}
use Rattle.layout.specs.File.{key_for}
use Rattle.index_encoder.specs.declared.child.Position.{Position}
use Rattle.index_encoder.specs.declared.child.Child.{Child as Found}

-- the bytes of a part of s
unfoldable pub bytes_of : (s : List ℕ) → Part → List ℕ
bytes_of s p = part s p.offset p.length

-- a part lies within s
unfoldable pub Within : (s : List ℕ) → Part → Type 0
Within s p = p.offset + p.length ≤ length s

-- the last of some texts, or `known` where there are none
unfoldable pub last_text : List Text → (known : List ℕ) → List ℕ
last_text ts known = last_or known (map (λ t. t.bytes) ts)

-- the last of the texts that stand one after the other from `at` to the end of s
unfoldable pub last_from : (s : List ℕ) (at : ℕ) (known : List ℕ) → List ℕ
last_from s at known = last_text (sound_from (text_at 0 s) (length s) (length s - at) at) known

-- a block: the entry that names it, and its last record
pub record Child : Type 0 where
  pub entry : IndexEntry
  pub last : List ℕ

module _ (s : List ℕ) where
  -- The block at an offset of s, where `before` is the record before it. A data block's key is made for its first record; an index block's
  -- key is its own first key, and its last record is not asked for.
  unfoldable pub child_after : (before : List ℕ) (at : ℕ) → Outcome Child
  child_after before at = do
    f ← frame_at s at
    first ← text_at at (take f.end s) (f.body + 1)
    answer (cond (is_data f.level)
        (record {
          entry = record { key = key_for (some before) first.item.bytes; offset = at; size = f.size };
          last = last_from (take f.end s) first.next first.item.bytes;
        })
        (record { entry = record { key = first.item.bytes; offset = at; size = f.size }; last = first.item.bytes }))

  -- the entries for the blocks from an offset on, up to the first offset where none can be read; at most `fuel` of them
  unfoldable pub children_after : (fuel : ℕ) (before : List ℕ) (at : ℕ) → List IndexEntry
  children_after zero before at = []
  children_after (suc fuel) before at = where_answered (child_after before at) (λ c. c.entry ∷ children_after fuel c.last (at + c.entry.size))

  -- the block at a position, and the entries for the blocks from there on; a block takes at least a byte, so the length is fuel enough
  unfoldable pub child_at : Position → Outcome Child
  child_at p = child_after (bytes_of s p.before) p.offset

  unfoldable pub children_from : Position → List IndexEntry
  children_from p = children_after (length s) (bytes_of s p.before) p.offset

  -- the entry with a key that stands in s
  unfoldable pub entry_in : (key : Part) (offset size : ℕ) → IndexEntry
  entry_in key offset size = record { key = bytes_of s key; offset = offset; size = size }

  -- what `child_at` answers
  unfoldable pub child_said : Position → Result Found Fault → Outcome Child
  child_said p (Ok c) = answer (record { entry = entry_in c.key p.offset c.size; last = bytes_of s c.last })
  child_said p (Err fault) = refused (number fault) p.offset

  -- the key and the record that an answer names lie within the block, and the block within s
  unfoldable pub ChildWithin : Position → Result Found Fault → Type 0
  ChildWithin p (Ok c) =
      (p.offset < c.key.offset) × (c.key.offset + c.key.length ≤ p.offset + c.size) × (c.last.offset + c.last.length ≤ p.offset + c.size)
      × (p.offset + c.size ≤ length s)
  ChildWithin p (Err fault) = Unit {0}

-- the position of a block that has no record before it
unfoldable pub start_at : ℕ → Position
start_at offset = record { offset = offset; before = record { offset = 0; length = 0 } }
