-- The rules of the format, each in the terms of docs/FORMAT.md and in no order: what a file of the format is. Nothing here passes over the
-- file or scans a payload: blocks tile the file, and items fill a payload. Shared with the check are the value of a number, CRC, SHA, the
-- order of byte strings, and the descriptions of the tree: `block_level`, `namings`, `leaves`, `under`, `records_of`, `payloads`.
use Rattle.std.specs.Prelude.{ℕ, ◌+◌, ◌-◌, ◌^◌, ◌≤◌, ◌<◌, ◌≡◌, ◌≢◌, true, length, take, get_or}
use mathlib.Core.List.{List, [], ◌∷◌, map, Memᴰ}
use Rattle.byte_string.specs.Order.{at_most}
use Rattle.endian.specs.FixedWidth.{little_endian}
use Rattle.uleb128.specs.Number.{number, reading}
use Rattle.crc64.specs.Crc64.{crc64}
use Rattle.sha256.specs.Sha256.{sha256}
use Rattle.part.specs.Part.{part}
use Rattle.header.specs.Metadata.{Metadata}
use Rattle.header.specs.Header.{magic, codec_none, field_at, H, M}
use Rattle.framing.specs.declared.Frame.{Frame}
use Rattle.payload.specs.Payload.{Text, Entry}
use Rattle.block.specs.Block.{Block}
use Rattle.block.specs.Survey.{records_of}
use Rattle.tree.specs.Tree.{block_level, namings, leaves, under}
use Rattle.tree.specs.Stages.{payloads}

-- ---- blocks

-- from `at` to `next` there stands a number of this value, in shortest form and of at most nine bytes
unfoldable pub NumberIn : (s : List ℕ) (at next value : ℕ) → Type 0
NumberIn s at next value = (at < next) × (next ≤ length s) × (reading (part s at (next - at)) ≡ number value (next - at))

-- a byte string stands in s at its offset
unfoldable pub StandsIn : (s : List ℕ) → Text → Type 0
StandsIn s t = (t.at + length t.bytes ≤ length s) × (part s t.at (length t.bytes) ≡ t.bytes)

-- from `at` to `next` there stand a number and as many bytes: a record, or a key
unfoldable pub TextIn : (s : List ℕ) (at next : ℕ) → Text → Type 0
TextIn s at next t = NumberIn s at t.at (length t.bytes) × StandsIn s t × (next ≡ t.at + length t.bytes)

-- from `at` to `next` there stand a key, a number for the offset and a number for the full size
pub record EntryIn (s : List ℕ) (at next : ℕ) (e : Entry) : Type 0 where
  pub after_key : ℕ
  pub after_offset : ℕ
  pub keyed : TextIn s at after_key e.key
  pub placed : NumberIn s after_key after_offset e.offset
  pub sized : NumberIn s after_offset next e.size

-- items that stand side by side from `at` to `end`
pub data Fill {A : Type 0} (Stands : ℕ → ℕ → A → Type 0) (end : ℕ) : ℕ → List A → Type 0 where
  full : Fill Stands end end []
  item : {at next : ℕ} {x : A} {xs : List A} → Stands at next x → Fill Stands end next xs → Fill Stands end at (x ∷ xs)

-- each byte string is at most every later one
pub data Sorted : List (List ℕ) → Type 0 where
  no_string : Sorted []
  one_string : {x : List ℕ} {xs : List (List ℕ)} → ((y : List ℕ) → Memᴰ y xs → at_most x y ≡ true) → Sorted xs → Sorted (x ∷ xs)

-- the frame f stands at `at` in the file: a number L of at least 1, L bytes, the first of them the level byte, and their CRC
pub record FrameIn (file : List ℕ) (at : ℕ) (f : Frame) : Type 0 where
  pub starts : f.start ≡ at
  pub numbered : NumberIn file at f.body (f.end - f.body)
  pub some : f.body < f.end
  pub leveled : f.level ≡ get_or file f.body 0
  pub sized : f.end + 8 ≡ at + f.size
  pub within : at + f.size ≤ length file
  pub checked : little_endian (part file f.end 8) ≡ crc64 (part file f.body (f.end - f.body))

-- a block that stands in the file, with its records or its entries
pub data BlockIn (file : List ℕ) (at : ℕ) (b : Block) : Type 0 where
  -- data: one or more records that fill the payload and rise
  is_data_block : FrameIn file at b.frame → b.frame.level ≡ 0
      → Fill (TextIn (take b.frame.end file)) b.frame.end (b.frame.body + 1) b.records → b.records ≢ []
      → Sorted (map (λ r. r.bytes) b.records) → b.entries ≡ [] → BlockIn file at b
  -- index: one or more entries that fill the payload and whose keys rise
  is_index_block : FrameIn file at b.frame → 1 ≤ b.frame.level → b.frame.level ≤ 63
      → Fill (EntryIn (take b.frame.end file)) b.frame.end (b.frame.body + 1) b.entries → b.entries ≢ []
      → Sorted (map (λ e. e.key.bytes) b.entries) → b.records ≡ [] → BlockIn file at b
  -- reserved: framed and otherwise free
  is_reserved_block : FrameIn file at b.frame → 63 < b.frame.level → b.records ≡ [] → b.entries ≡ [] → BlockIn file at b

-- from `at` to `next` there stands this block
unfoldable pub Stands : List ℕ → (at next : ℕ) → Block → Type 0
Stands file at next b = BlockIn file at b × (next ≡ at + b.frame.size)

-- each number is less than every later one
pub data Rising : List ℕ → Type 0 where
  no_number : Rising []
  one_number : {x : ℕ} {xs : List ℕ} → ((y : ℕ) → Memᴰ y xs → x < y) → Rising xs → Rising (x ∷ xs)

-- ---- the rules

-- the header's rules
pub record HeaderRules (file : List ℕ) : Type 0 where
  pub short : length file ≤ 2 ^ 30
  pub finished : take 8 file ≡ magic
  pub whole : 24 + H file ≤ length file
  pub fields : 80 ≤ H file
  pub room : M file ≤ H file - 80
  pub checked : field_at file (16 + H file) ≡ crc64 (part file 16 (H file))
  pub codec : part file 72 16 ≡ codec_none
  pub total : field_at file 32 ≡ length file
  pub metadata : Metadata (part file 96 (M file))

-- the rules of the tree, for the file's blocks in file order
pub record TreeRules (file : List ℕ) (bs : List Block) : Type 0 where
  -- all records of a data block are at most those of any data block later in the file
  pub ordered : (a b : Block) → Memᴰ a bs → Memᴰ b bs → a.frame.start < b.frame.start
      → (r s : Text) → Memᴰ r a.records → Memᴰ s b.records → at_most r.bytes s.bytes ≡ true
  -- an entry names an ordinary block by its exact start and full size, one level lower
  pub named : (b : Block) → Memᴰ b bs → (e : Entry) → Memᴰ e b.entries
      → (c : Block) × Memᴰ c bs × (c.frame.start ≡ e.offset) × (c.frame.size ≡ e.size) × (c.frame.level + 1 ≡ b.frame.level)
  -- every ordinary block but the root is named by exactly one entry in the file, the root by none
  pub once : (b : Block) → Memᴰ b bs → b.frame.level ≤ 63 → b.frame.start ≢ field_at file 16 → namings bs b.frame.start ≡ 1
  pub root_unnamed : namings bs (field_at file 16) ≡ 0
  -- the root is an index block with the header's start and full size
  pub rooted : (b : Block) × Memᴰ b bs × (b.frame.start ≡ field_at file 16) × (b.frame.size ≡ field_at file 24) × (1 ≤ b.frame.level) × (b.frame.level ≤ 63)
  -- going through the tree from the root in entry order meets data blocks at rising offsets
  pub walked : Rising (leaves bs (block_level bs (field_at file 16)) (field_at file 16))
  -- an entry's key is at most the first record that its block leads to, and at least every record of the file before that one
  pub keyed : (b : Block) → Memᴰ b bs → (e : Entry) → Memᴰ e b.entries
      → (first : Text) (rest : List Text) → under bs (b.frame.level - 1) e.offset ≡ first ∷ rest
      → (at_most e.key.bytes first.bytes ≡ true) × ((r : Text) → Memᴰ r (records_of bs) → r.at < first.at → at_most r.bytes e.key.bytes ≡ true)
  -- the header's hash is that of all data payloads joined in file order
  pub hashed : part file 40 32 ≡ sha256 (payloads file bs)

-- a file of the format, with its blocks in file order
pub record Rules (file : List ℕ) (bs : List Block) : Type 0 where
  pub header : HeaderRules file
  -- the blocks tile the file from 24 + H to its end
  pub tiled : Fill (Stands file) (length file) (24 + H file) bs
  pub tree : TreeRules file bs
