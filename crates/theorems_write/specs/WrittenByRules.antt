-- What is claimed of writing: which inputs are written, and what the file then holds. Nothing here passes over the input.
use Rattle.std.specs.Prelude.{ℕ, ◌^◌, ◌≤◌, ◌<◌, ◌≡◌, ◌≢◌, length, take}
use mathlib.Core.List.{List, [], map, Memᴰ}
use Rattle.lists.specs.Groups.{groups}
use Rattle.output_list.specs.OutputList.{padded, zeros}
use Rattle.outcome.specs.Outcome.{answer}
use Rattle.part.specs.Part.{part}
use Rattle.header.specs.Metadata.{Metadata}
use Rattle.header.specs.Header.{M}
use Rattle.block.specs.Block.{Block}
use Rattle.block.specs.Survey.{records_of}
use Rattle.tree.specs.Stages.{payloads}
use Rattle.layout.specs.Blocks.{records_bytes}
use Rattle.layout.specs.File.{file_of}
use Rattle.written.specs.declared.Written.{Written}
use Rattle.checker.specs.Check.{accept_of}
use Rattle.theorems_check.specs.Rules.{Sorted, Rules}
use Rattle.theorems_layout.specs.WrittenLayout.{WrittenLayout}

-- ---- which inputs are written

-- records in a data block, and entries in an index block
unfoldable pub CountsFit : (per_block per_index : ℕ) → Type 0
CountsFit per_block per_index = (1 ≤ per_block) × (per_block ≤ 65535) × (2 ≤ per_index) × (per_index ≤ 65535)

-- the input is these records, one or more, each after its length, which takes at most nine bytes
pub record InputOf (input : List ℕ) (rs : List (List ℕ)) : Type 0 where
  pub bytes : input ≡ records_bytes rs
  pub some : rs ≢ []
  pub short : (r : List ℕ) → Memᴰ r rs → length r < 2 ^ 63

-- the file fits an output of `room` bytes, and the format
unfoldable pub Fits : (room : ℕ) (file : List ℕ) → Type 0
Fits room file = (length file ≤ room) × (length file ≤ 2 ^ 30)

-- The number that writing answers, and why: the cases exclude each other, so each is given exactly for its reason.
pub data Ends (metadata input : List ℕ) (per_block per_index room : ℕ) : (number : ℕ) → Type 0 where
  counts_out_of_range : (CountsFit per_block per_index → ⊥) → Ends metadata input per_block per_index room 30
  no_metadata : CountsFit per_block per_index → (Metadata metadata → ⊥) → Ends metadata input per_block per_index room 9
  malformed : CountsFit per_block per_index → Metadata metadata → ((rs : List (List ℕ)) → InputOf input rs → ⊥)
      → Ends metadata input per_block per_index room 28
  unsorted : CountsFit per_block per_index → Metadata metadata → (rs : List (List ℕ)) → InputOf input rs → (Sorted rs → ⊥)
      → Ends metadata input per_block per_index room 29
  too_long : CountsFit per_block per_index → Metadata metadata → (rs : List (List ℕ)) → InputOf input rs → Sorted rs
      → (Fits room (file_of metadata (groups per_block rs) per_index) → ⊥) → Ends metadata input per_block per_index room 31
  done : CountsFit per_block per_index → Metadata metadata → (rs : List (List ℕ)) → InputOf input rs → Sorted rs
      → Fits room (file_of metadata (groups per_block rs) per_index) → Ends metadata input per_block per_index room 0

-- ---- what a written file holds

-- the file is accepted, with these blocks, and holds this metadata and these records
pub record HoldsRecords (metadata input : List ℕ) (rs : List (List ℕ)) (file : List ℕ) (bs : List Block) : Type 0 where
  pub accepted : accept_of file ≡ answer bs
  pub rules : Rules file bs
  pub metadata_is : part file 96 (M file) ≡ metadata
  -- the records in order, each as often as given
  pub records_are : map (λ r. r.bytes) (records_of bs) ≡ rs
  -- the joined data payloads are the input
  pub payloads_are : payloads file bs ≡ input
  -- at most 27 levels of index blocks
  pub low : (b : Block) → Memᴰ b bs → b.frame.level ≤ 27

-- r gives the length of the file, and the output holds the file and zeros after it
pub record HoldsFile (room : ℕ) (r : Written) (output file : List ℕ) : Type 0 where
  pub length_is : r.length ≡ length file
  pub output_is : output ≡ padded room file
  pub front_is : take r.length output ≡ file

-- The writer's promise: r is the answer of writing into an output of `room` bytes, `output` the output at exit.
pub record WrittenByRules (metadata input : List ℕ) (per_block per_index room : ℕ) (r : Written) (output : List ℕ) : Type 0 where
  pub ends : Ends metadata input per_block per_index room r.number
  pub place : r.place ≡ 0
  -- after a refusal no length, and zeros
  pub refused : r.number ≢ 0 → (r.length ≡ 0) × (output ≡ zeros room)
  -- else the file of the records, what it holds, and its layout
  pub written : (rs : List (List ℕ)) → InputOf input rs → r.number ≡ 0
      → HoldsFile room r output (file_of metadata (groups per_block rs) per_index)
      × ((bs : List Block) × HoldsRecords metadata input rs (file_of metadata (groups per_block rs) per_index) bs
      × WrittenLayout per_block per_index (file_of metadata (groups per_block rs) per_index) bs)
