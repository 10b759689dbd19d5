-- The header of a file: its fields, and the refusals 1 to 9 in their order. Sums are on unbounded numbers.
use Rattle.std.specs.Prelude.{ℕ, ◌+◌, ◌-◌, ◌^◌, Bool, not, ◌&&◌, List, [], ◌∷◌, leb, eqb, length, drop, replicate}
use Rattle.byte_string.specs.Order.{begins}
use Rattle.endian.specs.FixedWidth.{little_endian}
use Rattle.crc64.specs.Crc64.{crc64}
use Rattle.outcome.specs.Outcome.{Outcome, answer, ◌>>◌, must}
use Rattle.part.specs.Part.{part}
use Rattle.header.specs.Metadata.{is_metadata}
use Rattle.header.specs.declared.Header.{Header}

-- the magic of a finished file, and of an unfinished one
unfoldable pub magic : List ℕ
magic = 0xab ∷ 0x5a ∷ 0x53 ∷ 0x66 ∷ 0x69 ∷ 0x4c ∷ 0x65 ∷ 0x01 ∷ []

unfoldable pub unfinished_magic : List ℕ
unfinished_magic = 0xab ∷ 0x5a ∷ 0x53 ∷ 0x74 ∷ 0x6f ∷ 0x42 ∷ 0x65 ∷ 0x01 ∷ []

-- the codec `none`, 16 bytes
unfoldable pub codec_none : List ℕ
codec_none = 0x6e ∷ 0x6f ∷ 0x6e ∷ 0x65 ∷ replicate 12 0

-- the header number of 8 bytes at a place
unfoldable pub field_at : List ℕ → ℕ → ℕ
field_at file at = little_endian (part file at 8)

-- H, the length of the header data, and M, the length of the metadata
unfoldable pub H : List ℕ → ℕ
H file = field_at file 8

unfoldable pub M : List ℕ → ℕ
M file = field_at file 88

-- the header data and their CRC lie within the file
unfoldable pub holds_header : List ℕ → Bool
holds_header file = leb 16 (length file) && leb (24 + H file) (length file)

unfoldable pub header_crc_right : List ℕ → Bool
header_crc_right file = eqb (field_at file (16 + H file)) (crc64 (part file 16 (H file)))

-- the header data hold every field and the metadata
unfoldable pub holds_metadata : List ℕ → Bool
holds_metadata file = leb 80 (H file) && leb (M file) (H file - 80)

-- the numbers of the header; the blocks begin at 24 + H
unfoldable pub header_numbers : List ℕ → Header
header_numbers file = record { blocks = 24 + H file; root = field_at file 16; rootsize = field_at file 24; metadata = M file }

-- the header, or the first of the refusals 7 to 9
unfoldable pub fields_of : List ℕ → Outcome Header
fields_of file = do
  must (begins codec_none (drop 72 file)) 7 0
  must (eqb (field_at file 32) (length file)) 8 0
  must (is_metadata (part file 96 (M file))) 9 0
  answer (header_numbers file)

-- rule 1: the file is at most 2^30 bytes long
unfoldable pub size_rule : List ℕ → Outcome (Unit {0})
size_rule file = must (leb (length file) (2 ^ 30)) 1 0

-- rules 2 to 4: the magic is that of a finished file, and the header lies within the file
unfoldable pub front_rules : List ℕ → Outcome (Unit {0})
front_rules file = do
  must (not (begins unfinished_magic file)) 2 0
  must (begins magic file) 3 0
  must (holds_header file) 4 0

-- the header, or the first of the refusals 5 to 9, which look at the header data
unfoldable pub data_of : List ℕ → Outcome Header
data_of file = do
  must (header_crc_right file) 5 0
  must (holds_metadata file) 6 0
  fields_of file

-- the header, or the first of the refusals 1 to 9
unfoldable pub header_of : List ℕ → Outcome Header
header_of file = do
  size_rule file
  front_rules file
  data_of file

-- where the blocks begin
unfoldable pub blocks_from : Header → ℕ
blocks_from h = h.blocks
