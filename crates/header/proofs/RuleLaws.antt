-- Laws of the header's rules: each test, and which of them leads to which refusal, in the order of the code.
-- Assumes nothing.
use mathlib.Core.Path.{◌≡◌, refl, sym, ap, ◌∙◌}
use mathlib.Core.Bool.{Bool, true, false, ◌&&◌, and-eq-true_iff, and-false}
use mathlib.Core.List.{List, [], ◌∷◌}
use Prim.Native.Nat.{ℕ, ◌+◌, ◌-◌, ◌^◌, ◌≤◌, ◌<◌}
use native.Mathlib.Nat.{add-sub_cancel_left}
use native.Mathlib.Omega.{arith}
use lib.Dec.{leb, eqb}
use lib.ListN.{length, take, drop}
use lib.Pointwise.{pointwise}
use borrow.Author.Tests.{leb-true, leb-false, le-leb, lt-leb, eq-eqb, ne_eqb}
use Rattle.byte_string.specs.Order.{begins}
use Rattle.outcome.specs.Outcome.{answer, refused, ◌>>◌, must}
use Rattle.part.specs.Part.{part}
use Rattle.part.proofs.PartLaws.{lent_drop, lent_part}
use Rattle.framing.specs.Frame.{crc_right}
use Rattle.header.specs.Metadata.{is_metadata}
use Rattle.header.specs.Header.{magic, unfinished_magic, codec_none, field_at, H, M, holds_header, header_crc_right, holds_metadata}
use Rattle.header.specs.Header.{header_numbers, fields_of, data_of, size_rule, front_rules, header_of}
use Rattle.endian.specs.FixedWidth.{little_endian}
use Rattle.crc64.specs.Crc64.{crc64}

-- ---- tests

-- two comparisons that hold together and fail together have the same answer
leb_same : (a b c d : ℕ) → (a ≤ b → c ≤ d) → (b < a → d < c) → leb a b ≡ leb c d
leb_same a b c d holds fails = go (leb a b) refl
  where
    go : (t : Bool) → leb a b ≡ t → leb a b ≡ leb c d
    go true e = e ∙ sym (le-leb c d (holds (leb-true a b e)))
    go false e = e ∙ sym (lt-leb c d (fails (leb-false a b e)))

-- two comparisons in one test
leb_both⁻¹ : (a b c d : ℕ) → (leb a b && leb c d) ≡ true → (a ≤ b) × (c ≤ d)
leb_both⁻¹ a b c d e =
    let h = (and-eq-true_iff (leb a b) (leb c d)).0 e in
    (leb-true a b h.0, leb-true c d h.1)

leb_both : (a b c d : ℕ) → a ≤ b → c ≤ d → (leb a b && leb c d) ≡ true
leb_both a b c d h k = rw (le-leb a b h, le-leb c d k)

-- the comparison of the code with the front of a byte string
pub starts : (p x : List ℕ) → pointwise eqb p (take (length p) x) ≡ begins p x
unfolding begins
starts [] x = refl
starts (a ∷ p) [] = refl
starts (a ∷ p) (b ∷ x) = ap (λ (t : Bool). eqb a b && t) (starts p x)

-- ---- the header data within the file

-- fewer bytes than stand around the header data
pub holds_header_short : (file : List ℕ) → length file < 24 → holds_header file ≡ false
unfolding holds_header
holds_header_short file few = rw (lt-leb (24 + H file) (length file) (omega arith)) (and-false (leb 16 (length file)))

-- otherwise the sum is compared as a difference
pub holds_header_long : (file : List ℕ) → 24 ≤ length file → holds_header file ≡ leb (H file) (length file - 24)
unfolding holds_header
holds_header_long file enough =
    rw (le-leb 16 (length file) (omega arith))
    (leb_same (24 + H file) (length file) (H file) (length file - 24) (λ h. omega arith) (λ h. omega arith))

-- the test taken apart, and put together
pub holds_header⁻¹ : (file : List ℕ) → holds_header file ≡ true → (16 ≤ length file) × (24 + H file ≤ length file)
unfolding holds_header
holds_header⁻¹ file e = leb_both⁻¹ 16 (length file) (24 + H file) (length file) e

pub holds_header_of : (file : List ℕ) → 16 ≤ length file → 24 + H file ≤ length file → holds_header file ≡ true
unfolding holds_header
holds_header_of file long whole = leb_both 16 (length file) (24 + H file) (length file) long whole

-- ---- the fields and the metadata within the header data

-- fewer bytes than the fields have
pub holds_metadata_short : (file : List ℕ) → H file < 80 → holds_metadata file ≡ false
unfolding holds_metadata
holds_metadata_short file few = rw (lt-leb 80 (H file) few)

-- otherwise the length of the metadata decides
pub holds_metadata_long : (file : List ℕ) → 80 ≤ H file → holds_metadata file ≡ leb (M file) (H file - 80)
unfolding holds_metadata
holds_metadata_long file enough = rw (le-leb 80 (H file) enough)

-- the test taken apart, and put together
pub holds_metadata⁻¹ : (file : List ℕ) → holds_metadata file ≡ true → (80 ≤ H file) × (M file ≤ H file - 80)
unfolding holds_metadata
holds_metadata⁻¹ file e = leb_both⁻¹ 80 (H file) (M file) (H file - 80) e

pub holds_metadata_of : (file : List ℕ) → 80 ≤ H file → M file ≤ H file - 80 → holds_metadata file ≡ true
unfolding holds_metadata
holds_metadata_of file enough room = leb_both 80 (H file) (M file) (H file - 80) enough room

-- the fields, the metadata and the CRC lie within the file
pub metadata_within : (file : List ℕ) → holds_header file ≡ true → holds_metadata file ≡ true → 104 + M file ≤ length file
metadata_within file held room =
    let whole = holds_header⁻¹ file held in
    let inner = holds_metadata⁻¹ file room in
    omega arith

pub codec_within : (file : List ℕ) → holds_header file ≡ true → holds_metadata file ≡ true → 72 ≤ length file
codec_within file held room = let within = metadata_within file held room in omega arith

-- ---- the CRC

-- the CRC of the bytes between the length and it
pub header_crc_lent : (file : List ℕ) → crc_right file 16 (16 + H file) ≡ header_crc_right file
unfolding header_crc_right crc_right field_at
header_crc_lent file = rw (add-sub_cancel_left)

-- the number after the header data is compared with the CRC of the data, which are lent
pub header_crc_right_by : (file : List ℕ) (h : ℕ) → h ≡ H file
    → header_crc_right file ≡ eqb (little_endian (take 8 (drop (16 + h) file))) (crc64 (take (16 + h - 16) (drop 16 file)))
unfolding header_crc_right field_at part
header_crc_right_by file h e = rw (add-sub_cancel_left, e)

-- ---- refusals 7 to 9, and the answer

-- the codec is looked for in the rest of the file, which is lent
pub codec_lent : (file : List ℕ) → begins codec_none (take (length file - 72) (drop 72 file)) ≡ begins codec_none (drop 72 file)
codec_lent file = ap (begins codec_none) (lent_drop file 72)

-- the metadata are tested in a part, which is lent
pub metadata_lent : (file : List ℕ) (m : ℕ) → m ≡ M file → is_metadata (take (96 + m - 96) (drop 96 file)) ≡ is_metadata (part file 96 (M file))
metadata_lent file m e = ap is_metadata (lent_part file 96 m ∙ ap (part file 96) e)

-- refusal 7: another codec
pub fields_codec : (file : List ℕ) → begins codec_none (drop 72 file) ≡ false → fields_of file ≡ refused 7 0
unfolding fields_of must ◌>>◌
fields_codec file other = rw other

-- refusal 8: another total length
pub fields_total : (file : List ℕ) → begins codec_none (drop 72 file) ≡ true → (field_at file 32 ≡ length file → ⊥) → fields_of file ≡ refused 8 0
unfolding fields_of must ◌>>◌
fields_total file codec other = rw (codec, ne_eqb (field_at file 32) (length file) other)

-- refusal 9: the metadata break their rule
pub fields_metadata : (file : List ℕ) → begins codec_none (drop 72 file) ≡ true → field_at file 32 ≡ length file
    → is_metadata (part file 96 (M file)) ≡ false → fields_of file ≡ refused 9 0
unfolding fields_of must ◌>>◌
fields_metadata file codec total broken = rw (codec, eq-eqb (field_at file 32) (length file) total, broken)

-- otherwise the numbers
pub fields_good : (file : List ℕ) → begins codec_none (drop 72 file) ≡ true → field_at file 32 ≡ length file
    → is_metadata (part file 96 (M file)) ≡ true → fields_of file ≡ answer (header_numbers file)
unfolding fields_of must ◌>>◌
fields_good file codec total kept = rw (codec, eq-eqb (field_at file 32) (length file) total, kept)

pub fields_read : (file : List ℕ) → begins codec_none (drop 72 file) ≡ true → field_at file 32 ≡ length file → is_metadata (part file 96 (M file)) ≡ true
    → fields_of file ≡ answer (record { blocks = 24 + H file; root = field_at file 16; rootsize = field_at file 24; metadata = M file })
unfolding header_numbers
fields_read file codec total kept = fields_good file codec total kept

-- ---- refusals 5 and 6

-- refusal 5: another CRC
pub data_crc : (file : List ℕ) → header_crc_right file ≡ false → data_of file ≡ refused 5 0
unfolding data_of must ◌>>◌
data_crc file wrong = rw wrong

-- refusal 6: the header data do not hold the fields and the metadata
pub data_room : (file : List ℕ) → header_crc_right file ≡ true → holds_metadata file ≡ false → data_of file ≡ refused 6 0
unfolding data_of must ◌>>◌
data_room file right none = rw (right, none)

-- otherwise the fields decide
pub data_fields : (file : List ℕ) → header_crc_right file ≡ true → holds_metadata file ≡ true → data_of file ≡ fields_of file
unfolding data_of must ◌>>◌
data_fields file right room = rw (right, room)

-- ---- refusals 1 to 4

-- refusal 1: the file is too long
pub header_long : (file : List ℕ) → 2 ^ 30 < length file → header_of file ≡ refused 1 0
unfolding header_of size_rule must ◌>>◌
header_long file long = rw (lt-leb (length file) (2 ^ 30) long)

-- refusal 2: the file is unfinished
pub header_unfinished : (file : List ℕ) → length file ≤ 2 ^ 30 → begins unfinished_magic file ≡ true → header_of file ≡ refused 2 0
unfolding header_of size_rule front_rules must ◌>>◌
header_unfinished file small begun = rw (le-leb (length file) (2 ^ 30) small, begun)

-- refusal 3: another magic
pub header_magic : (file : List ℕ) → length file ≤ 2 ^ 30 → begins unfinished_magic file ≡ false → begins magic file ≡ false
    → header_of file ≡ refused 3 0
unfolding header_of size_rule front_rules must ◌>>◌
header_magic file small finished other = rw (le-leb (length file) (2 ^ 30) small, finished, other)

-- none of the refusals 1 to 3 applies
pub record Opened (file : List ℕ) : Type 0 where
  pub small : length file ≤ 2 ^ 30
  pub finished : begins unfinished_magic file ≡ false
  pub opens : begins magic file ≡ true

-- refusal 4: the header data or their CRC run past the end
pub header_cut : (file : List ℕ) → Opened file → holds_header file ≡ false → header_of file ≡ refused 4 0
unfolding header_of size_rule front_rules must ◌>>◌
header_cut file o cut = rw (le-leb (length file) (2 ^ 30) o.small, o.finished, o.opens, cut)

-- otherwise the header data decide
pub header_data_lem : (file : List ℕ) → Opened file → holds_header file ≡ true → header_of file ≡ data_of file
unfolding header_of size_rule front_rules must ◌>>◌
header_data_lem file o held = rw (le-leb (length file) (2 ^ 30) o.small, o.finished, o.opens, held)

-- ---- what the proofs of the code take: the cases of each rule

pub ruleset header_rules = (holds_header_short, holds_header_long)

pub ruleset room_rules = (holds_metadata_short, holds_metadata_long)

pub ruleset field_rules = (metadata_within, codec_within, holds_header⁻¹, codec_lent, fields_codec, fields_total, fields_metadata, fields_read)

pub ruleset data_rules = (holds_header⁻¹, header_crc_lent, data_crc, data_room, data_fields)

pub ruleset read_rules = (header_long, header_unfinished, header_magic, header_cut, header_data_lem)
