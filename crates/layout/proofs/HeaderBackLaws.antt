-- The header of a written file is read back.
-- Assumes nothing.
use mathlib.Core.Path.{◌≡◌, refl, sym, ap, ◌∙◌, subst}
use mathlib.Core.Bool.{true}
use mathlib.Core.List.{List, [], ◌++◌}
use Prim.Native.Nat.{ℕ, ◌+◌, ◌^◌, ◌≤◌, ◌<◌}
use native.Mathlib.Nat.{mod-eq_of_lt}
use native.Mathlib.Omega.{arith}
use lib.ListN.{length, replicate, length-append}
use borrow.Author.Tests.{eq-eqb}
use Rattle.byte_string.specs.Order.{AreBytes, begins}
use Rattle.byte_string.proofs.BytesLaws.{bytes_append}
use Rattle.byte_string.proofs.PrefixLaws.{begins-append}
use Rattle.endian.specs.FixedWidth.{little_endian, little_bytes}
use Rattle.endian.proofs.FixedWidthLaws.{little_bytes-length, little_bytes_bytes, little_endian-little_bytes}
use Rattle.crc64.specs.Crc64.{crc64}
use Rattle.crc64.proofs.Crc64Laws.{crc64_lt}
use Rattle.outcome.specs.Outcome.{answer}
use Rattle.part.specs.Part.{part}
use Rattle.header.specs.Header.{magic, unfinished_magic, codec_none, field_at, H, M, header_crc_right, header_of}
use Rattle.header.specs.Metadata.{is_metadata}
use Rattle.header.proofs.MetadataLaws.{is_metadata⇒Metadata}
use Rattle.header.proofs.HeaderLaws.{header_is}
use Rattle.layout.specs.File.{header_data, header_bytes, unfinished_header, blocks_start}
use Rattle.layout.proofs.LiesLaws.{Lies, lies, lies_within, lies_drop, lies_part, lies_front, lies_back}

-- ---- the parts one after the other

-- what comes after a part of this length
pub lies_next : (s : List ℕ) (at : ℕ) (a b : List ℕ) (n : ℕ) → length a ≡ n → Lies s at (a ++ b) → Lies s (at + n) b
lies_next s at a b n e l = subst (λ (k : ℕ). Lies s (at + k) b) e (lies_back s at a b l)

pub field_back : (file : List ℕ) (at n : ℕ) → n < 2 ^ 64 → Lies file at (little_bytes 8 n) → field_at file at ≡ n
unfolding field_at
field_back file at n small l =
    ap (λ (k : ℕ). little_endian (part file at k)) (sym (little_bytes-length 8 n))
    ∙ ap little_endian (lies_part file at (little_bytes 8 n) l) ∙ little_endian-little_bytes 8 n ∙ mod-eq_of_lt small

codec_bytes : AreBytes codec_none
unfolding codec_none AreBytes
codec_bytes = omega arith

module _ (metadata : List ℕ) (root rootsize total : ℕ) (hash : List ℕ) (long : length hash ≡ 32) where
  pub length-header_data : length (header_data metadata root rootsize total hash) ≡ 80 + length metadata
  unfolding header_data codec_none
  length-header_data =
      rw (
        length-append (little_bytes 8 root),
        little_bytes-length 8 root,
        length-append (little_bytes 8 rootsize),
        little_bytes-length 8 rootsize,
        length-append (little_bytes 8 total),
        little_bytes-length 8 total,
        length-append hash,
        long,
        length-append (little_bytes 8 (length metadata)) metadata,
        little_bytes-length 8 (length metadata),
      ) (omega arith)

  pub length_header : length (header_bytes (header_data metadata root rootsize total hash)) ≡ blocks_start metadata
  unfolding header_bytes blocks_start magic
  length_header =
      let held = header_data metadata root rootsize total hash in
      rw (
        length-append (little_bytes 8 (length held)),
        little_bytes-length 8 (length held),
        length-append held,
        little_bytes-length 8 (crc64 held),
        length-header_data,
      ) (omega arith)

  pub header_data_bytes : AreBytes hash → AreBytes metadata → AreBytes (header_data metadata root rootsize total hash)
  unfolding header_data
  header_data_bytes h m =
      bytes_append (little_bytes 8 root) _ (little_bytes_bytes 8 root)
      (bytes_append (little_bytes 8 rootsize) _ (little_bytes_bytes 8 rootsize)
      (bytes_append (little_bytes 8 total) _ (little_bytes_bytes 8 total)
      (bytes_append hash _ h
      (bytes_append codec_none _ codec_bytes
      (bytes_append (little_bytes 8 (length metadata)) metadata (little_bytes_bytes 8 (length metadata)) m)))))

-- the header of an unfinished file is as long as that of the finished one
pub length_unfinished : (metadata : List ℕ) → length (unfinished_header metadata) ≡ blocks_start metadata
unfolding unfinished_header blocks_start unfinished_magic
length_unfinished metadata =
    let held = header_data metadata 0 0 0 (replicate 32 0) in
    rw (
      length-append (little_bytes 8 (length held)),
      little_bytes-length 8 (length held),
      length-append held,
      length-header_data metadata 0 0 0 (replicate 32 0) refl,
    ) (omega arith)

-- ---- the header

-- a file that begins with the header for its own length
module _ (file metadata : List ℕ) (root rootsize : ℕ) (hash all : List ℕ) (long : length hash ≡ 32)
    (is : file ≡ header_bytes (header_data metadata root rootsize (length file) hash) ++ all) where
  abbrev held : List ℕ
  held = header_data metadata root rootsize (length file) hash

  opening : Lies file 0 (header_bytes held)
  opening = lies file [] (header_bytes held) all 0 is refl

  counted : Lies file 8 (little_bytes 8 (length held) ++ (held ++ little_bytes 8 (crc64 held)))
  unfolding header_bytes magic
  counted = lies_next file 0 magic _ 8 refl opening

  summed : Lies file 16 (held ++ little_bytes 8 (crc64 held))
  summed = lies_next file 8 (little_bytes 8 (length held)) _ 8 (little_bytes-length 8 (length held)) counted

  first_field : Lies file 16 (header_data metadata root rootsize (length file) hash)
  first_field = lies_front file 16 held _ summed

  second_field : Lies file 24
      (little_bytes 8 rootsize ++ (little_bytes 8 (length file) ++ (hash ++ (codec_none ++ (little_bytes 8 (length metadata) ++ metadata)))))
  unfolding header_data
  second_field = lies_next file 16 (little_bytes 8 root) _ 8 (little_bytes-length 8 root) first_field

  third_field : Lies file 32 (little_bytes 8 (length file) ++ (hash ++ (codec_none ++ (little_bytes 8 (length metadata) ++ metadata))))
  third_field = lies_next file 24 (little_bytes 8 rootsize) _ 8 (little_bytes-length 8 rootsize) second_field

  hash_field : Lies file 40 (hash ++ (codec_none ++ (little_bytes 8 (length metadata) ++ metadata)))
  hash_field = lies_next file 32 (little_bytes 8 (length file)) _ 8 (little_bytes-length 8 (length file)) third_field

  codec_field : Lies file 72 (codec_none ++ (little_bytes 8 (length metadata) ++ metadata))
  codec_field = lies_next file 40 hash _ 32 long hash_field

  count_field : Lies file 88 (little_bytes 8 (length metadata) ++ metadata)
  unfolding codec_none
  count_field = lies_next file 72 codec_none _ 16 refl codec_field

  metadata_field : Lies file 96 metadata
  metadata_field = lies_next file 88 (little_bytes 8 (length metadata)) _ 8 (little_bytes-length 8 (length metadata)) count_field

  -- the hash that the header holds
  pub hash_back : part file 40 32 ≡ hash
  hash_back = ap (part file 40) (sym long) ∙ lies_part file 40 hash (lies_front file 40 hash _ hash_field)

  -- the metadata
  pub metadata_back : part file 96 (length metadata) ≡ metadata
  metadata_back = lies_part file 96 metadata metadata_field

  -- the header lies within the file
  inside : 104 + length metadata ≤ length file
  unfolding blocks_start
  inside = let h = lies_within file 0 (header_bytes held) opening in let e = length_header metadata root rootsize (length file) hash long in omega arith

  module _ (small : length file ≤ 2 ^ 30) where
    H_back : H file ≡ 80 + length metadata
    unfolding H
    H_back =
        field_back file 8 (length held) (let e = length-header_data metadata root rootsize (length file) hash long in let i = inside in omega arith)
        (lies_front file 8 (little_bytes 8 (length held)) _ counted)
        ∙ length-header_data metadata root rootsize (length file) hash long

    M_back : M file ≡ length metadata
    unfolding M
    M_back = field_back file 88 (length metadata) (let i = inside in omega arith) (lies_front file 88 (little_bytes 8 (length metadata)) _ count_field)

    -- the CRC after the header data is theirs
    crc_back : AreBytes held → header_crc_right file ≡ true
    unfolding header_crc_right
    crc_back bytes =
        let H-long : H file ≡ length held = H_back ∙ sym (length-header_data metadata root rootsize (length file) hash long) in
        eq-eqb _ _
        (ap (λ (n : ℕ). field_at file (16 + n)) H-long
        ∙ field_back file (16 + length held) (crc64 held) (crc64_lt held bytes) (lies_back file 16 held (little_bytes 8 (crc64 held)) summed)
        ∙ ap crc64 (sym (ap (part file 16) H-long ∙ lies_part file 16 held first_field)))

    pub header_back : root < 2 ^ 64 → rootsize < 2 ^ 64 → AreBytes hash → AreBytes metadata → is_metadata metadata ≡ true
        → header_of file ≡ answer (record { blocks = blocks_start metadata; root = root; rootsize = rootsize; metadata = length metadata })
    unfolding header_bytes header_data magic unfinished_magic begins blocks_start
    header_back r z hashed bytes rule =
        let within = inside in
        let H_is = H_back in
        let M-is = M_back in
        header_is file _
        (record {
          small = small;
          finished = ap (begins unfinished_magic) is;
          opens = ap (begins magic) is;
          long = omega arith;
          whole = omega arith;
          crc = crc_back (header_data_bytes metadata root rootsize (length file) hash long hashed bytes);
          fields = omega arith;
          room = omega arith;
          codec = ap (begins codec_none) (lies_drop file 72 codec_none (lies_front file 72 codec_none _ codec_field)) ∙ begins-append codec_none _;
          total = field_back file 32 (length file) (omega arith) (lies_front file 32 (little_bytes 8 (length file)) _ third_field);
          metadata_rule = is_metadata⇒Metadata _ (ap is_metadata (ap (part file 96) M-is ∙ metadata_back) ∙ rule);
          is_blocks = omega arith;
          is_root_lem = sym (field_back file 16 root r (lies_front file 16 (little_bytes 8 root) _ first_field));
          is_rootsize = sym (field_back file 24 rootsize z (lies_front file 24 (little_bytes 8 rootsize) _ second_field));
          is_metadata_lem = sym M-is;
        })
