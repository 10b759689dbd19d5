-- From begin until finish the output is as claimed: an unfinished header, the data blocks, and zeros.
-- Assumes nothing.
use mathlib.Core.Path.{◌≡◌, refl, sym, ap, ap₂, ◌∙◌, subst}
use mathlib.Core.Bool.{true}
use mathlib.Core.List.Memᴰ
use mathlib.Core.List.{List, [], ◌∷◌, ◌++◌, flat_map, map, append-nil, Memᴰ}
use Prim.Native.Nat.{ℕ, ◌+◌, ◌-◌, ◌^◌, ◌≤◌}
use native.Mathlib.Omega.{arith}
use lib.ListN.{length, take, drop, replicate, length-append}
use Rattle.output_list.specs.OutputList.{padded, zeros}
use Rattle.output_list.proofs.OutputListLaws.{take-padded, drop-padded}
use Rattle.outcome.specs.Outcome.{answer}
use Rattle.endian.specs.FixedWidth.{little_bytes}
use Rattle.endian.proofs.FixedWidthLaws.{little_bytes-length}
use Rattle.part.specs.Part.{part}
use Rattle.header.specs.Header.{unfinished_magic, codec_none, H, M}
use Rattle.block.specs.Block.{Block, blocks_at}
use Rattle.layout.specs.Blocks.{data_bytes}
use Rattle.layout.specs.File.{header_data, unfinished_header, blocks_start, file_fits}
use Rattle.layout.specs.Placed.{placed_datas}
use Rattle.layout.proofs.LiesLaws.{Lies, lies, lies_last, lies_part, lies_front, lies_back}
use Rattle.layout.proofs.HeaderBackLaws.{lies_next, field_back, length-header_data, length_unfinished}
use Rattle.layout.proofs.OpeningLaws.{unfinished_H}
use Rattle.layout.proofs.SideBySideLaws.{SideBySide}
use Rattle.layout.proofs.BlockBackLaws.{DataFit, blocks_back}
use Rattle.file_encoder.specs.Begun.{begun_file}
use Rattle.file_encoder.proofs.FitLaws.{fits⁻¹}
use Rattle.theorems_check.specs.Rules.{Fill, Stands}
use Rattle.theorems_check.proofs.BlockRuleLaws.{blocks⇒Fill}
use Rattle.theorems_layout.proofs.PlacedLaws.{data_block}
use Rattle.session_value.specs.declared.Session.{Session}
use Rattle.session_value.specs.Stage.{Draft, begun, draft_blocks, data_end, output_of}
use Rattle.session_value.specs.Held.{SoundDraft, Sound, Held, session_of}
use Rattle.theorems_session.specs.BegunByRules.{BegunByRules}
use Rattle.session_value.proofs.DraftFileLaws.{begun-length, draft_datas_fit}

-- ---- the header, field by field

zero_bytes : little_bytes 8 0 ≡ zeros 8
unfolding little_bytes zeros padded
zero_bytes = refl

module _ (s metadata : List ℕ) (l : Lies s 0 (unfinished_header metadata)) where
  abbrev held : List ℕ
  held = header_data metadata 0 0 0 (replicate 32 0)

  held_long : length held ≡ 80 + length metadata
  held_long = length-header_data metadata 0 0 0 (replicate 32 0) refl

  zero_field : (at : ℕ) → Lies s at (little_bytes 8 0) → part s at 8 ≡ zeros 8
  zero_field at k = ap (part s at) (sym (little_bytes-length 8 0)) ∙ lies_part s at (little_bytes 8 0) k ∙ zero_bytes

  magic_back : take 8 s ≡ unfinished_magic
  unfolding unfinished_header unfinished_magic part
  magic_back = lies_part s 0 unfinished_magic (lies_front s 0 unfinished_magic _ l)

  counted : Lies s 8 (little_bytes 8 (length held) ++ (held ++ replicate 8 0))
  unfolding unfinished_header unfinished_magic
  counted = lies_next s 0 unfinished_magic _ 8 refl l

  summed : Lies s 16 (held ++ replicate 8 0)
  summed = lies_next s 8 (little_bytes 8 (length held)) _ 8 (little_bytes-length 8 (length held)) counted

  abbrev from_hash : List ℕ
  from_hash = replicate 32 0 ++ (codec_none ++ (little_bytes 8 (length metadata) ++ metadata))

  first_field : Lies s 16 (little_bytes 8 0 ++ (little_bytes 8 0 ++ (little_bytes 8 0 ++ from_hash)))
  unfolding header_data
  first_field = lies_front s 16 held _ summed

  second_field : Lies s 24 (little_bytes 8 0 ++ (little_bytes 8 0 ++ from_hash))
  second_field = lies_next s 16 (little_bytes 8 0) _ 8 (little_bytes-length 8 0) first_field

  third_field : Lies s 32 (little_bytes 8 0 ++ from_hash)
  third_field = lies_next s 24 (little_bytes 8 0) _ 8 (little_bytes-length 8 0) second_field

  hash_field : Lies s 40 from_hash
  hash_field = lies_next s 32 (little_bytes 8 0) _ 8 (little_bytes-length 8 0) third_field

  codec_field : Lies s 72 (codec_none ++ (little_bytes 8 (length metadata) ++ metadata))
  codec_field = lies_next s 40 (replicate 32 0) _ 32 refl hash_field

  count_field : Lies s 88 (little_bytes 8 (length metadata) ++ metadata)
  unfolding codec_none
  count_field = lies_next s 72 codec_none _ 16 refl codec_field

  metadata_field : Lies s 96 metadata
  metadata_field = lies_next s 88 (little_bytes 8 (length metadata)) _ 8 (little_bytes-length 8 (length metadata)) count_field

  hash_back : part s 40 32 ≡ zeros 32
  unfolding zeros padded
  hash_back = lies_part s 40 (replicate 32 0) (lies_front s 40 (replicate 32 0) _ hash_field)

  codec_back : part s 72 16 ≡ codec_none
  unfolding codec_none
  codec_back = lies_part s 72 codec_none (lies_front s 72 codec_none _ codec_field)

  crc_back : (at : ℕ) → at ≡ 16 + length held → part s at 8 ≡ zeros 8
  unfolding zeros padded
  crc_back at e = ap (λ (n : ℕ). part s n 8) e ∙ lies_part s (16 + length held) (replicate 8 0) (lies_back s 16 held (replicate 8 0) summed)

  M_back : length metadata ≤ 2 ^ 30 → M s ≡ length metadata
  unfolding M
  M_back small = field_back s 88 (length metadata) (omega arith) (lies_front s 88 (little_bytes 8 (length metadata)) _ count_field)

-- ---- the blocks

-- what they hold
placed_hold : (at : ℕ) (blocks : List (List (List ℕ))) → map (λ b. map (λ r. r.bytes) b.records) (placed_datas at blocks) ≡ blocks
unfolding placed_datas
placed_hold at [] = refl
placed_hold at (rs ∷ more) = ap₂ (λ (b : List (List ℕ)) (bs : List (List (List ℕ))). b ∷ bs) (data_block at rs).bytes_are (placed_hold (at + length (data_bytes rs)) more)

-- the same bytes, end and start
same_fill : {s t : List ℕ} {m n a b : ℕ} (bs : List Block) → s ≡ t → m ≡ n → a ≡ b → Fill (Stands s) m a bs → Fill (Stands t) n b bs
same_fill {s} {t} {m} {n} {a} {b} bs e f g fill =
    subst (λ (k : ℕ). Fill (Stands t) n k bs) g (subst (λ (k : ℕ). Fill (Stands t) k a bs) f (subst (λ (l : List ℕ). Fill (Stands l) m a bs) e fill))

-- they are read back from what is written
begun_blocks_back : (metadata : List ℕ) (blocks : List (List (List ℕ))) → ((rs : List (List ℕ)) → Memᴰ rs blocks → DataFit rs)
    → blocks_at (unfinished_header metadata ++ flat_map data_bytes blocks) (blocks_start metadata) ≡ answer (placed_datas (blocks_start metadata) blocks)
unfolding flat_map SideBySide
begun_blocks_back metadata blocks datas =
    let D = flat_map data_bytes blocks in
    let whole = unfinished_header metadata ++ D in
    let same = append-nil D in
    let long = length-append (unfinished_header metadata) D in
    let start = length_unfinished metadata in
    blocks_back whole (blocks_start metadata) blocks [] datas (λ b m. absurd (Memᴰ.not-nil m)) tt
    (subst (Lies whole (blocks_start metadata)) (sym same) (lies_last whole (unfinished_header metadata) D (blocks_start metadata) refl (sym start)))
    (ap (λ (l : List ℕ). blocks_start metadata + length l) same ∙ omega arith)
    ∙ ap answer (append-nil (placed_datas (blocks_start metadata) blocks))

-- ---- the output

-- what is written, before the zeros
abbrev written : Draft → List ℕ
written d = unfinished_header d.metadata ++ flat_map data_bytes (draft_blocks d)

module _ (d : Draft) (session : Session) (output : List ℕ) (held-is : Held (begun d) session output) where
  kept_to : SoundDraft d × (file_fits (length output) (data_end d) ≡ true)
  unfolding Sound
  kept_to = held-is.sound

  room : (data_end d ≤ length output) × (data_end d ≤ 2 ^ 30)
  room = fits⁻¹ (length output) (data_end d) kept_to.1

  next_is : session.next ≡ length (written d)
  unfolding session_of
  next_is = ap (λ (s : Session). s.next) held-is.session_is ∙ sym (begun-length d)

  stands : output ≡ padded (length output) (written d)
  unfolding output_of begun_file
  stands = held-is.output_is

  header_lies : Lies output 0 (unfinished_header d.metadata)
  unfolding padded
  header_lies = lies_front output 0 (unfinished_header d.metadata) _ (lies output [] (written d) _ 0 stands refl)

  front_is : take session.next output ≡ written d
  front_is = ap₂ take next_is stands ∙ take-padded (length output) (written d)

  behind_is : drop session.next output ≡ zeros (length output - session.next)
  behind_is = ap₂ drop next_is stands ∙ drop-padded (length output) (written d) ∙ ap (λ (n : ℕ). zeros (length output - n)) (sym next_is)

  small : length d.metadata ≤ 2 ^ 30
  unfolding data_end blocks_start
  small = let short = room.1 in omega arith

  H_is : H output ≡ 80 + length d.metadata
  H_is = unfinished_H output d.metadata header_lies small

  blocks_stand : Fill (Stands (take session.next output)) session.next (24 + H output) (placed_datas (blocks_start d.metadata) (draft_blocks d))
  unfolding blocks_start data_end
  blocks_stand =
      let long = begun-length d in
      let from : 104 + length d.metadata ≡ 24 + H output = let h = H_is in omega arith in
      same_fill _ (sym front_is) (sym next_is) from
      (blocks⇒Fill (written d) (104 + length d.metadata) _ (omega arith)
      (begun_blocks_back d.metadata (draft_blocks d) (draft_datas_fit d kept_to.0 room.1)))

  pub held⇒begun : BegunByRules d session output
  held⇒begun =
      let md = d.metadata in
      let H-long = H_is in
      let held-size = held_long output md header_lies in
      let M-is = M_back output md header_lies small in
      let ends = begun-length d in
      let next = next_is in
      let inside = room.0 in
      record {
        unfinished = magic_back output md header_lies;
        no_root = zero_field output md header_lies 16 (lies_front output 16 (little_bytes 8 0) _ (first_field output md header_lies));
        no_root_length = zero_field output md header_lies 24 (lies_front output 24 (little_bytes 8 0) _ (second_field output md header_lies));
        no_total = zero_field output md header_lies 32 (lies_front output 32 (little_bytes 8 0) _ (third_field output md header_lies));
        no_hash = hash_back output md header_lies;
        no_crc = crc_back output md header_lies _ (omega arith);
        header_long = omega arith;
        codec = codec_back output md header_lies;
        metadata_is = ap (part output 96) M-is ∙ lies_part output 96 md (metadata_field output md header_lies);
        blocks = placed_datas (blocks_start md) (draft_blocks d);
        stand = blocks_stand;
        hold = placed_hold (blocks_start md) (draft_blocks d);
        within = omega arith;
        behind = behind_is;
      }
