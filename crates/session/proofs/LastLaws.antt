-- The last record stands in front of the last block's CRC.
-- Assumes nothing.
use mathlib.Core.Path.{◌≡◌, refl, sym, ap, ◌∙◌, subst}
use mathlib.Core.Bool.{Bool, true}
use mathlib.Core.List.Memᴰ
use mathlib.Core.List.{List, [], ◌∷◌, ◌++◌, flat_map, append_assoc, append-nil}
use Prim.Native.Nat.{ℕ, zero, suc, ◌+◌, ◌-◌, ◌<◌, ◌≤◌}
use native.Mathlib.Omega.{arith}
use lib.ListN.{length, length-append}
use borrow.Author.Tests.{le-leb, ne_eqb}
use Rattle.lists.specs.Groups.{last_or}
use Rattle.endian.specs.FixedWidth.{little_bytes}
use Rattle.endian.proofs.FixedWidthLaws.{little_bytes-length}
use Rattle.crc64.specs.Crc64.{crc64}
use Rattle.byte_string.specs.declared.Comparison.{Comparison}
use Rattle.byte_string.specs.Order.{at_most, comparison, says_at_most}
use Rattle.byte_string.proofs.ComparisonLaws.{compared_at_most}
use Rattle.byte_string.proofs.OrderLaws.{nil_at_most}
use Rattle.record.specs.Record.{is_within, record_of}
use Rattle.record.proofs.RecordLaws.{record_within}
use Rattle.output_list.specs.OutputList.{zeros}
use Rattle.output_list.proofs.OutputListLaws.{padded-append}
use Rattle.uleb128.specs.Encoding.{encoding}
use Rattle.layout.specs.Blocks.{text_bytes, block_bytes, records_bytes, data_bytes}
use Rattle.layout.specs.File.{unfinished_header, blocks_start}
use Rattle.layout.proofs.KeyLaws.{Filled}
use Rattle.layout.proofs.HeaderBackLaws.{length_unfinished}
use Rattle.layout.proofs.LiesLaws.{Lies, lies, lies_part, lies_within}
use Rattle.file_encoder.specs.Begun.{begun_file}
use Rattle.session_value.specs.declared.Session.{Session}
use Rattle.session_value.specs.Stage.{Draft, begun, draft_blocks, draft_records, data_end}
use Rattle.session_value.specs.Steps.{is_next}
use Rattle.session_value.specs.Held.{Held, last_offset, session_of}
use Rattle.session_value.proofs.DraftLaws.{blocks_joined, blocks_filled}
use Rattle.session.proofs.TakenLaws.{session_now, output_now, sound_now}

-- ---- the end of records, and of blocks

records_end : (x : List ℕ) (xs : List (List ℕ)) → (front : List ℕ) × (records_bytes (x ∷ xs) ≡ front ++ last_or x xs)
unfolding records_bytes flat_map text_bytes last_or
records_end x [] = (encoding (length x), append-nil (encoding (length x) ++ x))
records_end x (y ∷ ys) =
    let rest = records_end y ys in
    (text_bytes x ++ rest.0, ap (λ (l : List ℕ). text_bytes x ++ l) rest.1 ∙ sym (append_assoc (text_bytes x) rest.0 (last_or y ys)))

-- bytes that end with this record and a CRC
pub record EndsWith (bytes last : List ℕ) : Type 0 where
  pub front : List ℕ
  pub crc : List ℕ
  pub whole : bytes ≡ front ++ (last ++ crc)
  pub eight : length crc ≡ 8

block_end : (x : List ℕ) (xs : List (List ℕ)) → EndsWith (data_bytes (x ∷ xs)) (last_or x xs)
unfolding data_bytes block_bytes
block_end x xs =
    let payload = records_bytes (x ∷ xs) in
    let number = encoding (length payload + 1) in
    let e = records_end x xs in
    let crc = little_bytes 8 (crc64 (0 ∷ payload)) in
    record {
      front = number ++ (0 ∷ e.0);
      crc = crc;
      whole = ap (λ (l : List ℕ). number ++ ((0 ∷ l) ++ crc)) e.1 ∙ side_by_side number (0 ∷ e.0) (last_or x xs) crc;
      eight = little_bytes-length 8 (crc64 (0 ∷ payload));
    }
  where
    side_by_side : (a b c d : List ℕ) → a ++ ((b ++ c) ++ d) ≡ (a ++ b) ++ (c ++ d)
    side_by_side a b c d = simp append_assoc refl

behind : (a bytes last : List ℕ) → EndsWith bytes last → EndsWith (a ++ bytes) last
behind a bytes last e =
    record {
      front = a ++ e.front;
      crc = e.crc;
      whole = ap (λ (l : List ℕ). a ++ l) e.whole ∙ sym (append_assoc a e.front (last ++ e.crc));
      eight = e.eight;
    }

last_joined : (z : List ℕ) (xs ys : List (List ℕ)) → 0 < length ys → last_or z (xs ++ ys) ≡ last_or [] ys
unfolding last_or
last_joined z [] [] h = absurd (omega arith)
last_joined z [] (y ∷ ys) h = refl
last_joined z (x ∷ xs) ys h = last_joined x xs ys h

above : (m n : ℕ) → m ≡ n → (m ≡ 0 → ⊥) → 0 < n
above zero n e h = absurd (h refl)
above (suc m) n e h = omega arith

-- ---- the blocks of a file

blocks_end : (blocks : List (List (List ℕ))) → Filled blocks → 0 < length (flat_map (λ rs. rs) blocks)
    → EndsWith (flat_map data_bytes blocks) (last_or [] (flat_map (λ rs. rs) blocks))
unfolding flat_map last_or
blocks_end [] filled h = absurd (omega arith)
blocks_end ([] ∷ more) filled h = absurd (let some = filled [] (Memᴰ.head refl) in omega arith)
blocks_end ((x ∷ xs) ∷ []) filled h =
    subst (λ (l : List ℕ). EndsWith l (last_or x (xs ++ []))) (sym (append-nil (data_bytes (x ∷ xs))))
    (subst (λ (l : List (List ℕ)). EndsWith (data_bytes (x ∷ xs)) (last_or x l)) (sym (append-nil xs)) (block_end x xs))
blocks_end ((x ∷ xs) ∷ (c ∷ more)) filled h =
    subst (EndsWith (data_bytes (x ∷ xs) ++ flat_map data_bytes (c ∷ more))) (sym (last_joined x xs (flat_map (λ rs. rs) (c ∷ more)) some))
    (behind (data_bytes (x ∷ xs)) (flat_map data_bytes (c ∷ more)) (last_or [] (flat_map (λ rs. rs) (c ∷ more)))
    (blocks_end (c ∷ more) (λ g m. filled g (Memᴰ.tail m)) some))
  where
    some : 0 < length (c ++ flat_map (λ rs. rs) more)
    some =
        let one = filled c (Memᴰ.tail (Memᴰ.head refl)) in
        let sum = length-append c (flat_map (λ rs. rs) more) in
        omega arith

module _ (d : Draft) (session : Session) (output : List ℕ) (held : Held (begun d) session output) where
  -- no record, and none comes after another
  pub first_next : (r : List ℕ) → session.records ≡ 0 → true ≡ is_next d r
  unfolding session_of is_next last_or
  first_next r z = none (draft_records d) refl (ap (λ (s : Session). s.records) (sym (session_now (begun d) session output held d refl)) ∙ z)
    where
      none : (rs : List (List ℕ)) → draft_records d ≡ rs → length (draft_records d) ≡ 0 → true ≡ is_next d r
      none [] e h = sym (nil_at_most r) ∙ ap (λ (l : List (List ℕ)). at_most (last_or [] l) r) (sym e)
      none (x ∷ xs) e h = absurd (let long = ap length e in omega arith)

  module _ (some : session.records ≡ 0 → ⊥) where
    count : 0 < length (draft_records d)
    unfolding session_of
    count = above session.records (length (draft_records d)) (ap (λ (s : Session). s.records) (session_now (begun d) session output held d refl)) some

    ends : EndsWith (flat_map data_bytes (draft_blocks d)) (last_or [] (draft_records d))
    ends =
        subst (λ (rs : List (List ℕ)). EndsWith (flat_map data_bytes (draft_blocks d)) (last_or [] rs)) (blocks_joined d)
        (blocks_end (draft_blocks d) (blocks_filled d (sound_now (begun d) session output held d refl).0)
        (subst (λ (rs : List (List ℕ)). 0 < length rs) (sym (blocks_joined d)) count))

    abbrev last : List ℕ
    last = last_or [] (draft_records d)

    long : length (flat_map data_bytes (draft_blocks d)) ≡ length ends.front + length last + 8
    long =
        let all = ap length ends.whole ∙ length-append ends.front (last ++ ends.crc) in
        let two = length-append last ends.crc in
        let eight = ends.eight in
        omega arith

    next_is : session.next ≡ blocks_start d.metadata + (length ends.front + length last + 8)
    unfolding session_of data_end
    next_is = ap (λ (s : Session). s.next) (session_now (begun d) session output held d refl) ∙ ap (λ (n : ℕ). blocks_start d.metadata + n) long

    last_is : session.last ≡ blocks_start d.metadata + length ends.front
    unfolding session_of last_offset data_end
    last_is =
        ap (λ (s : Session). s.last) (session_now (begun d) session output held d refl)
        ∙ rw (ne_eqb (length (draft_records d)) 0 (λ z. let c = count in omega arith), long) (omega arith)

    -- the last record ends before the last CRC
    pub last_sums : (8 ≤ session.next) × (session.last ≤ session.next - 8)
    last_sums = let a = next_is in let b = last_is in (omega arith, omega arith)

    stands : Lies output session.last last
    unfolding begun_file
    stands =
        lies output (unfinished_header d.metadata ++ ends.front) last (ends.crc ++ zeros (length output - length S)) session.last
        (output_now (begun d) session output held d refl ∙ padded-append (length output) S
        ∙ ap (λ (l : List ℕ). (unfinished_header d.metadata ++ l) ++ zeros (length output - length S)) ends.whole
        ∙ side_by_side (unfinished_header d.metadata) ends.front last ends.crc (zeros (length output - length S)))
        (last_is ∙ sym (length-append (unfinished_header d.metadata) ends.front ∙ ap (λ (n : ℕ). n + length ends.front) (length_unfinished d.metadata)))
      where
        S : List ℕ
        S = unfinished_header d.metadata ++ flat_map data_bytes (draft_blocks d)

        side_by_side : (a b c d e : List ℕ) → (a ++ (b ++ (c ++ d))) ++ e ≡ (a ++ b) ++ (c ++ (d ++ e))
        side_by_side a b c d e = simp append_assoc refl

    pub last_back : record_of output session.last (session.next - 8 - session.last) ≡ last_or [] (draft_records d)
    unfolding is_within
    last_back =
        let within = lies_within output session.last last stands in
        let size : session.next - 8 - session.last ≡ length last = (let a = next_is in let b = last_is in omega arith) in
        ap (record_of output session.last) size ∙ record_within output session.last (length last) (le-leb _ _ within)
        ∙ lies_part output session.last last stands

    -- a record compared with the last one
    pub compared_next : (r : List ℕ) {read : List ℕ} {c : Comparison} {b : Bool} → read ≡ record_of output session.last (session.next - 8 - session.last)
        → c ≡ comparison read r → b ≡ says_at_most c → b ≡ is_next d r
    unfolding is_next
    compared_next r e f g =
        g ∙ ap says_at_most (f ∙ ap (λ (l : List ℕ). comparison l r) (e ∙ last_back)) ∙ compared_at_most last r (comparison last r) refl
