-- Laws of what a session has written: its blocks and records after a step, and that every step keeps it sound.
-- Assumes nothing.
use mathlib.Core.Path.{◌≡◌, refl, sym, ap, ◌∙◌, subst}
use mathlib.Core.Bool.{Bool, true, false}
use mathlib.Core.Logic.{◌⊎◌, inl, inr}
use mathlib.Core.List.Memᴰ
use mathlib.Core.List.{List, [], ◌∷◌, ◌++◌, flat_map, append-nil, append_assoc, Memᴰ}
use Prim.Native.Nat.{ℕ, ◌+◌, ◌^◌, ◌≤◌, ◌<◌}
use native.Mathlib.Omega.{arith}
use lib.Dec.{leb}
use lib.ListN.{length, length-append}
use borrow.Author.Tests.{leb-true, leb-false, le-leb, lt-leb}
use Rattle.lists.specs.Groups.{last_or}
use Rattle.lists.proofs.ListsLaws.{flat_map_append, flat_map_member, both}
use Rattle.lists.proofs.RisingLaws.{flat_map_flat_map}
use Rattle.byte_string.specs.Order.{AreBytes, at_most}
use Rattle.byte_string.proofs.BytesLaws.{bytes_append}
use Rattle.header.specs.Metadata.{is_metadata}
use Rattle.payload.specs.Payload.{rising}
use Rattle.payload.proofs.ScanLaws.{rising_snoc}
use Rattle.layout.specs.Blocks.{text_bytes, block_size, records_bytes, data_bytes}
use Rattle.layout.specs.File.{blocks_start, counts_fit, file_fits}
use Rattle.layout.proofs.KeyLaws.{Filled}
use Rattle.layout.proofs.LaidBytesLaws.{text_bytes_lem}
use Rattle.layout.proofs.ReadBackLaws.{length_block}
use Rattle.layout.proofs.PayloadBackLaws.{flat_map_length, record_length}
use Rattle.file_encoder.proofs.CountsLaws.{counts⁻¹}
use Rattle.file_encoder.proofs.FitLaws.{fits⁻¹}
use Rattle.session_value.specs.Stage.{Draft, begun, open_block, draft_blocks, draft_records, data_end}
use Rattle.session_value.specs.Steps.{close_open, close_full, add_open, add_to, is_next}
use Rattle.session_value.specs.Held.{SoundDraft, Sound}

-- ---- the open block

pub open_some : (rs : List (List ℕ)) → 1 ≤ length rs → open_block rs ≡ rs ∷ []
unfolding open_block
open_some [] h = absurd (omega arith)
open_some (r ∷ rs) h = refl

pub open_more : (rs : List (List ℕ)) (r : List ℕ) → open_block (rs ++ (r ∷ [])) ≡ (rs ++ (r ∷ [])) ∷ []
open_more rs r = open_some (rs ++ (r ∷ [])) (let sum = length-append rs (r ∷ []) in omega arith)

pub open_joined : (rs : List (List ℕ)) → flat_map (λ l. l) (open_block rs) ≡ rs
unfolding open_block flat_map
open_joined [] = refl
open_joined (r ∷ rs) = append-nil (r ∷ rs)

pub open_filled : (rs : List (List ℕ)) → Filled (open_block rs)
unfolding open_block
open_filled [] g m = absurd (Memᴰ.not-nil m)
open_filled (r ∷ rs) g m = let same = ap length (Memᴰ.eq_of_singleton m) in omega arith

-- ---- blocks and records

-- the blocks, joined, are the records
pub blocks_joined : (d : Draft) → flat_map (λ rs. rs) (draft_blocks d) ≡ draft_records d
unfolding draft_blocks draft_records
blocks_joined d =
    flat_map_append (λ (rs : List (List ℕ)). rs) d.closed (open_block d.current)
    ∙ ap (λ (rs : List (List ℕ)). flat_map (λ l. l) d.closed ++ rs) (open_joined d.current)

-- their payloads, joined, are the input form of the records
pub blocks_payloads : (d : Draft) → flat_map records_bytes (draft_blocks d) ≡ records_bytes (draft_records d)
unfolding records_bytes
blocks_payloads d = sym (flat_map_flat_map text_bytes (λ (rs : List (List ℕ)). rs) (draft_blocks d)) ∙ ap (flat_map text_bytes) (blocks_joined d)

pub blocks_filled : (d : Draft) → SoundDraft d → Filled (draft_blocks d)
unfolding draft_blocks
blocks_filled d s g m = go (Memᴰ.append_cases d.closed m)
  where
    go : Memᴰ g d.closed ⊎ Memᴰ g (open_block d.current) → 0 < length g
    go (inl i) = s.filled g i
    go (inr i) = open_filled d.current g i

pub blocks_no_fuller : (d : Draft) → SoundDraft d → (rs : List (List ℕ)) → Memᴰ rs (draft_blocks d) → length rs ≤ d.per_block
unfolding draft_blocks open_block
blocks_no_fuller d s rs m = go (Memᴰ.append_cases d.closed m)
  where
    inner : (cs : List (List ℕ)) → length cs ≤ d.per_block → Memᴰ rs (open_block cs) → length rs ≤ d.per_block
    inner [] h i = absurd (Memᴰ.not-nil i)
    inner (c ∷ cs) h i = let same = ap length (Memᴰ.eq_of_singleton i) in omega arith

    go : Memᴰ rs d.closed ⊎ Memᴰ rs (open_block d.current) → length rs ≤ d.per_block
    go (inl i) = s.no_fuller rs i
    go (inr i) = inner d.current s.current_no_fuller i

-- a record is shorter than what is written
pub records_within : (d : Draft) (r : List ℕ) → Memᴰ r (draft_records d) → length r < data_end d
unfolding data_end data_bytes block_size
records_within d r m =
    let found = flat_map_member (λ (rs : List (List ℕ)). rs) (draft_blocks d) r (subst (Memᴰ r) (sym (blocks_joined d)) m) in
    let inside = record_length found.0 r found.2 in
    let long = length_block 0 (records_bytes found.0) in
    let part = flat_map_length data_bytes (draft_blocks d) found.0 found.1 in
    omega arith

-- ---- the open block closed

pub records_close : (d : Draft) → draft_records (close_open d) ≡ draft_records d
unfolding draft_records close_open flat_map
records_close d =
    append-nil (flat_map (λ l. l) (d.closed ++ (d.current ∷ [])))
    ∙ flat_map_append (λ (rs : List (List ℕ)). rs) d.closed (d.current ∷ [])
    ∙ ap (λ (rs : List (List ℕ)). flat_map (λ l. l) d.closed ++ rs) (append-nil d.current)

pub blocks_close : (d : Draft) → 1 ≤ length d.current → draft_blocks (close_open d) ≡ draft_blocks d
unfolding draft_blocks close_open open_block
blocks_close d h = append-nil (d.closed ++ (d.current ∷ [])) ∙ ap (λ (bs : List (List (List ℕ))). d.closed ++ bs) (sym (open_some d.current h))

pub end_close : (d : Draft) → 1 ≤ length d.current → data_end (close_open d) ≡ data_end d
unfolding data_end close_open
end_close d h = ap (λ (bs : List (List (List ℕ))). blocks_start d.metadata + length (flat_map data_bytes bs)) (blocks_close d h)

pub sound_close : (d : Draft) → SoundDraft d → 1 ≤ length d.current → SoundDraft (close_open d)
unfolding close_open
sound_close d s h =
    record {
      counts = s.counts;
      rule = s.rule;
      metadata_bytes = s.metadata_bytes;
      filled = λ g m. each (λ rs. 0 < length rs) s.filled h g (Memᴰ.append_cases d.closed m);
      no_fuller = λ g m. each (λ rs. length rs ≤ d.per_block) s.no_fuller s.current_no_fuller g (Memᴰ.append_cases d.closed m);
      current_no_fuller = omega arith;
      rises = ap rising (records_close d) ∙ s.rises;
      bytes = subst (λ (bs : List (List (List ℕ))). AreBytes (flat_map records_bytes bs)) (sym (blocks_close d h)) s.bytes;
    }
  where
    each : (P : List (List ℕ) → Type 0) → ((g : List (List ℕ)) → Memᴰ g d.closed → P g) → P d.current → (g : List (List ℕ))
        → Memᴰ g d.closed ⊎ Memᴰ g (d.current ∷ []) → P g
    each P all last g (inl m) = all g m
    each P all last g (inr m) = subst P (sym (Memᴰ.eq_of_singleton m)) last

-- ---- the open block closed where it is full

pub close_full_lem : (d : Draft) → d.per_block ≤ length d.current → close_full d ≡ close_open d
unfolding close_full
close_full_lem d h = rw (le-leb d.per_block (length d.current) h)

pub close_unfull : (d : Draft) → length d.current < d.per_block → close_full d ≡ d
unfolding close_full
close_unfull d h = rw (lt-leb d.per_block (length d.current) h)

-- what holds where the block is full and is closed, and where it isn't full, holds of `close_full`
pub by_full : (d : Draft) (P : Draft → Type 0) → (d.per_block ≤ length d.current → P (close_open d)) → (length d.current < d.per_block → P d)
    → P (close_full d)
by_full d P full unfull = go (leb d.per_block (length d.current)) refl
  where
    go : (b : Bool) → leb d.per_block (length d.current) ≡ b → P (close_full d)
    go true e = let h = leb-true d.per_block (length d.current) e in subst P (sym (close_full_lem d h)) (full h)
    go false e = let h = leb-false d.per_block (length d.current) e in subst P (sym (close_unfull d h)) (unfull h)

-- a full block has a record
pub full_some : (d : Draft) → SoundDraft d → d.per_block ≤ length d.current → 1 ≤ length d.current
full_some d s h = omega (arith, (counts⁻¹ d.per_block d.per_index s.counts).0)

pub sound_close_full : (d : Draft) → SoundDraft d → SoundDraft (close_full d)
sound_close_full d s = by_full d SoundDraft (λ h. sound_close d s (full_some d s h)) (λ h. s)

pub records_close_full : (d : Draft) → draft_records (close_full d) ≡ draft_records d
records_close_full d = by_full d (λ c. draft_records c ≡ draft_records d) (λ h. records_close d) (λ h. refl)

pub blocks_close_full : (d : Draft) → SoundDraft d → draft_blocks (close_full d) ≡ draft_blocks d
blocks_close_full d s = by_full d (λ c. draft_blocks c ≡ draft_blocks d) (λ h. blocks_close d (full_some d s h)) (λ h. refl)

pub end_close_full : (d : Draft) → SoundDraft d → data_end (close_full d) ≡ data_end d
end_close_full d s = by_full d (λ c. data_end c ≡ data_end d) (λ h. end_close d (full_some d s h)) (λ h. refl)

-- then there is a place in the open block
pub close_full_place : (d : Draft) → SoundDraft d → length (close_full d).current < (close_full d).per_block
unfolding close_open
close_full_place d s =
    by_full d (λ c. length c.current < c.per_block) (λ h. omega (arith, (counts⁻¹ d.per_block d.per_index s.counts).0)) (λ h. h)

-- ---- a record more

pub records_add_open : (d : Draft) (r : List ℕ) → draft_records (add_open d r) ≡ draft_records d ++ (r ∷ [])
unfolding draft_records add_open
records_add_open d r = sym (append_assoc (flat_map (λ l. l) d.closed) d.current (r ∷ []))

pub blocks_add_open : (d : Draft) (r : List ℕ) → draft_blocks (add_open d r) ≡ d.closed ++ ((d.current ++ (r ∷ [])) ∷ [])
unfolding draft_blocks add_open
blocks_add_open d r = ap (λ (bs : List (List (List ℕ))). d.closed ++ bs) (open_more d.current r)

-- the input form of one record more
pub records_bytes_snoc : (rs : List (List ℕ)) (r : List ℕ) → records_bytes (rs ++ (r ∷ [])) ≡ records_bytes rs ++ text_bytes r
unfolding records_bytes flat_map
records_bytes_snoc rs r = flat_map_append text_bytes rs (r ∷ []) ∙ ap (λ (l : List ℕ). flat_map text_bytes rs ++ l) (append-nil (text_bytes r))

pub sound_add_open : (d : Draft) (r : List ℕ) → SoundDraft d → AreBytes r → is_next d r ≡ true → length r < 2 ^ 63 → length d.current < d.per_block
    → SoundDraft (add_open d r)
unfolding is_next add_open
sound_add_open d r s bytes next short place =
    record {
      counts = s.counts;
      rule = s.rule;
      metadata_bytes = s.metadata_bytes;
      filled = s.filled;
      no_fuller = s.no_fuller;
      current_no_fuller = let sum = length-append d.current (r ∷ []) in omega arith;
      rises = ap rising (records_add_open d r) ∙ rising_snoc (draft_records d) r ∙ both _ _ s.rises next;
      bytes = subst AreBytes (sym same) (bytes_append (records_bytes (draft_records d)) (text_bytes r)
          (subst AreBytes (blocks_payloads d) s.bytes) (text_bytes_lem r (omega arith) bytes));
    }
  where
    same : flat_map records_bytes (draft_blocks (add_open d r)) ≡ records_bytes (draft_records d) ++ text_bytes r
    same = blocks_payloads (add_open d r) ∙ ap records_bytes (records_add_open d r) ∙ records_bytes_snoc (draft_records d) r

pub records_add : (d : Draft) (r : List ℕ) → draft_records (add_to d r) ≡ draft_records d ++ (r ∷ [])
unfolding add_to
records_add d r = records_add_open (close_full d) r ∙ ap (λ (rs : List (List ℕ)). rs ++ (r ∷ [])) (records_close_full d)

pub next_close_full : (d : Draft) (r : List ℕ) → is_next (close_full d) r ≡ is_next d r
unfolding is_next
next_close_full d r = ap (λ (rs : List (List ℕ)). at_most (last_or [] rs) r) (records_close_full d)

pub sound_add : (d : Draft) (r : List ℕ) → SoundDraft d → AreBytes r → is_next d r ≡ true → length r < 2 ^ 63 → SoundDraft (add_to d r)
unfolding add_to
sound_add d r s bytes next short =
    sound_add_open (close_full d) r (sound_close_full d s) bytes (next_close_full d r ∙ next) short (close_full_place d s)

-- a record that fits is short
pub add_short : (room : ℕ) (d : Draft) (r : List ℕ) → file_fits room (data_end (add_to d r)) ≡ true → length r < 2 ^ 63
add_short room d r e =
    let inside = records_within (add_to d r) r (subst (Memᴰ r) (sym (records_add d r)) (Memᴰ.append_right (draft_records d) (Memᴰ.head refl))) in
    let small = (fits⁻¹ room (data_end (add_to d r)) e).1 in
    omega arith

-- ---- the steps keep what is written sound

pub sound_begin : (metadata : List ℕ) (per_block per_index : ℕ) → counts_fit per_block per_index ≡ true → is_metadata metadata ≡ true → AreBytes metadata
    → SoundDraft (record { metadata = metadata; per_block = per_block; per_index = per_index; closed = []; current = [] })
unfolding draft_records draft_blocks open_block flat_map rising AreBytes
sound_begin metadata per_block per_index counts rule bytes =
    record {
      counts = counts;
      rule = rule;
      metadata_bytes = bytes;
      filled = λ g m. absurd (Memᴰ.not-nil m);
      no_fuller = λ g m. absurd (Memᴰ.not-nil m);
      current_no_fuller = omega arith;
      rises = refl;
      bytes = tt;
    }

pub end_begin : (metadata : List ℕ) (per_block per_index : ℕ)
    → data_end (record { metadata = metadata; per_block = per_block; per_index = per_index; closed = []; current = [] }) ≡ blocks_start metadata
unfolding data_end draft_blocks open_block flat_map
end_begin metadata per_block per_index = omega arith

pub begin_keeps : (room : ℕ) (metadata : List ℕ) (per_block per_index : ℕ) → counts_fit per_block per_index ≡ true → is_metadata metadata ≡ true
    → file_fits room (blocks_start metadata) ≡ true → AreBytes metadata
    → Sound room (begun (record { metadata = metadata; per_block = per_block; per_index = per_index; closed = []; current = [] }))
unfolding Sound
begin_keeps room metadata per_block per_index counts rule fit bytes =
    (sound_begin metadata per_block per_index counts rule bytes, ap (file_fits room) (end_begin metadata per_block per_index) ∙ fit)

pub add_keeps : (room : ℕ) (d : Draft) (r : List ℕ) → Sound room (begun d) → AreBytes r → is_next d r ≡ true → file_fits room (data_end (add_to d r)) ≡ true
    → Sound room (begun (add_to d r))
unfolding Sound
add_keeps room d r s bytes next fit = (sound_add d r s.0 bytes next (add_short room d r fit), fit)

pub close_keeps : (room : ℕ) (d : Draft) → Sound room (begun d) → 1 ≤ length d.current → Sound room (begun (close_open d))
unfolding Sound
close_keeps room d s h = (sound_close d s.0 h, ap (file_fits room) (end_close d h) ∙ s.1)
