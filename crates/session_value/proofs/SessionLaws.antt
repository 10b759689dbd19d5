-- The session of a stage: what its numbers say of the stage, and how they change with a step.
-- Assumes nothing.
use mathlib.Core.Path.{◌≡◌, refl, sym, ap, ◌∙◌}
use mathlib.Core.Bool.{true, false, false≢true}
use mathlib.Core.List.{List, [], ◌∷◌, ◌++◌, flat_map, append-nil}
use Prim.Native.Nat.{ℕ, ◌+◌, ◌-◌, ◌≤◌}
use native.Mathlib.Omega.{arith}
use lib.ListN.{length, length-append}
use borrow.Author.Tests.{le-leb, ne_eqb}
use Rattle.lists.specs.Groups.{last_or}
use Rattle.lists.proofs.ListsLaws.{flat_map_append}
use Rattle.outcome.specs.Outcome.{refused}
use Rattle.uleb128.proofs.EncodingLaws.{encoding_some}
use Rattle.crc64.specs.Crc64.{register_start, register}
use Rattle.crc64_register.proofs.Crc64Laws.{register-append}
use Rattle.layout.specs.Blocks.{text_bytes, block_size, records_bytes, data_bytes}
use Rattle.layout.specs.File.{blocks_start, file_fits}
use Rattle.layout.proofs.ReadBackLaws.{length_text, length_block}
use Rattle.layout.proofs.PayloadBackLaws.{payloads_shorter}
use Rattle.file_encoder.proofs.CountsLaws.{counts⁻¹}
use Rattle.session_value.specs.Stage.{Draft, Stage, afresh, begun, finished, open_block, draft_blocks, draft_records, data_end, draft_file}
use Rattle.session_value.specs.Steps.{is_afresh, draft_of, close_open, close_full, add_open}
use Rattle.session_value.specs.Held.{SoundDraft, Sound, last_offset, session_of}
use Rattle.session_value.specs.Values.{is_begun, begun_session, closed_session, unfull_session, text_size, added_session, finished_session}
use Rattle.session_value.proofs.DraftLaws.{blocks_payloads, records_close, end_close, by_full, full_some}
use Rattle.session_value.proofs.DraftLaws.{records_add_open, blocks_add_open, records_bytes_snoc}
use Rattle.session_value.proofs.ValueLaws.{full, not_full}

-- ---- what is counted is no more than the bytes

records_few : (rs : List (List ℕ)) → length rs ≤ length (records_bytes rs)
unfolding records_bytes flat_map
records_few [] = omega arith
records_few (r ∷ rs) =
    let rest = records_few rs in
    let sum = length-append (text_bytes r) (flat_map text_bytes rs) in
    let long = length_text r in
    let some = encoding_some (length r) in
    omega arith

payloads-within : (d : Draft) → length (records_bytes (draft_records d)) ≤ data_end d
unfolding data_end
payloads-within d = let short = payloads_shorter (draft_blocks d) in let same = ap length (blocks_payloads d) in omega arith

payload_within : (d : Draft) → length (records_bytes d.current) ≤ data_end d
unfolding draft_records records_bytes
payload_within d =
    let all = payloads-within d in
    let joined = ap length (flat_map_append text_bytes (flat_map (λ rs. rs) d.closed) d.current) in
    let sum = length-append (flat_map text_bytes (flat_map (λ rs. rs) d.closed)) (flat_map text_bytes d.current) in
    omega arith

count_within : (d : Draft) → length (draft_records d) ≤ data_end d
count_within d = let all = payloads-within d in let few = records_few (draft_records d) in omega arith

-- ---- the stage of a session

pub sound⇒begun : (room : ℕ) (d : Draft) → SoundDraft d → file_fits room (data_end d) ≡ true → is_begun (session_of (begun d)) room ≡ true
unfolding is_begun session_of
sound⇒begun room d s fits =
    let high = (counts⁻¹ d.per_block d.per_index s.counts).2 in
    let few = s.current_no_fuller in
    rw (
      fits,
      le-leb (length (records_bytes d.current)) (data_end d) (payload_within d),
      le-leb (length (draft_records d)) (data_end d) (count_within d),
      le-leb (length d.current) 65535 (omega arith),
    )

pub is_begun_lem : (room : ℕ) (stage : Stage) → is_begun (session_of stage) room ≡ true → (d : Draft) × (stage ≡ begun d)
unfolding is_begun session_of
is_begun_lem room afresh e = absurd (false≢true e)
is_begun_lem room (begun d) e = (d, refl)
is_begun_lem room (finished d) e = absurd (false≢true e)

pub not_begun : (room : ℕ) (stage : Stage) → Sound room stage → is_begun (session_of stage) room ≡ false → draft_of stage ≡ refused 28 0
unfolding draft_of Sound
not_begun room afresh s e = refl
not_begun room (begun d) s e = absurd (false≢true (sym e ∙ sound⇒begun room d s.0 s.1))
not_begun room (finished d) s e = refl

pub is_afresh_lem : (stage : Stage) → (session_of stage).stage ≡ 0 → stage ≡ afresh
unfolding session_of
is_afresh_lem afresh e = refl
is_afresh_lem (begun d) e = absurd (omega arith)
is_afresh_lem (finished d) e = absurd (omega arith)

pub not_afresh : (stage : Stage) → ((session_of stage).stage ≡ 0 → ⊥) → is_afresh stage ≡ false
unfolding session_of is_afresh
not_afresh afresh h = absurd (h refl)
not_afresh (begun d) h = refl
not_afresh (finished d) h = refl

-- ---- a file begun

pub begun_session_lem : (metadata : List ℕ) (b i : ℕ)
    → begun_session (blocks_start metadata) b i
    ≡ session_of (begun (record { metadata = metadata; per_block = b; per_index = i; closed = []; current = [] }))
unfolding begun_session session_of draft_records draft_blocks open_block last_offset data_end records_bytes flat_map
begun_session_lem metadata b i = rw (none (blocks_start metadata))
  where
    none : (n : ℕ) → n + 0 ≡ n
    none n = omega arith

-- ---- the open block closed

start_close : (d : Draft) → 1 ≤ length d.current → blocks_start d.metadata + length (flat_map data_bytes (d.closed ++ (d.current ∷ []))) ≡ data_end d
unfolding data_end close_open draft_blocks open_block
start_close d h =
    ap (λ (bs : List (List (List ℕ))). blocks_start d.metadata + length (flat_map data_bytes bs)) (sym (append-nil (d.closed ++ (d.current ∷ []))))
    ∙ end_close d h

last_close : (d : Draft) → 1 ≤ length d.current → last_offset (close_open d) ≡ last_offset d
unfolding last_offset
last_close d h = rw (records_close d, end_close d h)

pub closed_session_lem : (d : Draft) → 1 ≤ length d.current → closed_session (session_of (begun d)) ≡ session_of (begun (close_open d))
unfolding closed_session session_of records_bytes flat_map close_open
closed_session_lem d h = sym (rw (records_close d, last_close d h, end_close d h, start_close d h))

pub unfull_session_lem : (d : Draft) → SoundDraft d → unfull_session (session_of (begun d)) ≡ session_of (begun (close_full d))
unfolding session_of
unfull_session_lem d s =
    by_full d (λ (e : Draft). unfull_session (session_of (begun d)) ≡ session_of (begun e))
    (λ h. sym (full (session_of (begun d)) h) ∙ closed_session_lem d (full_some d s h)) (λ h. sym (not_full (session_of (begun d)) h))

-- ---- one record more

last_snoc : {A : Type 0} (none : A) (xs : List A) (x : A) → last_or none (xs ++ (x ∷ [])) ≡ x
unfolding last_or
last_snoc none [] x = refl
last_snoc none (y ∷ xs) x = last_snoc y xs x

payload_added : (d : Draft) (r : List ℕ) → length (records_bytes d.current) + text_size (length r) ≡ length (records_bytes (d.current ++ (r ∷ [])))
unfolding text_size
payload_added d r =
    sym (ap length (records_bytes_snoc d.current r) ∙ length-append (records_bytes d.current) (text_bytes r)
    ∙ ap (λ (n : ℕ). length (records_bytes d.current) + n) (length_text r))

-- where the open block ends then
pub framed_end : (d : Draft) (r : List ℕ)
    → (session_of (begun d)).start + block_size ((session_of (begun d)).payload + text_size (length r)) ≡ data_end (add_open d r)
unfolding session_of data_end flat_map data_bytes add_open
framed_end d r =
    let block = length_block 0 (records_bytes (d.current ++ (r ∷ []))) in
    rw (
      blocks_add_open d r,
      flat_map_append data_bytes d.closed ((d.current ++ (r ∷ [])) ∷ []),
      append-nil (data_bytes (d.current ++ (r ∷ []))),
      length-append (flat_map data_bytes d.closed) (data_bytes (d.current ++ (r ∷ []))),
      payload_added d r,
    ) (omega arith)

last_added : (d : Draft) (r : List ℕ) → last_offset (add_open d r) ≡ data_end (add_open d r) - 8 - length r
unfolding last_offset
last_added d r =
    let sum = length-append (draft_records d) (r ∷ []) in
    rw (records_add_open d r, ne_eqb (length (draft_records d ++ (r ∷ []))) 0 (λ z. omega arith), last_snoc [] (draft_records d) r)

-- the session then, where a record is put into the open block
pub added_session_lem : (d : Draft) (r : List ℕ) {size crc : ℕ} → size ≡ block_size ((session_of (begun d)).payload + text_size (length r))
    → crc ≡ register (session_of (begun d)).crc (text_bytes r) → added_session (session_of (begun d)) (length r) size crc ≡ session_of (begun (add_open d r))
unfolding added_session session_of add_open
added_session_lem d r {size} {crc} e f =
    rw (
      e,
      framed_end d r,
      sym (last_added d r),
      f,
      sym (register-append register_start (0 ∷ records_bytes d.current) (text_bytes r)),
      sym (records_bytes_snoc d.current r),
      one_more,
      sym (length-append d.current (r ∷ [])),
      payload_added d r,
    )
  where
    one_more : length (draft_records d) + 1 ≡ length (draft_records (add_open d r))
    one_more = sym (ap length (records_add_open d r) ∙ length-append (draft_records d) (r ∷ []))

-- ---- the file finished

pub finished_session_lem : (d : Draft) {total : ℕ} → total ≡ length (draft_file d) → finished_session (session_of (begun d)) total ≡ session_of (finished d)
unfolding finished_session session_of
finished_session_lem d e = rw e
