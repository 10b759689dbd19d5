-- Laws of adding a record in a session.
-- Assumes nothing.
use mathlib.Core.Path.{◌≡◌, refl, sym, ap, ◌∙◌, subst}
use mathlib.Core.Bool.{Bool, true, false, cond}
use mathlib.Core.List.{List, ◌∷◌, ◌++◌}
use Prim.Native.Nat.{ℕ, ◌+◌, ◌^◌, ◌≤◌}
use native.Mathlib.Omega.{arith}
use lib.Dec.{leb}
use lib.ListN.{length}
use Rattle.std.specs.Prelude.{Some, None}
use Rattle.std.specs.Bool.{then_some}
use Rattle.byte_string.specs.Order.{AreBytes}
use Rattle.outcome.specs.Outcome.{Outcome, answer}
use Rattle.outcome.proofs.OutcomeLaws.{kept, broken, bind_answer, bind_refused}
use Rattle.part.specs.Part.{part}
use Rattle.uleb128.specs.Encoding.{encoding}
use Rattle.crc64.specs.Crc64.{register_start, register}
use Rattle.uleb128.proofs.EncodingLaws.{encoding_some}
use Rattle.output_bytes.specs.OutputBytes.{stored}
use Rattle.output_bytes.proofs.OutputBytesLaws.{length-stored}
use Rattle.layout.specs.Blocks.{text_bytes, block_bytes, block_size, records_bytes}
use Rattle.layout.specs.File.{file_fits}
use Rattle.layout.proofs.ReadBackLaws.{length_text}
use Rattle.file_encoder.specs.Begun.{begun_file}
use Rattle.file_encoder.proofs.FitLaws.{fits⁻¹}
use Rattle.session_value.specs.declared.Session.{Session}
use Rattle.session_value.specs.declared.Stepped.{Stepped}
use Rattle.session_value.specs.Stage.{Draft, Stage, begun, draft_blocks, data_end, output_of}
use Rattle.session_value.specs.Steps.{draft_of, close_open, close_full, add_open, add_to, is_next, add_of}
use Rattle.session_value.specs.Held.{SoundDraft, Sound, Held, session_of, StepTaken}
use Rattle.session_value.specs.Values.{is_begun, closed_session, unfull_session, text_size, framed_size, added_session}
use Rattle.session_value.proofs.DraftLaws.{by_full, blocks_close_full, add_keeps}
use Rattle.session_value.proofs.ValueLaws.{begun⁻¹}
use Rattle.session_value.proofs.SessionLaws.{unfull_session_lem, framed_end, added_session_lem}
use Rattle.session.proofs.TakenLaws.{step_refused, step_answered, draft_none, draft_some, drafted, session_now, output_now, sound_now}
use Rattle.session.proofs.OpenLaws.{body_stands, open_longer}

-- ---- the size of the open block with the record, of any session

module _ (s : Session) (n room : ℕ) where
  pub framed_some : {size : ℕ} → Some size ≡ framed_size s n room
      → (size ≡ block_size (s.payload + text_size n)) × (file_fits room (s.start + block_size (s.payload + text_size n)) ≡ true)
  unfolding framed_size
  framed_some {size} e = go (file_fits room (s.start + block_size (s.payload + text_size n))) e
    where
      go : (b : Bool) → Some size ≡ then_some b (block_size (s.payload + text_size n)) → (size ≡ block_size (s.payload + text_size n)) × (b ≡ true)
      go true f = (cc, refl)
      go false f = cc

  pub framed_none : None ≡ framed_size s n room → file_fits room (s.start + block_size (s.payload + text_size n)) ≡ false
  unfolding framed_size
  framed_none e = go (file_fits room (s.start + block_size (s.payload + text_size n))) e
    where
      go : (b : Bool) → None ≡ then_some b (block_size (s.payload + text_size n)) → b ≡ false
      go true f = cc
      go false f = refl

-- what `put_record` and `added` ask for
pub put_fits : (s : Session) (r : List ℕ) (room : ℕ) {size : ℕ} → Some size ≡ framed_size s (length r) room
    → s.start + block_size (s.payload + length (text_bytes r)) ≤ room
unfolding text_size
put_fits s r room e =
    subst (λ (n : ℕ). s.start + block_size (s.payload + n) ≤ room) (sym (length_text r)) (fits⁻¹ room _ (framed_some s (length r) room e).1).0

unfull_counts : (session : Session) → ((unfull_session session).records ≡ session.records) × ((unfull_session session).count ≤ session.count)
unfolding unfull_session closed_session
unfull_counts session = go (leb session.perblock session.count)
  where
    go : (b : Bool) → ((cond b (closed_session session) session).records ≡ session.records) × ((cond b (closed_session session) session).count ≤ session.count)
    go true = (refl, omega arith)
    go false = (refl, omega arith)

pub added_fits : (session s : Session) (n room : ℕ) {size : ℕ} → is_begun session room ≡ true → s ≡ unfull_session session → Some size ≡ framed_size s n room
    → (s.start + size ≤ 2 ^ 30) × (block_size (s.payload + text_size n) ≤ size) × (s.records ≤ 2 ^ 30) × (s.count ≤ 65535)
added_fits session s n room {size} is u e =
    let f = framed_some s n room e in
    let fit = (fits⁻¹ room _ f.1).1 in
    let same = f.0 in
    let known = begun⁻¹ session room is in
    let next = (fits⁻¹ room _ known.0).1 in
    let few = known.1 in
    let count = known.2 in
    let left = unfull_counts session in
    let a = ap (λ (z : Session). z.records) u ∙ left.0 in
    let b = ap (λ (z : Session). z.count) u in
    let c = left.1 in
    (omega arith, omega arith, omega arith, omega arith)

-- a block takes ten bytes at least
ten : (start payload room : ℕ) → start + block_size payload ≤ room → start + 10 ≤ room
unfolding block_size
ten start payload room h = let some = encoding_some (payload + 1) in omega arith

-- closing a full block leaves the metadata
metadata_close_full : (d : Draft) → (close_full d).metadata ≡ d.metadata
unfolding close_open
metadata_close_full d = by_full d (λ (c : Draft). c.metadata ≡ d.metadata) (λ h. refl) (λ h. refl)

opened : (d : Draft) (r : List ℕ) (room : ℕ) → (session_of (begun d)).start + block_size ((session_of (begun d)).payload + length (text_bytes r)) ≤ room
    → (session_of (begun d)).start + block_size (length (records_bytes d.current) + length (text_bytes r)) ≤ room
unfolding session_of
opened d r room h = h

known_put : (d : Draft) (output r then : List ℕ)
    → ((known : List ℕ) → length known ≡ (session_of (begun d)).payload
    → part output ((session_of (begun d)).start + length (encoding ((session_of (begun d)).payload + 1))) ((session_of (begun d)).payload + 1) ≡ 0 ∷ known
    → (session_of (begun d)).crc ≡ register register_start (0 ∷ known)
    → then ≡ stored output (session_of (begun d)).start (block_bytes 0 (known ++ text_bytes r)))
    → part output ((session_of (begun d)).start + length (encoding (length (records_bytes d.current) + 1))) (length (records_bytes d.current) + 1)
    ≡ 0 ∷ records_bytes d.current
    → then ≡ stored output (session_of (begun d)).start (block_bytes 0 (records_bytes d.current ++ text_bytes r))
unfolding session_of
known_put d output r then put body = put (records_bytes d.current) refl body refl

-- ---- the step

module _ (stage : Stage) (session : Session) (output : List ℕ) (held : Held stage session output) (r : List ℕ) where
  abbrev o : Outcome Stage
  o = add_of stage r (length output)

  pub add_early : {a : Stepped} → is_begun session (length output) ≡ false → a ≡ record { number = 28; place = 0; session = session }
      → StepTaken stage (add_of stage r (length output)) (length output) a output
  unfolding add_of
  add_early e f = step_refused stage session output held o 28 (bind_refused (draft_of stage) _ 28 0 (draft_none stage session output held e)) f

  module _ (is : is_begun session (length output) ≡ true) (next : Bool) (asked : (d : Draft) → Held (begun d) session output → next ≡ is_next d r) where
    found : (d : Draft) × (stage ≡ begun d)
    found = draft_some stage session output held is

    abbrev d : Draft
    d = found.0

    tried : next ≡ is_next d r
    tried = asked d (subst (λ (t : Stage). Held t session output) found.1 held)

    to_draft : draft_of stage ≡ answer d
    to_draft = drafted stage session output held d found.1

    pub add_falling : {a : Stepped} → next ≡ false → a ≡ record { number = 29; place = 0; session = session }
        → StepTaken stage (add_of stage r (length output)) (length output) a output
    unfolding add_of
    add_falling n f =
        step_refused stage session output held o 29 (bind_answer (draft_of stage) _ d to_draft ∙ broken (is_next d r) 29 0 _ (sym tried ∙ n)) f

    module _ (yes : next ≡ true) {s : Session} (unfull : s ≡ unfull_session session) where
      -- the draft whose open block has room
      abbrev e : Draft
      e = close_full d

      sound : SoundDraft d
      sound = (sound_now stage session output held d found.1).0

      s_is : s ≡ session_of (begun e)
      s_is = unfull ∙ ap unfull_session (session_now stage session output held d found.1) ∙ unfull_session_lem d sound

      end_is : s.start + block_size (s.payload + text_size (length r)) ≡ data_end (add_to d r)
      unfolding add_to
      end_is = ap (λ (z : Session). z.start + block_size (z.payload + text_size (length r))) s_is ∙ framed_end e r

      pub add_full : {a : Stepped} → None ≡ framed_size s (length r) (length output) → a ≡ record { number = 31; place = 0; session = session }
          → StepTaken stage (add_of stage r (length output)) (length output) a output
      unfolding add_of
      add_full none f =
          step_refused stage session output held o 31
          (bind_answer (draft_of stage) _ d to_draft ∙ kept (is_next d r) 29 0 _ (sym tried ∙ yes)
          ∙ broken (file_fits (length output) (data_end (add_to d r))) 31 0 _
          (ap (file_fits (length output)) (sym end_is) ∙ framed_none s (length r) (length output) none)) f

      pub add_done : {a : Stepped} {then : List ℕ} {size crc : ℕ} {added : Session} → Some size ≡ framed_size s (length r) (length output) → AreBytes r
          → crc ≡ register s.crc (text_bytes r)
          → ((known : List ℕ) → length known ≡ s.payload
          → part output (s.start + length (encoding (s.payload + 1))) (s.payload + 1) ≡ 0 ∷ known
          → s.crc ≡ register register_start (0 ∷ known)
          → then ≡ stored output s.start (block_bytes 0 (known ++ text_bytes r)))
          → added ≡ added_session s (length r) size crc → a ≡ record { number = 0; place = 0; session = added }
          → StepTaken stage (add_of stage r (length output)) (length output) a then
      unfolding add_of add_to add_open output_of Sound
      add_done {a} {then} {size} {crc} {added} framed bytes c put n f =
          step_answered stage (begun (add_to d r)) o (length output)
          (bind_answer (draft_of stage) _ d to_draft ∙ kept (is_next d r) 29 0 _ (sym tried ∙ yes)
          ∙ kept (file_fits (length output) (data_end (add_to d r))) 31 0 _ fit)
          (ap length put_is ∙ length-stored output _ _)
          (n ∙ ap (λ (z : Session). added_session z (length r) size crc) s_is
          ∙ added_session_lem e r (enough.0 ∙ ap (λ (z : Session). block_size (z.payload + text_size (length r))) s_is)
          (c ∙ ap (λ (z : Session). register z.crc (text_bytes r)) s_is))
          (put_is ∙ open_longer e output stands r room_is)
          (add_keeps (length output) d r (sound_now stage session output held d found.1) bytes (sym tried ∙ yes) fit) f
        where
          enough : (size ≡ block_size (s.payload + text_size (length r)))
              × (file_fits (length output) (s.start + block_size (s.payload + text_size (length r))) ≡ true)
          enough = framed_some s (length r) (length output) framed

          fit : file_fits (length output) (data_end (add_to d r)) ≡ true
          fit = ap (file_fits (length output)) (sym end_is) ∙ enough.1

          stands : output ≡ begun_file (length output) e.metadata (draft_blocks e)
          stands = output_now stage session output held d found.1 ∙ ap (begun_file (length output) d.metadata) (sym (blocks_close_full d sound))
              ∙ ap (λ (m : List ℕ). begun_file (length output) m (draft_blocks e)) (sym (metadata_close_full d))

          room_is : (session_of (begun e)).start + block_size (length (records_bytes e.current) + length (text_bytes r)) ≤ length output
          room_is = opened e r (length output)
              (subst (λ (z : Session). z.start + block_size (z.payload + length (text_bytes r)) ≤ length output) s_is (put_fits s r (length output) framed))

          put_is : then ≡ stored output (session_of (begun e)).start (block_bytes 0 (records_bytes e.current ++ text_bytes r))
          put_is =
              known_put e output r then
              (subst (λ (z : Session). (known : List ℕ) → length known ≡ z.payload
              → part output (z.start + length (encoding (z.payload + 1))) (z.payload + 1) ≡ 0 ∷ known
              → z.crc ≡ register register_start (0 ∷ known)
              → then ≡ stored output z.start (block_bytes 0 (known ++ text_bytes r))) s_is put)
              (body_stands e output stands (ten (session_of (begun e)).start _ (length output) room_is))
