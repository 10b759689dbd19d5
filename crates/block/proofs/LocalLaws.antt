-- What was read depends only on its own bytes and the length of the file.
-- Assumes nothing.
use mathlib.Core.Path.{◌≡◌, sym, ap, ap₂, ◌∙◌}
use mathlib.Core.Bool.{cond}
use mathlib.Core.List.{List, [], map}
use Prim.Native.Nat.{ℕ, ◌+◌, ◌-◌, ◌≤◌, ◌<◌, min}
use native.Mathlib.Omega.{arith}
use lib.Dec.{leb, ltb, eqb}
use lib.ListN.{length, take, drop, get_or, length-take}
use lib.Seq.{take-take}
use Rattle.uleb128.specs.Number.{number, reading}
use Rattle.uleb128.proofs.NumberLaws.{number_local}
use Rattle.endian.specs.FixedWidth.{little_endian}
use Rattle.crc64.specs.Crc64.{crc64}
use Rattle.outcome.specs.Outcome.{Outcome, answer, ◌>>=◌, ◌>>◌, must}
use Rattle.items.specs.Items.{sound_from}
use Rattle.items.specs.declared.Step.{Step}
use Rattle.part.specs.Part.{part}
use Rattle.outcome.proofs.OutcomeLaws.{bind_answer, bind_same, bind⁻¹}
use Rattle.part.proofs.PartLaws.{drop-take, drop_later, part_later, get_or_inside, part_inside}
use Rattle.items.proofs.ItemsLaws.{items_agree, sound_agree}
use Rattle.framing.specs.declared.Frame.{Frame}
use Rattle.framing.specs.Frame.{read_as, number_at, framed, frame_at, crc_right, sound_frame_at}
use Rattle.payload.specs.Payload.{Text, text_at, entry_at, entry_sized, payload_at, records_at, entries_at, rising}
use Rattle.payload.proofs.ReadLaws.{text_forward, entry_forward}
use Rattle.block.specs.Block.{Block, is_data, is_ordinary, block_in, block_at}
use Rattle.framing.proofs.FrameLaws.{numbered, number_read, Framed, frame⇒Framed, framed_found, framed⁻¹, frame_of, sound_frame, sound_frame⁻¹}
use Rattle.block.proofs.BlockLaws.{block⇒BlockRead}

-- ---- byte strings of the same length that agree from an offset on

module _ (s t : List ℕ) (sized : length s ≡ length t) where
  pub number_agree : (cut place at : ℕ) → drop at s ≡ drop at t → number_at cut place s at ≡ number_at cut place t at
  unfolding number_at
  number_agree cut place at e = ap (λ (l : List ℕ). read_as cut place at (reading l)) e

  pub text_agree : (place at : ℕ) → drop at s ≡ drop at t → text_at place s at ≡ text_at place t at
  unfolding text_at
  text_agree place at e = bind_same (number_at 15 place s at) (number_at 15 place t at) _ _ (number_agree 15 place at e)
      (λ n p. same n (part_later s t at n.next n.item (forward n p) e))
    where
      forward : (n : Step ℕ) → number_at 15 place s at ≡ answer n → at ≤ n.next
      forward n p = let f = (numbered 15 place s at n p).forward in omega arith

      found : (long : ℕ) → Step ℕ → List ℕ → Outcome (Step Text)
      found long n bytes = must (leb (n.next + n.item) long) 15 place >> answer (record { item = record { at = n.next; bytes = bytes }; next = n.next + n.item })

      same : (n : Step ℕ) → part s n.next n.item ≡ part t n.next n.item
          → found (length s) n (part s n.next n.item) ≡ found (length t) n (part t n.next n.item)
      same n q = ap₂ (λ (k : ℕ) (l : List ℕ). found k n l) sized q

  pub entry_agree : (place at : ℕ) → drop at s ≡ drop at t → entry_at place s at ≡ entry_at place t at
  unfolding entry_at entry_sized
  entry_agree place at e =
      bind_same (text_at place s at) (text_at place t at) _ _ (text_agree place at e)
      (λ key p.
      let k = after_key key p in
      bind_same (number_at 15 place s key.next) (number_at 15 place t key.next) _ _ (number_agree 15 place key.next k)
      (λ offset q.
      ap (λ o. o >>= λ size. answer (record { item = record { key = key.item; offset = offset.item; size = size.item }; next = size.next }))
      (number_agree 15 place offset.next (after_offset key.next offset q k))))
    where
      after_key : (key : Step Text) → text_at place s at ≡ answer key → drop key.next s ≡ drop key.next t
      after_key key p = let f = text_forward place s at key p in drop_later s t at key.next (omega arith) e

      after_offset : (from : ℕ) (n : Step ℕ) → number_at 15 place s from ≡ answer n → drop from s ≡ drop from t → drop n.next s ≡ drop n.next t
      after_offset from n p k = let f = (numbered 15 place s from n p).forward in drop_later s t from n.next (omega arith) k

-- ways to read items that agree from an offset on
payload_agree : {A : Type 0} (step other : ℕ → Outcome (Step A)) (text_of : A → Text) (unsorted place end at : ℕ) → ((a : ℕ) (x : Step A) → step a ≡ answer x → a < x.next)
    → ((a : ℕ) → at ≤ a → step a ≡ other a) → payload_at step text_of unsorted place end at ≡ payload_at other text_of unsorted place end at
unfolding payload_at
payload_agree {A} step other text_of unsorted place end at forward same =
    ap (λ (o : Outcome (List A)). must (ltb at end) 15 place >> (o >>= λ xs. must (rising (map (λ x. (text_of x).bytes) xs)) unsorted place >> answer xs))
    (items_agree step other end at forward same (end - at) at (omega arith))

module _ (s t : List ℕ) (sized : length s ≡ length t) (place at : ℕ) (e : drop at s ≡ drop at t) where
  texts_agree : (a : ℕ) → at ≤ a → text_at place s a ≡ text_at place t a
  texts_agree a h = text_agree s t sized place a (drop_later s t at a h e)

  keyed_agree : (a : ℕ) → at ≤ a → entry_at place s a ≡ entry_at place t a
  keyed_agree a h = entry_agree s t sized place a (drop_later s t at a h e)

  -- the same records, or the same refusal
  pub records_agree : records_at place s at ≡ records_at place t at
  unfolding records_at
  records_agree =
      payload_agree (text_at place s) (text_at place t) (λ r. r) 16 place (length s) at (text_forward place s) texts_agree
      ∙ ap (λ (n : ℕ). payload_at (text_at place t) (λ r. r) 16 place n at) sized

  pub entries_agree : entries_at place s at ≡ entries_at place t at
  unfolding entries_at
  entries_agree =
      payload_agree (entry_at place s) (entry_at place t) (λ x. x.key) 21 place (length s) at (entry_forward place s) keyed_agree
      ∙ ap (λ (n : ℕ). payload_at (entry_at place t) (λ x. x.key) 21 place n at) sized

  -- the same items in front of the first refusal
  pub sound_records_agree : (end fuel : ℕ) → sound_from (text_at place s) end fuel at ≡ sound_from (text_at place t) end fuel at
  sound_records_agree end fuel = sound_agree (text_at place s) (text_at place t) end at (text_forward place s) texts_agree fuel at (omega arith)

  pub sound_entries_agree : (end fuel : ℕ) → sound_from (entry_at place s) end fuel at ≡ sound_from (entry_at place t) end fuel at
  sound_entries_agree end fuel = sound_agree (entry_at place s) (entry_at place t) end at (entry_forward place s) keyed_agree fuel at (omega arith)

-- ---- files of the same length that agree on a part

module _ (file t : List ℕ) (at : ℕ) where
  -- a number that lies within the part
  pub number_at_local : (cut place n : ℕ) (x : Step ℕ) → number_at cut place file at ≡ answer x → x.next ≤ at + n → part t at n ≡ part file at n → number_at cut place t at ≡ answer x
  unfolding number_at read_as part
  number_at_local cut place n x e h same = go (number_read cut place file at x e)
    where
      go : (used : ℕ) × (reading (drop at file) ≡ number x.item used) × (x.next ≡ at + used) → number_at cut place t at ≡ answer x
      go r =
          let used = r.0 in
          let ends = r.2 in
          let own : take used (drop at t) ≡ take used (drop at file) = sym (take-take used n (drop at t) (omega arith)) ∙ ap (take used) same ∙ take-take used n (drop at file) (omega arith) in
          ap (read_as cut place at) (number_local (drop at file) (drop at t) x.item used r.1 own)
          ∙ ap (λ (k : ℕ). answer (record { item = x.item; next = k })) (sym ends)

  -- the frame at an offset whose number L has been read
  framed_local : (L : Step ℕ) (f : Frame) → at < L.next → (1 ≤ L.item) × (L.next + L.item + 8 ≤ length file) × (f ≡ frame_of file at L)
      → length t ≡ length file → part t at f.size ≡ part file at f.size → framed t at L ≡ answer f
  framed_local L f forward all long same =
      let size : f.size ≡ L.next + L.item + 8 - at = ap (λ (g : Frame). g.size) all.2 in
      let some = all.0 in
      let within : L.next + L.item + 8 ≤ length t = omega (arith, all.1) in
      let level : get_or t L.next 0 ≡ get_or file L.next 0 = get_or_inside t file at f.size same L.next (omega arith) (omega arith) in
      framed_found t at L some within
      ∙ ap (λ (k : ℕ). answer (record { start = at; size = L.next + L.item + 8 - at; level = k; body = L.next; end = L.next + L.item })) level
      ∙ ap answer (sym all.2)

  pub frame_local : (f : Frame) → frame_at file at ≡ answer f → length t ≡ length file → part t at f.size ≡ part file at f.size → frame_at t at ≡ answer f
  unfolding frame_at
  frame_local f e long same =
      let first = bind⁻¹ (number_at 10 at file at) (framed file at) f e in
      go first.0 first.1 (framed⁻¹ file at first.0 f first.2)
    where
      go : (L : Step ℕ) → number_at 10 at file at ≡ answer L → (1 ≤ L.item) × (L.next + L.item + 8 ≤ length file) × (f ≡ frame_of file at L) → (number_at 10 at t at >>= framed t at) ≡ answer f
      go L p all =
          let forward = (numbered 10 at file at L p).forward in
          let size : f.size ≡ L.next + L.item + 8 - at = ap (λ (g : Frame). g.size) all.2 in
          bind_answer (number_at 10 at t at) (framed t at) L (number_at_local 10 at f.size L p (omega arith) same)
          ∙ framed_local L f forward all long same

  crc_local : (f : Frame) → Framed file at f → part t at f.size ≡ part file at f.size → crc_right t f.body f.end ≡ crc_right file f.body f.end
  unfolding crc_right
  crc_local f l same =
      let number = l.number in
      let some = l.some in
      let sized = l.sized in
      ap₂ (λ (crc bytes : List ℕ). eqb (little_endian crc) (crc64 bytes))
      (part_inside t file at f.size same f.end 8 (omega arith) (omega arith))
      (part_inside t file at f.size same f.body (f.end - f.body) (omega arith) (omega arith))

  pub sound_frame_local : (f : Frame) → sound_frame_at file at ≡ answer f → length t ≡ length file → part t at f.size ≡ part file at f.size → sound_frame_at t at ≡ answer f
  sound_frame_local f e long same =
      let parts = sound_frame⁻¹ file at f e in
      sound_frame t at f (frame_local f parts.0 long same) (crc_local f (frame⇒Framed file at f parts.0) same ∙ parts.1)

  -- the payloads have the same length and agree from the level byte on
  payload_long : (f : Frame) → length t ≡ length file → length (take f.end t) ≡ length (take f.end file)
  payload_long f long = length-take f.end t ∙ ap (min f.end) long ∙ sym (length-take f.end file)

  payload_same : (f : Frame) → Framed file at f → part t at f.size ≡ part file at f.size → drop (f.body + 1) (take f.end t) ≡ drop (f.body + 1) (take f.end file)
  unfolding part
  payload_same f l same =
      let number = l.number in
      let some = l.some in
      let sized = l.sized in
      drop-take (f.body + 1) f.end t
      ∙ part_inside t file at f.size same (f.body + 1) (f.end - (f.body + 1)) (omega arith) (omega arith)
      ∙ sym (drop-take (f.body + 1) f.end file)

  block_in_local : (f : Frame) → Framed file at f → length t ≡ length file → part t at f.size ≡ part file at f.size → block_in t f ≡ block_in file f
  unfolding block_in
  block_in_local f l long same =
      ap₂ (λ rs es. cond (is_data f.level) (rs >>= λ xs. answer (record { frame = f; records = xs; entries = [] })) (cond (is_ordinary f.level) (es >>= λ xs. answer (record { frame = f; records = []; entries = xs })) (answer (record { frame = f; records = []; entries = [] }))))
      (records_agree (take f.end t) (take f.end file) (payload_long f long) f.start (f.body + 1) (payload_same f l same))
      (entries_agree (take f.end t) (take f.end file) (payload_long f long) f.start (f.body + 1) (payload_same f l same))

  pub block_local : (b : Block) → block_at file at ≡ answer b → length t ≡ length file → part t at b.frame.size ≡ part file at b.frame.size → block_at t at ≡ answer b
  unfolding block_at
  block_local b e long same =
      let r = block⇒BlockRead file at b e in
      bind_answer (sound_frame_at t at) (block_in t) b.frame (sound_frame_local b.frame r.sound long same)
      ∙ block_in_local b.frame r.framed long same
      ∙ r.inside
