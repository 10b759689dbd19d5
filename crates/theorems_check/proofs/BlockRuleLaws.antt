-- A block that stands in the file is the one that is read there, and blocks that tile the file are those that are all read.
-- Assumes nothing.
use mathlib.Core.Path.{◌≡◌, refl, sym, ap, ◌∙◌, subst, subst⁻¹}
use mathlib.Core.Logic.{◌≢◌}
use mathlib.Core.Bool.{true}
use mathlib.Core.List.{List, [], map}
use Prim.Native.Nat.{ℕ, ◌+◌, ◌-◌, ◌≤◌, ◌<◌}
use native.Mathlib.Omega.{arith}
use lib.Dec.{ltb}
use lib.ListN.{length, take}
use lib.Seq.{length-take-le}
use borrow.Author.Tests.{lt-ltb, eqb-true, eq-eqb}
use Rattle.outcome.specs.Outcome.{Outcome, answer}
use Rattle.items.specs.Items.{items_from}
use Rattle.items.specs.declared.Step.{Step}
use Rattle.outcome.proofs.OutcomeLaws.{answer_injective, kept, bind_answer, bind⁻¹}
use Rattle.framing.specs.declared.Frame.{Frame}
use Rattle.framing.specs.Frame.{number_at, framed, frame_at, crc_right, sound_frame_at}
use Rattle.payload.specs.Payload.{Text, Entry, text_at, entry_at, rising, payload_at, records_at, entries_at}
use Rattle.block.specs.Block.{Block, block_in, block_at, block_step, blocks_at}
use Rattle.framing.proofs.FrameLaws.{frame_of, framed_found, framed⁻¹, sound_frame, sound_frame⁻¹}
use Rattle.block.proofs.BlockLaws.{data_level, not_data_level, ordinary_level, reserved_level, block_data, block_index, block_reserved, block⇒BlockRead, BlockRead}
use Rattle.block.proofs.BlockLaws.{inside_data, inside_index, inside_reserved, LevelOf, is_data_lem, is_index, is_reserved, level_of_lem}
use Rattle.payload.proofs.ReadLaws.{payload⁻¹}
use Rattle.theorems_check.specs.Rules.{NumberIn, TextIn, EntryIn, Fill, Sorted, FrameIn, BlockIn, is_data_block, is_index_block, is_reserved_block, Stands}
use Rattle.theorems_check.proofs.FillLaws.{fill_empty, fill_some, items⇒Fill, Fill⇒items}
use Rattle.theorems_check.proofs.ItemRuleLaws.{number⇒NumberIn, NumberIn⇒number, NumberIn⇒forward, text⇒TextIn, TextIn⇒text, TextIn⇒forward}
use Rattle.theorems_check.proofs.ItemRuleLaws.{entry⇒EntryIn, EntryIn⇒entry, EntryIn⇒forward}
use Rattle.theorems_check.proofs.SortedLaws.{rising⇒Sorted, Sorted⇒rising}

-- ---- frames

module _ (file : List ℕ) (at : ℕ) where
  pub frame⇒FrameIn : (f : Frame) → sound_frame_at file at ≡ answer f → FrameIn file at f
  unfolding frame_at crc_right
  frame⇒FrameIn f e =
      let sound = sound_frame⁻¹ file at f e in
      let first = bind⁻¹ (number_at 10 at file at) (framed file at) f sound.0 in
      let L = first.0 in
      let all = framed⁻¹ file at L f first.2 in
      subst⁻¹ (FrameIn file at) all.2
      (laid L (number⇒NumberIn 10 at file at L first.1) all.0 all.1
      (subst (λ (g : Frame). crc_right file g.body g.end ≡ true) all.2 sound.1))
    where
      laid : (L : Step ℕ) → NumberIn file at L.next L.item → 1 ≤ L.item → L.next + L.item + 8 ≤ length file → crc_right file L.next (L.next + L.item) ≡ true → FrameIn file at (frame_of file at L)
      laid L stands some long right =
          let forward = NumberIn⇒forward file at L.next L.item stands in
          let bytes : L.next + L.item - L.next ≡ L.item = omega arith in
          record {
            starts = refl;
            numbered = subst⁻¹ (NumberIn file at L.next) bytes stands;
            some = omega arith;
            leveled = refl;
            sized = omega arith;
            within = omega arith;
            checked = eqb-true _ _ right;
          }

  -- a frame is its five numbers
  same_frame : (f : Frame) (start size level body end : ℕ) → start ≡ f.start → size ≡ f.size → level ≡ f.level → body ≡ f.body → end ≡ f.end
      → record { start = start; size = size; level = level; body = body; end = end } ≡ f
  same_frame f start size level body end a b c d e = rw (a, b, c, d, e)

  pub FrameIn⇒frame : (f : Frame) → FrameIn file at f → sound_frame_at file at ≡ answer f
  unfolding frame_at crc_right
  FrameIn⇒frame f h =
      let L : Step ℕ = record { item = f.end - f.body; next = f.body } in
      let some = h.some in
      let sized = h.sized in
      let within = h.within in
      sound_frame file at f
      (bind_answer (number_at 10 at file at) (framed file at) L (NumberIn⇒number 10 at file at f.body (f.end - f.body) h.numbered)
      ∙ framed_found file at L (omega arith) (omega arith)
      ∙ ap answer (same_frame f _ _ _ _ _ (sym h.starts) (omega arith) (sym h.leveled) refl (omega arith)))
      (eq-eqb _ _ h.checked)

-- ---- payloads

module _ {A : Type 0} (step : ℕ → Outcome (Step A)) (Standing : ℕ → ℕ → A → Type 0) (text_of : A → Text) (unsorted place end : ℕ)
    (stands : (at : ℕ) (s : Step A) → step at ≡ answer s → Standing at s.next s.item)
    (steps : (at next : ℕ) (x : A) → Standing at next x → step at ≡ answer (record { item = x; next = next }))
    (forward : (at next : ℕ) (x : A) → Standing at next x → (at < next) × (next ≤ end)) where
  payload⇒Fill : (at : ℕ) (xs : List A) → payload_at step text_of unsorted place end at ≡ answer xs → Fill Standing end at xs × (xs ≢ []) × Sorted (map (λ x. (text_of x).bytes) xs)
  payload⇒Fill at xs e =
      let p = payload⁻¹ step text_of unsorted place end at xs e in
      let before = p.some in
      let fill = items⇒Fill step Standing end stands steps forward (end - at) at xs (omega arith) (omega arith) p.items in
      (fill, (λ none. let past = fill_empty Standing end at xs fill none in omega arith), rising⇒Sorted _ p.sorted)

  Fill⇒payload : (at : ℕ) (xs : List A) → Fill Standing end at xs → xs ≢ [] → Sorted (map (λ x. (text_of x).bytes) xs) → payload_at step text_of unsorted place end at ≡ answer xs
  unfolding payload_at
  Fill⇒payload at xs fill some sorted =
      kept (ltb at end) 15 place _ (lt-ltb at end (fill_some Standing end forward at xs fill some))
      ∙ bind_answer (items_from step end (end - at) at) _ xs (Fill⇒items step Standing end stands steps forward (end - at) at xs fill (omega arith))
      ∙ kept (rising (map (λ x. (text_of x).bytes) xs)) unsorted place _ (Sorted⇒rising _ sorted)

module _ (place : ℕ) (s : List ℕ) (end : ℕ) (ends : length s ≡ end) (at : ℕ) where
  records⇒Fill : (rs : List Text) → records_at place s at ≡ answer rs → Fill (TextIn s) end at rs × (rs ≢ []) × Sorted (map (λ r. r.bytes) rs)
  unfolding records_at
  records⇒Fill rs e =
      subst (λ (k : ℕ). Fill (TextIn s) k at rs × (rs ≢ []) × Sorted (map (λ r. r.bytes) rs)) ends
      (payload⇒Fill (text_at place s) (TextIn s) (λ r. r) 16 place (length s) (text⇒TextIn place s) (TextIn⇒text place s) (TextIn⇒forward s) at rs e)

  Fill⇒records : (rs : List Text) → Fill (TextIn s) end at rs → rs ≢ [] → Sorted (map (λ r. r.bytes) rs) → records_at place s at ≡ answer rs
  unfolding records_at
  Fill⇒records rs fill some sorted =
      Fill⇒payload (text_at place s) (TextIn s) (λ r. r) 16 place (length s) (text⇒TextIn place s) (TextIn⇒text place s) (TextIn⇒forward s) at rs
      (subst⁻¹ (λ (k : ℕ). Fill (TextIn s) k at rs) ends fill) some sorted

  entries⇒Fill : (xs : List Entry) → entries_at place s at ≡ answer xs → Fill (EntryIn s) end at xs × (xs ≢ []) × Sorted (map (λ x. x.key.bytes) xs)
  unfolding entries_at
  entries⇒Fill xs e =
      subst (λ (k : ℕ). Fill (EntryIn s) k at xs × (xs ≢ []) × Sorted (map (λ x. x.key.bytes) xs)) ends
      (payload⇒Fill (entry_at place s) (EntryIn s) (λ x. x.key) 21 place (length s) (entry⇒EntryIn place s) (EntryIn⇒entry place s) (EntryIn⇒forward s) at xs e)

  Fill⇒entries : (xs : List Entry) → Fill (EntryIn s) end at xs → xs ≢ [] → Sorted (map (λ x. x.key.bytes) xs) → entries_at place s at ≡ answer xs
  unfolding entries_at
  Fill⇒entries xs fill some sorted =
      Fill⇒payload (entry_at place s) (EntryIn s) (λ x. x.key) 21 place (length s) (entry⇒EntryIn place s) (EntryIn⇒entry place s) (EntryIn⇒forward s) at xs
      (subst⁻¹ (λ (k : ℕ). Fill (EntryIn s) k at xs) ends fill) some sorted

-- ---- blocks

module _ (file : List ℕ) (at : ℕ) where
  -- the file up to the end of the payload
  payload_long : (f : Frame) → FrameIn file at f → length (take f.end file) ≡ f.end
  payload_long f h = let sized = h.sized in let within = h.within in length-take-le f.end file (omega arith)

  pub block⇒BlockIn : (b : Block) → block_at file at ≡ answer b → BlockIn file at b
  block⇒BlockIn b e = by_level (frame⇒FrameIn file at f read.sound) (level_of_lem f.level)
    where
      read : BlockRead file at b
      read = block⇒BlockRead file at b e

      f : Frame
      f = b.frame

      by_level : FrameIn file at f → LevelOf f.level → BlockIn file at b
      by_level stands (is_data_lem zero) =
          let r = inside_data file f b read.inside zero in
          let held = records⇒Fill f.start (take f.end file) f.end (payload_long f stands) (f.body + 1) b.records r.0 in
          is_data_block stands zero held.0 held.1 held.2 r.2
      by_level stands (is_index some few) =
          let r = inside_index file f b read.inside (λ z. omega arith) few in
          let held = entries⇒Fill f.start (take f.end file) f.end (payload_long f stands) (f.body + 1) b.entries r.0 in
          is_index_block stands some few held.0 held.1 held.2 r.2
      by_level stands (is_reserved high) = let r = inside_reserved file f b read.inside high in is_reserved_block stands high r.1 r.2

  pub BlockIn⇒block : (b : Block) → BlockIn file at b → block_at file at ≡ answer b
  unfolding block_at
  BlockIn⇒block b (is_data_block stands zero fill some sorted none) =
      let f = b.frame in
      bind_answer (sound_frame_at file at) (block_in file) f (FrameIn⇒frame file at f stands)
      ∙ block_data file f (data_level f.level zero)
      ∙ bind_answer _ _ b.records (Fill⇒records f.start (take f.end file) f.end (payload_long f stands) (f.body + 1) b.records fill some sorted)
      ∙ ap (λ (xs : List Entry). answer (record { frame = f; records = b.records; entries = xs })) (sym none)
  BlockIn⇒block b (is_index_block stands low high fill some sorted none) =
      let f = b.frame in
      bind_answer (sound_frame_at file at) (block_in file) f (FrameIn⇒frame file at f stands)
      ∙ block_index file f (not_data_level f.level (λ z. omega arith)) (ordinary_level f.level high)
      ∙ bind_answer _ _ b.entries (Fill⇒entries f.start (take f.end file) f.end (payload_long f stands) (f.body + 1) b.entries fill some sorted)
      ∙ ap (λ (rs : List Text). answer (record { frame = f; records = rs; entries = b.entries })) (sym none)
  BlockIn⇒block b (is_reserved_block stands high none neither) =
      let f = b.frame in
      bind_answer (sound_frame_at file at) (block_in file) f (FrameIn⇒frame file at f stands)
      ∙ block_reserved file f (not_data_level f.level (λ z. omega arith)) (reserved_level f.level high)
      ∙ ap (λ (rs : List Text). answer (record { frame = f; records = rs; entries = [] })) (sym none)
      ∙ ap (λ (xs : List Entry). answer (record { frame = f; records = b.records; entries = xs })) (sym neither)

  pub block_frame : (b : Block) → BlockIn file at b → FrameIn file at b.frame
  block_frame b (is_data_block stands zero fill some sorted none) = stands
  block_frame b (is_index_block stands low high fill some sorted none) = stands
  block_frame b (is_reserved_block stands high none neither) = stands

-- ---- blocks that tile the file

module _ (file : List ℕ) where
  step⇒Stands : (at : ℕ) (s : Step Block) → block_step file at ≡ answer s → Stands file at s.next s.item
  unfolding block_step Stands
  step⇒Stands at s e =
      let all = bind⁻¹ (block_at file at) _ s e in
      subst (λ (t : Step Block). BlockIn file at t.item × (t.next ≡ at + t.item.frame.size)) (answer_injective _ s all.2) (block⇒BlockIn file at all.0 all.1, refl)

  Stands⇒step : (at next : ℕ) (b : Block) → Stands file at next b → block_step file at ≡ answer (record { item = b; next = next })
  unfolding block_step Stands
  Stands⇒step at next b h =
      bind_answer (block_at file at) _ b (BlockIn⇒block file at b h.0) ∙ ap (λ (a : ℕ). answer (record { item = b; next = a })) (sym h.1)

  pub block_forward : (at next : ℕ) (b : Block) → Stands file at next b → (at < next) × (next ≤ length file)
  unfolding Stands
  block_forward at next b h =
      let f = block_frame file at b h.0 in
      let ends = h.1 in
      let number = NumberIn⇒forward file at b.frame.body _ f.numbered in
      let some = f.some in
      let sized = f.sized in
      let within = f.within in
      (omega arith, omega arith)

  pub blocks⇒Fill : (at : ℕ) (bs : List Block) → at ≤ length file → blocks_at file at ≡ answer bs → Fill (Stands file) (length file) at bs
  unfolding blocks_at
  blocks⇒Fill at bs h e = items⇒Fill (block_step file) (Stands file) (length file) step⇒Stands Stands⇒step block_forward (length file - at) at bs (omega arith) h e

  pub Fill⇒blocks : (at : ℕ) (bs : List Block) → Fill (Stands file) (length file) at bs → blocks_at file at ≡ answer bs
  unfolding blocks_at
  Fill⇒blocks at bs fill = Fill⇒items (block_step file) (Stands file) (length file) step⇒Stands Stands⇒step block_forward (length file - at) at bs fill (omega arith)
