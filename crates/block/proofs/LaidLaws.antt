-- Laws of blocks as they lie in a file: of an accepted file they are its blocks.
-- Assumes nothing.
use mathlib.Core.Path.{◌≡◌, refl, sym, ap, ◌∙◌, subst}
use mathlib.Core.List.{List, []}
use Prim.Native.Nat.{ℕ, ◌+◌, ◌-◌, ◌≤◌, ◌<◌}
use native.Mathlib.Omega.{arith}
use lib.ListN.{length, take}
use lib.Seq.{length-take-le}
use Rattle.outcome.specs.Outcome.{Outcome, answer, refused}
use Rattle.outcome.proofs.OutcomeLaws.{answer_injective, bind⁻¹, bind_answer, bind_refused}
use Rattle.items.specs.Items.{sound_from}
use Rattle.items.specs.declared.Step.{Step}
use Rattle.items.proofs.ItemsLaws.{items⇒sound, items⇒sound_same}
use Rattle.framing.specs.declared.Frame.{Frame}
use Rattle.framing.specs.Frame.{frame_at}
use Rattle.framing.proofs.FrameLaws.{sound_frame⁻¹, frame⇒Framed}
use Rattle.payload.specs.Payload.{Text, Entry, text_at, entry_at, payload_at, records_at, entries_at}
use Rattle.payload.proofs.ReadLaws.{payload⁻¹}
use Rattle.block.specs.Block.{Block, block_in, block_at, block_step, blocks_at}
use Rattle.block.specs.Laid.{laid_items, laid_records, laid_entries, laid_in, laid_at, laid_from}
use Rattle.block.proofs.BlockLaws.{data_level, not_data_level, ordinary_level, block⇒BlockRead, reserved_level}
use Rattle.block.proofs.BlockLaws.{inside_data, inside_index, inside_reserved, LevelOf, is_data_lem, is_index, is_reserved, level_of_lem}

-- ---- the block at an offset

module _ (file : List ℕ) (at : ℕ) where
  pub laid_found : (f : Frame) → frame_at file at ≡ answer f → laid_at file at ≡ answer (record { item = laid_in file f; next = at + f.size })
  unfolding laid_at
  laid_found f e = bind_answer (frame_at file at) _ f e

  pub laid_refused : (number place : ℕ) → frame_at file at ≡ refused number place → laid_at file at ≡ refused number place
  unfolding laid_at
  laid_refused number place e = bind_refused (frame_at file at) _ number place e

-- ---- a step over a block, taken apart

module _ (file : List ℕ) where
  pub record LaidStep (at : ℕ) (s : Step Block) : Type 0 where
    pub framed : frame_at file at ≡ answer s.item.frame
    pub block_is : laid_in file s.item.frame ≡ s.item
    pub next_is : s.next ≡ at + s.item.frame.size

  pub laid⁻¹ : (at : ℕ) (s : Step Block) → laid_at file at ≡ answer s → LaidStep at s
  unfolding laid_at laid_in
  laid⁻¹ at s e =
      let all = bind⁻¹ (frame_at file at) _ s e in
      subst (LaidStep at) (answer_injective _ s all.2) (record { framed = all.1; block_is = refl; next_is = refl })

  pub laid_forward : (at : ℕ) (s : Step Block) → laid_at file at ≡ answer s → at < s.next
  laid_forward at s e =
      let q = laid⁻¹ at s e in
      let next = q.next_is in
      let l = frame⇒Framed file at s.item.frame q.framed in
      let number = l.number in
      let some = l.some in
      let sized = l.sized in
      omega arith

-- ---- items by level

module _ (file : List ℕ) (f : Frame) where
  -- a data block has its records, and no entries
  pub laid_data : f.level ≡ 0 → (laid_records file f ≡ laid_items file text_at f) × (laid_entries file f ≡ [])
  unfolding laid_records laid_entries
  laid_data h = (rw (data_level f.level h), rw (data_level f.level h))

  -- an index block has its entries, and no records
  pub laid_index : (f.level ≡ 0 → ⊥) → f.level ≤ 63 → (laid_records file f ≡ []) × (laid_entries file f ≡ laid_items file entry_at f)
  unfolding laid_records laid_entries
  laid_index h few = (rw (not_data_level f.level h), rw (not_data_level f.level h, ordinary_level f.level few))

  -- only a data block has records
  pub laid_no_records : (f.level ≡ 0 → ⊥) → laid_records file f ≡ []
  unfolding laid_records
  laid_no_records h = rw (not_data_level f.level h)

  -- a reserved block has no entries
  pub laid_reserved : 63 < f.level → laid_entries file f ≡ []
  unfolding laid_entries
  laid_reserved h = rw (not_data_level f.level (λ z. omega arith), reserved_level f.level h)

-- ---- a block that was accepted

module _ (file : List ℕ) (f : Frame) (within : f.end ≤ length file) where
  ends : length (take f.end file) ≡ f.end
  ends = length-take-le f.end file within

  items_laid : {A : Type 0} (step : ℕ → List ℕ → ℕ → Outcome (Step A)) (text_of : A → Text) (unsorted : ℕ) (xs : List A)
      → payload_at (step f.start (take f.end file)) text_of unsorted f.start (length (take f.end file)) (f.body + 1) ≡ answer xs → laid_items file step f ≡ xs
  unfolding laid_items
  items_laid step text_of unsorted xs e =
      let s = take f.end file in
      ap (λ (n : ℕ). sound_from (step f.start s) n (n - (f.body + 1)) (f.body + 1)) (sym ends)
      ∙ items⇒sound (step f.start s) (length s) (length s - (f.body + 1)) (f.body + 1) xs
      (payload⁻¹ (step f.start s) text_of unsorted f.start (length s) (f.body + 1) xs e).items

  -- the block in a frame
  pub inside⇒laid : (b : Block) → block_in file f ≡ answer b → laid_in file f ≡ b
  unfolding laid_in records_at entries_at
  inside⇒laid b e = go (level_of_lem f.level)
    where
      joined : f ≡ b.frame → laid_records file f ≡ b.records → laid_entries file f ≡ b.entries → laid_in file f ≡ b
      joined frame records entries =
          ap (λ (g : Frame). record { frame = g; records = laid_records file f; entries = laid_entries file f }) frame
          ∙ ap (λ (rs : List Text). record { frame = b.frame; records = rs; entries = laid_entries file f }) records
          ∙ ap (λ (es : List Entry). record { frame = b.frame; records = b.records; entries = es }) entries

      go : LevelOf f.level → laid_in file f ≡ b
      go (is_data_lem level) =
          let r = inside_data file f b e level in
          let l = laid_data file f level in
          joined (sym r.1) (l.0 ∙ items_laid text_at (λ x. x) 16 b.records r.0) (l.1 ∙ sym r.2)
      go (is_index some few) =
          let r = inside_index file f b e (λ z. omega arith) few in
          let l = laid_index file f (λ z. omega arith) few in
          joined (sym r.1) (l.0 ∙ sym r.2) (l.1 ∙ items_laid entry_at (λ x. x.key) 21 b.entries r.0)
      go (is_reserved many) =
          let r = inside_reserved file f b e many in
          joined (sym r.0) (laid_no_records file f (λ z. omega arith) ∙ sym r.1) (laid_reserved file f many ∙ sym r.2)

pub block⇒laid : (file : List ℕ) (at : ℕ) (b : Block) → block_at file at ≡ answer b → laid_at file at ≡ answer (record { item = b; next = at + b.frame.size })
block⇒laid file at b e =
    let r = block⇒BlockRead file at b e in
    let within = r.framed.within in
    laid_found file at b.frame (sound_frame⁻¹ file at b.frame r.sound).0
    ∙ ap (λ (c : Block). answer (record { item = c; next = at + b.frame.size })) (inside⇒laid file b.frame (omega arith) b r.inside)

pub step⇒laid : (file : List ℕ) (at : ℕ) (s : Step Block) → block_step file at ≡ answer s → laid_at file at ≡ answer s
unfolding block_step
step⇒laid file at s e =
    let all = bind⁻¹ (block_at file at) _ s e in
    block⇒laid file at all.0 all.1 ∙ ap answer (answer_injective (record { item = all.0; next = at + all.0.frame.size }) s all.2)

-- of an accepted file the blocks as they lie are its blocks
pub blocks⇒laid : (file : List ℕ) (from : ℕ) (bs : List Block) → blocks_at file from ≡ answer bs → laid_from file from ≡ bs
unfolding blocks_at laid_from
blocks⇒laid file from bs e = items⇒sound_same (block_step file) (laid_at file) (length file) (step⇒laid file) (length file - from) from bs e
