-- Laws of what lies at an offset.
-- Assumes nothing.
use mathlib.Core.Path.{◌≡◌, refl, sym, ap, ◌∙◌, subst}
use mathlib.Core.Bool.{Bool, true, false}
use mathlib.Core.List.{List, []}
use Prim.Native.Nat.{ℕ, ◌+◌, ◌-◌, ◌≤◌}
use native.Mathlib.Omega.{arith}
use lib.Dec.{leb}
use lib.ListN.{length, take}
use lib.Seq.{length-take-le}
use borrow.Author.Tests.{leb-true, leb-false}
use Rattle.outcome.specs.Outcome.{Outcome, answer, refused}
use Rattle.items.specs.Items.{sound_from, where_answered}
use Rattle.items.specs.declared.Step.{Step}
use Rattle.items.proofs.ItemsLaws.{sound_end}
use Rattle.items.proofs.GoingLaws.{Going, going_end, going_refused}
use Rattle.part.specs.declared.Part.{Part}
use Rattle.framing.specs.declared.Frame.{Frame}
use Rattle.framing.specs.Frame.{frame_at}
use Rattle.framing.proofs.FrameLaws.{frame⇒Framed}
use Rattle.payload.specs.Payload.{text_at, entry_at}
use Rattle.block.specs.Block.{Block, block_at}
use Rattle.block.specs.Laid.{laid_items, laid_in}
use Rattle.block.proofs.BlockLaws.{block⇒BlockRead}
use Rattle.block.proofs.HeldLaws.{block_frame}
use Rattle.block.proofs.LaidLaws.{laid_data, laid_index, inside⇒laid}
use Rattle.check_walk.specs.Lookup.{no_part, payload_part, entries_in, records_in}

-- where a part ends
abbrev pub end_of : Part → ℕ
end_of p = p.offset + p.length

-- where no item can be read, a loop over the items has met them all
pub going_over : {A S R : Type 0} (run : List A → S → R) (step : ℕ → Outcome (Step A)) (end : ℕ) (whole : R) (at : ℕ) (s : S)
    → Going run step end whole at s → (number place : ℕ) → step at ≡ refused number place → whole ≡ run [] s
going_over run step end whole at s g number place e = go (leb end at) refl
  where
    go : (b : Bool) → leb end at ≡ b → whole ≡ run [] s
    go true p = going_end run step end whole at s g (leb-true _ _ p)
    go false p = going_refused run step end whole at s (leb-false _ _ p) g number place e

-- ---- the payload at an offset

module _ (file : List ℕ) (at : ℕ) where
  pub payload_found : (f : Frame) → frame_at file at ≡ answer f
      → payload_part (frame_at file at) ≡ record { offset = f.body + 1; length = f.end - (f.body + 1) }
  unfolding payload_part
  payload_found f e = ap payload_part e

  pub payload_none : (number place : ℕ) → frame_at file at ≡ refused number place → payload_part (frame_at file at) ≡ record { offset = 0; length = 0 }
  unfolding payload_part no_part
  payload_none number place e = ap payload_part e

  pub payload_within : end_of (payload_part (frame_at file at)) ≤ length file
  payload_within = go (frame_at file at) refl
    where
      go : (o : Outcome Frame) → frame_at file at ≡ o → end_of (payload_part (frame_at file at)) ≤ length file
      go (answer f) e =
          let l = frame⇒Framed file at f e in
          let some = l.some in
          let sized = l.sized in
          let within = l.within in
          subst (λ (p : Part). end_of p ≤ length file) (sym (payload_found f e)) (omega arith)
      go (refused number place) e = subst (λ (p : Part). end_of p ≤ length file) (sym (payload_none number place e)) (omega arith)

  -- its items are read from its start to its end
  pub items_found : {A : Type 0} (step : ℕ → List ℕ → ℕ → Outcome (Step A)) (p : Part) → p ≡ payload_part (frame_at file at)
      → where_answered (frame_at file at) (laid_items file step) ≡ sound_from (step at (take (end_of p) file)) (end_of p) (end_of p - p.offset) p.offset
  unfolding where_answered laid_items
  items_found {A} step p same = go (frame_at file at) refl
    where
      from_part : Part → List A
      from_part q = sound_from (step at (take (end_of q) file)) (end_of q) (end_of q - q.offset) q.offset

      found : (f : Frame) → frame_at file at ≡ answer f → laid_items file step f ≡ from_part (record { offset = f.body + 1; length = f.end - (f.body + 1) })
      found f e =
          let l = frame⇒Framed file at f e in
          let some = l.some in
          let sum : f.end ≡ f.body + 1 + (f.end - (f.body + 1)) = omega arith in
          ap (λ (s : ℕ). sound_from (step s (take f.end file)) f.end (f.end - (f.body + 1)) (f.body + 1)) l.starts
          ∙ ap (λ (n : ℕ). sound_from (step at (take n file)) n (n - (f.body + 1)) (f.body + 1)) sum

      go : (o : Outcome Frame) → frame_at file at ≡ o → where_answered (frame_at file at) (laid_items file step) ≡ from_part p
      go (answer f) e = ap (λ o. where_answered o (laid_items file step)) e ∙ found f e ∙ ap from_part (sym (same ∙ payload_found f e))
      go (refused number place) e =
          ap (λ o. where_answered o (laid_items file step)) e ∙ sym (sound_end (step at (take 0 file)) 0 0 0 (omega arith)) ∙ ap from_part (sym (same ∙ payload_none number place e))

  -- likewise in the bytes up to the payload's end
  pub items_read : {A : Type 0} (step : ℕ → List ℕ → ℕ → Outcome (Step A)) (p : Part) → p ≡ payload_part (frame_at file at) → (s : List ℕ)
      → s ≡ take (end_of p) file → where_answered (frame_at file at) (laid_items file step) ≡ sound_from (step at s) (length s) (length s - p.offset) p.offset
  items_read step p same s is =
      let within = subst (λ (q : Part). end_of q ≤ length file) (sym same) payload_within in
      let long : end_of p ≡ length s = sym (ap length is ∙ length-take-le (end_of p) file within) in
      items_found step p same
      ∙ ap (λ (l : List ℕ). sound_from (step at l) (end_of p) (end_of p - p.offset) p.offset) (sym is)
      ∙ ap (λ (n : ℕ). sound_from (step at s) n (n - p.offset) p.offset) long

-- ---- a block that was read is found again

module _ (file : List ℕ) (at : ℕ) (b : Block) (read : block_at file at ≡ answer b) where
  block_laid : laid_in file b.frame ≡ b
  block_laid =
      let r = block⇒BlockRead file at b read in
      let sized = r.framed.sized in
      let within = r.framed.within in
      inside⇒laid file b.frame (omega arith) b r.inside

  pub entries_again : 1 ≤ b.frame.level → b.frame.level ≤ 63 → entries_in file at ≡ b.entries
  unfolding entries_in where_answered laid_in
  entries_again some few =
      ap (λ o. where_answered o (laid_items file entry_at)) (block_frame file at b read)
      ∙ sym (laid_index file b.frame (λ z. omega arith) few).1
      ∙ ap (λ (c : Block). c.entries) block_laid

  pub records_again : b.frame.level ≡ 0 → records_in file at ≡ b.records
  unfolding records_in where_answered laid_in
  records_again level =
      ap (λ o. where_answered o (laid_items file text_at)) (block_frame file at b read)
      ∙ sym (laid_data file b.frame level).0
      ∙ ap (λ (c : Block). c.records) block_laid
