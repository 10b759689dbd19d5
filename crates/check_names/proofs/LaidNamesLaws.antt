-- Laws of the blocks as they lie in a file: each has the frame at its start and the items of that frame, and their starts ascend.
-- Assumes nothing.
use mathlib.Core.Path.{◌≡◌, sym, ap, ◌∙◌, subst}
use mathlib.Core.List.{List, [], map, Memᴰ}
use Prim.Native.Nat.{ℕ, ◌+◌, ◌-◌, ◌≤◌, ◌<◌}
use native.Mathlib.Omega.{arith}
use lib.ListN.{length}
use Rattle.outcome.specs.Outcome.{answer}
use Rattle.items.specs.declared.Step.{Step}
use Rattle.items.proofs.RunLaws.{Run, run_end, run_more, sound⇒run, ReadFrom, run_member}
use Rattle.lists.proofs.ListsLaws.{Ascending, AscendingIn, ascending_wider, ascending_all}
use Rattle.framing.specs.Frame.{frame_at}
use Rattle.framing.proofs.FrameLaws.{frame⇒Framed}
use Rattle.payload.specs.Payload.{entry_at}
use Rattle.block.specs.Block.{Block}
use Rattle.block.specs.Laid.{laid_items, laid_entries, laid_in, laid_at, laid_from}
use Rattle.block.proofs.LaidLaws.{LaidStep, laid⁻¹, laid_forward, laid_data, laid_index, laid_reserved}

module _ (file : List ℕ) where
  -- ---- one block

  -- a block that lies in the file: the frame at its start is its own, and its items are those of the frame
  pub record LaidBlock (b : Block) : Type 0 where
    pub framed : frame_at file b.frame.start ≡ answer b.frame
    pub block_is : laid_in file b.frame ≡ b
    pub within : b.frame.start < length file

  step⇒laid : (at : ℕ) (s : Step Block) → at < length file → LaidStep file at s → LaidBlock s.item
  step⇒laid at s before q =
      let starts = (frame⇒Framed file at s.item.frame q.framed).starts in
      record { framed = ap (frame_at file) starts ∙ q.framed; block_is = q.block_is; within = omega arith }

  pub laid_member : (from : ℕ) (b : Block) → Memᴰ b (laid_from file from) → LaidBlock b
  unfolding laid_from
  laid_member from b m =
      go (run_member (laid_at file) (length file) (laid_forward file) from _ (sound⇒run (laid_at file) (length file) (length file - from) from) b m)
    where
      go : ReadFrom (laid_at file) (length file) from b → LaidBlock b
      go q = subst LaidBlock q.is_item (step⇒laid q.read_at q.read q.before (laid⁻¹ file q.read_at q.read q.stepped))

  -- ---- entries by level

  module _ (b : Block) (l : LaidBlock b) where
    entries_are : b.entries ≡ laid_entries file b.frame
    unfolding laid_in
    entries_are = sym (ap (λ (c : Block). c.entries) l.block_is)

    -- a data block and a reserved block have no entries
    pub data_entries_lem : b.frame.level ≡ 0 → b.entries ≡ []
    data_entries_lem level = entries_are ∙ (laid_data file b.frame level).1

    pub reserved_entries : 63 < b.frame.level → b.entries ≡ []
    reserved_entries level = entries_are ∙ laid_reserved file b.frame level

    -- those of an index block are the items of its payload
    pub index_entries : (b.frame.level ≡ 0 → ⊥) → b.frame.level ≤ 63 → b.entries ≡ laid_items file entry_at b.frame
    index_entries some level = entries_are ∙ (laid_index file b.frame some level).1

  -- ---- the starts

  run_ascending : (end at : ℕ) (bs : List Block) → Run (laid_at file) (length file) at bs → at ≤ end → length file ≤ end
      → AscendingIn at end (map (λ b. b.frame.start) bs)
  unfolding AscendingIn
  run_ascending end at bs run_end inside long = inside
  run_ascending end at bs (run_more s more h e r) inside long =
      let q = laid⁻¹ file at s e in
      let next = q.next_is in
      let l = frame⇒Framed file at s.item.frame q.framed in
      let starts = l.starts in
      let forward = laid_forward file at s e in
      let within = l.within in
      let rest = run_ascending end s.next more r (omega arith) long in
      (omega arith, ascending_wider s.next end (s.item.frame.start + 1) end (map (λ b. b.frame.start) more) (omega arith) (omega arith) rest)

  pub laid_ascend : (from : ℕ) → Ascending (map (λ b. b.frame.start) (laid_from file from))
  unfolding laid_from
  laid_ascend from =
      ascending_all from (from + length file) _
      (run_ascending (from + length file) from _ (sound⇒run (laid_at file) (length file) (length file - from) from) (omega arith) (omega arith))
