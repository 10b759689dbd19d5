-- Blocks are read back as they lie, up to the end of the bytes or to where a frame is refused.
-- Assumes nothing.
use mathlib.Core.Path.{◌≡◌, refl, sym, ap, ap₂, ◌∙◌}
use mathlib.Core.Bool.{Bool, true, false}
use mathlib.Core.List.{List, [], ◌++◌, flat_map, map, append-nil, Memᴰ}
use Prim.Native.Nat.{ℕ, zero, suc, ◌+◌, ◌-◌, ◌≤◌, ◌<◌}
use native.Mathlib.Omega.{arith}
use lib.Dec.{leb}
use lib.ListN.{length, get_or, length-append}
use borrow.Author.Tests.{leb-true, leb-false}
use Rattle.outcome.specs.Outcome.{refused}
use Rattle.outcome.proofs.OutcomeLaws.{bind_answer}
use Rattle.items.specs.Items.{sound_from}
use Rattle.items.proofs.ItemsLaws.{sound_end, sound_refused}
use Rattle.framing.specs.Frame.{number_at, framed, frame_at}
use Rattle.framing.proofs.FrameLaws.{number_of_byte, framed_empty}
use Rattle.block.specs.Block.{Block}
use Rattle.block.specs.Laid.{laid_at, laid_from}
use Rattle.block.proofs.LaidLaws.{laid_refused, step⇒laid}
use Rattle.layout.specs.Blocks.{records_bytes, data_bytes}
use Rattle.layout.specs.Index.{IndexBlock, index_bytes}
use Rattle.layout.specs.File.{unfinished_header, blocks_start}
use Rattle.layout.specs.Placed.{placed_data, placed_datas, placed_index}
use Rattle.layout.proofs.LiesLaws.{Lies, lies_last, lies_within, lies_front, lies_back}
use Rattle.layout.proofs.ItemsBackLaws.{placed_by, sound_back_then}
use Rattle.layout.proofs.SideBySideLaws.{SideBySide}
use Rattle.layout.proofs.BlockBackLaws.{DataFit, IndexFit, data_step_back, index_step_back, data_some, index_some, index_at, placed_datas_lem, placed_indexes}
use Rattle.layout.proofs.HeaderBackLaws.{length_unfinished}
use Rattle.layout.proofs.FileBackLaws.{payload_of, data_payloads}

-- no block is read from here on
unfoldable pub NoneFrom : (s : List ℕ) (to : ℕ) → Type 0
NoneFrom s to = (fuel : ℕ) → sound_from (laid_at s) (length s) fuel to ≡ []

pub none_at_end : (s : List ℕ) (to : ℕ) → length s ≤ to → NoneFrom s to
unfolding NoneFrom
none_at_end s to h fuel = sound_end (laid_at s) (length s) fuel to h

-- a zero begins no frame
zero_refused : (s : List ℕ) (at : ℕ) → at < length s → get_or s at 0 ≡ 0 → frame_at s at ≡ refused 13 at
unfolding frame_at
zero_refused s at h z =
    bind_answer (number_at 10 at s at) (framed s at) (record { item = 0; next = at + 1 })
    (number_of_byte 10 at s at 0 (at + 1) h (omega arith) (sym z) refl)
    ∙ framed_empty s at (record { item = 0; next = at + 1 }) (omega arith)

pub none_at_zero : (s : List ℕ) (to : ℕ) → get_or s to 0 ≡ 0 → NoneFrom s to
unfolding NoneFrom sound_from
none_at_zero s to z fuel = go fuel (leb (length s) to) refl
  where
    go : (n : ℕ) (b : Bool) → leb (length s) to ≡ b → sound_from (laid_at s) (length s) n to ≡ []
    go n true h = sound_end (laid_at s) (length s) n to (leb-true (length s) to h)
    go zero false h = refl
    go (suc n) false h =
        let before = leb-false (length s) to h in
        sound_refused (laid_at s) (length s) n to 13 to before (laid_refused s to 13 to (zero_refused s to before z))

-- data blocks, and none after them
pub data_laid_then : (s : List ℕ) (from : ℕ) (blocks : List (List (List ℕ))) → ((rs : List (List ℕ)) → Memᴰ rs blocks → DataFit rs)
    → Lies s from (flat_map data_bytes blocks) → NoneFrom s (from + length (flat_map data_bytes blocks)) → laid_from s from ≡ placed_datas from blocks
unfolding laid_from NoneFrom
data_laid_then s from blocks datas l after =
    sound_back_then data_bytes placed_data (laid_at s) s data_some (length s) [] blocks
    (λ rs m a k. step⇒laid s a _ (data_step_back s a rs (datas rs m) k)) from (length s - from) l (lies_within s from _ l) (omega arith)
    (λ more k. after more)
    ∙ append-nil _ ∙ sym (placed_datas_lem from blocks)

-- data blocks up to the end
module _ (s : List ℕ) (from : ℕ) (blocks : List (List (List ℕ))) (datas : (rs : List (List ℕ)) → Memᴰ rs blocks → DataFit rs)
    (l : Lies s from (flat_map data_bytes blocks)) (ends : from + length (flat_map data_bytes blocks) ≡ length s) where
  pub data_laid_back : laid_from s from ≡ placed_datas from blocks
  data_laid_back = data_laid_then s from blocks datas l (none_at_end s _ (omega arith))

  -- their payloads, joined, are the records, joined
  pub data_payloads_laid : flat_map (payload_of s) (laid_from s from) ≡ flat_map records_bytes blocks
  data_payloads_laid = ap (flat_map (payload_of s)) data_laid_back ∙ data_payloads s from blocks l

-- an unfinished file, and nothing after its data blocks
module _ (metadata : List ℕ) (blocks : List (List (List ℕ))) (datas : (rs : List (List ℕ)) → Memᴰ rs blocks → DataFit rs) where
  abbrev whole : List ℕ
  whole = unfinished_header metadata ++ flat_map data_bytes blocks

  lie : Lies whole (blocks_start metadata) (flat_map data_bytes blocks)
  lie = lies_last whole (unfinished_header metadata) (flat_map data_bytes blocks) (blocks_start metadata) refl (sym (length_unfinished metadata))

  ends_there : blocks_start metadata + length (flat_map data_bytes blocks) ≡ length whole
  ends_there =
      ap (λ (n : ℕ). n + length (flat_map data_bytes blocks)) (sym (length_unfinished metadata))
      ∙ sym (length-append (unfinished_header metadata) (flat_map data_bytes blocks))

  pub unfinished_laid_back : laid_from (unfinished_header metadata ++ flat_map data_bytes blocks) (blocks_start metadata) ≡ placed_datas (blocks_start metadata) blocks
  unfinished_laid_back = data_laid_back whole (blocks_start metadata) blocks datas lie ends_there

  pub unfinished_payloads_laid : flat_map (payload_of (unfinished_header metadata ++ flat_map data_bytes blocks))
      (laid_from (unfinished_header metadata ++ flat_map data_bytes blocks) (blocks_start metadata))
      ≡ flat_map records_bytes blocks
  unfinished_payloads_laid = data_payloads_laid whole (blocks_start metadata) blocks datas lie ends_there

-- data blocks and then index blocks, and none after them
pub blocks_laid_then : (s : List ℕ) (from : ℕ) (blocks : List (List (List ℕ))) (index : List IndexBlock)
    → ((rs : List (List ℕ)) → Memᴰ rs blocks → DataFit rs) → ((b : IndexBlock) → Memᴰ b index → IndexFit b)
    → SideBySide (from + length (flat_map data_bytes blocks)) index → Lies s from (flat_map data_bytes blocks ++ flat_map index_bytes index)
    → NoneFrom s (from + length (flat_map data_bytes blocks ++ flat_map index_bytes index))
    → laid_from s from ≡ placed_datas from blocks ++ map placed_index index
unfolding laid_from NoneFrom
blocks_laid_then s from blocks index datas indexes beside l after =
    let D = flat_map data_bytes blocks in
    let X = flat_map index_bytes index in
    let long = length-append D X in
    let inside = lies_within s from (D ++ X) l in
    let sum : from + length (D ++ X) ≡ from + length D + length X = omega arith in
    sound_back_then data_bytes placed_data (laid_at s) s data_some (length s) (placed_by index_bytes index_at (from + length D) index ++ []) blocks
    (λ rs m a k. step⇒laid s a _ (data_step_back s a rs (datas rs m) k)) from (length s - from) (lies_front s from D X l) (omega arith) (omega arith)
    (λ more k. sound_back_then index_bytes index_at (laid_at s) s index_some (length s) [] index
    (λ b m a j. step⇒laid s a _ (index_step_back s a b (indexes b m) j))
    (from + length D) more (lies_back s from D X l) (omega arith) k
    (λ rest j. ap (λ (n : ℕ). sound_from (laid_at s) (length s) rest n) (sym sum) ∙ after rest))
    ∙ ap₂ (λ (xs ys : List Block). xs ++ ys) (sym (placed_datas_lem from blocks)) (append-nil _ ∙ sym (placed_indexes (from + length D) index beside))
