-- Data blocks and index blocks are read back, and so are all blocks of a file.
-- Assumes nothing.
use mathlib.Core.Path.{◌≡◌, refl, sym, ap, ap₂, ◌∙◌}
use mathlib.Core.Bool.{true}
use mathlib.Core.List.{List, [], ◌∷◌, ◌++◌, flat_map, map, Memᴰ}
use Prim.Native.Nat.{ℕ, ◌+◌, ◌-◌, ◌^◌, ◌≤◌, ◌<◌}
use native.Mathlib.Omega.{arith}
use lib.ListN.{length, take, length-append}
use lib.Seq.{length-take-le}
use Rattle.byte_string.specs.Order.{AreBytes}
use Rattle.uleb128.specs.Encoding.{encoding}
use Rattle.outcome.specs.Outcome.{answer}
use Rattle.outcome.proofs.OutcomeLaws.{bind_answer}
use Rattle.framing.specs.Frame.{sound_frame_at}
use Rattle.payload.specs.Payload.{rising, records_at, entries_at}
use Rattle.block.specs.Block.{Block, block_in, block_at, block_step, blocks_at}
use Rattle.block.proofs.BlockLaws.{data_level, not_data_level, ordinary_level, block_data, block_index}
use Rattle.layout.specs.Blocks.{block_bytes, block_size, records_bytes, data_bytes}
use Rattle.layout.specs.Index.{IndexEntry, IndexBlock, entry_bytes, index_bytes}
use Rattle.layout.specs.Placed.{placed_frame, placed_data, placed_datas, placed_index}
use Rattle.layout.proofs.LiesLaws.{Lies, lies_within, lies_front, lies_back}
use Rattle.layout.proofs.ReadBackLaws.{length_block, sound_frame_back}
use Rattle.layout.proofs.ItemsBackLaws.{placed_by, items_back_then, items_back}
use Rattle.layout.proofs.PayloadBackLaws.{SmallNumbers, records_back, entries_back}
use Rattle.layout.proofs.ChildBackLaws.{payload_lies}
use Rattle.layout.proofs.SideBySideLaws.{SideBySide}

-- the frame's size is that of the block's bytes, and the payload ends where the frame says
module _ (s : List ℕ) (at level : ℕ) (payload : List ℕ) (l : Lies s at (block_bytes level payload)) where
  payload_ends : (placed_frame level at (length payload)).body + 1 + length payload ≡ length (take (placed_frame level at (length payload)).end s)
  unfolding placed_frame block_size
  payload_ends =
      let inside = lies_within s at (block_bytes level payload) l in
      let long = length_block level payload in
      let taken = length-take-le (at + length (encoding (length payload + 1)) + (length payload + 1)) s (omega arith) in
      omega arith

-- ---- a data block

-- records that a data block can hold
pub record DataFit (rs : List (List ℕ)) : Type 0 where
  pub some : 0 < length rs
  pub sorted : rising rs ≡ true
  pub short : length (records_bytes rs) + 1 < 2 ^ 63
  pub bytes : AreBytes (records_bytes rs)

pub data_back : (file : List ℕ) (at : ℕ) (rs : List (List ℕ)) → DataFit rs → Lies file at (data_bytes rs) → block_at file at ≡ answer (placed_data at rs)
unfolding block_at data_bytes placed_data placed_frame AreBytes
data_back file at rs fit l =
    let payload = records_bytes rs in
    let f = placed_frame 0 at (length payload) in
    let small = fit.short in
    bind_answer (sound_frame_at file at) (block_in file) f (sound_frame_back file at 0 payload l small (omega arith, fit.bytes))
    ∙ block_data file f (data_level 0 refl)
    ∙ bind_answer (records_at at (take f.end file) (f.body + 1)) _ _
    (records_back at (take f.end file) (f.body + 1) rs fit.some fit.sorted (omega arith)
    (payload_lies file at 0 payload l) (payload_ends file at 0 payload l))

-- ---- an index block

-- entries that an index block of this level can hold
pub record IndexFit (b : IndexBlock) : Type 0 where
  pub low : 1 ≤ b.level
  pub high : b.level ≤ 63
  pub some : 0 < length b.entries
  pub sorted : rising (map (λ (e : IndexEntry). e.key) b.entries) ≡ true
  pub short : length (flat_map entry_bytes b.entries) + 1 < 2 ^ 63
  pub numbers : SmallNumbers b.entries
  pub bytes : AreBytes (flat_map entry_bytes b.entries)

-- as it is found at an offset
unfoldable pub index_at : (at : ℕ) → IndexBlock → Block
index_at at b = placed_index (record { level = b.level; offset = at; entries = b.entries })

pub index_back : (file : List ℕ) (at : ℕ) (b : IndexBlock) → IndexFit b → Lies file at (index_bytes b) → block_at file at ≡ answer (index_at at b)
unfolding block_at index_bytes index_at placed_index placed_frame AreBytes
index_back file at b fit l =
    let payload = flat_map entry_bytes b.entries in
    let f = placed_frame b.level at (length payload) in
    let small = fit.short in
    let low = fit.low in
    let high = fit.high in
    bind_answer (sound_frame_at file at) (block_in file) f (sound_frame_back file at b.level payload l small (omega arith, fit.bytes))
    ∙ block_index file f (not_data_level b.level (λ z. omega arith)) (ordinary_level b.level high)
    ∙ bind_answer (entries_at at (take f.end file) (f.body + 1)) _ _
    (entries_back at (take f.end file) (f.body + 1) b.entries fit.some fit.sorted (omega arith) fit.numbers
    (payload_lies file at b.level payload l)
    (payload_ends file at b.level payload l))

-- where its own offset is where it lies
pub index_placed_back : (file : List ℕ) (b : IndexBlock) → IndexFit b → Lies file b.offset (index_bytes b) → block_at file b.offset ≡ answer (placed_index b)
unfolding index_at
index_placed_back file b fit l = index_back file b.offset b fit l

-- ---- all blocks

-- a block and where the next one begins
pub data_step_back : (file : List ℕ) (at : ℕ) (rs : List (List ℕ)) → DataFit rs → Lies file at (data_bytes rs)
    → block_step file at ≡ answer (record { item = placed_data at rs; next = at + length (data_bytes rs) })
unfolding block_step placed_data placed_frame data_bytes
data_step_back file at rs fit l =
    bind_answer (block_at file at) _ (placed_data at rs) (data_back file at rs fit l)
    ∙ ap (λ (n : ℕ). answer (record { item = placed_data at rs; next = at + n })) (sym (length_block 0 (records_bytes rs)))

pub index_step_back : (file : List ℕ) (at : ℕ) (b : IndexBlock) → IndexFit b → Lies file at (index_bytes b)
    → block_step file at ≡ answer (record { item = index_at at b; next = at + length (index_bytes b) })
unfolding block_step index_at placed_index placed_frame index_bytes
index_step_back file at b fit l =
    bind_answer (block_at file at) _ (index_at at b) (index_back file at b fit l)
    ∙ ap (λ (n : ℕ). answer (record { item = index_at at b; next = at + n })) (sym (length_block b.level (flat_map entry_bytes b.entries)))

pub data_some : (rs : List (List ℕ)) → 0 < length (data_bytes rs)
unfolding data_bytes block_size
data_some rs = let long = length_block 0 (records_bytes rs) in omega arith

pub index_some : (b : IndexBlock) → 0 < length (index_bytes b)
unfolding index_bytes block_size
index_some b = let long = length_block b.level (flat_map entry_bytes b.entries) in omega arith

-- as found one by one
pub placed_datas_lem : (at : ℕ) (blocks : List (List (List ℕ))) → placed_datas at blocks ≡ placed_by data_bytes placed_data at blocks
unfolding placed_datas placed_by
placed_datas_lem at [] = refl
placed_datas_lem at (rs ∷ more) = ap (λ (l : List Block). placed_data at rs ∷ l) (placed_datas_lem (at + length (data_bytes rs)) more)

pub placed_indexes : (at : ℕ) (bs : List IndexBlock) → SideBySide at bs → map placed_index bs ≡ placed_by index_bytes index_at at bs
unfolding placed_by index_at SideBySide
placed_indexes at [] h = refl
placed_indexes at (b ∷ bs) h = ap₂ (λ (n : ℕ) (l : List Block). index_at n b ∷ l) h.0 (placed_indexes (at + length (index_bytes b)) bs h.1)

-- data blocks and then index blocks, up to the end of the file
pub blocks_back : (file : List ℕ) (from : ℕ) (blocks : List (List (List ℕ))) (index : List IndexBlock)
    → ((rs : List (List ℕ)) → Memᴰ rs blocks → DataFit rs) → ((b : IndexBlock) → Memᴰ b index → IndexFit b)
    → SideBySide (from + length (flat_map data_bytes blocks)) index → Lies file from (flat_map data_bytes blocks ++ flat_map index_bytes index)
    → from + length (flat_map data_bytes blocks ++ flat_map index_bytes index) ≡ length file
    → blocks_at file from ≡ answer (placed_datas from blocks ++ map placed_index index)
unfolding blocks_at
blocks_back file from blocks index datas indexes beside l h =
    let D = flat_map data_bytes blocks in
    let X = flat_map index_bytes index in
    let long = length-append D X in
    items_back_then data_bytes placed_data (block_step file) file data_some (length file) (placed_by index_bytes index_at (from + length D) index) blocks
    (λ rs m a k. data_step_back file a rs (datas rs m) k) from (length file - from) (lies_front file from D X l) (omega arith) (omega arith)
    (λ more k. items_back index_bytes index_at (block_step file) file index_some (length file) index (λ b m a j. index_step_back file a b (indexes b m) j)
    (from + length D) more (lies_back file from D X l) (omega arith) k)
    ∙ ap₂ (λ (xs ys : List Block). answer (xs ++ ys)) (sym (placed_datas_lem from blocks)) (sym (placed_indexes (from + length D) index beside))
