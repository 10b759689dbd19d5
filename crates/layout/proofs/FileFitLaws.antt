-- The data blocks and the index blocks of a written file can be read back, where the records rise and the file is not too long.
-- Assumes nothing.
use mathlib.Core.Path.{◌≡◌, refl, sym, ap, subst}
use mathlib.Core.Bool.{true}
use mathlib.Core.Logic.{◌⊎◌, inl, inr}
use mathlib.Core.Option.{Option, none, some}
use mathlib.Core.List.Memᴰ
use mathlib.Core.List.{List, [], ◌∷◌, ◌++◌, flat_map, Memᴰ}
use Prim.Native.Nat.{ℕ, suc, ◌+◌, ◌^◌, ◌≤◌}
use native.Mathlib.Omega.{arith}
use lib.ListN.{length, length-append}
use Rattle.lists.specs.Groups.{first_or, last_or}
use Rattle.byte_string.specs.Order.{AreBytes}
use Rattle.byte_string.proofs.BytesLaws.{bytes_left, bytes_right}
use Rattle.payload.specs.Payload.{rising}
use Rattle.layout.specs.Blocks.{block_size, records_bytes, data_bytes}
use Rattle.layout.specs.Index.{IndexEntry, IndexBlock, entry_bytes, index_bytes, index_over}
use Rattle.layout.specs.File.{key_for, data_entries, data_part, index_blocks, blocks_part}
use Rattle.layout.proofs.ReadBackLaws.{length_block}
use Rattle.layout.proofs.PayloadBackLaws.{flat_map_length, key_length_lem}
use Rattle.layout.proofs.BlockBackLaws.{DataFit, IndexFit, data_some}
use Rattle.layout.proofs.KeyForLaws.{key_bytes}
use Rattle.layout.proofs.KeyLaws.{Filled, data_keys_rise, rising_group}
use Rattle.layout.proofs.IndexFitLaws.{EntriesFit, BlockFits, levels_fit, levels_low}
use Rattle.layout.proofs.LaidBytesLaws.{flat_map_bytes, member_bytes, first_record_bytes, entry_bytes_lem}

-- ---- the entries over the data blocks

pub length-data_entries : (before : Option (List ℕ)) (at : ℕ) (blocks : List (List (List ℕ))) → length (data_entries before at blocks) ≡ length blocks
unfolding data_entries
length-data_entries before at [] = refl
length-data_entries before at (rs ∷ more) = ap suc (length-data_entries (some (last_or {A = List ℕ} [] rs)) _ more)

-- a block takes at least a byte
few_blocks : (blocks : List (List (List ℕ))) → length blocks ≤ length (flat_map data_bytes blocks)
unfolding flat_map
few_blocks [] = omega arith
few_blocks (rs ∷ more) = let rest = few_blocks more in let some = data_some rs in let sum = length-append (data_bytes rs) (flat_map data_bytes more) in omega arith

-- where the block that an entry names lies, and its key
record Named (at end : ℕ) (e : IndexEntry) : Type 0 where
  within : e.offset + e.size ≤ end
  bytes : AreBytes e.key

data_named : (before : Option (List ℕ)) (at end : ℕ) (blocks : List (List (List ℕ))) → AreBytes (flat_map records_bytes blocks)
    → at + length (flat_map data_bytes blocks) ≤ end
    → (e : IndexEntry) → Memᴰ e (data_entries before at blocks) → Named at end e
unfolding data_entries flat_map
data_named before at end [] h ends e m = absurd (Memᴰ.not-nil m)
data_named before at end (rs ∷ more) h ends e m =
    go (Memᴰ.cases_cons m)
    (data_named (some (last_or [] rs)) (at + length (data_bytes rs)) end more (bytes_right (records_bytes rs) (flat_map records_bytes more) h)
    (let s = sum in omega arith) e)
  where
    sum : length (data_bytes rs ++ flat_map data_bytes more) ≡ length (data_bytes rs) + length (flat_map data_bytes more)
    sum = length-append (data_bytes rs) (flat_map data_bytes more)

    first : IndexEntry
    first = record { key = key_for before (first_or [] rs); offset = at; size = length (data_bytes rs) }

    go : (e ≡ first) ⊎ Memᴰ e (data_entries (some (last_or [] rs)) (at + length (data_bytes rs)) more)
        → (Memᴰ e (data_entries (some (last_or [] rs)) (at + length (data_bytes rs)) more) → Named (at + length (data_bytes rs)) end e) → Named at end e
    go (inl same) rest =
        subst (Named at end) (sym same)
        (record {
          within = let s = sum in omega arith;
          bytes = key_bytes before (first_or [] rs) (first_record_bytes rs (bytes_left (records_bytes rs) (flat_map records_bytes more) h));
        })
    go (inr later) rest = let r = rest later in record { within = r.within; bytes = r.bytes }

-- ---- records that rise in blocks that are not empty, and a file that is not too long

-- the data blocks alone
pub datas_fit : (from : ℕ) (blocks : List (List (List ℕ))) → Filled blocks → rising (flat_map (λ rs. rs) blocks) ≡ true → AreBytes (flat_map records_bytes blocks)
    → from + length (flat_map data_bytes blocks) ≤ 2 ^ 30 → (rs : List (List ℕ)) → Memᴰ rs blocks → DataFit rs
unfolding data_bytes block_size
datas_fit from blocks filled sorted bytes short rs m =
    let inside = flat_map_length data_bytes blocks rs m in
    let long = length_block 0 (records_bytes rs) in
    record {
      some = filled rs m;
      sorted = rising_group blocks sorted rs m;
      short = omega arith;
      bytes = member_bytes records_bytes blocks bytes rs m;
    }

module _ (per_index from : ℕ) (blocks : List (List (List ℕ))) (two : 2 ≤ per_index) (filled : Filled blocks) (sorted : rising (flat_map (λ rs. rs) blocks) ≡ true)
    (bytes : AreBytes (flat_map records_bytes blocks)) (short : from + length (blocks_part per_index from blocks) ≤ 2 ^ 30) where
  length_parts : length (blocks_part per_index from blocks) ≡ length (flat_map data_bytes blocks) + length (flat_map index_bytes (index_blocks per_index from blocks))
  unfolding blocks_part data_part
  length_parts = length-append (flat_map data_bytes blocks) (flat_map index_bytes (index_blocks per_index from blocks))

  pub data_fit : (rs : List (List ℕ)) → Memᴰ rs blocks → DataFit rs
  data_fit = let all = length_parts in datas_fit from blocks filled sorted bytes (omega arith)

  pub data_entries_fit : EntriesFit (2 ^ 30) (data_entries none from blocks)
  data_entries_fit =
      let all = length_parts in
      record {
        sorted = data_keys_rise from blocks filled sorted;
        within = λ e m. (data_named none from (2 ^ 30) blocks bytes (omega arith) e m).within;
        bytes = λ e m. (data_named none from (2 ^ 30) blocks bytes (omega arith) e m).bytes;
      }

  pub index_fits : (b : IndexBlock) → Memᴰ b (index_blocks per_index from blocks) → BlockFits (2 ^ 30) b
  unfolding index_blocks index_over data_part
  index_fits b m =
      let all = length_parts in
      levels_fit per_index (omega arith) (2 ^ 30) (length (data_entries none from blocks)) 1 (from + length (flat_map data_bytes blocks))
      (data_entries none from blocks)
      data_entries_fit (omega arith) b m

  pub index_levels : (b : IndexBlock) → Memᴰ b (index_blocks per_index from blocks) → (1 ≤ b.level) × (b.level ≤ 31)
  unfolding index_blocks index_over
  index_levels b m =
      let all = length_parts in
      let few = few_blocks blocks in
      let long = length-data_entries none from blocks in
      levels_low per_index two (length (data_entries none from blocks)) 30 1 _ (data_entries none from blocks) (omega arith) b m

  pub index_fit : (b : IndexBlock) → Memᴰ b (index_blocks per_index from blocks) → IndexFit b
  unfolding index_bytes block_size
  index_fit b m = go (index_fits b m) (index_levels b m)
    where
      go : BlockFits (2 ^ 30) b → (1 ≤ b.level) × (b.level ≤ 31) → IndexFit b
      go fit level =
          let long = length_block b.level (flat_map entry_bytes b.entries) in
          let inside = fit.inside in
          let low = level.0 in
          let high = level.1 in
          record {
            low = low;
            high = omega arith;
            some = fit.some;
            sorted = fit.entries_fit.sorted;
            short = omega arith;
            numbers = λ e n. let w = fit.entries_fit.within e n in (omega arith, omega arith);
            bytes = flat_map_bytes entry_bytes b.entries
                (λ e n. let w = fit.entries_fit.within e n in
                let k = key_length_lem b.entries e n in
                entry_bytes_lem e (omega arith) (omega arith) (omega arith) (fit.entries_fit.bytes e n));
          }
