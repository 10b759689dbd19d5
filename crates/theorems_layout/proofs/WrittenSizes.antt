-- Laws of the sizes of written blocks.
-- Assumes nothing.
use mathlib.Core.Path.{◌≡◌, refl}
use mathlib.Core.Logic.{◌≢◌}
use mathlib.Core.List.{List, [], ◌∷◌, flat_map}
use Prim.Native.Nat.{ℕ, ◌+◌, ◌≤◌}
use native.Mathlib.Omega.{arith}
use lib.ListN.{length, length-append}
use Rattle.uleb128.specs.Encoding.{encoding}
use Rattle.uleb128.proofs.EncodingLaws.{encoding_some}
use Rattle.layout.specs.Blocks.{text_bytes, block_size, records_bytes, data_bytes}
use Rattle.layout.specs.Index.{IndexBlock, entry_bytes, index_bytes}
use Rattle.layout.proofs.ReadBackLaws.{length_block, text_some}

pub length_data : (rs : List (List ℕ)) → length (data_bytes rs) ≡ block_size (length (records_bytes rs))
unfolding data_bytes
length_data rs = length_block 0 (records_bytes rs)

pub length_index : (b : IndexBlock) → length (index_bytes b) ≡ block_size (length (flat_map entry_bytes b.entries))
unfolding index_bytes
length_index b = length_block b.level (flat_map entry_bytes b.entries)

-- the number, and payload, level byte and CRC
pub block_size_parts : (payload : ℕ) → block_size payload ≡ length (encoding (payload + 1)) + (payload + 9)
unfolding block_size
block_size_parts payload = refl

-- a data block with a record takes at least 11 bytes
pub data_least : (rs : List (List ℕ)) → rs ≢ [] → 11 ≤ length (data_bytes rs)
unfolding records_bytes flat_map
data_least [] some = absurd (some refl)
data_least (r ∷ rs) some =
    let size = length_data (r ∷ rs) in
    let parts = block_size_parts (length (records_bytes (r ∷ rs))) in
    let number = encoding_some (length (records_bytes (r ∷ rs)) + 1) in
    let sum = length-append (text_bytes r) (records_bytes rs) in
    let first = text_some r in
    omega arith
