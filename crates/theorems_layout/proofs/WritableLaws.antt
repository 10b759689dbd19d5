-- Which blocks can be written: the records of an input in groups, where the file is not too long.
-- Assumes nothing.
use mathlib.Core.Path.{◌≡◌, refl, sym, ap, ◌∙◌}
use mathlib.Core.Logic.{◌≢◌}
use mathlib.Core.Bool.{true}
use mathlib.Core.List.{List, [], ◌∷◌, ◌++◌, flat_map, Memᴰ}
use Prim.Native.Nat.{ℕ, ◌+◌, ◌*◌, ◌^◌, ◌≤◌}
use native.Mathlib.Omega.{arith}
use lib.ListN.{length, length-append}
use Rattle.lists.specs.Groups.{groups}
use Rattle.lists.proofs.GroupsLaws.{groups_member}
use Rattle.sha256.specs.Sha256.{sha256}
use Rattle.payload.specs.Payload.{rising}
use Rattle.layout.specs.Blocks.{data_bytes, records_bytes}
use Rattle.layout.specs.Index.{index_bytes}
use Rattle.layout.specs.File.{header_bytes, header_data, blocks_start, data_part, index_blocks, blocks_part, root_entry, file_of}
use Rattle.layout.proofs.IndexFitLaws.{groups_joined}
use Rattle.theorems_check.proofs.SortedLaws.{rising⇒Sorted}
use Rattle.theorems_layout.specs.WrittenTree.{joined, Writable}
use Rattle.theorems_layout.proofs.WrittenSizes.{data_least}

-- ---- a file of at most 2^30 bytes has at most 2^27 data blocks

datas_least : (blocks : List (List (List ℕ))) → ((rs : List (List ℕ)) → Memᴰ rs blocks → rs ≢ [])
    → 11 * length blocks ≤ length (flat_map data_bytes blocks)
unfolding flat_map
datas_least [] each = omega arith
datas_least (rs ∷ more) each =
    let first = data_least rs (each rs (Memᴰ.head refl)) in
    let rest = datas_least more (λ xs m. each xs (Memᴰ.tail m)) in
    let sum = length-append (data_bytes rs) (flat_map data_bytes more) in
    omega arith

pub file_few : (metadata : List ℕ) (blocks : List (List (List ℕ))) (per_index : ℕ) → ((rs : List (List ℕ)) → Memᴰ rs blocks → rs ≢ [])
    → length (file_of metadata blocks per_index) ≤ 2 ^ 30 → length blocks ≤ 2 ^ 27
unfolding file_of blocks_part data_part
file_few metadata blocks per_index each short =
    let from = blocks_start metadata in
    let root = root_entry per_index from blocks in
    let index = flat_map index_bytes (index_blocks per_index from blocks) in
    let all = flat_map data_bytes blocks ++ index in
    let front = header_bytes (header_data metadata root.offset root.size (from + length all) (sha256 (flat_map records_bytes blocks))) in
    let sum = length-append front all in
    let parts = length-append (flat_map data_bytes blocks) index in
    let least = datas_least blocks each in
    omega arith

-- ---- blocks that can be written

pub file_writable : (metadata : List ℕ) (blocks : List (List (List ℕ))) (per_index : ℕ) → 2 ≤ per_index → blocks ≢ []
    → ((rs : List (List ℕ)) → Memᴰ rs blocks → rs ≢ []) → rising (joined blocks) ≡ true → length (file_of metadata blocks per_index) ≤ 2 ^ 30
    → Writable per_index blocks
file_writable metadata blocks per_index two some each rise short =
    record { two = two; few = file_few metadata blocks per_index each short; some = some; each = each; rise = rising⇒Sorted (joined blocks) rise }

-- the records of the groups are those of the list
pub joined_groups : (n : ℕ) → 1 ≤ n → (rs : List (List ℕ)) → joined (groups n rs) ≡ rs
unfolding joined
joined_groups n h rs = groups_joined n h rs

pub groups_writable : (metadata : List ℕ) (rs : List (List ℕ)) (per_block per_index : ℕ) → 1 ≤ per_block → 2 ≤ per_index → rs ≢ [] → rising rs ≡ true
    → length (file_of metadata (groups per_block rs) per_index) ≤ 2 ^ 30 → Writable per_index (groups per_block rs)
unfolding joined flat_map
groups_writable metadata rs per_block per_index one two some rise short =
    file_writable metadata (groups per_block rs) per_index two
    (λ none. some (sym (joined_groups per_block one rs) ∙ ap joined none))
    (λ g m none. let long = (groups_member per_block one rs g m).0 in let z = ap length none in omega arith)
    (ap rising (joined_groups per_block one rs) ∙ rise) short
