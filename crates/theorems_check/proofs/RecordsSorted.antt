-- The records of a file that keeps the rules rise.
-- Assumes nothing.
use mathlib.Core.Path.{◌≡◌, refl, sym, subst}
use mathlib.Core.Logic.{◌⊎◌, inl, inr}
use mathlib.Core.Bool.{true}
use mathlib.Core.List.Memᴰ
use mathlib.Core.List.{List, [], ◌∷◌, ◌++◌, map, flat_map, map-append, Memᴰ}
use Prim.Native.Nat.{ℕ, ◌+◌, ◌≤◌, ◌<◌}
use lib.ListN.{length}
use Rattle.byte_string.specs.Order.{at_most}
use Rattle.lists.proofs.ListsLaws.{Ascending, below_member, ascending_few}
use Rattle.header.specs.Header.{H, header_numbers, blocks_from}
use Rattle.header.proofs.HeaderLaws.{blocks_within}
use Rattle.payload.specs.Payload.{Text, rising}
use Rattle.block.specs.Block.{Block}
use Rattle.block.specs.Survey.{records_of}
use Rattle.block.proofs.TileLaws.{file_record_block, file_records_ascending, tiles_all, blocks_tile}
use Rattle.theorems_check.specs.Rules.{Sorted, no_string, one_string, BlockIn, is_data_block, is_index_block, is_reserved_block}
use Rattle.theorems_check.proofs.SortedLaws.{Sorted⇒rising}
use Rattle.theorems_check.proofs.TiledLaws.{tiled_block}
use Rattle.theorems_check.proofs.AcceptLaws.{Accepted, Accepted⇒Rules}

-- ---- the records of a block

pub records_rise : (file : List ℕ) (at : ℕ) (b : Block) → BlockIn file at b → Sorted (map (λ r. r.bytes) b.records)
records_rise file at b (is_data_block stands level fill filled sorted empty) = sorted
records_rise file at b (is_index_block stands low high fill filled sorted empty) = subst (λ (rs : List Text). Sorted (map (λ r. r.bytes) rs)) (sym empty) no_string
records_rise file at b (is_reserved_block stands high empty neither) = subst (λ (rs : List Text). Sorted (map (λ r. r.bytes) rs)) (sym empty) no_string

-- ---- the records of all blocks

sorted-append : (xs ys : List (List ℕ)) → Sorted xs → Sorted ys → ((x y : List ℕ) → Memᴰ x xs → Memᴰ y ys → at_most x y ≡ true) → Sorted (xs ++ ys)
sorted-append xs ys no_string k h = k
sorted-append xs ys (one_string {x} {xs = more} a s) k h =
    one_string (λ (y : List ℕ) (m : Memᴰ y (more ++ ys)). first y (Memᴰ.append_cases more m))
    (sorted-append more ys s k (λ (v w : List ℕ) (m : Memᴰ v more). h v w (Memᴰ.tail m)))
  where
    first : (y : List ℕ) → Memᴰ y more ⊎ Memᴰ y ys → at_most x y ≡ true
    first y (inl m) = a y m
    first y (inr m) = h x y (Memᴰ.head refl) m

-- where the records of each block rise, and those of a block are at most those of a later one, all records rise
pub records_sorted : (bs : List Block) → Ascending (map (λ b. b.frame.start) bs) → ((b : Block) → Memᴰ b bs → Sorted (map (λ r. r.bytes) b.records))
    → ((a b : Block) → Memᴰ a bs → Memᴰ b bs → a.frame.start < b.frame.start
    → (r s : Text) → Memᴰ r a.records → Memᴰ s b.records → at_most r.bytes s.bytes ≡ true) → Sorted (map (λ r. r.bytes) (records_of bs))
unfolding records_of flat_map Ascending
records_sorted [] rise each ordered = no_string
records_sorted (b ∷ bs) rise each ordered =
    subst Sorted (sym (map-append (λ r. r.bytes) b.records (records_of bs)))
    (sorted-append (map (λ r. r.bytes) b.records) (map (λ r. r.bytes) (records_of bs)) (each b (Memᴰ.head refl))
    (records_sorted bs rise.1 (λ (c : Block) (m : Memᴰ c bs). each c (Memᴰ.tail m))
    (λ (c d : Block) (m : Memᴰ c bs) (n : Memᴰ d bs). ordered c d (Memᴰ.tail m) (Memᴰ.tail n)))
    apart)
  where
    apart : (x y : List ℕ) → Memᴰ x (map (λ r. r.bytes) b.records) → Memᴰ y (map (λ r. r.bytes) (records_of bs)) → at_most x y ≡ true
    apart x y m n =
        let r = Memᴰ.of_map (λ (u : Text). u.bytes) b.records m in
        let s = Memᴰ.of_map (λ (u : Text). u.bytes) (records_of bs) n in
        let c = file_record_block bs s.0 s.1 in
        let less = below_member (λ (d : Block). d.frame.start) b.frame.start bs rise.0 c.0 c.1 in
        subst (λ (v : List ℕ). at_most v y ≡ true) r.2
        (subst (λ (v : List ℕ). at_most r.0.bytes v ≡ true) s.2 (ordered b c.0 (Memᴰ.head refl) (Memᴰ.tail c.1) less r.0 s.0 r.1 c.2))

-- ---- an accepted file

module _ (file : List ℕ) (bs : List Block) (a : Accepted file bs) where
  from_within : blocks_from (header_numbers file) ≤ length file
  from_within = blocks_within file (header_numbers file) a.header

  pub accepted_rising : rising (map (λ r. r.bytes) (records_of bs)) ≡ true
  accepted_rising =
      let r = Accepted⇒Rules file bs a in
      Sorted⇒rising (map (λ r. r.bytes) (records_of bs))
      (records_sorted bs (tiles_all (blocks_from (header_numbers file)) (length file) bs (blocks_tile file (blocks_from (header_numbers file)) bs a.blocks from_within))
      (λ (b : Block) (m : Memᴰ b bs). records_rise file b.frame.start b (tiled_block file (24 + H file) bs r.tiled b m).0) r.tree.ordered)

  -- there are fewer than the file has bytes
  pub accepted_few : length (records_of bs) ≤ length file
  accepted_few =
      ascending_few (λ (r : Text). r.at) (blocks_from (header_numbers file)) (length file) (records_of bs)
      (file_records_ascending file (blocks_from (header_numbers file)) bs a.blocks from_within)
