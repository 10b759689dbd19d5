-- The records of a written file: those of its blocks, in order and at rising offsets.
-- Assumes nothing.
use mathlib.Core.Path.{◌≡◌, refl, sym, ap, ◌∙◌, subst}
use mathlib.Core.Logic.{◌⊎◌, inl, inr}
use mathlib.Core.Bool.{true}
use mathlib.Core.List.Memᴰ
use mathlib.Core.List.{List, [], ◌∷◌, ◌++◌, flat_map, map, map-append, append-nil, Memᴰ}
use Prim.Native.Nat.{ℕ, ◌+◌, ◌≤◌, ◌<◌}
use native.Mathlib.Omega.{arith}
use lib.ListN.{length, length-append}
use borrow.Author.Tests.{le-leb}
use Rattle.byte_string.specs.Order.{at_most}
use Rattle.lists.proofs.ListsLaws.{Ascending, below_member, flat_map_append, member_flat_map}
use Rattle.lists.proofs.CountLaws.{keep_all}
use Rattle.uleb128.specs.Encoding.{encoding}
use Rattle.payload.specs.Payload.{Text}
use Rattle.block.specs.Block.{Block, is_ordinary}
use Rattle.block.specs.Survey.{ordinary, records_of}
use Rattle.layout.specs.Blocks.{text_bytes, records_bytes, data_bytes}
use Rattle.layout.specs.File.{index_blocks}
use Rattle.layout.specs.Placed.{placed_text, placed_records, placed_data, placed_datas, placed_index, placed_blocks}
use Rattle.layout.proofs.ReadBackLaws.{length_text}
use Rattle.theorems_check.specs.Rules.{Sorted}
use Rattle.theorems_layout.specs.WrittenTree.{joined, Writable}
use Rattle.theorems_layout.proofs.WrittenSizes.{length_data, block_size_parts}
use Rattle.theorems_layout.proofs.PlacedLaws.{placed_after, placed_before, indexes_records, datas_bytes}
use Rattle.theorems_layout.proofs.WrittenNames.{blocks_few}
use Rattle.theorems_layout.proofs.SortedParts.{sorted_right, sorted_apart}

-- ---- where records stand

data_after : (at : ℕ) (rs : List (List ℕ)) (r : Text) → Memᴰ r (placed_data at rs).records → at ≤ r.at
unfolding placed_data
data_after at rs r m = let after = placed_after (at + length (encoding (length (records_bytes rs) + 1)) + 1) rs r m in omega arith

-- a record of a block stands before the next block
pub data_before : (at : ℕ) (rs : List (List ℕ)) (r : Text) → Memᴰ r (placed_data at rs).records → r.at < at + length (data_bytes rs)
unfolding placed_data
data_before at rs r m =
    let before = placed_before (at + length (encoding (length (records_bytes rs) + 1)) + 1) rs r m in
    let size = length_data rs in
    let parts = block_size_parts (length (records_bytes rs)) in
    omega arith

-- no record of these blocks stands before them
pub datas_after : (at : ℕ) (blocks : List (List (List ℕ))) (r : Text) → Memᴰ r (flat_map (λ b. b.records) (placed_datas at blocks)) → at ≤ r.at
unfolding placed_datas flat_map
datas_after at [] r m = absurd (Memᴰ.not-nil m)
datas_after at (rs ∷ more) r m = go (Memᴰ.append_cases (placed_data at rs).records m) (λ i. datas_after (at + length (data_bytes rs)) more r i)
  where
    later : List Text
    later = flat_map (λ b. b.records) (placed_datas (at + length (data_bytes rs)) more)

    go : Memᴰ r (placed_data at rs).records ⊎ Memᴰ r later → (Memᴰ r later → at + length (data_bytes rs) ≤ r.at) → at ≤ r.at
    go (inl i) rest = data_after at rs r i
    go (inr i) rest = let after = rest i in omega arith

-- the first record of a block, and no record of this block or a later one stands before it
pub record First (at : ℕ) (s : List ℕ) (rs : List (List ℕ)) (more : List (List (List ℕ))) : Type 0 where
  pub first : Text
  pub rest : List Text
  pub bytes_are : first.bytes ≡ s
  pub records_are : (placed_data at (s ∷ rs)).records ≡ first ∷ rest
  pub after : at ≤ first.at
  pub least : (r : Text) → Memᴰ r (flat_map (λ b. b.records) (placed_datas at ((s ∷ rs) ∷ more))) → first.at ≤ r.at

pub data_first : (at : ℕ) (s : List ℕ) (rs : List (List ℕ)) (more : List (List (List ℕ))) → First at s rs more
unfolding placed_datas placed_data placed_records placed_text flat_map records_bytes
data_first at s rs more =
    record {
      first = placed_text body s;
      rest = placed_records (body + length (text_bytes s)) rs;
      bytes_are = refl;
      records_are = refl;
      after = omega arith;
      least = λ r m. go r (Memᴰ.append_cases (placed_text body s ∷ placed_records (body + length (text_bytes s)) rs) m);
    }
  where
    body : ℕ
    body = at + length (encoding (length (records_bytes (s ∷ rs)) + 1)) + 1

    next : ℕ
    next = at + length (data_bytes (s ∷ rs))

    own : (r : Text) → (r ≡ placed_text body s) ⊎ Memᴰ r (placed_records (body + length (text_bytes s)) rs) → (placed_text body s).at ≤ r.at
    own r (inl same) = let place = ap (λ (t : Text). t.at) same in omega arith
    own r (inr i) = let after = placed_after (body + length (text_bytes s)) rs r i in let size = length_text s in omega arith

    go : (r : Text)
        → Memᴰ r (placed_text body s ∷ placed_records (body + length (text_bytes s)) rs) ⊎ Memᴰ r (flat_map (λ b. b.records) (placed_datas next more))
        → (placed_text body s).at ≤ r.at
    go r (inl i) = own r (Memᴰ.cases_cons i)
    go r (inr i) =
        let after = datas_after next more r i in
        let size = length_data (s ∷ rs) in
        let parts = block_size_parts (length (records_bytes (s ∷ rs))) in
        let sum = length-append (text_bytes s) (records_bytes rs) in
        let text = length_text s in
        omega arith

-- ---- all records

module _ (per_index from : ℕ) (blocks : List (List (List ℕ))) where
  pub records_placed : records_of (placed_blocks per_index from blocks) ≡ flat_map (λ b. b.records) (placed_datas from blocks)
  unfolding records_of placed_blocks
  records_placed =
      flat_map_append (λ b. b.records) (placed_datas from blocks) (map placed_index (index_blocks per_index from blocks))
      ∙ ap (λ (l : List Text). flat_map (λ b. b.records) (placed_datas from blocks) ++ l) (indexes_records (index_blocks per_index from blocks))
      ∙ append-nil (flat_map (λ b. b.records) (placed_datas from blocks))

  -- the records of the file are those of the blocks
  pub written_records : map (λ r. r.bytes) (records_of (placed_blocks per_index from blocks)) ≡ joined blocks
  written_records = ap (map (λ r. r.bytes)) records_placed ∙ datas_bytes from blocks

  -- every block is ordinary
  pub written_ordinary : Writable per_index blocks → ordinary (placed_blocks per_index from blocks) ≡ placed_blocks per_index from blocks
  unfolding ordinary is_ordinary
  written_ordinary good =
      keep_all (λ b. is_ordinary b.frame.level) (placed_blocks per_index from blocks)
      (λ b m. le-leb b.frame.level 63 (let few = blocks_few per_index from blocks good b m in omega arith))

-- ---- blocks whose records are sorted are in order

pub sorted⇒ordered : (bs : List Block) → Ascending (map (λ b. b.frame.start) bs) → Sorted (map (λ r. r.bytes) (records_of bs))
    → (a b : Block) → Memᴰ a bs → Memᴰ b bs → a.frame.start < b.frame.start
    → (r s : Text) → Memᴰ r a.records → Memᴰ s b.records → at_most r.bytes s.bytes ≡ true
unfolding records_of flat_map Ascending
sorted⇒ordered [] rise sorted a b m n less r s i j = absurd (Memᴰ.not-nil m)
sorted⇒ordered (c ∷ bs) rise sorted a b m n less r s i j =
    go (Memᴰ.cases_cons m) (Memᴰ.cases_cons n)
    (λ k l. sorted⇒ordered bs rise.1 (sorted_right (map (λ t. t.bytes) c.records) (map (λ t. t.bytes) later) parts) a b k l less r s i j)
  where
    later : List Text
    later = flat_map (λ d. d.records) bs

    parts : Sorted (map (λ t. t.bytes) c.records ++ map (λ t. t.bytes) later)
    parts = subst Sorted (map-append (λ t. t.bytes) c.records later) sorted

    go : (a ≡ c) ⊎ Memᴰ a bs → (b ≡ c) ⊎ Memᴰ b bs → (Memᴰ a bs → Memᴰ b bs → at_most r.bytes s.bytes ≡ true)
        → at_most r.bytes s.bytes ≡ true
    go (inl p) (inl q) rest = absurd (let same = ap (λ (d : Block). d.frame.start) (p ∙ sym q) in omega arith)
    go (inl p) (inr q) rest =
        sorted_apart (map (λ t. t.bytes) c.records) (map (λ t. t.bytes) later) parts r.bytes s.bytes
        (Memᴰ.map (λ (t : Text). t.bytes) (subst (λ (d : Block). Memᴰ r d.records) p i))
        (Memᴰ.map (λ (t : Text). t.bytes) (member_flat_map (λ d. d.records) bs b s q j))
    go (inr p) (inl q) rest =
        let after = below_member (λ (d : Block). d.frame.start) c.frame.start bs rise.0 a p in
        absurd (let same = ap (λ (d : Block). d.frame.start) q in omega arith)
    go (inr p) (inr q) rest = rest p q
