-- The figures of blocks that lie one after the other: how many records there are, where the last one stands, and where the last block ends.
-- Assumes nothing.
use mathlib.Core.Path.{◌≡◌, refl, sym, ap, ap₂, ◌∙◌}
use mathlib.Core.Bool.{cond}
use mathlib.Core.List.Memᴰ
use mathlib.Core.List.{List, [], ◌∷◌, ◌++◌, flat_map, map, map-append}
use Prim.Native.Nat.{ℕ, ◌+◌, ◌-◌, ◌<◌}
use native.Mathlib.Omega.{arith}
use lib.Dec.{eqb}
use lib.ListN.{length, length-append, length-map}
use borrow.Author.Tests.{ne_eqb}
use Rattle.lists.specs.Groups.{last_or}
use Rattle.uleb128.specs.Encoding.{encoding}
use Rattle.payload.specs.Payload.{Text}
use Rattle.block.specs.Block.{Block}
use Rattle.block.specs.Survey.{records_of}
use Rattle.layout.specs.Blocks.{text_bytes, records_bytes, data_bytes}
use Rattle.layout.specs.Index.{IndexBlock, index_bytes}
use Rattle.layout.specs.File.{data_part, index_blocks, blocks_part}
use Rattle.layout.specs.Placed.{placed_text, placed_records, placed_data, placed_datas, placed_index, placed_blocks}
use Rattle.layout.proofs.KeyLaws.{Filled}
use Rattle.layout.proofs.ReadBackLaws.{length_text}
use Rattle.layout.proofs.SideBySideLaws.{SideBySide, index_side_by_side}
use Rattle.theorems_layout.specs.WrittenTree.{joined}
use Rattle.theorems_layout.proofs.IndexNames.{last_or_append}
use Rattle.theorems_layout.proofs.WrittenSizes.{length_data, block_size_parts}
use Rattle.theorems_layout.proofs.PlacedLaws.{index_start, index_size, data_start, data_block, datas_bytes}
use Rattle.theorems_layout.proofs.WrittenRecords.{records_placed}
use Rattle.theorems_session.specs.Figures.{Figures, figures_of}

-- ---- the last record

-- it ends where the records end
records_end : (at x : ℕ) (y r : List ℕ) (rs : List (List ℕ))
    → last_or x (map (λ (t : Text). t.at) (placed_records at (r ∷ rs))) + length (last_or y (r ∷ rs)) ≡ at + length (records_bytes (r ∷ rs))
unfolding placed_records placed_text records_bytes flat_map last_or
records_end at x y r [] = let text = length_text r in let sum = length-append (text_bytes r) [] in omega arith
records_end at x y r (s ∷ rs) =
    let rest = records_end (at + length (text_bytes r)) (at + length (encoding (length r))) r s rs in
    let sum = length-append (text_bytes r) (records_bytes (s ∷ rs)) in
    omega arith

-- and the CRC of its block follows
data_end_lem : (at x : ℕ) (y : List ℕ) (rs : List (List ℕ)) → 0 < length rs
    → last_or x (map (λ (t : Text). t.at) (placed_data at rs).records) + length (last_or y rs) + 8 ≡ at + length (data_bytes rs)
unfolding placed_data
data_end_lem at x y [] some = absurd (omega arith)
data_end_lem at x y (r ∷ rs) some =
    let payload = length (records_bytes (r ∷ rs)) in
    let inside = records_end (at + length (encoding (payload + 1)) + 1) x y r rs in
    let size = length_data (r ∷ rs) in
    let parts = block_size_parts payload in
    omega arith

-- the last of some and of those after them
last_at : (x : ℕ) (xs ys : List Text)
    → last_or x (map (λ (t : Text). t.at) (xs ++ ys)) ≡ last_or (last_or x (map (λ (t : Text). t.at) xs)) (map (λ (t : Text). t.at) ys)
last_at x xs ys = ap (last_or x) (map-append (λ (t : Text). t.at) xs ys) ∙ last_or_append x (map (λ (t : Text). t.at) xs) (map (λ (t : Text). t.at) ys)

abbrev placed : (at : ℕ) → List (List (List ℕ)) → List Text
placed at blocks = flat_map (λ b. b.records) (placed_datas at blocks)

-- of all blocks
datas_end : (at x : ℕ) (y : List ℕ) (rs : List (List ℕ)) (more : List (List (List ℕ))) → Filled (rs ∷ more)
    → last_or x (map (λ (t : Text). t.at) (placed at (rs ∷ more))) + length (last_or y (joined (rs ∷ more))) + 8 ≡ at + length (flat_map data_bytes (rs ∷ more))
unfolding placed_datas flat_map joined last_or
datas_end at x y rs [] filled =
    let here = data_end_lem at x y rs (filled rs (Memᴰ.head refl)) in
    let place = last_at x (placed_data at rs).records [] in
    let long = ap length (last_or_append y rs []) in
    let sum = length-append (data_bytes rs) [] in
    omega arith
datas_end at x y rs (c ∷ more) filled =
    let next = at + length (data_bytes rs) in
    let recs = (placed_data at rs).records in
    let rest = datas_end next (last_or x (map (λ (t : Text). t.at) recs)) (last_or y rs) c more (λ g m. filled g (Memᴰ.tail m)) in
    let place = last_at x recs (placed next (c ∷ more)) in
    let long = ap length (last_or_append y rs (joined (c ∷ more))) in
    let sum = length-append (data_bytes rs) (flat_map data_bytes (c ∷ more)) in
    omega arith

-- as the session has it
datas_last : (at : ℕ) (blocks : List (List (List ℕ))) → Filled blocks
    → last_or 0 (map (λ (t : Text). t.at) (placed at blocks))
    ≡ cond (eqb (length (joined blocks)) 0) 0 (at + length (flat_map data_bytes blocks) - 8 - length (last_or [] (joined blocks)))
unfolding placed_datas flat_map joined last_or
datas_last at [] filled = refl
datas_last at ([] ∷ more) filled = absurd (let some = filled [] (Memᴰ.head refl) in omega arith)
datas_last at ((r ∷ rs) ∷ more) filled =
    let all = datas_end at 0 [] (r ∷ rs) more filled in
    rw (ne_eqb (length (joined ((r ∷ rs) ∷ more))) 0 (λ z. omega arith)) (omega arith)

-- ---- how many records

datas_count : (at : ℕ) (blocks : List (List (List ℕ))) → length (placed at blocks) ≡ length (joined blocks)
datas_count at blocks = sym (length-map (placed at blocks) (λ r. r.bytes)) ∙ ap length (datas_bytes at blocks)

-- ---- where the last block ends

abbrev end_of : Block → ℕ
end_of b = b.frame.start + b.frame.size

datas_next : (at : ℕ) (blocks : List (List (List ℕ)))
    → last_or at (map (λ b. b.frame.start + b.frame.size) (placed_datas at blocks)) ≡ at + length (flat_map data_bytes blocks)
unfolding placed_datas flat_map last_or
datas_next at [] = omega arith
datas_next at (rs ∷ more) =
    let next = at + length (data_bytes rs) in
    let sum = length-append (data_bytes rs) (flat_map data_bytes more) in
    ap (λ (n : ℕ). last_or n (map end_of (placed_datas next more))) (ap₂ (λ (m n : ℕ). m + n) (data_start at rs) (data_block at rs).size_is)
    ∙ datas_next next more ∙ omega arith

indexes_next : (at : ℕ) (bs : List IndexBlock) → SideBySide at bs → last_or at (map end_of (map placed_index bs)) ≡ at + length (flat_map index_bytes bs)
unfolding flat_map last_or SideBySide
indexes_next at [] h = omega arith
indexes_next at (b ∷ bs) h =
    let next = at + length (index_bytes b) in
    let sum = length-append (index_bytes b) (flat_map index_bytes bs) in
    ap (λ (n : ℕ). last_or n (map end_of (map placed_index bs))) (ap₂ (λ (m n : ℕ). m + n) (index_start b ∙ h.0) (index_size b))
    ∙ indexes_next next bs h.1 ∙ omega arith

-- data blocks and the index after them
blocks_next : (per_index from : ℕ) (blocks : List (List (List ℕ)))
    → last_or from (map (λ b. b.frame.start + b.frame.size) (placed_blocks per_index from blocks)) ≡ from + length (blocks_part per_index from blocks)
unfolding placed_blocks blocks_part data_part index_blocks
blocks_next per_index from blocks =
    let index = index_blocks per_index from blocks in
    let D = flat_map data_bytes blocks in
    let sum = length-append D (flat_map index_bytes index) in
    ap (last_or from) (map-append end_of (placed_datas from blocks) (map placed_index index))
    ∙ last_or_append from (map end_of (placed_datas from blocks)) (map end_of (map placed_index index))
    ∙ ap (λ (n : ℕ). last_or n (map end_of (map placed_index index))) (datas_next from blocks)
    ∙ indexes_next (from + length D) index (index_side_by_side per_index (from + length D) _) ∙ omega arith

-- ---- the figures

pub figures_same : (a b c d e f : ℕ) → a ≡ d → b ≡ e → c ≡ f
    → ◌≡◌ {A = Figures} (record { records = a; last = b; next = c }) (record { records = d; last = e; next = f })
figures_same a b c d e f p q r = rw (p, q, r)

module _ (from : ℕ) (blocks : List (List (List ℕ))) (filled : Filled blocks) where
  -- the offset of the last of these records
  abbrev pub last_place : ℕ
  last_place = cond (eqb (length (joined blocks)) 0) 0 (from + length (flat_map data_bytes blocks) - 8 - length (last_or [] (joined blocks)))

  pub datas_figures : figures_of from (placed_datas from blocks)
      ≡ record { records = length (joined blocks); last = last_place; next = from + length (flat_map data_bytes blocks) }
  unfolding figures_of records_of
  datas_figures = figures_same _ _ _ _ _ _ (datas_count from blocks) (datas_last from blocks filled) (datas_next from blocks)

  pub blocks_figures : (per_index : ℕ) → figures_of from (placed_blocks per_index from blocks)
      ≡ record { records = length (joined blocks); last = last_place; next = from + length (blocks_part per_index from blocks) }
  unfolding figures_of
  blocks_figures per_index =
      let same = records_placed per_index from blocks in
      figures_same _ _ _ _ _ _ (ap length same ∙ datas_count from blocks)
      (ap (λ (rs : List Text). last_or 0 (map (λ t. t.at) rs)) same ∙ datas_last from blocks filled) (blocks_next per_index from blocks)
