-- The blocks that were read tile the file: each begins where the one before it ends, and the last one ends with the file.
-- Assumes nothing.
use mathlib.Core.Path.{◌≡◌, refl, sym, ap, ◌∙◌, subst}
use mathlib.Core.Logic.{◌⊎◌, inl, inr}
use mathlib.Core.List.Memᴰ
use mathlib.Core.List.{List, [], ◌∷◌, ◌++◌, map, flat_map, map-append, Memᴰ}
use Prim.Native.Nat.{ℕ, ◌+◌, ◌-◌, ◌≤◌, ◌<◌}
use native.Mathlib.Omega.{arith}
use lib.ListN.{length}
use Rattle.outcome.specs.Outcome.{answer}
use Rattle.items.specs.declared.Step.{Step}
use Rattle.outcome.proofs.OutcomeLaws.{answer_injective, bind⁻¹}
use Rattle.items.proofs.ItemsLaws.{Row, row_end, row_more, items⇒row}
use Rattle.lists.proofs.ListsLaws.{Ascending, AscendingIn, ascending_wider, ascending-append, ascending_all, ascending_unique, flat_map_member, member_flat_map}
use Rattle.payload.specs.Payload.{Text}
use Rattle.items.proofs.RunLaws.{ReadFrom, row_member}
use Rattle.block.specs.Block.{Block, block_at, block_step, blocks_at}
use Rattle.block.specs.Survey.{records_of}
use Rattle.block.proofs.BlockLaws.{block⇒BlockRead}
use Rattle.payload.proofs.ReadLaws.{Stands, stands_wider}
use Rattle.block.proofs.HeldLaws.{record_in_block, records_ascending}

-- ---- tiles

-- the blocks fill what lies from `from` to `end`, without gap or overlap
unfoldable pub Tiles : (from end : ℕ) → List Block → Type 0
Tiles from end [] = from ≡ end
Tiles from end (b ∷ bs) = (b.frame.start ≡ from) × (0 < b.frame.size) × Tiles (from + b.frame.size) end bs

pub tiles_bounds : (from end : ℕ) (bs : List Block) → Tiles from end bs → from ≤ end
unfolding Tiles
tiles_bounds from end [] h = omega arith
tiles_bounds from end (b ∷ bs) h = let rest = tiles_bounds (from + b.frame.size) end bs h.2 in omega arith

-- the starts ascend: each is below every later one
pub tiles_ascending : (from end : ℕ) (bs : List Block) → Tiles from end bs → AscendingIn from end (map (λ b. b.frame.start) bs)
unfolding Tiles AscendingIn
tiles_ascending from end [] h = omega arith
tiles_ascending from end (b ∷ bs) h =
    let starts = h.0 in
    let some = h.1 in
    let rest = tiles_ascending (from + b.frame.size) end bs h.2 in
    (omega arith, ascending_wider (from + b.frame.size) end (b.frame.start + 1) end (map (λ c. c.frame.start) bs) (omega arith) (omega arith) rest)

pub tiles_all : (from end : ℕ) (bs : List Block) → Tiles from end bs → Ascending (map (λ b. b.frame.start) bs)
tiles_all from end bs h = ascending_all from end (map (λ b. b.frame.start) bs) (tiles_ascending from end bs h)

-- blocks with the same start are the same
pub tiles_unique : (from end : ℕ) (bs : List Block) → Tiles from end bs → (b c : Block) → Memᴰ b bs → Memᴰ c bs → b.frame.start ≡ c.frame.start → b ≡ c
tiles_unique from end bs h b c m n e = ascending_unique (λ d. d.frame.start) bs (tiles_all from end bs h) b c m n e

-- a block lies within
pub tiles_within : (from end : ℕ) (bs : List Block) → Tiles from end bs → (b : Block) → Memᴰ b bs → (from ≤ b.frame.start) × (b.frame.start + b.frame.size ≤ end)
unfolding Tiles
tiles_within from end [] h b m = absurd (Memᴰ.not-nil m)
tiles_within from end (c ∷ bs) h b m = go (Memᴰ.cases_cons m) (λ (i : Memᴰ b bs). tiles_within (from + c.frame.size) end bs h.2 b i)
  where
    go : (b ≡ c) ⊎ Memᴰ b bs → (Memᴰ b bs → (from + c.frame.size ≤ b.frame.start) × (b.frame.start + b.frame.size ≤ end)) → (from ≤ b.frame.start) × (b.frame.start + b.frame.size ≤ end)
    go (inl same) rest =
        let starts = h.0 in
        let bound = tiles_bounds (from + c.frame.size) end bs h.2 in
        subst (λ (d : Block). (from ≤ d.frame.start) × (d.frame.start + d.frame.size ≤ end)) (sym same) (omega arith, omega arith)
    go (inr inside) rest = let r = rest inside in (omega arith, r.1)

-- what stands after other blocks tiles the rest
pub tiles_after : (from end : ℕ) (xs ys : List Block) → Tiles from end (xs ++ ys) → (middle : ℕ) × Tiles from middle xs × Tiles middle end ys
unfolding Tiles
tiles_after from end [] ys h = (from, refl, h)
tiles_after from end (x ∷ xs) ys h = let rest = tiles_after (from + x.frame.size) end xs ys h.2 in (rest.0, (h.0, h.1, rest.1), rest.2)

-- a later block begins at or after the end of an earlier one
pub tiles_apart : (from end : ℕ) (xs : List Block) (b : Block) (ys : List Block) → Tiles from end (xs ++ (b ∷ ys)) → (c : Block) → Memᴰ c ys → b.frame.start + b.frame.size ≤ c.frame.start
unfolding Tiles
tiles_apart from end xs b ys h c m =
    let rest = (tiles_after from end xs (b ∷ ys) h).2 in
    let starts = rest.0 in
    let later = (tiles_within _ end ys rest.2 c m).0 in
    omega arith

-- a block's neighbour begins where the block ends
pub tiles_neighbours : (from end : ℕ) (xs : List Block) (b c : Block) (ys : List Block) → Tiles from end (xs ++ (b ∷ c ∷ ys)) → (c.frame.start ≡ b.frame.start + b.frame.size) × (b.frame.start < c.frame.start)
unfolding Tiles
tiles_neighbours from end xs b c ys h =
    let rest = (tiles_after from end xs (b ∷ c ∷ ys) h).2 in
    let starts = rest.0 in
    let some = rest.1 in
    let next = rest.2.0 in
    (omega arith, omega arith)

-- the sizes add up
unfoldable pub sizes : List Block → ℕ
sizes [] = 0
sizes (b ∷ bs) = b.frame.size + sizes bs

pub tiles_sizes : (from end : ℕ) (bs : List Block) → Tiles from end bs → sizes bs ≡ end - from
unfolding Tiles sizes
tiles_sizes from end [] h = omega arith
tiles_sizes from end (b ∷ bs) h =
    let rest = tiles_sizes (from + b.frame.size) end bs h.2 in
    let bound = tiles_bounds (from + b.frame.size) end bs h.2 in
    omega arith

-- ---- the records of blocks

-- offsets that ascend through one list of records and on through another
joined : (from middle end : ℕ) (rs qs : List Text) → AscendingIn from middle (map (λ r. r.at) rs) → AscendingIn middle end (map (λ r. r.at) qs) → AscendingIn from end (map (λ r. r.at) (rs ++ qs))
joined from middle end rs qs h k =
    subst (AscendingIn from end) (sym (map-append (λ r. r.at) rs qs)) (ascending-append from middle end (map (λ r. r.at) rs) (map (λ r. r.at) qs) h k)

-- a record of the file is a record of one of its blocks
pub file_record_block : (bs : List Block) (r : Text) → Memᴰ r (records_of bs) → (b : Block) × Memᴰ b bs × Memᴰ r b.records
unfolding records_of
file_record_block bs r m = flat_map_member (λ b. b.records) bs r m

pub block_record_file : (bs : List Block) (b : Block) (r : Text) → Memᴰ b bs → Memᴰ r b.records → Memᴰ r (records_of bs)
unfolding records_of
block_record_file bs b r m n = member_flat_map (λ c. c.records) bs b r m n

-- ---- the blocks that were read

-- a block that was read where it says that it begins, at or after `from` and within the file
pub record ReadBlock (file : List ℕ) (from : ℕ) (b : Block) : Type 0 where
  pub read : block_at file b.frame.start ≡ answer b
  pub after : from ≤ b.frame.start
  pub within : b.frame.start + b.frame.size ≤ length file

module _ (file : List ℕ) where
  -- a step over a block, taken apart
  pub record Stepped (at : ℕ) (x : Step Block) : Type 0 where
    pub read : block_at file at ≡ answer x.item
    pub next_is : x.next ≡ at + x.item.frame.size
    pub starts : x.item.frame.start ≡ at
    pub some : 0 < x.item.frame.size
    pub within : x.next ≤ length file

  pub block_step⁻¹ : (at : ℕ) (x : Step Block) → block_step file at ≡ answer x → Stepped at x
  unfolding block_step
  block_step⁻¹ at x e = let all = bind⁻¹ (block_at file at) _ x e in go all.0 all.1 (answer_injective _ x all.2)
    where
      go : (b : Block) → block_at file at ≡ answer b → record { item = b; next = at + b.frame.size } ≡ x → Stepped at x
      go b r same =
          let l = (block⇒BlockRead file at b r).framed in
          let number = l.number in
          let filled = l.some in
          let sized = l.sized in
          subst (Stepped at) same (record { read = r; next_is = refl; starts = l.starts; some = omega arith; within = l.within })

  pub block_step_forward : (at : ℕ) (x : Step Block) → block_step file at ≡ answer x → at < x.next
  block_step_forward at x e = let q = block_step⁻¹ at x e in let next = q.next_is in let some = q.some in omega arith

  pub blocks⇒row : (from : ℕ) (bs : List Block) → blocks_at file from ≡ answer bs → Row (block_step file) (length file) from bs
  unfolding blocks_at
  blocks⇒row from bs e = items⇒row (block_step file) (length file) block_step_forward (length file - from) from bs (omega arith) e

  pub blocks_read : (from : ℕ) (bs : List Block) → blocks_at file from ≡ answer bs → (b : Block) → Memᴰ b bs → ReadBlock file from b
  blocks_read from bs e b m = go (row_member (block_step file) (length file) block_step_forward from bs (blocks⇒row from bs e) b m)
    where
      at_start : (at : ℕ) (x : Step Block) → from ≤ at → Stepped at x → ReadBlock file from x.item
      at_start at x after q =
          let starts = q.starts in
          let next = q.next_is in
          let within = q.within in
          record { read = ap (block_at file) starts ∙ q.read; after = omega arith; within = omega arith }

      go : ReadFrom (block_step file) (length file) from b → ReadBlock file from b
      go q = subst (ReadBlock file from) q.is_item (at_start q.read_at q.read q.after (block_step⁻¹ q.read_at q.read q.stepped))

  row_tiles : (from : ℕ) (bs : List Block) → Row (block_step file) (length file) from bs → from ≤ length file → Tiles from (length file) bs
  unfolding Tiles
  row_tiles from bs (row_end h) inside = omega arith
  row_tiles from bs (row_more x more h e r) inside =
      let q = block_step⁻¹ from x e in
      (q.starts, q.some, subst (λ (n : ℕ). Tiles n (length file) more) q.next_is (row_tiles x.next more r q.within))

  -- they tile the file
  pub blocks_tile : (from : ℕ) (bs : List Block) → blocks_at file from ≡ answer bs → from ≤ length file → Tiles from (length file) bs
  blocks_tile from bs e h = row_tiles from bs (blocks⇒row from bs e) h

  -- ---- the records of the whole file

  row_records : (from : ℕ) (bs : List Block) → Row (block_step file) (length file) from bs → from ≤ length file → AscendingIn from (length file) (map (λ r. r.at) (records_of bs))
  unfolding AscendingIn records_of flat_map
  row_records from bs (row_end h) inside = inside
  row_records from bs (row_more x more h e r) inside =
      let b = x.item in
      let q = block_step⁻¹ from x e in
      let starts = q.starts in
      let next = q.next_is in
      let own = records_ascending file from b q.read in
      let wider = ascending_wider b.frame.start (b.frame.start + b.frame.size) from x.next (map (λ t. t.at) b.records) (omega arith) (omega arith) own in
      joined from x.next (length file) b.records (records_of more) wider (row_records x.next more r q.within)

  -- they stand at ascending offsets
  pub file_records_ascending : (from : ℕ) (bs : List Block) → blocks_at file from ≡ answer bs → from ≤ length file → AscendingIn from (length file) (map (λ r. r.at) (records_of bs))
  file_records_ascending from bs e h = row_records from bs (blocks⇒row from bs e) h

  pub file_records_all : (from : ℕ) (bs : List Block) → blocks_at file from ≡ answer bs → from ≤ length file → Ascending (map (λ r. r.at) (records_of bs))
  file_records_all from bs e h = ascending_all from (length file) (map (λ r. r.at) (records_of bs)) (file_records_ascending from bs e h)

  -- records at the same offset are the same
  pub file_records_unique : (from : ℕ) (bs : List Block) → blocks_at file from ≡ answer bs → from ≤ length file → (r q : Text) → Memᴰ r (records_of bs) → Memᴰ q (records_of bs) → r.at ≡ q.at → r ≡ q
  file_records_unique from bs e h r q m n same = ascending_unique (λ t. t.at) (records_of bs) (file_records_all from bs e h) r q m n same

  -- it stands in the file with its bytes
  pub file_record_stands : (from : ℕ) (bs : List Block) → blocks_at file from ≡ answer bs → (r : Text) → Memᴰ r (records_of bs) → Stands file from (length file) r
  file_record_stands from bs e r m = let p = file_record_block bs r m in go p.0 (blocks_read from bs e p.0 p.1) p.2
    where
      go : (b : Block) → ReadBlock file from b → Memᴰ r b.records → Stands file from (length file) r
      go b q n =
          let l = (block⇒BlockRead file b.frame.start b q.read).framed in
          let number = l.number in
          let sized = l.sized in
          let after = q.after in
          let within = q.within in
          stands_wider file b.frame.body b.frame.end from (length file) r (omega arith) (omega arith) (record_in_block file b.frame.start b q.read r n)
