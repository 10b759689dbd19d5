-- Laws of the blocks of a written file, as reading finds them.
-- Assumes nothing.
use mathlib.Core.Path.{◌≡◌, refl, sym, ap, ◌∙◌, subst}
use mathlib.Core.Logic.{◌≢◌, ◌⊎◌, inl, inr}
use mathlib.Core.Option.{Option, some}
use mathlib.Core.List.Memᴰ
use mathlib.Core.List.{List, [], ◌∷◌, ◌++◌, flat_map, map, map-append, map-map, Memᴰ}
use mathlib.Core.List.{head-eq_of_cons-eq}
use Prim.Native.Nat.{ℕ, ◌+◌, ◌≤◌, ◌<◌}
use native.Mathlib.Omega.{arith}
use lib.ListN.{length, length-append}
use Rattle.lists.specs.Groups.{first_or, last_or}
use Rattle.lists.proofs.ListsLaws.{AscendingIn, ascending_wider, flat_map_append}
use Rattle.uleb128.specs.Encoding.{encoding}
use Rattle.payload.specs.Payload.{Text, Entry}
use Rattle.block.specs.Block.{Block}
use Rattle.layout.specs.Blocks.{text_bytes, records_bytes, data_bytes}
use Rattle.layout.specs.Index.{IndexEntry, IndexBlock, entry_bytes, index_bytes, first_key, entry_for}
use Rattle.layout.specs.File.{key_for, data_entries}
use Rattle.layout.specs.Placed.{placed_text, placed_records, placed_entries, placed_frame, placed_data, placed_datas, placed_index}
use Rattle.layout.proofs.PayloadBackLaws.{placed_records_bytes}
use Rattle.layout.proofs.BlockBackLaws.{data_some, index_some}
use Rattle.layout.proofs.SideBySideLaws.{SideBySide}
use Rattle.theorems_layout.specs.WrittenTree.{joined}
use Rattle.theorems_layout.proofs.WrittenSizes.{length_data, length_index}

-- ---- records

-- where they stand
pub placed_after : (at : ℕ) (rs : List (List ℕ)) (r : Text) → Memᴰ r (placed_records at rs) → at ≤ r.at
unfolding placed_records placed_text
placed_after at [] r m = absurd (Memᴰ.not-nil m)
placed_after at (s ∷ rs) r m = go (Memᴰ.cases_cons m) (λ i. placed_after (at + length (text_bytes s)) rs r i)
  where
    go : (r ≡ placed_text at s) ⊎ Memᴰ r (placed_records (at + length (text_bytes s)) rs)
        → (Memᴰ r (placed_records (at + length (text_bytes s)) rs) → at + length (text_bytes s) ≤ r.at) → at ≤ r.at
    go (inl same) rest = let place = ap (λ (t : Text). t.at) same in omega arith
    go (inr later) rest = let r = rest later in omega arith

pub placed_before : (at : ℕ) (rs : List (List ℕ)) (r : Text) → Memᴰ r (placed_records at rs) → r.at ≤ at + length (records_bytes rs)
unfolding placed_records placed_text text_bytes records_bytes flat_map
placed_before at [] r m = absurd (Memᴰ.not-nil m)
placed_before at (s ∷ rs) r m = go (Memᴰ.cases_cons m) (λ i. placed_before (at + length (text_bytes s)) rs r i)
  where
    go : (r ≡ placed_text at s) ⊎ Memᴰ r (placed_records (at + length (text_bytes s)) rs)
        → (Memᴰ r (placed_records (at + length (text_bytes s)) rs) → r.at ≤ at + length (text_bytes s) + length (records_bytes rs))
        → r.at ≤ at + length (text_bytes s ++ records_bytes rs)
    go (inl same) rest =
        let place = ap (λ (t : Text). t.at) same in
        let text = length-append (encoding (length s)) s in
        let sum = length-append (text_bytes s) (records_bytes rs) in
        omega arith
    go (inr later) rest = let r = rest later in let sum = length-append (text_bytes s) (records_bytes rs) in omega arith

-- ---- entries

-- an entry as it is read, of an entry that is written
pub record Reads (e : Entry) (w : IndexEntry) : Type 0 where
  pub key_is : e.key.bytes ≡ w.key
  pub offset_is : e.offset ≡ w.offset
  pub size_is : e.size ≡ w.size

pub placed_entry_lem : (at : ℕ) (es : List IndexEntry) (e : Entry) → Memᴰ e (placed_entries at es) → (w : IndexEntry) × Memᴰ w es × Reads e w
unfolding placed_entries placed_text
placed_entry_lem at [] e m = absurd (Memᴰ.not-nil m)
placed_entry_lem at (w ∷ es) e m = go (Memᴰ.cases_cons m) (λ i. placed_entry_lem (at + length (entry_bytes w)) es e i)
  where
    first : Entry
    first = record { key = placed_text at w.key; offset = w.offset; size = w.size }

    go : (e ≡ first) ⊎ Memᴰ e (placed_entries (at + length (entry_bytes w)) es)
        → (Memᴰ e (placed_entries (at + length (entry_bytes w)) es) → (v : IndexEntry) × Memᴰ v es × Reads e v)
        → (v : IndexEntry) × Memᴰ v (w ∷ es) × Reads e v
    go (inl same) rest = (
      w,
      Memᴰ.head refl,
      record { key_is = ap (λ (f : Entry). f.key.bytes) same; offset_is = ap (λ (f : Entry). f.offset) same; size_is = ap (λ (f : Entry). f.size) same },
    )
    go (inr later) rest = let r = rest later in (r.0, Memᴰ.tail r.1, r.2)

-- the first one's key
pub placed_first : (at : ℕ) (ws : List IndexEntry) (e : Entry) (es : List Entry) → placed_entries at ws ≡ e ∷ es → e.key.bytes ≡ first_key ws
unfolding placed_entries placed_text first_key
placed_first at [] e es p = absurd (let z = ap length p in omega arith)
placed_first at (w ∷ ws) e es p = sym (ap (λ (f : Entry). f.key.bytes) (head-eq_of_cons-eq p))

-- what depends on their offsets only
pub placed_offsets : {B : Type 0} (f : ℕ → List B) (at : ℕ) (es : List IndexEntry)
    → flat_map (λ e. f e.offset) (placed_entries at es) ≡ flat_map (λ e. f e.offset) es
unfolding placed_entries flat_map
placed_offsets f at [] = refl
placed_offsets {B} f at (e ∷ es) = ap (λ (l : List B). f e.offset ++ l) (placed_offsets f (at + length (entry_bytes e)) es)

pub placed_some : (at : ℕ) (es : List IndexEntry) → es ≢ [] → 0 < length (placed_entries at es)
unfolding placed_entries
placed_some at [] h = absurd (h refl)
placed_some at (e ∷ es) h = omega arith

-- ---- index blocks

pub index_start : (b : IndexBlock) → (placed_index b).frame.start ≡ b.offset
unfolding placed_index placed_frame
index_start b = refl

pub index_size : (b : IndexBlock) → (placed_index b).frame.size ≡ length (index_bytes b)
unfolding placed_index placed_frame
index_size b = sym (length_index b)

pub index_level : (b : IndexBlock) → (placed_index b).frame.level ≡ b.level
unfolding placed_index placed_frame
index_level b = refl

pub index_records : (b : IndexBlock) → (placed_index b).records ≡ []
unfolding placed_index
index_records b = refl

pub index_entries : (b : IndexBlock) → (at : ℕ) × ((placed_index b).entries ≡ placed_entries at b.entries)
unfolding placed_index
index_entries b = (_, refl)

-- the entry for an index block names it
pub entry_for-names : (b : IndexBlock) → ((placed_index b).frame.start ≡ (entry_for b).offset) × ((placed_index b).frame.size ≡ (entry_for b).size)
unfolding entry_for
entry_for-names b = (index_start b, index_size b)

pub indexes_starts : (bs : List IndexBlock) → map (λ b. b.frame.start) (map placed_index bs) ≡ map (λ b. b.offset) bs
unfolding placed_index placed_frame
indexes_starts bs = map-map (λ b. b.frame.start) placed_index bs

pub entry_for-offsets : (bs : List IndexBlock) → map (λ e. e.offset) (map entry_for bs) ≡ map (λ b. b.offset) bs
unfolding entry_for
entry_for-offsets bs = map-map (λ e. e.offset) entry_for bs

-- side by side they rise
pub indexes_rise : (at : ℕ) (bs : List IndexBlock) → SideBySide at bs → AscendingIn at (at + length (flat_map index_bytes bs)) (map (λ b. b.offset) bs)
unfolding SideBySide AscendingIn flat_map
indexes_rise at [] h = omega arith
indexes_rise at (b ∷ bs) h =
    let next = at + length (index_bytes b) in
    let start = h.0 in
    let size = index_some b in
    let sum = length-append (index_bytes b) (flat_map index_bytes bs) in
    (omega arith, ascending_wider next _ (b.offset + 1) _ (map (λ c. c.offset) bs) (omega arith) (omega arith) (indexes_rise next bs h.1))

-- the records and the entries of index blocks
pub indexes_records : (bs : List IndexBlock) → flat_map (λ b. b.records) (map placed_index bs) ≡ []
unfolding flat_map
indexes_records [] = refl
indexes_records (b ∷ bs) = ap (λ (l : List Text). l ++ flat_map (λ c. c.records) (map placed_index bs)) (index_records b) ∙ indexes_records bs

pub indexes_offsets : {B : Type 0} (f : ℕ → List B) (bs : List IndexBlock)
    → flat_map (λ e. f e.offset) (flat_map (λ b. b.entries) (map placed_index bs)) ≡ flat_map (λ e. f e.offset) (flat_map (λ b. b.entries) bs)
unfolding flat_map
indexes_offsets f [] = refl
indexes_offsets {B} f (b ∷ bs) =
    let es = index_entries b in
    flat_map_append (λ e. f e.offset) (placed_index b).entries (flat_map (λ c. c.entries) (map placed_index bs))
    ∙ ap (λ (l : List Entry). flat_map (λ e. f e.offset) l ++ flat_map (λ e. f e.offset) (flat_map (λ c. c.entries) (map placed_index bs))) es.1
    ∙ ap (λ (l : List B). l ++ flat_map (λ e. f e.offset) (flat_map (λ c. c.entries) (map placed_index bs))) (placed_offsets f es.0 b.entries)
    ∙ ap (λ (l : List B). flat_map (λ e. f e.offset) b.entries ++ l) (indexes_offsets f bs)
    ∙ sym (flat_map_append (λ e. f e.offset) b.entries (flat_map (λ c. c.entries) bs))

-- ---- data blocks

-- a data block: its level, its size, its records and no entries
pub record DataBlock (rs : List (List ℕ)) (d : Block) : Type 0 where
  pub level_is : d.frame.level ≡ 0
  pub size_is : d.frame.size ≡ length (data_bytes rs)
  pub bytes_are : map (λ r. r.bytes) d.records ≡ rs
  pub no_entries : d.entries ≡ []

pub data_block : (at : ℕ) (rs : List (List ℕ)) → DataBlock rs (placed_data at rs)
unfolding placed_data placed_frame
data_block at rs = record { level_is = refl; size_is = sym (length_data rs); bytes_are = placed_records_bytes _ rs; no_entries = refl }

pub data_start : (at : ℕ) (rs : List (List ℕ)) → (placed_data at rs).frame.start ≡ at
unfolding placed_data placed_frame
data_start at rs = refl

pub datas_member : (at : ℕ) (blocks : List (List (List ℕ))) (d : Block) → Memᴰ d (placed_datas at blocks)
    → (rs : List (List ℕ)) × Memᴰ rs blocks × DataBlock rs d
unfolding placed_datas
datas_member at [] d m = absurd (Memᴰ.not-nil m)
datas_member at (rs ∷ more) d m = go (Memᴰ.cases_cons m) (λ i. datas_member (at + length (data_bytes rs)) more d i)
  where
    go : (d ≡ placed_data at rs) ⊎ Memᴰ d (placed_datas (at + length (data_bytes rs)) more)
        → (Memᴰ d (placed_datas (at + length (data_bytes rs)) more) → (ss : List (List ℕ)) × Memᴰ ss more × DataBlock ss d)
        → (ss : List (List ℕ)) × Memᴰ ss (rs ∷ more) × DataBlock ss d
    go (inl same) rest = (rs, Memᴰ.head refl, subst (DataBlock rs) (sym same) (data_block at rs))
    go (inr later) rest = let r = rest later in (r.0, Memᴰ.tail r.1, r.2)

-- they stand side by side
pub datas_rise : (at : ℕ) (blocks : List (List (List ℕ)))
    → AscendingIn at (at + length (flat_map data_bytes blocks)) (map (λ b. b.frame.start) (placed_datas at blocks))
unfolding placed_datas AscendingIn flat_map
datas_rise at [] = omega arith
datas_rise at (rs ∷ more) =
    let next = at + length (data_bytes rs) in
    let start = data_start at rs in
    let size = data_some rs in
    let sum = length-append (data_bytes rs) (flat_map data_bytes more) in (
      omega arith,
      ascending_wider next _ ((placed_data at rs).frame.start + 1) _ (map (λ b. b.frame.start) (placed_datas next more)) (omega arith) (omega arith)
          (datas_rise next more),
    )

-- their records, and no entries
pub datas_bytes : (at : ℕ) (blocks : List (List (List ℕ))) → map (λ r. r.bytes) (flat_map (λ b. b.records) (placed_datas at blocks)) ≡ joined blocks
unfolding placed_datas flat_map joined
datas_bytes at [] = refl
datas_bytes at (rs ∷ more) =
    let rest = flat_map (λ b. b.records) (placed_datas (at + length (data_bytes rs)) more) in
    map-append (λ r. r.bytes) (placed_data at rs).records rest
    ∙ ap (λ (l : List (List ℕ)). l ++ map (λ r. r.bytes) rest) (data_block at rs).bytes_are
    ∙ ap (λ (l : List (List ℕ)). rs ++ l) (datas_bytes (at + length (data_bytes rs)) more)

pub datas_entries : (at : ℕ) (blocks : List (List (List ℕ))) → flat_map (λ b. b.entries) (placed_datas at blocks) ≡ []
unfolding placed_datas flat_map
datas_entries at [] = refl
datas_entries at (rs ∷ more) =
    ap (λ (l : List Entry). l ++ flat_map (λ b. b.entries) (placed_datas (at + length (data_bytes rs)) more)) (data_block at rs).no_entries
    ∙ datas_entries (at + length (data_bytes rs)) more

-- ---- the entries that name data blocks

pub data_entries-offsets : (before : Option (List ℕ)) (at : ℕ) (blocks : List (List (List ℕ)))
    → map (λ e. e.offset) (data_entries before at blocks) ≡ map (λ b. b.frame.start) (placed_datas at blocks)
unfolding data_entries placed_datas placed_data placed_frame
data_entries-offsets before at [] = refl
data_entries-offsets before at (rs ∷ more) = ap (λ (l : List ℕ). at ∷ l) (data_entries-offsets (some (last_or [] rs)) (at + length (data_bytes rs)) more)

pub data_entries_named : (before : Option (List ℕ)) (at : ℕ) (blocks : List (List (List ℕ))) (e : IndexEntry) → Memᴰ e (data_entries before at blocks)
    → (d : Block) × Memᴰ d (placed_datas at blocks) × (d.frame.start ≡ e.offset) × (d.frame.size ≡ e.size) × (d.frame.level ≡ 0)
unfolding data_entries placed_datas
data_entries_named before at [] e m = absurd (Memᴰ.not-nil m)
data_entries_named before at (rs ∷ more) e m =
    go (Memᴰ.cases_cons m) (λ i. data_entries_named (some (last_or [] rs)) (at + length (data_bytes rs)) more e i)
  where
    first : IndexEntry
    first = record { key = key_for before (first_or [] rs); offset = at; size = length (data_bytes rs) }

    Named : List Block → Type 0
    Named ds = (d : Block) × Memᴰ d ds × (d.frame.start ≡ e.offset) × (d.frame.size ≡ e.size) × (d.frame.level ≡ 0)

    go : (e ≡ first) ⊎ Memᴰ e (data_entries (some (last_or [] rs)) (at + length (data_bytes rs)) more)
        → (Memᴰ e (data_entries (some (last_or [] rs)) (at + length (data_bytes rs)) more) → Named (placed_datas (at + length (data_bytes rs)) more))
        → Named (placed_data at rs ∷ placed_datas (at + length (data_bytes rs)) more)
    go (inl same) rest = (
      placed_data at rs,
      Memᴰ.head refl,
      data_start at rs ∙ sym (ap (λ (f : IndexEntry). f.offset) same),
      (data_block at rs).size_is ∙ sym (ap (λ (f : IndexEntry). f.size) same),
      (data_block at rs).level_is,
    )
    go (inr later) rest = let r = rest later in (r.0, Memᴰ.tail r.1, r.2, r.3, r.4)
