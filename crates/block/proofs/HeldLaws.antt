-- What a block that was read holds: its records or entries by its level, where they stand, their order, and what reading them again finds.
-- Assumes nothing.
use mathlib.Core.Path.{◌≡◌, refl, sym, ap, subst}
use mathlib.Core.Bool.{true}
use mathlib.Core.List.Memᴰ
use mathlib.Core.List.{List, [], map, Memᴰ}
use Prim.Native.Nat.{ℕ, ◌+◌, ◌-◌, ◌≤◌, ◌<◌}
use native.Mathlib.Omega.{arith}
use lib.ListN.{length, take, get_or}
use lib.Seq.{length-take-le}
use Rattle.outcome.specs.Outcome.{Outcome, answer}
use Rattle.items.specs.Items.{sound_from}
use Rattle.items.specs.declared.Step.{Step}
use Rattle.items.proofs.ItemsLaws.{Row, items⇒row, row⇒items, row_change, row_some, items⇒sound}
use Rattle.lists.proofs.ListsLaws.{AscendingIn, ascending_wider}
use Rattle.framing.specs.declared.Frame.{Frame}
use Rattle.framing.specs.Frame.{frame_at}
use Rattle.payload.specs.Payload.{Text, Entry, text_at, entry_at, payload_at, records_at, entries_at, rising}
use Rattle.block.specs.Block.{Block, block_at}
use Rattle.framing.proofs.FrameLaws.{Framed, sound_frame⁻¹}
use Rattle.block.proofs.BlockLaws.{BlockRead, block⇒BlockRead, inside_data, inside_index, inside_reserved}
use Rattle.block.proofs.BlockLaws.{LevelOf, is_data_lem, is_index, is_reserved, level_of_lem}
use Rattle.payload.proofs.ReadLaws.{Stands, stands_wider, stands_take, Filled, payload⁻¹, steps_forward, row-ascending, row_stands, text_stands, text_within, text_any_place, key_stands, entry_within, entry_any_place}

-- ---- the items of a payload

-- what is known of the items, read by `step_at`, that fill the payload of a frame
pub record Held {A : Type 0} (step_at : ℕ → List ℕ → ℕ → Outcome (Step A)) (text_of : A → Text) (file : List ℕ) (f : Frame) (xs : List A) : Type 0 where
  -- there is one
  pub some : 0 < length xs
  -- their byte strings rise
  pub sorted : rising (map (λ x. (text_of x).bytes) xs) ≡ true
  -- each stands after the level byte and before the CRC
  pub stand : (x : A) → Memᴰ x xs → Stands file f.body f.end (text_of x)
  -- they stand at ascending offsets
  pub ascend : AscendingIn (f.body + 1) (f.end + 1) (map (λ x. (text_of x).at) xs)
  -- reading the payload again finds them, whatever place a refusal would have
  pub again : (p : ℕ) → sound_from (step_at p (take f.end file)) (length (take f.end file)) (length (take f.end file) - (f.body + 1)) (f.body + 1) ≡ xs

module _ {A : Type 0} (step_at : ℕ → List ℕ → ℕ → Outcome (Step A)) (text_of : A → Text) (unsorted : ℕ)
    (stands : (place : ℕ) (s : List ℕ) (at : ℕ) (x : Step A) → step_at place s at ≡ answer x → Stands s at x.next (text_of x.item))
    (within : (place : ℕ) (s : List ℕ) (at : ℕ) (x : Step A) → step_at place s at ≡ answer x → x.next ≤ length s)
    (any_place : (place p : ℕ) (s : List ℕ) (at : ℕ) (x : Step A) → step_at place s at ≡ answer x → step_at p s at ≡ answer x) where
  forward : (p : ℕ) (s : List ℕ) (a : ℕ) (x : Step A) → step_at p s a ≡ answer x → a < x.next
  forward p s = steps_forward (step_at p s) text_of s (stands p s) (within p s)

  -- a row of items in s, the file up to the end of the payload
  row_held : (file : List ℕ) (f : Frame) (xs : List A) (s : List ℕ) → s ≡ take f.end file → length s ≡ f.end → f.body + 1 < length s
      → Row (step_at f.start s) (length s) (f.body + 1) xs → rising (map (λ x. (text_of x).bytes) xs) ≡ true → Held step_at text_of file f xs
  row_held file f xs s same ends some row sorted =
      record {
        some = row_some (step_at f.start s) (length s) from xs row some;
        sorted = sorted;
        stand = λ x m. stands_take file f.end f.body f.end (text_of x) (omega arith)
            (subst (λ (l : List ℕ). Stands l f.body f.end (text_of x)) same
            (stands_wider s from (length s) f.body f.end (text_of x) (omega arith) (omega arith)
            (row_stands (step_at f.start s) text_of s (stands f.start s) (within f.start s) from xs row x m)));
        ascend =
            ascending_wider (from + 1) (length s + 1) from (f.end + 1) _ (omega arith) (omega arith)
            (row-ascending (step_at f.start s) text_of s (stands f.start s) (within f.start s) from xs row (omega arith));
        again = λ p. subst (λ (l : List ℕ). sound_from (step_at p l) (length l) (length l - from) from ≡ xs) same
            (items⇒sound (step_at p s) (length s) (length s - from) from xs
            (row⇒items (step_at p s) (length s) (forward p s) from xs (row_change (step_at f.start s) (step_at p s) (length s) (any_place f.start p s) from xs row) (length s - from) (omega arith)));
      }
    where
      from : ℕ
      from = f.body + 1

  payload_held : (file : List ℕ) (at : ℕ) (f : Frame) (xs : List A) → Framed file at f
      → payload_at (step_at f.start (take f.end file)) text_of unsorted f.start (length (take f.end file)) (f.body + 1) ≡ answer xs → Held step_at text_of file f xs
  payload_held file at f xs l e = go (payload⁻¹ (step_at f.start s) text_of unsorted f.start (length s) (f.body + 1) xs e)
    where
      s : List ℕ
      s = take f.end file

      long : length s ≡ f.end
      long = let sized = l.sized in let inside = l.within in length-take-le f.end file (omega arith)

      go : Filled (step_at f.start s) text_of (length s) (f.body + 1) xs → Held step_at text_of file f xs
      go q =
          row_held file f xs s refl long q.some
          (items⇒row (step_at f.start s) (length s) (forward f.start s) (length s - (f.body + 1)) (f.body + 1) xs (omega arith) q.items)
          q.sorted

-- ---- a block that was read, by its level

module _ (file : List ℕ) (at : ℕ) (b : Block) (e : block_at file at ≡ answer b) where
  block_read : BlockRead file at b
  block_read = block⇒BlockRead file at b e

  -- reading its frame again, without the CRC
  pub block_frame : frame_at file at ≡ answer b.frame
  block_frame = (sound_frame⁻¹ file at b.frame block_read.sound).0

  -- the level is the first of the L bytes
  pub block_level_lem : b.frame.level ≡ get_or file b.frame.body 0
  block_level_lem = block_read.framed.leveled

  -- a data block has records and no entries
  pub data_records : b.frame.level ≡ 0 → (records_at b.frame.start (take b.frame.end file) (b.frame.body + 1) ≡ answer b.records) × (b.entries ≡ [])
  data_records level = let r = inside_data file b.frame b block_read.inside level in (r.0, r.2)

  -- an index block has entries and no records
  pub index_entries : 1 ≤ b.frame.level → b.frame.level ≤ 63
      → (entries_at b.frame.start (take b.frame.end file) (b.frame.body + 1) ≡ answer b.entries) × (b.records ≡ [])
  index_entries some level = let r = inside_index file b.frame b block_read.inside (λ z. omega arith) level in (r.0, r.2)

  -- a reserved block has neither
  pub reserved_empty : 63 < b.frame.level → (b.records ≡ []) × (b.entries ≡ [])
  reserved_empty level = let r = inside_reserved file b.frame b block_read.inside level in (r.1, r.2)

  -- its items

  pub data_held : b.frame.level ≡ 0 → Held text_at (λ r. r) file b.frame b.records
  unfolding records_at
  data_held level = payload_held text_at (λ r. r) 16 text_stands text_within text_any_place file at b.frame b.records block_read.framed (data_records level).0

  pub index_held : 1 ≤ b.frame.level → b.frame.level ≤ 63 → Held entry_at (λ x. x.key) file b.frame b.entries
  unfolding entries_at
  index_held some level = payload_held entry_at (λ x. x.key) 21 key_stands entry_within entry_any_place file at b.frame b.entries block_read.framed (index_entries some level).0

  -- ---- facts one by one

  pub data_some : b.frame.level ≡ 0 → 0 < length b.records
  data_some level = (data_held level).some

  pub index_some : 1 ≤ b.frame.level → b.frame.level ≤ 63 → 0 < length b.entries
  index_some some level = (index_held some level).some

  pub data_no_entries : b.frame.level ≡ 0 → b.entries ≡ []
  data_no_entries level = (data_records level).1

  pub reserved_no_entries : 63 < b.frame.level → b.entries ≡ []
  reserved_no_entries level = (reserved_empty level).1

  -- only a data block has records
  pub no_records : 1 ≤ b.frame.level → b.records ≡ []
  no_records some = go (level_of_lem b.frame.level)
    where
      go : LevelOf b.frame.level → b.records ≡ []
      go (is_data_lem level) = absurd (omega arith)
      go (is_index more level) = (index_entries more level).1
      go (is_reserved level) = (reserved_empty level).0

  pub record⇒data : (r : Text) → Memᴰ r b.records → b.frame.level ≡ 0
  record⇒data r m = go (level_of_lem b.frame.level)
    where
      none : 1 ≤ b.frame.level → ⊥
      none some = Memᴰ.not-nil (subst (Memᴰ r) (no_records some) m)

      go : LevelOf b.frame.level → b.frame.level ≡ 0
      go (is_data_lem level) = level
      go (is_index more level) = absurd (none more)
      go (is_reserved level) = absurd (none (omega arith))

  -- only an index block has entries
  pub entry⇒index : (x : Entry) → Memᴰ x b.entries → (1 ≤ b.frame.level) × (b.frame.level ≤ 63)
  entry⇒index x m = go (level_of_lem b.frame.level)
    where
      none : b.entries ≡ [] → ⊥
      none empty = Memᴰ.not-nil (subst (Memᴰ x) empty m)

      go : LevelOf b.frame.level → (1 ≤ b.frame.level) × (b.frame.level ≤ 63)
      go (is_data_lem level) = absurd (none (data_no_entries level))
      go (is_index more level) = (more, level)
      go (is_reserved level) = absurd (none (reserved_no_entries level))

  -- a record, or a key, stands after the level byte and before the CRC, and is what the file has there
  pub record_in_block : (r : Text) → Memᴰ r b.records → Stands file b.frame.body b.frame.end r
  record_in_block r m = (data_held (record⇒data r m)).stand r m

  pub key_in_block : (x : Entry) → Memᴰ x b.entries → Stands file b.frame.body b.frame.end x.key
  key_in_block x m = let level = entry⇒index x m in (index_held level.0 level.1).stand x m

  -- records rise and stand at ascending offsets within the block, and so do keys; where there are none this says nothing
  pub records_rising : rising (map (λ r. r.bytes) b.records) ≡ true
  unfolding rising
  records_rising = go (level_of_lem b.frame.level)
    where
      none : b.records ≡ [] → rising (map (λ r. r.bytes) b.records) ≡ true
      none empty = ap (λ (rs : List Text). rising (map (λ r. r.bytes) rs)) empty

      go : LevelOf b.frame.level → rising (map (λ r. r.bytes) b.records) ≡ true
      go (is_data_lem level) = (data_held level).sorted
      go (is_index more level) = none (no_records more)
      go (is_reserved level) = none (no_records (omega arith))

  pub keys-rising : rising (map (λ x. x.key.bytes) b.entries) ≡ true
  unfolding rising
  keys-rising = go (level_of_lem b.frame.level)
    where
      none : b.entries ≡ [] → rising (map (λ x. x.key.bytes) b.entries) ≡ true
      none empty = ap (λ (xs : List Entry). rising (map (λ x. x.key.bytes) xs)) empty

      go : LevelOf b.frame.level → rising (map (λ x. x.key.bytes) b.entries) ≡ true
      go (is_data_lem level) = none (data_no_entries level)
      go (is_index more level) = (index_held more level).sorted
      go (is_reserved level) = none (reserved_no_entries level)

  -- the payload lies within the block
  in_frame : (offsets : List ℕ) → AscendingIn (b.frame.body + 1) (b.frame.end + 1) offsets → AscendingIn b.frame.start (b.frame.start + b.frame.size) offsets
  in_frame offsets h =
      let starts = block_read.framed.starts in
      let number = block_read.framed.number in
      let sized = block_read.framed.sized in
      ascending_wider (b.frame.body + 1) (b.frame.end + 1) b.frame.start (b.frame.start + b.frame.size) offsets (omega arith) (omega arith) h

  pub records_ascending : AscendingIn b.frame.start (b.frame.start + b.frame.size) (map (λ r. r.at) b.records)
  unfolding AscendingIn
  records_ascending = go (level_of_lem b.frame.level)
    where
      none : b.records ≡ [] → AscendingIn b.frame.start (b.frame.start + b.frame.size) (map (λ r. r.at) b.records)
      none empty = subst (λ (rs : List Text). AscendingIn b.frame.start (b.frame.start + b.frame.size) (map (λ r. r.at) rs)) (sym empty) (omega arith)

      go : LevelOf b.frame.level → AscendingIn b.frame.start (b.frame.start + b.frame.size) (map (λ r. r.at) b.records)
      go (is_data_lem level) = in_frame (map (λ r. r.at) b.records) (data_held level).ascend
      go (is_index more level) = none (no_records more)
      go (is_reserved level) = none (no_records (omega arith))

  pub keys-ascending : AscendingIn b.frame.start (b.frame.start + b.frame.size) (map (λ x. x.key.at) b.entries)
  unfolding AscendingIn
  keys-ascending = go (level_of_lem b.frame.level)
    where
      none : b.entries ≡ [] → AscendingIn b.frame.start (b.frame.start + b.frame.size) (map (λ x. x.key.at) b.entries)
      none empty = subst (λ (xs : List Entry). AscendingIn b.frame.start (b.frame.start + b.frame.size) (map (λ x. x.key.at) xs)) (sym empty) (omega arith)

      go : LevelOf b.frame.level → AscendingIn b.frame.start (b.frame.start + b.frame.size) (map (λ x. x.key.at) b.entries)
      go (is_data_lem level) = none (data_no_entries level)
      go (is_index more level) = in_frame (map (λ x. x.key.at) b.entries) (index_held more level).ascend
      go (is_reserved level) = none (reserved_no_entries level)

  -- reading the payload again, without the frame's tests and with any place for a refusal, finds the same items
  pub reread_records : (p : ℕ) → b.frame.level ≡ 0
      → sound_from (text_at p (take b.frame.end file)) (length (take b.frame.end file)) (length (take b.frame.end file) - (b.frame.body + 1)) (b.frame.body + 1) ≡ b.records
  reread_records p level = (data_held level).again p

  pub reread_entries : (p : ℕ) → 1 ≤ b.frame.level → b.frame.level ≤ 63
      → sound_from (entry_at p (take b.frame.end file)) (length (take b.frame.end file)) (length (take b.frame.end file) - (b.frame.body + 1)) (b.frame.body + 1) ≡ b.entries
  reread_entries p some level = (index_held some level).again p
