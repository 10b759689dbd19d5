-- Blocks that are laid side by side, as the entries that are made for them.
-- Assumes nothing.
use mathlib.Core.Path.{◌≡◌, refl, sym, ap, ap₂, ◌∙◌}
use mathlib.Core.Bool.{false}
use mathlib.Core.Option.{none, some}
use mathlib.Core.List.{List, [], ◌∷◌, flat_map, map, Memᴰ}
use Prim.Native.Nat.{ℕ, zero, suc, ◌+◌, ◌-◌, ◌^◌, ◌≤◌, ◌<◌}
use native.Mathlib.Omega.{arith}
use lib.ListN.{length, take, length-append}
use lib.Seq.{length-take-le}
use Rattle.lists.specs.Groups.{first_or, last_or}
use Rattle.outcome.specs.Outcome.{answer}
use Rattle.items.proofs.ItemsLaws.{items⇒sound}
use Rattle.part.specs.Part.{part}
use Rattle.payload.specs.Payload.{Text, text_at}
use Rattle.block.specs.Block.{is_data}
use Rattle.layout.specs.Blocks.{text_bytes, block_size, records_bytes, data_bytes}
use Rattle.layout.specs.Index.{IndexEntry, IndexBlock, entry_bytes, index_bytes, first_key, entry_for}
use Rattle.layout.specs.File.{key_for, data_entries}
use Rattle.layout.specs.Placed.{placed_text, placed_frame, placed_records}
use Rattle.layout.proofs.LiesLaws.{Lies, lies_within, lies_front, lies_back}
use Rattle.layout.proofs.ReadBackLaws.{length_block, frame_back}
use Rattle.layout.proofs.PayloadBackLaws.{placed_records_bytes, records_items_back}
use Rattle.layout.proofs.ChildBackLaws.{payload_lies, first_text, first_back, entries_begin}
use Rattle.layout.proofs.SideBySideLaws.{SideBySide}
use Rattle.layout.proofs.BlockBackLaws.{data_some, index_some}
use Rattle.layout.proofs.KeyLaws.{Filled}
use Rattle.layout.proofs.KeyForLaws.{key_nothing_before}
use Rattle.index_encoder.specs.Children.{bytes_of, last_text, last_from, child_after, children_after, children_from, start_at}
use Rattle.index_encoder.proofs.ChildLaws.{data_child_found, index_child_found, after_past, after_more}

module _ (s : List ℕ) (small : length s < 2 ^ 63) where
  -- ---- a data block

  module _ (at : ℕ) (r : List ℕ) (rs : List (List ℕ)) (l : Lies s at (data_bytes (r ∷ rs))) where
    abbrev payload : List ℕ
    payload = records_bytes (r ∷ rs)

    abbrev end : ℕ
    end = (placed_frame 0 at (length payload)).end

    abbrev second : ℕ
    second = (placed_frame 0 at (length payload)).body + 1 + length (text_bytes r)

    short : (at + block_size (length payload) ≤ length s) × (length payload + 1 < 2 ^ 63)
    unfolding data_bytes block_size
    short =
        let inside = lies_within s at (data_bytes (r ∷ rs)) l in
        let long = length_block 0 payload in
        (omega arith, omega arith)

    -- the records after the first
    later_lie : Lies (take end s) second (records_bytes rs)
    unfolding data_bytes records_bytes flat_map
    later_lie = lies_back (take end s) _ (text_bytes r) (records_bytes rs) (payload_lies s at 0 payload l)

    later_end : second + length (records_bytes rs) ≡ length (take end s)
    unfolding records_bytes flat_map placed_frame block_size
    later_end =
        let whole = length-append (text_bytes r) (records_bytes rs) in
        let fits = short.0 in
        let cut = length-take-le end s (omega arith) in
        omega arith

    data_last : last_from (take end s) second r ≡ last_or r rs
    unfolding records_bytes flat_map last_from last_text
    data_last =
        let fits = short.1 in
        let whole = length-append (text_bytes r) (records_bytes rs) in
        ap (λ (ts : List Text). last_or r (map (λ t. t.bytes) ts))
        (items⇒sound (text_at 0 (take end s)) (length (take end s)) (length (take end s) - second) second (placed_records second rs)
        (records_items_back 0 (take end s) second rs (omega arith) later_lie later_end (length (take end s) - second) (omega arith)))
        ∙ ap (last_or r) (placed_records_bytes second rs)

    pub data_child_back : (before : List ℕ)
        → child_after s before at
        ≡ answer (record { entry = record { key = key_for (some before) r; offset = at; size = length (data_bytes (r ∷ rs)) }; last = last_or r rs })
    unfolding data_bytes records_bytes flat_map placed_frame first_text placed_text block_size is_data
    data_child_back before =
        data_child_found s before at (placed_frame 0 at (length payload)) (frame_back s at 0 payload l short.1) (first_text 0 at (length payload) r)
        (first_back s at 0 payload r (records_bytes rs) refl short.1 l at) refl
        ∙ ap₂ (λ (n : ℕ) (m : List ℕ). answer (record { entry = record { key = key_for (some before) r; offset = at; size = n }; last = m }))
        (sym (length_block 0 payload)) data_last

  -- ---- an index block

  pub index_child_back : (before : List ℕ) (at : ℕ) (b : IndexBlock) → 0 < length b.entries → is_data b.level ≡ false → Lies s at (index_bytes b)
      → child_after s before at
      ≡ answer (record { entry = record { key = first_key b.entries; offset = at; size = length (index_bytes b) }; last = first_key b.entries })
  unfolding index_bytes block_size first_text placed_text placed_frame
  index_child_back before at b filled d l =
      let payload = flat_map entry_bytes b.entries in
      let inside = lies_within s at (index_bytes b) l in
      let long = length_block b.level payload in
      let first = entries_begin b.entries filled in
      let key = first_key b.entries in
      let fits : length payload + 1 < 2 ^ 63 = omega arith in
      index_child_found s before at (placed_frame b.level at (length payload)) (frame_back s at b.level payload l fits)
      (first_text b.level at (length payload) key) (first_back s at b.level payload key first.0 first.1 fits l at) d
      ∙ ap (λ (n : ℕ). answer (record { entry = record { key = key; offset = at; size = n }; last = key })) (sym long)

  -- ---- blocks side by side

  data_after : (fuel : ℕ) (before : List ℕ) (at : ℕ) (blocks : List (List (List ℕ))) → Filled blocks → Lies s at (flat_map data_bytes blocks)
      → at + length (flat_map data_bytes blocks) ≡ length s → length s - at ≤ fuel → children_after s fuel before at ≡ data_entries (some before) at blocks
  unfolding data_entries flat_map first_or last_or
  data_after fuel before at [] filled l ends enough = after_past s fuel before at (omega arith)
  data_after fuel before at ([] ∷ more) filled l ends enough = absurd (let none = filled [] (Memᴰ.head refl) in omega arith)
  data_after zero before at ((r ∷ rs) ∷ more) filled l ends enough =
      absurd (let bytes = data_some (r ∷ rs) in let long = length-append (data_bytes (r ∷ rs)) (flat_map data_bytes more) in omega arith)
  data_after (suc fuel) before at ((r ∷ rs) ∷ more) filled l ends enough =
      let bytes = data_some (r ∷ rs) in
      let long = length-append (data_bytes (r ∷ rs)) (flat_map data_bytes more) in
      after_more s fuel before at _ (data_child_back at r rs (lies_front s at (data_bytes (r ∷ rs)) (flat_map data_bytes more) l) before)
      ∙ ap (λ (es : List IndexEntry). record { key = key_for (some before) r; offset = at; size = length (data_bytes (r ∷ rs)) } ∷ es)
      (data_after fuel (last_or r rs) (at + length (data_bytes (r ∷ rs))) more (λ g m. filled g (Memᴰ.tail m))
      (lies_back s at (data_bytes (r ∷ rs)) (flat_map data_bytes more) l) (omega arith) (omega arith))

  -- with nothing before is as with the empty record before
  data_none : (at : ℕ) (blocks : List (List (List ℕ))) → data_entries (some []) at blocks ≡ data_entries none at blocks
  unfolding data_entries
  data_none at [] = refl
  data_none at (rs ∷ more) =
      ap (λ (k : List ℕ). record { key = k; offset = at; size = length (data_bytes rs) } ∷ data_entries (some (last_or [] rs)) (at + length (data_bytes rs)) more)
      (sym (key_nothing_before (first_or [] rs)))

  -- the entries over data blocks
  pub data_children_back : (from : ℕ) (blocks : List (List (List ℕ))) → Filled blocks → Lies s from (flat_map data_bytes blocks)
      → from + length (flat_map data_bytes blocks) ≡ length s → children_from s (start_at from) ≡ data_entries none from blocks
  unfolding children_from start_at bytes_of part
  data_children_back from blocks filled l ends = data_after (length s) [] from blocks filled l ends (omega arith) ∙ data_none from blocks

  index_after : (fuel : ℕ) (before : List ℕ) (at : ℕ) (bs : List IndexBlock)
      → ((b : IndexBlock) → Memᴰ b bs → (0 < length b.entries) × (is_data b.level ≡ false)) → SideBySide at bs
      → Lies s at (flat_map index_bytes bs) → at + length (flat_map index_bytes bs) ≡ length s → length s - at ≤ fuel
      → children_after s fuel before at ≡ map entry_for bs
  unfolding flat_map SideBySide entry_for
  index_after fuel before at [] good beside l ends enough = after_past s fuel before at (omega arith)
  index_after zero before at (b ∷ bs) good beside l ends enough =
      absurd (let bytes = index_some b in let long = length-append (index_bytes b) (flat_map index_bytes bs) in omega arith)
  index_after (suc fuel) before at (b ∷ bs) good beside l ends enough =
      let bytes = index_some b in
      let long = length-append (index_bytes b) (flat_map index_bytes bs) in
      let it = good b (Memᴰ.head refl) in
      after_more s fuel before at _ (index_child_back before at b it.0 it.1 (lies_front s at (index_bytes b) (flat_map index_bytes bs) l))
      ∙ ap₂ (λ (n : ℕ) (es : List IndexEntry). record { key = first_key b.entries; offset = n; size = length (index_bytes b) } ∷ es) (sym beside.0)
      (index_after fuel (first_key b.entries) (at + length (index_bytes b)) bs (λ c m. good c (Memᴰ.tail m)) beside.1
      (lies_back s at (index_bytes b) (flat_map index_bytes bs) l) (omega arith) (omega arith))

  -- the entries over index blocks
  pub index_children_back : (from : ℕ) (bs : List IndexBlock)
      → ((b : IndexBlock) → Memᴰ b bs → (0 < length b.entries) × (is_data b.level ≡ false)) → SideBySide from bs
      → Lies s from (flat_map index_bytes bs) → from + length (flat_map index_bytes bs) ≡ length s → children_from s (start_at from) ≡ map entry_for bs
  unfolding children_from start_at bytes_of part
  index_children_back from bs good beside l ends = index_after (length s) [] from bs good beside l ends (omega arith)
