-- The records of a data block and the entries of an index block are read back from the payload.
-- Assumes nothing.
use mathlib.Core.Path.{◌≡◌, refl, sym, ap, ◌∙◌}
use mathlib.Core.Bool.{true}
use mathlib.Core.Logic.{◌⊎◌, inl, inr}
use mathlib.Core.List.Memᴰ
use mathlib.Core.List.{List, [], ◌∷◌, ◌++◌, flat_map, map, Memᴰ}
use Prim.Native.Nat.{ℕ, ◌+◌, ◌-◌, ◌^◌, ◌≤◌, ◌<◌}
use native.Mathlib.Omega.{arith}
use lib.Dec.{ltb}
use lib.ListN.{length, length-append}
use borrow.Author.Tests.{lt-ltb}
use Rattle.outcome.specs.Outcome.{Outcome, answer}
use Rattle.outcome.proofs.OutcomeLaws.{kept, bind_answer}
use Rattle.items.specs.Items.{items_from}
use Rattle.items.specs.declared.Step.{Step}
use Rattle.uleb128.proofs.EncodingLaws.{encoding_some}
use Rattle.payload.specs.Payload.{Text, Entry, text_at, entry_at, rising, payload_at, records_at, entries_at}
use Rattle.layout.specs.Blocks.{text_bytes, block_size, records_bytes, data_bytes}
use Rattle.layout.specs.Index.{IndexEntry, entry_bytes}
use Rattle.layout.specs.Placed.{placed_text, placed_records, placed_entries}
use Rattle.layout.proofs.LiesLaws.{Lies}
use Rattle.layout.proofs.ReadBackLaws.{length_text, length_entry, length_block, text_some, entry_some, text_back, entry_back}
use Rattle.layout.proofs.ItemsBackLaws.{placed_by, items_back}

-- ---- what is joined is at least as long as each part

pub flat_map_length : {A B : Type 0} (f : A → List B) (xs : List A) (x : A) → Memᴰ x xs → length (f x) ≤ length (flat_map f xs)
unfolding flat_map
flat_map_length f [] x m = absurd (Memᴰ.not-nil m)
flat_map_length {A} f (y ∷ xs) x m = go (Memᴰ.cases_cons m) (λ (i : Memᴰ x xs). flat_map_length f xs x i)
  where
    go : (x ≡ y) ⊎ Memᴰ x xs → (Memᴰ x xs → length (f x) ≤ length (flat_map f xs)) → length (f x) ≤ length (f y ++ flat_map f xs)
    go (inl same) rest = let sum = length-append (f y) (flat_map f xs) in let moved = ap (λ (z : A). length (f z)) same in omega arith
    go (inr inside) rest = let sum = length-append (f y) (flat_map f xs) in let less = rest inside in omega arith

pub record_length : (rs : List (List ℕ)) (r : List ℕ) → Memᴰ r rs → length r < length (records_bytes rs)
unfolding records_bytes
record_length rs r m = let joined = flat_map_length text_bytes rs r m in let long = length_text r in let some = encoding_some (length r) in omega arith

-- payloads are shorter than their blocks
pub payloads_shorter : (bs : List (List (List ℕ))) → length (flat_map records_bytes bs) ≤ length (flat_map data_bytes bs)
unfolding flat_map data_bytes block_size
payloads_shorter [] = omega arith
payloads_shorter (rs ∷ bs) =
    let ih = payloads_shorter bs in
    rw (
      length-append (records_bytes rs) (flat_map records_bytes bs),
      length-append (data_bytes rs) (flat_map data_bytes bs),
      length_block 0 (records_bytes rs),
    ) (omega arith)

pub key_length_lem : (es : List IndexEntry) (e : IndexEntry) → Memᴰ e es → length e.key < length (flat_map entry_bytes es)
key_length_lem es e m =
    let joined = flat_map_length entry_bytes es e m in
    let long = length_entry e in
    let text = length_text e.key in
    let some = encoding_some (length e.key) in
    omega arith

-- ---- records

-- as found one by one
pub placed_records_lem : (at : ℕ) (rs : List (List ℕ)) → placed_records at rs ≡ placed_by text_bytes placed_text at rs
unfolding placed_records placed_by
placed_records_lem at [] = refl
placed_records_lem at (r ∷ rs) = ap (λ (l : List Text). placed_text at r ∷ l) (placed_records_lem (at + length (text_bytes r)) rs)

-- their bytes
pub placed_records_bytes : (at : ℕ) (rs : List (List ℕ)) → map (λ (t : Text). t.bytes) (placed_records at rs) ≡ rs
unfolding placed_records placed_text
placed_records_bytes at [] = refl
placed_records_bytes at (r ∷ rs) = ap (λ (l : List (List ℕ)). r ∷ l) (placed_records_bytes (at + length (text_bytes r)) rs)

pub records_items_back : (place : ℕ) (s : List ℕ) (at : ℕ) (rs : List (List ℕ)) → length (records_bytes rs) < 2 ^ 63 → Lies s at (records_bytes rs)
    → at + length (records_bytes rs) ≡ length s → (fuel : ℕ) → length s - at ≤ fuel
    → items_from (text_at place s) (length s) fuel at ≡ answer (placed_records at rs)
unfolding records_bytes
records_items_back place s at rs small l h fuel enough =
    items_back text_bytes placed_text (text_at place s) s text_some (length s) rs
    (λ r m a k. text_back place s a r (let long = record_length rs r m in omega arith) k) at fuel l h enough
    ∙ ap answer (sym (placed_records_lem at rs))

-- ---- entries

unfoldable pub placed_entry : (at : ℕ) → IndexEntry → Entry
placed_entry at e = record { key = placed_text at e.key; offset = e.offset; size = e.size }

pub placed_entries_lem : (at : ℕ) (es : List IndexEntry) → placed_entries at es ≡ placed_by entry_bytes placed_entry at es
unfolding placed_entries placed_by placed_entry
placed_entries_lem at [] = refl
placed_entries_lem at (e ∷ es) = ap (λ (l : List Entry). placed_entry at e ∷ l) (placed_entries_lem (at + length (entry_bytes e)) es)

pub placed_entries_keys : (at : ℕ) (es : List IndexEntry) → map (λ (x : Entry). x.key.bytes) (placed_entries at es) ≡ map (λ (e : IndexEntry). e.key) es
unfolding placed_entries placed_text
placed_entries_keys at [] = refl
placed_entries_keys at (e ∷ es) = ap (λ (l : List (List ℕ)). e.key ∷ l) (placed_entries_keys (at + length (entry_bytes e)) es)

-- their numbers can be written
abbrev pub SmallNumbers : List IndexEntry → Type 0
SmallNumbers es = (e : IndexEntry) → Memᴰ e es → (e.offset < 2 ^ 63) × (e.size < 2 ^ 63)

pub entries_items_back : (place : ℕ) (s : List ℕ) (at : ℕ) (es : List IndexEntry) → length (flat_map entry_bytes es) < 2 ^ 63 → SmallNumbers es
    → Lies s at (flat_map entry_bytes es) → at + length (flat_map entry_bytes es) ≡ length s → (fuel : ℕ) → length s - at ≤ fuel
    → items_from (entry_at place s) (length s) fuel at ≡ answer (placed_entries at es)
unfolding placed_entry
entries_items_back place s at es small numbers l h fuel enough =
    items_back entry_bytes placed_entry (entry_at place s) s entry_some (length s) es
    (λ e m a k. entry_back place s a e (let long = key_length_lem es e m in omega arith) (numbers e m).0 (numbers e m).1 k) at fuel l h enough
    ∙ ap answer (sym (placed_entries_lem at es))

-- ---- the payload

-- one or more items that fill the payload, whose byte strings rise
pub payload_of_lem : {A : Type 0} (step : ℕ → Outcome (Step A)) (text_of : A → Text) (unsorted place end at : ℕ) (xs : List A) → at < end
    → items_from step end (end - at) at ≡ answer xs → rising (map (λ x. (text_of x).bytes) xs) ≡ true → payload_at step text_of unsorted place end at ≡ answer xs
unfolding payload_at
payload_of_lem step text_of unsorted place end at xs some items sorted =
    kept (ltb at end) 15 place _ (lt-ltb at end some)
    ∙ bind_answer (items_from step end (end - at) at) _ xs items
    ∙ kept (rising (map (λ x. (text_of x).bytes) xs)) unsorted place (answer xs) sorted

pub records_back : (place : ℕ) (s : List ℕ) (at : ℕ) (rs : List (List ℕ)) → 0 < length rs → rising rs ≡ true → length (records_bytes rs) < 2 ^ 63
    → Lies s at (records_bytes rs) → at + length (records_bytes rs) ≡ length s → records_at place s at ≡ answer (placed_records at rs)
unfolding records_at
records_back place s at rs some sorted small l h =
    payload_of_lem (text_at place s) (λ r. r) 16 place (length s) at (placed_records at rs) (let filled = records_some rs some in omega arith)
    (records_items_back place s at rs small l h (length s - at) (omega arith)) (ap rising (placed_records_bytes at rs) ∙ sorted)
  where
    records_some : (rs : List (List ℕ)) → 0 < length rs → 0 < length (records_bytes rs)
    records_some [] k = absurd (omega arith)
    records_some (r ∷ more) k = let long = record_length (r ∷ more) r (Memᴰ.head refl) in omega arith

pub entries_back : (place : ℕ) (s : List ℕ) (at : ℕ) (es : List IndexEntry) → 0 < length es → rising (map (λ (e : IndexEntry). e.key) es) ≡ true
    → length (flat_map entry_bytes es) < 2 ^ 63 → SmallNumbers es → Lies s at (flat_map entry_bytes es) → at + length (flat_map entry_bytes es) ≡ length s
    → entries_at place s at ≡ answer (placed_entries at es)
unfolding entries_at
entries_back place s at es some sorted small numbers l h =
    payload_of_lem (entry_at place s) (λ e. e.key) 21 place (length s) at (placed_entries at es) (let filled = entries_some es some in omega arith)
    (entries_items_back place s at es small numbers l h (length s - at) (omega arith)) (ap rising (placed_entries_keys at es) ∙ sorted)
  where
    entries_some : (es : List IndexEntry) → 0 < length es → 0 < length (flat_map entry_bytes es)
    entries_some [] k = absurd (omega arith)
    entries_some (e ∷ more) k = let long = key_length_lem (e ∷ more) e (Memᴰ.head refl) in omega arith
