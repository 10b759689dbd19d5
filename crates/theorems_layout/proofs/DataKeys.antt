-- The keys of the entries over the data blocks of a written file: they keep the key rule, are cut from first records, and no shorter one
-- keeps the rule.
-- Assumes nothing.
use mathlib.Core.Path.{◌≡◌, refl, sym, ap, ◌∙◌, subst}
use mathlib.Core.Logic.{◌≢◌, ◌⊎◌, inl, inr}
use mathlib.Core.Bool.{true}
use mathlib.Core.Option.{Option, none, some}
use mathlib.Core.List.Memᴰ
use mathlib.Core.List.{List, [], ◌∷◌, ◌++◌, flat_map, map, append-nil, append_assoc, Memᴰ}
use Prim.Native.Nat.{ℕ, ◌+◌, ◌≤◌, ◌<◌, zero-le}
use native.Mathlib.Omega.{arith}
use lib.ListN.{length}
use Rattle.byte_string.specs.Order.{at_most, begins}
use Rattle.byte_string.proofs.OrderLaws.{at_most_trans}
use Rattle.lists.specs.Groups.{first_or, last_or}
use Rattle.payload.specs.Payload.{Text}
use Rattle.block.specs.Block.{Block}
use Rattle.block.specs.Survey.{records_of}
use Rattle.tree.specs.Tree.{block_records, leaves, under}
use Rattle.tree.proofs.TreeLaws.{records_at_lem}
use Rattle.layout.specs.Blocks.{data_bytes}
use Rattle.layout.specs.Index.{IndexEntry}
use Rattle.layout.specs.File.{key_for, data_entries, root_entry}
use Rattle.layout.specs.Placed.{placed_data, placed_datas, placed_blocks}
use Rattle.layout.proofs.KeyForLaws.{key_begins, key_at_most_first, before-at_most_key, key_shortest}
use Rattle.theorems_check.specs.Rules.{Sorted}
use Rattle.theorems_layout.specs.WrittenTree.{joined, Writable}
use Rattle.theorems_layout.proofs.IndexNames.{last_or_member}
use Rattle.theorems_layout.proofs.PlacedLaws.{data_block, data_start}
use Rattle.theorems_layout.proofs.WrittenNames.{data_member}
use Rattle.theorems_layout.proofs.WrittenWalk.{written_Tree}
use Rattle.theorems_layout.proofs.SortedParts.{sorted_left, sorted_right, sorted_apart, sorted_last}
use Rattle.theorems_layout.proofs.WrittenRecords.{First, data_first, data_before, records_placed}
use Rattle.theorems_layout.proofs.WrittenKeys.{Leads}

-- ---- the record before a block

-- a record that is one of the earlier ones, and lies between those and the later ones
record Last (x : List ℕ) (earlier : List Text) (later : List (List ℕ)) : Type 0 where
  text : Text
  member : Memᴰ text earlier
  bytes_are : text.bytes ≡ x
  above : (r : Text) → Memᴰ r earlier → at_most r.bytes x ≡ true
  below : (y : List ℕ) → Memᴰ y later → at_most x y ≡ true

-- `before` is the last of the earlier records, if there are any
unfoldable Between : Option (List ℕ) → (earlier : List Text) (later : List (List ℕ)) → Type 0
Between none earlier later = earlier ≡ []
Between (some x) earlier later = Last x earlier later

-- what stands before is at most what comes later
between_apart : (before : Option (List ℕ)) (earlier : List Text) (later : List (List ℕ)) → Between before earlier later
    → (r : Text) → Memᴰ r earlier → (y : List ℕ) → Memᴰ y later → at_most r.bytes y ≡ true
unfolding Between
between_apart none earlier later h r m y n = absurd (Memᴰ.not-nil (subst (Memᴰ r) h m))
between_apart (some x) earlier later h r m y n = at_most_trans r.bytes x y (h.above r m) (h.below y n)

-- and at most the key of the next
between_key : (before : Option (List ℕ)) (earlier : List Text) (later : List (List ℕ)) → Between before earlier later
    → (r : Text) → Memᴰ r earlier → (first : List ℕ) → Memᴰ first later → at_most r.bytes (key_for before first) ≡ true
unfolding Between
between_key none earlier later h r m first n = absurd (Memᴰ.not-nil (subst (Memᴰ r) h m))
between_key (some x) earlier later h r m first n =
    at_most_trans r.bytes x (key_for (some x) first) (h.above r m) (before-at_most_key x first (h.below first n))

-- which is the shortest that they and the first allow
between_shortest : (before : Option (List ℕ)) (earlier : List Text) (later : List (List ℕ)) → Between before earlier later
    → (first key : List ℕ) → at_most key first ≡ true → ((r : Text) → Memᴰ r earlier → at_most r.bytes key ≡ true)
    → length (key_for before first) ≤ length key
unfolding Between key_for
between_shortest none earlier later h first key below above = zero-le
between_shortest (some x) earlier later h first key below above =
    key_shortest x first key (subst (λ (l : List ℕ). at_most l key ≡ true) h.bytes_are (above h.text h.member)) below

-- the last record of a block lies between those up to it and the later ones
between_next : (before : Option (List ℕ)) (earlier own : List Text) (s : List ℕ) (rs later : List (List ℕ)) → Between before earlier ((s ∷ rs) ++ later)
    → map (λ r. r.bytes) own ≡ s ∷ rs → Sorted ((s ∷ rs) ++ later) → Between (some (last_or [] (s ∷ rs))) (earlier ++ own) later
unfolding Between last_or
between_next before earlier own s rs later h bytes sorted =
    record {
      text = last.0;
      member = Memᴰ.append_right earlier last.1;
      bytes_are = last.2;
      above = λ r m. go r (Memᴰ.append_cases earlier m);
      below = λ y m. sorted_apart (s ∷ rs) later sorted (last_or s rs) y (last_or_member s rs) m;
    }
  where
    last : (t : Text) × Memᴰ t own × (t.bytes ≡ last_or s rs)
    last = Memᴰ.of_map (λ (t : Text). t.bytes) own (subst (Memᴰ (last_or s rs)) (sym bytes) (last_or_member s rs))

    go : (r : Text) → Memᴰ r earlier ⊎ Memᴰ r own → at_most r.bytes (last_or s rs) ≡ true
    go r (inl i) = between_apart before earlier ((s ∷ rs) ++ later) h r i (last_or s rs) (Memᴰ.append_left later (last_or_member s rs))
    go r (inr i) =
        sorted_last s (s ∷ rs) (sorted_left (s ∷ rs) later sorted) r.bytes (subst (Memᴰ r.bytes) bytes (Memᴰ.map (λ (t : Text). t.bytes) i))

module _ (per_index from : ℕ) (blocks : List (List (List ℕ))) (good : Writable per_index blocks) where
  abbrev bs : List Block
  bs = placed_blocks per_index from blocks

  -- the key is at most the first record, and at least every record of the file before that one
  abbrev Fits : (key : List ℕ) (first : Text) → Type 0
  Fits key first = (at_most key first.bytes ≡ true) × ((r : Text) → Memᴰ r (records_of bs) → r.at < first.at → at_most r.bytes key ≡ true)

  -- the key fits, is cut from the first record, and none that fits is shorter
  pub record KeyHolds (key : List ℕ) (first : Text) : Type 0 where
    pub fits : Fits key first
    pub cut : begins key first.bytes ≡ true
    pub shortest : (other : List ℕ) → Fits other first → length key ≤ length other

  abbrev KeyLeads : IndexEntry → Type 0
  KeyLeads e = Leads per_index from blocks good KeyHolds 0 e

  -- what a data block leads to
  under_data : (at : ℕ) (s : List ℕ) (rs : List (List ℕ)) (more : List (List (List ℕ)))
      → Memᴰ (placed_data at (s ∷ rs)) (placed_blocks per_index from blocks)
      → under (placed_blocks per_index from blocks) 0 at ≡ (data_first at s rs more).first ∷ (data_first at s rs more).rest
  unfolding under leaves flat_map
  under_data at s rs more member =
      append-nil (block_records bs at) ∙ ap (block_records bs) (sym (data_start at (s ∷ rs)))
      ∙ records_at_lem bs (root_entry per_index from blocks).offset (written_Tree per_index from blocks good) (placed_data at (s ∷ rs)) member
      ∙ (data_first at s rs more).records_are

  -- one block, after the records `earlier`
  leads_first : (before : Option (List ℕ)) (at : ℕ) (s : List ℕ) (rs : List (List ℕ)) (more : List (List (List ℕ))) (earlier : List Text)
      → records_of bs ≡ earlier ++ flat_map (λ b. b.records) (placed_datas at ((s ∷ rs) ∷ more)) → Memᴰ (placed_data at (s ∷ rs)) bs
      → ((r : Text) → Memᴰ r earlier → r.at < at) → Between before earlier (joined ((s ∷ rs) ∷ more)) → (size : ℕ)
      → KeyLeads (record { key = key_for before s; offset = at; size = size })
  unfolding joined flat_map
  leads_first before at s rs more earlier all member stand between size =
      record {
        first = f.first;
        rest = f.rest;
        under_is = under_data at s rs more member;
        holds =
            record {
              fits = (
                subst (λ (l : List ℕ). at_most (key_for before s) l ≡ true) (sym f.bytes_are) (key_at_most_first before s),
                λ r m less. go r less (Memᴰ.append_cases earlier (subst (Memᴰ r) all m)),
              );
              cut = subst (λ (l : List ℕ). begins (key_for before s) l ≡ true) (sym f.bytes_are) (key_begins before s);
              shortest = λ other fits. between_shortest before earlier (joined ((s ∷ rs) ∷ more)) between s other
                  (subst (λ (l : List ℕ). at_most other l ≡ true) f.bytes_are fits.0)
                  (λ r i. fits.1 r (subst (Memᴰ r) (sym all) (Memᴰ.append_left _ i))
                  (let before = stand r i in let after = f.after in omega arith));
            };
      }
    where
      f : First at s rs more
      f = data_first at s rs more

      go : (r : Text) → r.at < f.first.at → Memᴰ r earlier ⊎ Memᴰ r (flat_map (λ b. b.records) (placed_datas at ((s ∷ rs) ∷ more)))
          → at_most r.bytes (key_for before s) ≡ true
      go r less (inl i) =
          between_key before earlier (joined ((s ∷ rs) ∷ more)) between r i s (Memᴰ.append_left {s = s ∷ rs} (joined more) (Memᴰ.head {xs = rs} refl))
      go r less (inr i) = let after = f.least r i in absurd (omega arith)

  leads_data : (before : Option (List ℕ)) (at : ℕ) (more : List (List (List ℕ))) (earlier : List Text)
      → records_of bs ≡ earlier ++ flat_map (λ b. b.records) (placed_datas at more) → ((d : Block) → Memᴰ d (placed_datas at more) → Memᴰ d bs)
      → ((rs : List (List ℕ)) → Memᴰ rs more → rs ≢ []) → Sorted (joined more) → ((r : Text) → Memᴰ r earlier → r.at < at)
      → Between before earlier (joined more) → (e : IndexEntry) → Memᴰ e (data_entries before at more) → KeyLeads e
  unfolding data_entries placed_datas joined flat_map first_or
  leads_data before at [] earlier all within each sorted stand between e m = absurd (Memᴰ.not-nil m)
  leads_data before at ([] ∷ more) earlier all within each sorted stand between e m = absurd (each [] (Memᴰ.head refl) refl)
  leads_data before at ((s ∷ rs) ∷ more) earlier all within each sorted stand between e m =
      go (Memᴰ.cases_cons m)
      (λ i. leads_data (some (last_or [] (s ∷ rs))) next more (earlier ++ own) regrouped
      (λ d j. within d (Memᴰ.tail j)) (λ xs j. each xs (Memᴰ.tail j)) (sorted_right (s ∷ rs) (joined more) sorted)
      (λ r j. before_next r (Memᴰ.append_cases earlier j))
      (between_next before earlier own s rs (joined more) between (data_block at (s ∷ rs)).bytes_are sorted) e i)
    where
      next : ℕ
      next = at + length (data_bytes (s ∷ rs))

      own : List Text
      own = (placed_data at (s ∷ rs)).records

      first : IndexEntry
      first = record { key = key_for before s; offset = at; size = length (data_bytes (s ∷ rs)) }

      regrouped : records_of bs ≡ (earlier ++ own) ++ flat_map (λ b. b.records) (placed_datas next more)
      regrouped = all ∙ sym (append_assoc earlier own (flat_map (λ b. b.records) (placed_datas next more)))

      before_next : (r : Text) → Memᴰ r earlier ⊎ Memᴰ r own → r.at < next
      before_next r (inl i) = let before = stand r i in omega arith
      before_next r (inr i) = data_before at (s ∷ rs) r i

      go : (e ≡ first) ⊎ Memᴰ e (data_entries (some (last_or [] (s ∷ rs))) next more)
          → (Memᴰ e (data_entries (some (last_or [] (s ∷ rs))) next more) → KeyLeads e) → KeyLeads e
      go (inl same) rest =
          subst KeyLeads (sym same)
          (leads_first before at s rs more earlier all (within (placed_data at (s ∷ rs)) (Memᴰ.head refl)) stand between (length (data_bytes (s ∷ rs))))
      go (inr later) rest = rest later

  -- every entry over a data block has such a key
  pub leads_lowest : (e : IndexEntry) → Memᴰ e (data_entries none from blocks) → Leads per_index from blocks good KeyHolds 0 e
  unfolding Between
  leads_lowest e m =
      leads_data none from blocks [] (records_placed per_index from blocks) (data_member per_index from blocks) good.each good.rise
      (λ r i. absurd (Memᴰ.not-nil i)) refl e m
