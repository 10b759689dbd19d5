-- Every index block of a written file can be read back: it has entries whose keys rise, and its level and its numbers are small.
-- Assumes nothing.
use mathlib.Core.Path.{◌≡◌, refl, sym, ap, ap₂, ◌∙◌, subst}
use mathlib.Core.Bool.{Bool, true, false, cond}
use mathlib.Core.Logic.{◌⊎◌, inl, inr}
use mathlib.Core.List.Memᴰ
use mathlib.Core.List.{List, [], ◌∷◌, ◌++◌, flat_map, map, map-append, Memᴰ}
use Prim.Native.Nat.{ℕ, zero, suc, ◌+◌, ◌/◌, ◌^◌, ◌≤◌, ◌<◌}
use native.Mathlib.Nat.{pow-zero, pow-succ'}
use native.Mathlib.Omega.{arith}
use lib.Dec.{leb}
use lib.ListN.{length, length-append, length-map}
use borrow.Author.Tests.{leb-false}
use Rattle.lists.specs.Groups.{groups, first_or}
use Rattle.lists.proofs.ListsLaws.{flat_map_append, member_flat_map}
use Rattle.lists.proofs.RisingLaws.{flat_map_same, each-once}
use Rattle.lists.proofs.GroupsLaws.{groups_join, groups_member, groups_half}
use Rattle.byte_string.specs.Order.{AreBytes}
use Rattle.payload.specs.Payload.{rising}
use Rattle.layout.specs.Index.{IndexEntry, IndexBlock, index_bytes, first_key, entry_for, level_from, levels_from}
use Rattle.layout.proofs.SideBySideLaws.{level_side_by_side, side_by_side_within}
use Rattle.layout.proofs.KeyLaws.{Filled, keys, firsts_rise, rising_group}

-- ---- groups

pub groups_joined : {A : Type 0} (n : ℕ) → 1 ≤ n → (xs : List A) → flat_map (λ g. g) (groups n xs) ≡ xs
groups_joined n h xs =
    sym (flat_map_same (flat_map (λ x. x ∷ [])) (λ g. g) (groups n xs) (λ g m. each-once g)) ∙ groups_join n h (λ x. x ∷ []) xs ∙ each-once xs

-- ---- one level

pub length_level : (level at : ℕ) (gs : List (List IndexEntry)) → length (level_from level at gs) ≡ length gs
unfolding level_from
length_level level at [] = refl
length_level level at (g ∷ gs) = ap suc (length_level level (at + length (index_bytes record { level = level; offset = at; entries = g })) gs)

-- a block of a level has that level, and a group of the entries
pub level_member : (level at : ℕ) (gs : List (List IndexEntry)) (b : IndexBlock) → Memᴰ b (level_from level at gs)
    → (b.level ≡ level) × Memᴰ b.entries gs
unfolding level_from
level_member level at [] b m = absurd (Memᴰ.not-nil m)
level_member level at (g ∷ gs) b m = go (Memᴰ.cases_cons m) (level_member level (at + length (index_bytes record { level = level; offset = at; entries = g })) gs b)
  where
    first : IndexBlock
    first = record { level = level; offset = at; entries = g }

    go : (b ≡ first) ⊎ Memᴰ b (level_from level (at + length (index_bytes first)) gs)
        → (Memᴰ b (level_from level (at + length (index_bytes first)) gs) → (b.level ≡ level) × Memᴰ b.entries gs)
        → (b.level ≡ level) × Memᴰ b.entries (g ∷ gs)
    go (inl same) rest = (ap (λ (c : IndexBlock). c.level) same, Memᴰ.head (ap (λ (c : IndexBlock). c.entries) same))
    go (inr later) rest = let r = rest later in (r.0, Memᴰ.tail r.1)

-- where the groups are of at least one entry, so is each block of the level
pub level_some : (per_index : ℕ) → 1 ≤ per_index → (level at : ℕ) (es : List IndexEntry) (b : IndexBlock) → Memᴰ b (level_from level at (groups per_index es))
    → 0 < length b.entries
level_some per_index h level at es b m = (groups_member per_index h es b.entries (level_member level at (groups per_index es) b m).1).0

-- the keys of the entries that name the blocks of a level
pub level_keys : (level at : ℕ) (gs : List (List IndexEntry)) → keys (map entry_for (level_from level at gs)) ≡ map (first_or []) (map keys gs)
unfolding level_from entry_for first_or first_key
level_keys level at [] = refl
level_keys level at (g ∷ gs) = ap₂ (λ (x : List ℕ) (l : List (List ℕ)). x ∷ l) (first g) (level_keys level (at + length (index_bytes record { level = level; offset = at; entries = g })) gs)
  where
    first : (g : List IndexEntry) → first_key g ≡ first_or [] (keys g)
    first [] = refl
    first (e ∷ es) = refl

joined-keys : (gs : List (List IndexEntry)) → flat_map (λ l. l) (map keys gs) ≡ keys (flat_map (λ g. g) gs)
unfolding flat_map
joined-keys [] = refl
joined-keys (g ∷ gs) = ap (λ (l : List (List ℕ)). keys g ++ l) (joined-keys gs) ∙ sym (map-append (λ (e : IndexEntry). e.key) g (flat_map (λ g. g) gs))

-- ---- what is kept from level to level

-- entries whose keys rise and are bytes, and which name blocks that end at `end` at the latest
pub record EntriesFit (end : ℕ) (es : List IndexEntry) : Type 0 where
  pub sorted : rising (keys es) ≡ true
  pub within : (e : IndexEntry) → Memᴰ e es → e.offset + e.size ≤ end
  pub bytes : (e : IndexEntry) → Memᴰ e es → AreBytes e.key

-- an index block with such entries, at least one
pub record BlockFits (end : ℕ) (b : IndexBlock) : Type 0 where
  pub some : 0 < length b.entries
  pub inside : b.offset + length (index_bytes b) ≤ end
  pub entries_fit : EntriesFit end b.entries

first_bytes : (es : List IndexEntry) → ((e : IndexEntry) → Memᴰ e es → AreBytes e.key) → AreBytes (first_key es)
unfolding first_key AreBytes
first_bytes [] h = tt
first_bytes (e ∷ es) h = h e (Memᴰ.head refl)

module _ (per_index : ℕ) (least : 1 ≤ per_index) (end : ℕ) where
  -- the keys, in groups
  grouped_rise : (es : List IndexEntry) → EntriesFit end es → rising (flat_map (λ l. l) (map keys (groups per_index es))) ≡ true
  grouped_rise es fit = ap rising (joined-keys (groups per_index es) ∙ ap keys (groups_joined per_index least es)) ∙ fit.sorted

  group_member : (es g : List IndexEntry) → Memᴰ g (groups per_index es) → (e : IndexEntry) → Memᴰ e g → Memᴰ e es
  group_member es g m e n = subst (Memᴰ e) (groups_joined per_index least es) (member_flat_map (λ l. l) (groups per_index es) g e m n)

  group_fits : (es : List IndexEntry) → EntriesFit end es → (g : List IndexEntry) → Memᴰ g (groups per_index es) → EntriesFit end g
  group_fits es fit g m =
      record {
        sorted = rising_group (map keys (groups per_index es)) (grouped_rise es fit) (keys g) (Memᴰ.map keys m);
        within = λ e n. fit.within e (group_member es g m e n);
        bytes = λ e n. fit.bytes e (group_member es g m e n);
      }

  module _ (level at : ℕ) (es : List IndexEntry) (fit : EntriesFit end es) where
    abbrev here : List IndexBlock
    here = level_from level at (groups per_index es)

    module _ (ends : at + length (flat_map index_bytes here) ≤ end) where
      pub level_fits : (b : IndexBlock) → Memᴰ b here → BlockFits end b
      level_fits b m =
          let group = (level_member level at (groups per_index es) b m).1 in
          let inside = side_by_side_within at here (level_side_by_side level at (groups per_index es)) b m in
          let last = inside.1 in
          record {
            some = level_some per_index least level at es b m;
            inside = omega arith;
            entries_fit = group_fits es fit b.entries group;
          }

      -- the entries that name the blocks of a level
      pub named_fit : EntriesFit end (map entry_for here)
      unfolding entry_for
      named_fit =
          record {
            sorted = ap rising (level_keys level at (groups per_index es)) ∙ firsts_rise (map keys (groups per_index es)) filled (grouped_rise es fit);
            within = λ e m. let o = Memᴰ.of_map entry_for here m in within e o.0 o.1 o.2;
            bytes = λ e m. let o = Memᴰ.of_map entry_for here m in bytes e o.0 o.1 o.2;
          }
        where
          filled : Filled (map keys (groups per_index es))
          filled ks m =
              let o = Memᴰ.of_map keys (groups per_index es) m in
              let some = (groups_member per_index least es o.0 o.1).0 in
              subst (λ (l : List (List ℕ)). 0 < length l) o.2 (rw (length-map o.0 (λ (e : IndexEntry). e.key)) some)

          within : (e : IndexEntry) (b : IndexBlock) → Memᴰ b here → entry_for b ≡ e → e.offset + e.size ≤ end
          within e b m same = subst (λ (x : IndexEntry). x.offset + x.size ≤ end) same (level_fits b m).inside

          bytes : (e : IndexEntry) (b : IndexBlock) → Memᴰ b here → entry_for b ≡ e → AreBytes e.key
          bytes e b m same = subst (λ (x : IndexEntry). AreBytes x.key) same (first_bytes b.entries (level_fits b m).entries_fit.bytes)

  -- all levels
  pub levels_fit : (fuel level at : ℕ) (es : List IndexEntry) → EntriesFit end es
      → at + length (flat_map index_bytes (levels_from fuel per_index level at es)) ≤ end
      → (b : IndexBlock) → Memᴰ b (levels_from fuel per_index level at es) → BlockFits end b
  unfolding levels_from
  levels_fit zero level at es fit ends b m = absurd (Memᴰ.not-nil m)
  levels_fit (suc fuel) level at es fit ends b m =
      go (leb (length (level_from level at (groups per_index es))) 1) ends m (λ named last n. levels_fit fuel (level + 1) _ _ named last b n)
    where
      now : List IndexBlock
      now = level_from level at (groups per_index es)

      above : List IndexBlock
      above = levels_from fuel per_index (level + 1) (at + length (flat_map index_bytes now)) (map entry_for now)

      go : (c : Bool) → at + length (flat_map index_bytes (now ++ cond c [] above)) ≤ end → Memᴰ b (now ++ cond c [] above)
          → (EntriesFit end (map entry_for now) → at + length (flat_map index_bytes now) + length (flat_map index_bytes above) ≤ end
          → Memᴰ b above → BlockFits end b)
          → BlockFits end b
      go c last n rest =
          chosen c (Memᴰ.append_cases now n) (ap length (flat_map_append index_bytes now (cond c [] above)) ∙ length-append (flat_map index_bytes now) _) last
        where
          chosen : (c : Bool) → Memᴰ b now ⊎ Memᴰ b (cond c [] above)
              → length (flat_map index_bytes (now ++ cond c [] above)) ≡ length (flat_map index_bytes now) + length (flat_map index_bytes (cond c [] above))
              → at + length (flat_map index_bytes (now ++ cond c [] above)) ≤ end → BlockFits end b
          chosen c (inl i) sum last = level_fits level at es fit (omega arith) b i
          chosen true (inr i) sum last = absurd (Memᴰ.not-nil i)
          chosen false (inr i) sum last = rest (named_fit level at es fit (omega arith)) (omega arith) i

-- ---- the number of levels

-- over at most 2 ^ k entries the highest level is at most k above this one
pub levels_low : (per_index : ℕ) → 2 ≤ per_index → (fuel k level at : ℕ) (es : List IndexEntry) → length es ≤ 2 ^ k → (b : IndexBlock)
    → Memᴰ b (levels_from fuel per_index level at es) → (level ≤ b.level) × (b.level ≤ level + k)
unfolding levels_from
levels_low per_index two zero k level at es few b m = absurd (Memᴰ.not-nil m)
levels_low per_index two (suc fuel) k level at es few b m =
    go k few (leb (length now) 1) refl (Memᴰ.append_cases now m) (λ j h n. levels_low per_index two fuel j (level + 1) _ _ h b n)
  where
    now : List IndexBlock
    now = level_from level at (groups per_index es)

    above : List IndexBlock
    above = levels_from fuel per_index (level + 1) (at + length (flat_map index_bytes now)) (map entry_for now)

    half : length now ≤ (length es + 1) / 2
    half = let h = groups_half per_index two es in let long = length_level level at (groups per_index es) in omega arith

    go : (k : ℕ) → length es ≤ 2 ^ k → (c : Bool) → leb (length now) 1 ≡ c → Memᴰ b now ⊎ Memᴰ b (cond c [] above)
        → ((j : ℕ) → length (map entry_for now) ≤ 2 ^ j → Memᴰ b above → (level + 1 ≤ b.level) × (b.level ≤ level + 1 + j))
        → (level ≤ b.level) × (b.level ≤ level + k)
    go k few c e (inl i) rest = let same = (level_member level at (groups per_index es) b i).0 in (omega arith, omega arith)
    go k few true e (inr i) rest = absurd (Memᴰ.not-nil i)
    go zero few false e (inr i) rest =
        absurd (let many = leb-false (length now) 1 e in let one = pow-zero 2 in let h = half in omega arith)
    go (suc j) few false e (inr i) rest =
        let twice = pow-succ' 2 j in
        let h = half in
        let long = length-map now entry_for in
        let r = rest j (omega arith) i in
        let low = r.0 in
        let high = r.1 in
        (omega arith, omega arith)
