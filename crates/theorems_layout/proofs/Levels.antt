-- The index of a written file as levels: each has a block for every group of entries over the level below, and the last has one block.
-- Assumes nothing.
use mathlib.Core.Path.{◌≡◌, refl, sym, ap, ◌∙◌, subst}
use mathlib.Core.Logic.{◌≢◌, ◌⊎◌, inl, inr}
use mathlib.Core.Bool.{Bool, true, false, cond}
use mathlib.Core.List.{List, [], ◌∷◌, ◌++◌, flat_map, map, append-nil, Memᴰ}
use mathlib.Core.List.Memᴰ
use Prim.Native.Nat.{ℕ, zero, suc, ◌+◌, ◌/◌, ◌^◌, ◌≤◌}
use native.Mathlib.Omega.{arith}
use native.Mathlib.Nat.{pow-zero, pow-succ'}
use lib.Dec.{leb}
use lib.ListN.{length, length-map}
use borrow.Author.Tests.{leb-true, leb-false}
use Rattle.lists.specs.Groups.{groups}
use Rattle.lists.proofs.GroupsLaws.{groups_member, groups_half}
use Rattle.layout.specs.Index.{IndexEntry, IndexBlock, index_bytes, entry_for, level_from, levels_from}
use Rattle.layout.proofs.IndexFitLaws.{groups_joined, length_level, level_member}

-- ---- groups of entries

-- gs are the list xs in groups, none of them empty
pub record Grouped {A : Type 0} (xs : List A) (gs : List (List A)) : Type 0 where
  pub joins : flat_map (λ g. g) gs ≡ xs
  pub each : (g : List A) → Memᴰ g gs → g ≢ []
  pub half : length gs ≤ (length xs + 1) / 2

pub groups_grouped : {A : Type 0} (n : ℕ) → 2 ≤ n → (xs : List A) → Grouped xs (groups n xs)
groups_grouped {A} n two xs =
    record {
      joins = groups_joined n (omega arith) xs;
      each = λ (g : List A) m none. let long = (groups_member n (omega arith) xs g m).0 in let z = ap length none in omega arith;
      half = groups_half n two xs;
    }

-- ---- one level

-- the entries of its blocks, joined
pub level_entries : (level at : ℕ) (gs : List (List IndexEntry)) → flat_map (λ b. b.entries) (level_from level at gs) ≡ flat_map (λ g. g) gs
unfolding level_from flat_map
level_entries level at [] = refl
level_entries level at (g ∷ gs) =
    ap (λ (l : List IndexEntry). g ++ l) (level_entries level (at + length (index_bytes (record { level = level; offset = at; entries = g }))) gs)

-- ---- all levels

-- bs are the index blocks from this level up, the first of them at `at`, over the blocks that the entries es name
pub data Levels : (level at : ℕ) → List IndexEntry → List IndexBlock → Type 0 where
  -- the root
  top : {level at : ℕ} {es : List IndexEntry} → es ≢ [] → Levels level at es (record { level = level; offset = at; entries = es } ∷ [])
  -- two or more blocks, and the levels above them
  higher : {level at : ℕ} {es : List IndexEntry} (gs : List (List IndexEntry)) {bs : List IndexBlock} → Grouped es gs → 2 ≤ length gs
      → Levels (level + 1) (at + length (flat_map index_bytes (level_from level at gs))) (map entry_for (level_from level at gs)) bs
      → Levels level at es (level_from level at gs ++ bs)

-- a single group is the list
one_group : (level at : ℕ) (es : List IndexEntry) → es ≢ [] → (gs : List (List IndexEntry)) → Grouped es gs → length gs ≤ 1
    → Levels level at es (level_from level at gs ++ [])
unfolding level_from flat_map
one_group level at es some [] grouped few = absurd (some (sym grouped.joins))
one_group level at es some (g ∷ []) grouped few =
    subst (λ (l : List IndexEntry). Levels level at es (record { level = level; offset = at; entries = l } ∷ []))
    (sym (sym (append-nil g) ∙ grouped.joins)) (top some)
one_group level at es some (g ∷ h ∷ gs) grouped few = absurd (omega arith)

module _ (per_index : ℕ) (two : 2 ≤ per_index) where
  pub index_levels : (fuel level at : ℕ) (es : List IndexEntry) → length es ≤ fuel → es ≢ [] → Levels level at es (levels_from fuel per_index level at es)
  unfolding levels_from
  index_levels zero level at [] h some = absurd (some refl)
  index_levels zero level at (e ∷ es) h some = absurd (omega arith)
  index_levels (suc fuel) level at es h some =
      go (groups per_index es) (groups_grouped per_index two es) (leb (length (level_from level at (groups per_index es))) 1) refl
      (λ l a x. index_levels fuel l a x)
    where
      above : List (List IndexEntry) → List IndexBlock
      above gs = levels_from fuel per_index (level + 1) (at + length (flat_map index_bytes (level_from level at gs))) (map entry_for (level_from level at gs))

      go : (gs : List (List IndexEntry)) → Grouped es gs → (b : Bool) → leb (length (level_from level at gs)) 1 ≡ b
          → ((l a : ℕ) (x : List IndexEntry) → length x ≤ fuel → x ≢ [] → Levels l a x (levels_from fuel per_index l a x))
          → Levels level at es (level_from level at gs ++ cond b [] (above gs))
      go gs grouped true e rest =
          let few = leb-true (length (level_from level at gs)) 1 e in
          let long = length_level level at gs in
          one_group level at es some gs grouped (omega arith)
      go gs grouped false e rest =
          let many = leb-false (length (level_from level at gs)) 1 e in
          let long = length_level level at gs in
          let named = length-map (level_from level at gs) entry_for in
          let half = grouped.half in
          higher gs grouped (omega arith)
          (rest (level + 1) (at + length (flat_map index_bytes (level_from level at gs))) (map entry_for (level_from level at gs)) (omega arith)
          (λ none. let z = ap length none in omega arith))

-- ---- the number of levels

-- with at most 2 ^ (k + 1) entries there are at most k levels above this one
pub levels_within : (level at : ℕ) (es : List IndexEntry) (bs : List IndexBlock) → Levels level at es bs → (k : ℕ) → length es ≤ 2 ^ suc k
    → (b : IndexBlock) → Memᴰ b bs → (level ≤ b.level) × (b.level ≤ level + k)
levels_within level at es bs (top some) k h b m = let same = ap (λ (c : IndexBlock). c.level) (Memᴰ.eq_of_singleton m) in (omega arith, omega arith)
levels_within level at es bs (higher gs {bs = rest} grouped two above) zero h b m =
    let half = grouped.half in let p = pow-succ' 2 0 in let q = pow-zero 2 in absurd (omega arith)
levels_within level at es bs (higher gs {bs = rest} grouped two above) (suc k) h b m =
    go (Memᴰ.append_cases (level_from level at gs) m)
    (λ n. levels_within (level + 1) _ _ rest above k (halved (length-map (level_from level at gs) entry_for)) b n)
  where
    halved : {n : ℕ} → n ≡ length (level_from level at gs) → n ≤ 2 ^ suc k
    halved e = let half = grouped.half in let all = pow-succ' 2 (suc k) in let long = length_level level at gs in omega arith

    go : Memᴰ b (level_from level at gs) ⊎ Memᴰ b rest → (Memᴰ b rest → (level + 1 ≤ b.level) × (b.level ≤ level + 1 + k))
        → (level ≤ b.level) × (b.level ≤ level + suc k)
    go (inl here) up = let same = (level_member level at gs b here).0 in (omega arith, omega arith)
    go (inr later) up = let r = up later in let low = r.0 in let high = r.1 in (omega arith, omega arith)
