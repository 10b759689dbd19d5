-- Blocks side by side: the index blocks of a level, and of all levels, stand where their offsets say.
-- Assumes nothing.
use mathlib.Core.Path.{◌≡◌, refl, ap, subst}
use mathlib.Core.Bool.{Bool, true, false, cond}
use mathlib.Core.Logic.{◌⊎◌, inl, inr}
use mathlib.Core.List.Memᴰ
use mathlib.Core.List.{List, [], ◌∷◌, ◌++◌, flat_map, map, Memᴰ}
use Prim.Native.Nat.{ℕ, zero, suc, ◌+◌, ◌≤◌}
use native.Mathlib.Omega.{arith}
use lib.Dec.{leb}
use lib.ListN.{length, length-append}
use Rattle.lists.specs.Groups.{groups}
use Rattle.layout.specs.Index.{IndexEntry, IndexBlock, index_bytes, entry_for, level_from, levels_from, index_over}

-- each index block begins where the one before it ends
unfoldable pub SideBySide : (at : ℕ) → List IndexBlock → Type 0
SideBySide at [] = Unit {0}
SideBySide at (b ∷ bs) = (b.offset ≡ at) × SideBySide (at + length (index_bytes b)) bs

pub side_by_side_append : (at : ℕ) (bs cs : List IndexBlock) → SideBySide at bs → SideBySide (at + length (flat_map index_bytes bs)) cs → SideBySide at (bs ++ cs)
unfolding SideBySide flat_map
side_by_side_append at [] cs h k = subst (λ (n : ℕ). SideBySide n cs) (omega arith) k
side_by_side_append at (b ∷ bs) cs h k =
    let long = length-append (index_bytes b) (flat_map index_bytes bs) in
    (h.0, side_by_side_append (at + length (index_bytes b)) bs cs h.1 (subst (λ (n : ℕ). SideBySide n cs) (omega arith) k))

-- where one of them stands
pub side_by_side_within : (at : ℕ) (bs : List IndexBlock) → SideBySide at bs → (b : IndexBlock) → Memᴰ b bs
    → (at ≤ b.offset) × (b.offset + length (index_bytes b) ≤ at + length (flat_map index_bytes bs))
unfolding SideBySide flat_map
side_by_side_within at [] h b m = absurd (Memᴰ.not-nil m)
side_by_side_within at (c ∷ bs) h b m = go (Memᴰ.cases_cons m) (side_by_side_within (at + length (index_bytes c)) bs h.1 b)
  where
    sum : length (index_bytes c ++ flat_map index_bytes bs) ≡ length (index_bytes c) + length (flat_map index_bytes bs)
    sum = length-append (index_bytes c) (flat_map index_bytes bs)

    go : (b ≡ c) ⊎ Memᴰ b bs
        → (Memᴰ b bs → (at + length (index_bytes c) ≤ b.offset)
        × (b.offset + length (index_bytes b) ≤ at + length (index_bytes c) + length (flat_map index_bytes bs)))
        → (at ≤ b.offset) × (b.offset + length (index_bytes b) ≤ at + length (index_bytes c ++ flat_map index_bytes bs))
    go (inl same) rest =
        let starts = h.0 in
        let s = sum in
        let offset = ap (λ (x : IndexBlock). x.offset) same in
        let long = ap (λ (x : IndexBlock). length (index_bytes x)) same in
        (omega arith, omega arith)
    go (inr later) rest = let r = rest later in let low = r.0 in let high = r.1 in let s = sum in (omega arith, omega arith)

-- one level
pub level_side_by_side : (level at : ℕ) (gs : List (List IndexEntry)) → SideBySide at (level_from level at gs)
unfolding SideBySide level_from
level_side_by_side level at [] = tt
level_side_by_side level at (es ∷ more) = (refl, level_side_by_side level (at + length (index_bytes record { level = level; offset = at; entries = es })) more)

-- all levels
pub levels_side_by_side : (fuel per_index level at : ℕ) (es : List IndexEntry) → SideBySide at (levels_from fuel per_index level at es)
unfolding SideBySide levels_from
levels_side_by_side zero per_index level at es = tt
levels_side_by_side (suc fuel) per_index level at es =
    let here = level_from level at (groups per_index es) in
    let above = levels_side_by_side fuel per_index (level + 1) (at + length (flat_map index_bytes here)) (map entry_for here) in
    side_by_side_append at here _ (level_side_by_side level at (groups per_index es)) (chosen (leb (length here) 1) _ _ above)
  where
    chosen : (b : Bool) (n : ℕ) (bs : List IndexBlock) → SideBySide n bs → SideBySide n (cond b [] bs)
    chosen true n bs h = tt
    chosen false n bs h = h

pub index_side_by_side : (per_index at : ℕ) (es : List IndexEntry) → SideBySide at (index_over per_index at es)
unfolding index_over
index_side_by_side per_index at es = levels_side_by_side (length es) per_index 1 at es
