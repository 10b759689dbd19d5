-- How many blocks stand on each level of a written file: one on the last, the root, and at least two on each index level below it.
-- Assumes nothing.
use mathlib.Core.Path.{◌≡◌, refl, sym, ap, ◌∙◌}
use mathlib.Core.Logic.{◌⊎◌, inl, inr}
use mathlib.Core.Bool.{Bool, true, false}
use mathlib.Core.List.{List, ◌++◌, map, Memᴰ}
use mathlib.Core.List.Memᴰ
use Prim.Native.Nat.{ℕ, ◌+◌, ◌≤◌, ◌<◌}
use native.Mathlib.Omega.{arith}
use lib.Dec.{eqb, ltb}
use lib.ListN.{length, length-map}
use borrow.Author.Tests.{eq-eqb, ne_eqb, ltb-true, ltb-false}
use Rattle.lists.specs.Lists.{keep}
use Rattle.lists.specs.Groups.{last_or}
use Rattle.lists.proofs.CountLaws.{keep_map, keep_all, keep_none, count_append}
use Rattle.block.specs.Block.{Block}
use Rattle.layout.specs.Index.{IndexEntry, IndexBlock, entry_for, level_from}
use Rattle.layout.specs.File.{data_part, index_blocks, root_entry}
use Rattle.layout.specs.Placed.{placed_frame, placed_datas, placed_index, placed_blocks}
use Rattle.layout.proofs.IndexFitLaws.{length_level, level_member}
use Rattle.theorems_layout.specs.WrittenTree.{Writable}
use Rattle.theorems_layout.specs.WrittenLayout.{blocks_on, EndsOn}
use Rattle.theorems_layout.proofs.Levels.{Levels, top, higher}
use Rattle.theorems_layout.proofs.IndexNames.{last_or_append}
use Rattle.theorems_layout.proofs.PlacedLaws.{datas_member, index_level}
use Rattle.theorems_layout.proofs.WrittenNames.{lowest, Kinds, block_kinds, index_member, written_levels, written_top, root_start}

-- ---- the index blocks

-- how many stand on a level
abbrev on : (level : ℕ) → List IndexBlock → ℕ
on level ws = length (keep (λ w. eqb w.level level) ws)

on_none : (l level at : ℕ) (gs : List (List IndexEntry)) → (level ≡ l → ⊥) → on l (level_from level at gs) ≡ 0
on_none l level at gs other =
    ap length (keep_none (λ w. eqb w.level l) (level_from level at gs) (λ w m. ne_eqb w.level l (λ e. other (sym (level_member level at gs w m).0 ∙ e))))

on_all : (level at : ℕ) (gs : List (List IndexEntry)) → on level (level_from level at gs) ≡ length gs
on_all level at gs =
    ap length (keep_all (λ w. eqb w.level level) (level_from level at gs) (λ w m. eq-eqb w.level level (level_member level at gs w m).0))
    ∙ length_level level at gs

-- the levels from this one up, of these blocks, end on this one
record EndOn (level : ℕ) (ws : List IndexBlock) (top : ℕ) : Type 0 where
  low : level ≤ top
  root : (none : IndexBlock) → (last_or none ws).level ≡ top
  last : (w : IndexBlock) → Memᴰ w ws → w.level ≤ top
  alone : on top ws ≡ 1
  others : (l : ℕ) → level ≤ l → l < top → 2 ≤ on l ws

levels_end : (level at : ℕ) (es : List IndexEntry) (ws : List IndexBlock) → Levels level at es ws → (n : ℕ) × EndOn level ws n
unfolding keep last_or
levels_end level at es ws (top some) = (
  level,
  record {
    low = omega arith;
    root = λ none. refl;
    last = λ w m. let same = ap (λ (v : IndexBlock). v.level) (Memᴰ.eq_of_singleton m) in omega arith;
    alone = rw (eq-eqb level level refl);
    others = λ l h k. absurd (omega arith);
  },
)
levels_end level at es ws (higher gs {bs = rest} grouped two above) = go (levels_end (level + 1) _ (map entry_for here) rest above)
  where
    here : List IndexBlock
    here = level_from level at gs

    sum : (l : ℕ) → on l (here ++ rest) ≡ on l here + on l rest
    sum l = count_append (λ w. eqb w.level l) here rest

    go : (n : ℕ) × EndOn (level + 1) rest n → (n : ℕ) × EndOn level (here ++ rest) n
    go (n, e) = (
      n,
      record {
        low = let low = e.low in omega arith;
        root = λ none. ap (λ (w : IndexBlock). w.level) (last_or_append none here rest) ∙ e.root (last_or none here);
        last = λ w m. member w (Memᴰ.append_cases here m);
        alone = let low = e.low in let zero = on_none n level at gs (λ z. omega arith) in let one = e.alone in let all = sum n in omega arith;
        others = λ l h k. two_on l h k (ltb level l) refl;
      },
    )
      where
        member : (w : IndexBlock) → Memᴰ w here ⊎ Memᴰ w rest → w.level ≤ n
        member w (inl i) = let low = e.low in let same = (level_member level at gs w i).0 in omega arith
        member w (inr i) = e.last w i

        two_on : (l : ℕ) → level ≤ l → l < n → (b : Bool) → ltb level l ≡ b → 2 ≤ on l (here ++ rest)
        two_on l h k true f =
            let more = e.others l (let less = ltb-true level l f in omega arith) k in
            let all = sum l in
            omega arith
        two_on l h k false f =
            let same : level ≡ l = (let less = ltb-false level l f in omega arith) in
            let all = sum l in
            let own = ap (λ (j : ℕ). on j here) (sym same) ∙ on_all level at gs in
            omega arith

-- ---- the file

module _ (per_index from : ℕ) (blocks : List (List (List ℕ))) (good : Writable per_index blocks) where
  abbrev index : List IndexBlock
  index = index_blocks per_index from blocks

  -- only index blocks stand on an index level
  blocks_on_lem : (level : ℕ) → 1 ≤ level → blocks_on level (placed_blocks per_index from blocks) ≡ on level index
  unfolding blocks_on placed_blocks placed_index placed_frame
  blocks_on_lem level low =
      let data_none = ap length (keep_none (λ b. eqb b.frame.level level) (placed_datas from blocks)
      (λ d m. ne_eqb d.frame.level level (λ e. let zero = (datas_member from blocks d m).2.level_is in omega arith))) in
      let all = count_append (λ b. eqb b.frame.level level) (placed_datas from blocks) (map placed_index index) in
      let own = ap length (sym (keep_map (λ b. eqb b.frame.level level) placed_index index))
      ∙ length-map (keep (λ w. eqb w.level level) index) placed_index in
      omega arith

  -- the file ends on this level
  pub written_ends : (top : ℕ) × EndsOn (placed_blocks per_index from blocks) (root_entry per_index from blocks).offset top
  written_ends =
      go (levels_end 1 (from + length (data_part per_index from blocks)) (lowest per_index from blocks) index (written_levels per_index from blocks good))
    where
      go : (n : ℕ) × EndOn 1 index n → (n : ℕ) × EndsOn (placed_blocks per_index from blocks) (root_entry per_index from blocks).offset n
      go (n, e) = (
        n,
        record {
          root_there = (
            placed_index root,
            index_member per_index from blocks root (written_top per_index from blocks good).member,
            root_start per_index from blocks good,
            index_level root ∙ ap (λ (w : IndexBlock). w.level) (sym ((written_top per_index from blocks good).last root)) ∙ e.root root,
          );
          low = e.low;
          last = λ b m. member b (block_kinds per_index from blocks b m);
          alone = blocks_on_lem n e.low ∙ e.alone;
          others = λ l h k. let two = e.others l h k in let all = blocks_on_lem l h in omega arith;
        },
      )
        where
          root : IndexBlock
          root = (written_top per_index from blocks good).root

          member : (b : Block) → Kinds per_index from blocks b → b.frame.level ≤ n
          member b (inl d) = let zero = (datas_member from blocks b d).2.level_is in omega arith
          member b (inr (w, i, same)) =
              let level = sym (ap (λ (c : Block). c.frame.level) same) ∙ index_level w in
              let most = e.last w i in
              omega arith
