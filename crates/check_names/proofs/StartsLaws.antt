-- Laws of the starts of the ordinary blocks: they rise strictly, and which block stands at an index.
-- Assumes nothing.
use mathlib.Core.Path.{◌≡◌, refl, sym, ap, ◌∙◌}
use mathlib.Core.Bool.{Bool, cond}
use mathlib.Core.Logic.{◌⊎◌, inl, inr}
use mathlib.Core.List.Memᴰ
use mathlib.Core.List.{List, [], ◌∷◌, ◌++◌, map, map-append, Memᴰ}
use Prim.Native.Nat.{ℕ, zero, suc, ◌+◌, ◌≤◌, ◌<◌}
use native.Mathlib.Omega.{arith}
use native.Mathlib.Numerals.{add-one}
use lib.ListN.{length, get_or, drop, take, length-map}
use Rattle.lists.specs.Lists.{keep}
use Rattle.lists.proofs.ListsLaws.{keep_append, Ascending, ascending_unique}
use Rattle.lists.proofs.RisingLaws.{ascending_keep}
use Rattle.block.specs.Block.{Block, is_ordinary}
use Rattle.block.specs.Survey.{ordinary}
use Rattle.block.specs.Laid.{laid_from}
use Rattle.block.proofs.BlockLaws.{ordinary_level, reserved_level}
use Rattle.tree.proofs.StageLaws.{ordinary_member}
use Rattle.check_names.specs.Starts.{starts_of}
use Rattle.check_names.proofs.LaidNamesLaws.{LaidBlock, laid_member, laid_ascend}

-- ---- one block more

pub starts_ordinary : (done : List Block) (b : Block) → b.frame.level ≤ 63 → starts_of (done ++ (b ∷ [])) ≡ starts_of done ++ (b.frame.start ∷ [])
unfolding starts_of ordinary keep
starts_ordinary done b level =
    ap (map (λ c. c.frame.start)) (keep_append (λ c. is_ordinary c.frame.level) done (b ∷ []))
    ∙ map-append (λ c. c.frame.start) (ordinary done) (ordinary (b ∷ []))
    ∙ ap (λ (t : Bool). starts_of done ++ map (λ c. c.frame.start) (cond t (b ∷ []) [])) (ordinary_level b.frame.level level)

pub starts_reserved : (done : List Block) (b : Block) → 63 < b.frame.level → starts_of (done ++ (b ∷ [])) ≡ starts_of done ++ []
unfolding starts_of ordinary keep
starts_reserved done b level =
    ap (map (λ c. c.frame.start)) (keep_append (λ c. is_ordinary c.frame.level) done (b ∷ []))
    ∙ map-append (λ c. c.frame.start) (ordinary done) (ordinary (b ∷ []))
    ∙ ap (λ (t : Bool). starts_of done ++ map (λ c. c.frame.start) (cond t (b ∷ []) [])) (reserved_level b.frame.level level)

pub starts_append : (xs ys : List Block) → starts_of (xs ++ ys) ≡ starts_of xs ++ starts_of ys
unfolding starts_of ordinary
starts_append xs ys =
    ap (map (λ c. c.frame.start)) (keep_append (λ c. is_ordinary c.frame.level) xs ys) ∙ map-append (λ c. c.frame.start) (ordinary xs) (ordinary ys)

-- ---- by index

-- the block at an index
pub record AtIndex (xs : List Block) (i : ℕ) : Type 0 where
  pub block : Block
  pub member : Memᴰ block xs
  pub starts : get_or (map (λ b. b.frame.start) xs) i 0 ≡ block.frame.start
  pub rest : drop i xs ≡ block ∷ drop (i + 1) xs
  pub front : take (i + 1) xs ≡ take i xs ++ (block ∷ [])

pub at_index : (xs : List Block) (i : ℕ) → i < length xs → AtIndex xs i
at_index [] i h = absurd (omega arith)
at_index (x ∷ xs) zero h = record { block = x; member = Memᴰ.head refl; starts = refl; rest = refl; front = refl }
at_index (x ∷ xs) (suc i) h = more (at_index xs i (omega arith))
  where
    more : AtIndex xs i → AtIndex (x ∷ xs) (suc i)
    more p =
        record {
          block = p.block;
          member = Memᴰ.tail p.member;
          starts = p.starts;
          rest = p.rest ∙ ap (λ (k : ℕ). p.block ∷ drop k xs) (add-one i) ∙ ap (λ (k : ℕ). p.block ∷ drop k (x ∷ xs)) (sym (add-one (suc i)));
          front =
              ap (λ (k : ℕ). take k (x ∷ xs)) (add-one (suc i)) ∙ ap (λ (k : ℕ). x ∷ take k xs) (sym (add-one i)) ∙ ap (λ (l : List Block). x ∷ l) p.front;
        }

-- and the index of a block
pub index_of : (xs : List Block) (b : Block) → Memᴰ b xs → (i : ℕ) × (i < length xs) × (get_or (map (λ c. c.frame.start) xs) i 0 ≡ b.frame.start)
index_of [] b m = absurd (Memᴰ.not-nil m)
index_of (x ∷ xs) b m = go (Memᴰ.cases_cons m) (λ (i : Memᴰ b xs). index_of xs b i)
  where
    go : (b ≡ x) ⊎ Memᴰ b xs → (Memᴰ b xs → (i : ℕ) × (i < length xs) × (get_or (map (λ c. c.frame.start) xs) i 0 ≡ b.frame.start))
        → (i : ℕ) × (i < length (x ∷ xs)) × (get_or (map (λ c. c.frame.start) (x ∷ xs)) i 0 ≡ b.frame.start)
    go (inl same) rest = (0, omega arith, ap (λ (c : Block). c.frame.start) (sym same))
    go (inr inside) rest = let r = rest inside in (suc r.0, let l = r.1 in omega arith, r.2)

pub length_starts : (bs : List Block) → length (starts_of bs) ≡ length (ordinary bs)
unfolding starts_of
length_starts bs = length-map (ordinary bs) (λ b. b.frame.start)

-- ---- the ordinary blocks of a file

module _ (file : List ℕ) (from : ℕ) where
  pub starts_ascend : Ascending (starts_of (laid_from file from))
  unfolding starts_of ordinary
  starts_ascend = ascending_keep (λ b. b.frame.start) (λ b. is_ordinary b.frame.level) (laid_from file from) (laid_ascend file from)

  module _ (b : Block) (m : Memᴰ b (ordinary (laid_from file from))) where
    pub ordinary_laid : LaidBlock file b
    ordinary_laid = laid_member file from b (ordinary_member (laid_from file from) b m).0

    pub ordinary_level_of : b.frame.level ≤ 63
    ordinary_level_of = (ordinary_member (laid_from file from) b m).1

    -- ordinary blocks with the same start are the same
    pub ordinary_unique : (c : Block) → Memᴰ c (ordinary (laid_from file from)) → b.frame.start ≡ c.frame.start → b ≡ c
    unfolding starts_of
    ordinary_unique c n same = ascending_unique (λ d. d.frame.start) (ordinary (laid_from file from)) starts_ascend b c m n same
