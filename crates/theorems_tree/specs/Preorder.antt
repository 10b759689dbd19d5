-- All blocks of a file in walk order. `bs` is the list of the file's blocks in file order.
use Rattle.std.specs.Prelude.{ℕ, zero, suc, ◌≤◌, ◌≡◌}
use mathlib.Core.List.{List, [], ◌∷◌, flat_map, Memᴰ}
use Rattle.block.specs.Block.{Block}
use Rattle.tree.specs.Tree.{block_entries}

-- ---- lists

-- ys are the elements of xs of which P holds, in their order
pub data Kept {A : Type 0} (P : A → Type 0) : (xs ys : List A) → Type 0 where
  no_more : Kept P [] []
  taken : {x : A} {xs ys : List A} → P x → Kept P xs ys → Kept P (x ∷ xs) (x ∷ ys)
  left_out : {x : A} {xs ys : List A} → (P x → ⊥) → Kept P xs ys → Kept P (x ∷ xs) ys

-- none occurs twice
pub data Once : List ℕ → Type 0 where
  empty : Once []
  another : {x : ℕ} {xs : List ℕ} → (Memᴰ x xs → ⊥) → Once xs → Once (x ∷ xs)

-- ---- walk order

-- all blocks met going down from the block of this level at an offset in entry order, with no test: each before those that its entries name
unfoldable pub preorder : List Block → (level at : ℕ) → List ℕ
preorder bs zero at = at ∷ []
preorder bs (suc level) at = at ∷ flat_map (λ e. preorder bs level e.offset) (block_entries bs at)

-- xs are the starts of all ordinary blocks, each once
pub record AllBlocks (bs : List Block) (xs : List ℕ) : Type 0 where
  pub all : (b : Block) → Memᴰ b bs → b.frame.level ≤ 63 → Memᴰ b.frame.start xs
  pub only : (x : ℕ) → Memᴰ x xs → (b : Block) × Memᴰ b bs × (b.frame.start ≡ x) × (b.frame.level ≤ 63)
  pub once : Once xs
