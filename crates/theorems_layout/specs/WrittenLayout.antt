-- How a written file is laid out.
use Rattle.std.specs.Prelude.{ℕ, ◌+◌, ◌-◌, ◌≤◌, ◌<◌, ◌≡◌, ◌⊎◌, true, cond, eqb, length}
use mathlib.Core.List.{List, [], ◌∷◌, Memᴰ}
use Rattle.lists.specs.Lists.{keep}
use Rattle.byte_string.specs.Order.{begins}
use Rattle.header.specs.Header.{H, M, field_at}
use Rattle.payload.specs.Payload.{Text, Entry}
use Rattle.block.specs.Block.{Block, is_data}
use Rattle.tree.specs.Tree.{under, key_fits}

-- each is so related to the next
pub data Chain {A : Type 0} (Next : A → A → Type 0) : List A → Type 0 where
  no_item : Chain Next []
  one_item : {x : A} → Chain Next (x ∷ [])
  more_items : {x y : A} {xs : List A} → Next x y → Chain Next (y ∷ xs) → Chain Next (x ∷ y ∷ xs)

-- how many records a data block has, or entries an index block
unfoldable pub item_count : Block → ℕ
item_count b = length b.records + length b.entries

-- how many blocks stand on a level
unfoldable pub blocks_on : (level : ℕ) → List Block → ℕ
blocks_on level bs = length (keep (λ b. eqb b.frame.level level) bs)

-- the root's level is the last: one block stands there, and at least two on each index level below it
pub record EndsOn (bs : List Block) (root top : ℕ) : Type 0 where
  pub root_there : (b : Block) × Memᴰ b bs × (b.frame.start ≡ root) × (b.frame.level ≡ top)
  pub low : 1 ≤ top
  pub last : (b : Block) → Memᴰ b bs → b.frame.level ≤ top
  pub alone : blocks_on top bs ≡ 1
  pub others : (level : ℕ) → 1 ≤ level → level < top → 2 ≤ blocks_on level bs

module _ (per_block per_index : ℕ) where
  -- how many a full block of this level has
  unfoldable pub full_count : (level : ℕ) → ℕ
  full_count level = cond (is_data level) per_block per_index

  -- the next block stands on the same level, and then this one is full, or it is the first of the level above
  unfoldable pub Follows : (b next : Block) → Type 0
  Follows b next =
      ((next.frame.level ≡ b.frame.level) × (item_count b ≡ full_count b.frame.level)) ⊎ (next.frame.level ≡ b.frame.level + 1)

  pub record WrittenLayout (file : List ℕ) (bs : List Block) : Type 0 where
    -- the header has no extra bytes
    pub plain : H file ≡ 80 + M file
    -- all data blocks, then index blocks level by level, each full but the last of its level
    pub data_first : (b : Block) (rest : List Block) → bs ≡ b ∷ rest → b.frame.level ≡ 0
    pub followed : Chain Follows bs
    pub no_fuller : (b : Block) → Memᴰ b bs → item_count b ≤ full_count b.frame.level
    -- until one stands alone, on level 1 at least
    pub top : ℕ
    pub ends : EndsOn bs (field_at file 16) top
    -- the first key on each level is empty: that of the index block that no block of its level stands before
    pub first_key : (b : Block) → Memᴰ b bs
        → ((c : Block) → Memᴰ c bs → c.frame.level ≡ b.frame.level → b.frame.start ≤ c.frame.start)
        → (e : Entry) (es : List Entry) → b.entries ≡ e ∷ es → e.key.bytes ≡ []
    -- a key is a beginning of the first record that the block named by its entry leads to
    pub cut : (b : Block) → Memᴰ b bs → (e : Entry) → Memᴰ e b.entries
        → (first : Text) × (rest : List Text) × (under bs (b.frame.level - 1) e.offset ≡ first ∷ rest)
        × (begins e.key.bytes first.bytes ≡ true)
    -- and no byte string that keeps the key rule there is shorter
    pub shortest : (b : Block) → Memᴰ b bs → (e : Entry) → Memᴰ e b.entries
        → (key : List ℕ) → key_fits bs key (under bs (b.frame.level - 1) e.offset) ≡ true → length e.key.bytes ≤ length key
