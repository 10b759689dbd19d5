-- A heap: slots 0 to n - 1, where slots 2 p + 1 and 2 p + 2 lie below slot p.
use Rattle.std.specs.Prelude.{ℕ, ◌+◌, ◌*◌, ◌≤◌, ◌<◌, ◌≡◌, true, List, length, get_or, set}
use Rattle.byte_string.specs.Order.{at_most}

-- the byte string of each slot
unfoldable pub keys : (ℕ → List ℕ) → List ℕ → ℕ → List ℕ
keys key numbers k = key (get_or numbers k 0)

-- c is a slot right below p
pub record Below (p c : ℕ) : Type 0 where
  pub low : 2 * p + 1 ≤ c
  pub high : c ≤ 2 * p + 2

-- slot a's string is at most slot b's
abbrev pub Le : (ℕ → List ℕ) → ℕ → ℕ → Type 0
Le f a b = at_most (f a) (f b) ≡ true

-- the slots from `start` to `end` are a heap
abbrev pub Heap : (ℕ → List ℕ) → ℕ → ℕ → Type 0
Heap f start end = (p c : ℕ) → start ≤ p → Below p c → c < end → Le f c p

-- m is the larger of the slots right below p
pub record Larger (f : ℕ → List ℕ) (p end m : ℕ) : Type 0 where
  pub below : Below p m
  pub within : m < end
  pub most : (c : ℕ) → Below p c → c < end → Le f c m

-- xs with its elements at indices i and j exchanged
unfoldable pub swapped : ℕ → ℕ → List ℕ → List ℕ
swapped i j xs = set (set xs i (get_or xs j 0)) j (get_or xs i 0)

-- ys is xs after exchanges of elements at indices below n
pub data Swaps (n : ℕ) : List ℕ → List ℕ → Type 0 where
  still : {xs : List ℕ} → Swaps n xs xs
  exchange : {xs ys : List ℕ} (i j : ℕ) → i < n → j < n → n ≤ length ys → Swaps n xs ys → Swaps n xs (swapped i j ys)

-- what sifting down makes of a list
pub record Sifted (key : ℕ → List ℕ) (start end : ℕ) (before after : List ℕ) : Type 0 where
  pub swaps : Swaps end before after
  pub heap : Heap (keys key after) start end
