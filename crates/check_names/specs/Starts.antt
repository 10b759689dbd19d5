-- The work list as starts: one word for each ordinary block in file order. A word is start + 2 ^ 30 * c, so the start is the
-- word modulo 2 ^ 30.
use Rattle.std.specs.Prelude.{ℕ, ◌%◌, ◌^◌, ◌<◌, ◌≡◌, List, map, length, get_or, Option, Some, None}
use Rattle.block.specs.Block.{Block}
use Rattle.block.specs.Survey.{ordinary}

-- the starts of the ordinary blocks, in file order
unfoldable pub starts_of : List Block → List ℕ
starts_of bs = map (λ b. b.frame.start) (ordinary bs)

-- the first places of the list hold these numbers
unfoldable pub Begins : (list numbers : List ℕ) → Type 0
Begins list numbers = (i : ℕ) → i < length numbers → get_or list i 0 ≡ get_or numbers i 0

-- the start in a word
unfoldable pub start_at : (work : List ℕ) (i : ℕ) → ℕ
start_at work i = get_or work i 0 % 2 ^ 30

-- the starts in the words rise strictly
unfoldable pub StartsRise : (work : List ℕ) → Type 0
StartsRise work = (p q : ℕ) → p < q → q < length work → start_at work p < start_at work q

-- what a search among the words answers: where the start stands
unfoldable pub Located : (work : List ℕ) (start : ℕ) → Option ℕ → Type 0
Located work start (Some i) = start_at work i ≡ start
Located work start None = (j : ℕ) → j < length work → start_at work j ≡ start → ⊥
