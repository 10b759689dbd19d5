-- The names of a SIM phonebook, as 3GPP TS 51.011 codes them, and the field that holds one. Nothing here looks for the end of a name.
use Rattle.std.specs.Prelude.{ℕ, ◌<◌, ◌≡◌, length}
use mathlib.Core.List.{List, [], ◌∷◌, ◌++◌, Memᴰ}

-- nothing but FF: what is left of a field, or a free record
unfoldable pub Filled : List ℕ → Type 0
Filled s = (b : ℕ) → Memᴰ b s → b ≡ 255

-- nothing but bytes below 80 hex
unfoldable pub Plain : List ℕ → Type 0
Plain s = (b : ℕ) → Memᴰ b s → b < 128

-- pairs of bytes, none of them FF FF
pub data Pairs : List ℕ → Type 0 where
  no_pair : Pairs []
  one_pair : {a b : ℕ} {s : List ℕ} → ((a ≡ 255) × (b ≡ 255) → ⊥) → Pairs s → Pairs (a ∷ (b ∷ s))

-- a name, coding bytes included
pub data Name : List ℕ → Type 0 where
  plain : {s : List ℕ} → Plain s → Name s
  -- 80 hex, then pairs
  pairs : {s : List ℕ} → Pairs s → Name (128 ∷ s)
  -- 81: a count, a base byte and as many bytes as the count says
  one_base : {base : ℕ} {s : List ℕ} → Name (129 ∷ (length s ∷ (base ∷ s)))
  -- 82: a count, two base bytes and as many bytes
  two_base : {high low : ℕ} {s : List ℕ} → Name (130 ∷ (length s ∷ (high ∷ (low ∷ s))))

-- the field holds this name, and nothing but FF after it
pub record NameIn (field name : List ℕ) : Type 0 where
  pub coded : Name name
  pub fill : List ℕ
  pub filled : Filled fill
  pub joined : field ≡ name ++ fill
