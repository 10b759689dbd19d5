-- Byte strings in rising order.
use Rattle.std.specs.Prelude.{ℕ, ◌≡◌, Bool, true, ◌&&◌}
use mathlib.Core.List.{List, [], ◌∷◌, Memᴰ}
use Rattle.byte_string.specs.Order.{less, at_most}

-- each is at most the next
unfoldable pub rising_from : List ℕ → List (List ℕ) → Bool
rising_from x [] = true
rising_from x (y ∷ ys) = at_most x y && rising_from y ys

unfoldable pub rising : List (List ℕ) → Bool
rising [] = true
rising (x ∷ xs) = rising_from x xs

-- strictly: each is less than every later one
pub data Strict : List (List ℕ) → Type 0 where
  no_string : Strict []
  one_string : {x : List ℕ} {xs : List (List ℕ)} → ((y : List ℕ) → Memᴰ y xs → less x y ≡ true) → Strict xs → Strict (x ∷ xs)
