-- A part of a byte string.
use Rattle.std.specs.Prelude.{ℕ, List, take, drop}

-- the n bytes of s from `at` on
unfoldable pub part : List ℕ → ℕ → ℕ → List ℕ
part s at n = take n (drop at s)
