-- The laws of `AreBytes`: by index, and of lists put together and taken apart.
-- Assumes nothing.
use Prim.Native.Nat.{ℕ, zero, suc, ◌<◌, zero-le, suc-le-suc}
use native.Mathlib.Omega.{arith}
use mathlib.Core.List.{List, [], ◌∷◌, ◌++◌, reverse, reverse_aux}
use lib.ListN.{length, get_or, take, drop}
use Rattle.part.specs.Bytes.{AreBytes}

-- By index.

-- what stands at an index is a byte; past the end it is read as 0
pub bytes_at : (s : List ℕ) → AreBytes s → (k : ℕ) → get_or s k 0 < 256
unfolding AreBytes
bytes_at [] h k = omega arith
bytes_at (b ∷ s) h zero = h.0
bytes_at (b ∷ s) h (suc k) = bytes_at s h.1 k

pub bytes_of_below : (s : List ℕ) → ((k : ℕ) → k < length s → get_or s k 0 < 256) → AreBytes s
unfolding AreBytes
bytes_of_below [] h = tt
bytes_of_below (b ∷ s) h = (h 0 (suc-le-suc zero-le), bytes_of_below s (λ k l. h (suc k) (suc-le-suc l)))

-- Of lists put together and taken apart.

pub bytes_append : (s t : List ℕ) → AreBytes s → AreBytes t → AreBytes (s ++ t)
unfolding AreBytes
bytes_append [] t h k = k
bytes_append (b ∷ s) t h k = (h.0, bytes_append s t h.1 k)

pub bytes_left : (s t : List ℕ) → AreBytes (s ++ t) → AreBytes s
unfolding AreBytes
bytes_left [] t h = tt
bytes_left (b ∷ s) t h = (h.0, bytes_left s t h.1)

pub bytes_right : (s t : List ℕ) → AreBytes (s ++ t) → AreBytes t
unfolding AreBytes
bytes_right [] t h = h
bytes_right (b ∷ s) t h = bytes_right s t h.1

pub bytes_take : (k : ℕ) (s : List ℕ) → AreBytes s → AreBytes (take k s)
unfolding AreBytes
bytes_take zero s h = tt
bytes_take (suc k) [] h = tt
bytes_take (suc k) (b ∷ s) h = (h.0, bytes_take k s h.1)

pub bytes_drop : (k : ℕ) (s : List ℕ) → AreBytes s → AreBytes (drop k s)
unfolding AreBytes
bytes_drop zero s h = h
bytes_drop (suc k) [] h = tt
bytes_drop (suc k) (b ∷ s) h = bytes_drop k s h.1

bytes_reverse_aux : (s t : List ℕ) → AreBytes s → AreBytes t → AreBytes (reverse_aux s t)
unfolding AreBytes
bytes_reverse_aux [] t h k = k
bytes_reverse_aux (b ∷ s) t h k = bytes_reverse_aux s (b ∷ t) h.1 (h.0, k)

pub bytes_reverse : (s : List ℕ) → AreBytes s → AreBytes (reverse s)
unfolding AreBytes
bytes_reverse s h = bytes_reverse_aux s [] h tt
