-- What a store does to a file: what stands in front of it stays, and how long the file is then.
-- Assumes nothing.
use mathlib.Core.Path.{◌≡◌, refl, sym, ap, ◌∙◌}
use mathlib.Core.Logic.{◌≢◌}
use mathlib.Core.Bool.{true}
use mathlib.Core.List.{List, [], ◌∷◌, ◌++◌, append-nil}
use Prim.Native.Nat.{ℕ, ◌+◌, ◌-◌, ◌≤◌}
use native.Mathlib.Omega.{arith}
use lib.ListN.{length, take, drop, length-append, length-drop, drop_of_length-le}
use lib.Seq.{take_all, drop-nil, length-take-le, take-append-le, take-take, drop_at}
use Rattle.byte_string.specs.Order.{begins}
use Rattle.byte_string.proofs.PrefixLaws.{begins_of_take, take_begins, length-begins}
use Rattle.output_list.specs.OutputList.{padded, zeros}
use Rattle.output_list.proofs.OutputListLaws.{padded-append, length-zeros}
use Rattle.stores.specs.Store.{overwritten}

-- a store to nothing
pub overwritten_none : (bytes : List ℕ) → overwritten [] 0 bytes ≡ bytes
unfolding overwritten padded
overwritten_none [] = refl
overwritten_none (x ∷ xs) = ap (λ (r : List ℕ). (x ∷ xs) ++ r) (drop-nil (0 + length (x ∷ xs))) ∙ append-nil (x ∷ xs)

-- the bytes in front of a store: those of the file, and zeros where it is shorter
front : (file : List ℕ) (at : ℕ) → List ℕ
front file at = take at (padded at file)

at_least : (file : List ℕ) (at : ℕ) → at ≤ length (padded at file)
at_least file at =
    let long : length (padded at file) ≡ length file + (at - length file) =
    ap length (padded-append at file) ∙ length-append file (zeros (at - length file)) ∙ ap (λ (n : ℕ). length file + n) (length-zeros (at - length file)) in
    omega (arith, long)

length_front : (file : List ℕ) (at : ℕ) → length (front file at) ≡ at
unfolding front
length_front file at = length-take-le at (padded at file) (at_least file at)

-- what the file begins with stands in front of a store behind it
front_begins : (p file : List ℕ) (at : ℕ) → begins p file ≡ true → length p ≤ at → take (length p) (front file at) ≡ p
unfolding front
front_begins p file at b h =
    take-take (length p) at (padded at file) h ∙ ap (take (length p)) (padded-append at file)
    ∙ take-append-le (length p) file (zeros (at - length file)) (length-begins p file b) ∙ take_begins p file b

-- a store behind it leaves it there
pub overwritten_behind : (p file : List ℕ) (at : ℕ) (bytes : List ℕ) → begins p file ≡ true → length p ≤ at → begins p (overwritten file at bytes) ≡ true
unfolding overwritten front
overwritten_behind p file at [] b h = b
overwritten_behind p file at (x ∷ xs) b h =
    begins_of_take p _
    (take-append-le (length p) (front file at) _ (omega (arith, h, length_front file at)) ∙ front_begins p file at b h)

-- a store right behind it
pub overwritten_next : (p file bytes : List ℕ) → begins p file ≡ true → bytes ≢ []
    → overwritten file (length p) bytes ≡ p ++ (bytes ++ drop (length p + length bytes) file)
unfolding overwritten front
overwritten_next p file [] b some = absurd (some refl)
overwritten_next p file (x ∷ xs) b some = ap (λ (q : List ℕ). q ++ ((x ∷ xs) ++ drop (length p + length (x ∷ xs)) file)) whole
  where
    whole : front file (length p) ≡ p
    whole =
        sym (take_all (length p) (front file (length p)) (omega (arith, length_front file (length p))))
        ∙ front_begins p file (length p) b (omega arith)

-- a store past the end is what stands there
pub overwritten_end : (file : List ℕ) (at : ℕ) (bytes : List ℕ) → length file ≤ at → drop at (overwritten file at bytes) ≡ bytes
unfolding overwritten front
overwritten_end file at [] h = drop_of_length-le file h
overwritten_end file at (x ∷ xs) h =
    drop_at (front file at) _ at (length_front file at)
    ∙ ap (λ (r : List ℕ). (x ∷ xs) ++ r) (drop_of_length-le file {i = at + length (x ∷ xs)} (omega arith)) ∙ append-nil (x ∷ xs)

-- the file is then as long as it was, or ends with the store
pub overwritten_long : (file : List ℕ) (at : ℕ) (bytes : List ℕ) (most : ℕ) → length file ≤ most → at + length bytes ≤ most
    → length (overwritten file at bytes) ≤ most
unfolding overwritten front
overwritten_long file at [] most h k = h
overwritten_long file at (x ∷ xs) most h k =
    let rest : List ℕ = drop (at + length (x ∷ xs)) file in
    let long : length (front file at ++ ((x ∷ xs) ++ rest)) ≡ at + (length (x ∷ xs) + (length file - (at + length (x ∷ xs)))) =
    length-append (front file at) ((x ∷ xs) ++ rest) ∙ ap (λ (n : ℕ). n + length ((x ∷ xs) ++ rest)) (length_front file at)
    ∙ ap (λ (n : ℕ). at + n) (length-append (x ∷ xs) rest ∙ ap (λ (n : ℕ). length (x ∷ xs) + n) (length-drop (at + length (x ∷ xs)) file)) in
    omega (arith, long)
