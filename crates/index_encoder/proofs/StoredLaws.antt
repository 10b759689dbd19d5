-- Laws of what is stored piece after piece.
-- Assumes nothing.
use mathlib.Core.Path.{◌≡◌, refl, sym, ap, ◌∙◌}
use mathlib.Core.Bool.{Bool, true, false}
use mathlib.Core.List.{List, [], ◌∷◌, ◌++◌, flat_map, append_assoc, append-nil}
use Prim.Native.Nat.{ℕ, zero, suc, ◌+◌, ◌≤◌, ◌<◌}
use native.Mathlib.Omega.{arith}
use lib.Dec.{ltb}
use lib.ListN.{length, take, drop, take-append-drop}
use lib.Seq.{take-take, drop-append-le, length-take-le}
use borrow.Author.Tests.{ltb-true, ltb-false}
use Rattle.lists.proofs.ListsLaws.{flat_map_append}
use Rattle.output_bytes.specs.OutputBytes.{stored}
use Rattle.output_bytes.proofs.OutputBytesLaws.{stored_some, stored_none}

-- ---- numbers and lists

pub by_order : {P : Type 0} (a b : ℕ) → (a < b → P) → (b ≤ a → P) → P
by_order {P} a b less more = go (ltb a b) refl
  where
    go : (t : Bool) → ltb a b ≡ t → P
    go true e = less (ltb-true a b e)
    go false e = more (ltb-false a b e)

pub flat_map_snoc : {A B : Type 0} (f : A → List B) (xs : List A) (x : A) → flat_map f (xs ++ (x ∷ [])) ≡ flat_map f xs ++ f x
unfolding flat_map
flat_map_snoc f xs x = flat_map_append f xs (x ∷ []) ∙ ap (λ l. flat_map f xs ++ l) (append-nil (f x))

-- taking as many as were taken
pub take_counted : {A : Type 0} (n : ℕ) (xs : List A) → take (length (take n xs)) xs ≡ take n xs
take_counted zero xs = refl
take_counted (suc n) [] = refl
take_counted (suc n) (x ∷ xs) = ap (λ l. x ∷ l) (take_counted n xs)

-- ---- what is stored

-- nothing stored
pub stored_nil : (o : List ℕ) (at : ℕ) → stored o at [] ≡ o
stored_nil o at =
    by_order (length o) (at + 0) (λ h. stored_none o at [] h) (λ h. stored_some o at [] h ∙ ap (λ n. take at o ++ drop n o) same ∙ take-append-drop at o)
  where
    same : at + 0 ≡ at
    same = omega arith

-- a byte string stored in the front part of an output
pub stored_room : (o : List ℕ) (at : ℕ) (s : List ℕ) (room : ℕ) → room ≤ length o → at + length s ≤ room
    → stored (take room o) at s ++ drop room o ≡ stored o at s
stored_room o at s room h k =
    ap (λ l. l ++ drop room o)
    (stored_some (take room o) at s (rw (length-take-le room o h) k)
    ∙ ap (λ l. l ++ (s ++ drop (at + length s) (take room o))) (take-take at room o (omega arith)))
    ∙ append_assoc (take at o) (s ++ drop (at + length s) (take room o)) (drop room o)
    ∙ ap (λ l. take at o ++ l) (append_assoc s (drop (at + length s) (take room o)) (drop room o) ∙ ap (λ l. s ++ l) rest)
    ∙ sym (stored_some o at s (omega arith))
  where
    rest : drop (at + length s) (take room o) ++ drop room o ≡ drop (at + length s) o
    rest =
        sym (drop-append-le (at + length s) (take room o) (drop room o) (rw (length-take-le room o h) k))
        ∙ ap (drop (at + length s)) (take-append-drop room o)
