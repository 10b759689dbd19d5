-- Laws of `padded` and `zeros`: the numbers put at the front of a list, and zeros after them.
-- Assumes nothing.
use mathlib.Core.Path.{◌≡◌, refl, sym, ap, ◌∙◌}
use mathlib.Core.Bool.{Bool, true, false, cond}
use mathlib.Core.List.{List, [], ◌∷◌, ◌++◌, append-nil}
use Prim.Native.Nat.{ℕ, suc, ◌+◌, ◌-◌, ◌≤◌, ◌<◌}
use native.Mathlib.Nat.{sub-zero}
use native.Mathlib.Omega.{arith}
use borrow.Author.Fill.{fill_more}
use borrow.Author.Tests.{lt-ltb, le-ltb}
use lib.Dec.{ltb}
use lib.ListN.{length, get_or, set, take, drop, replicate, drop_of_length-le, length-append, length-replicate, length-set, get_or-append}
use lib.Seq.{take_all, drop-length, take-append_seam, drop-append_seam, set-append_seam, get_or-append-add, append_snoc}
use Rattle.lists.proofs.ListsLaws.{zeros_at}
use Rattle.output_list.specs.OutputList.{padded, zeros, has_place, with_number, with_numbers}

-- ---- zeros

-- zeros are so many times the number 0
pub zeros-replicate : (room : ℕ) → zeros room ≡ replicate room 0
unfolding zeros padded
zeros-replicate room = rw sub-zero

-- a list that holds no number yet is all zeros
pub padded_nil : (room : ℕ) → padded room [] ≡ zeros room
unfolding zeros
padded_nil room = refl

-- zeros fill their room
pub length-zeros : (room : ℕ) → length (zeros room) ≡ room
length-zeros room = rw (zeros-replicate, length-replicate)

-- every place of zeros, and whatever is read past their end, is 0
pub get_or-zeros : (room i : ℕ) → get_or (zeros room) i 0 ≡ 0
get_or-zeros room i = rw zeros-replicate (zeros_at room i)

-- ---- the numbers, and zeros after them

-- what is padded is the numbers and then zeros
pub padded-append : (room : ℕ) (l : List ℕ) → padded room l ≡ l ++ zeros (room - length l)
unfolding padded
padded-append room l = rw zeros-replicate

-- the numbers and the zeros fill the room
pub length-padded : (room : ℕ) (l : List ℕ) → length l ≤ room → length (padded room l) ≡ room
length-padded room l h = rw (padded-append, length-append, length-zeros) (omega arith)

-- a list that is full has no zeros after its numbers
pub padded_full : (room : ℕ) (l : List ℕ) → length l ≡ room → padded room l ≡ l
unfolding padded
padded_full room l h =
    let none : room - length l ≡ 0 = omega arith in
    rw none (append-nil l)

-- the numbers stand at the front
pub take-padded : (room : ℕ) (l : List ℕ) → take (length l) (padded room l) ≡ l
take-padded room l = rw padded-append (take-append_seam l (zeros (room - length l)))

-- zeros stand after them
pub drop-padded : (room : ℕ) (l : List ℕ) → drop (length l) (padded room l) ≡ zeros (room - length l)
drop-padded room l = rw padded-append (drop-append_seam l (zeros (room - length l)))

-- the place of a number holds that number
pub get_or-padded : (room : ℕ) (l : List ℕ) (i : ℕ) → i < length l → get_or (padded room l) i 0 ≡ get_or l i 0
get_or-padded room l i h = rw padded-append (get_or-append l (zeros (room - length l)) 0 i h)

-- a place after the numbers holds 0
pub get_or-padded-after : (room : ℕ) (l : List ℕ) (i : ℕ) → length l ≤ i → get_or (padded room l) i 0 ≡ 0
get_or-padded-after room l i h =
    let split : i ≡ length l + (i - length l) = omega arith in
    rw (padded-append, split, get_or-append-add, get_or-zeros)

-- the places tell the numbers, where it is known how many there are
pub padded_injective : (room : ℕ) (l m : List ℕ) → padded room l ≡ padded room m → length l ≡ length m → l ≡ m
padded_injective room l m same long =
    sym (take-padded room l) ∙ ap (take (length l)) same ∙ ap (λ (n : ℕ). take n (padded room m)) long ∙ take-padded room m

-- ---- stores

-- one store after the numbers puts one number more
pub set-padded : (room : ℕ) (l : List ℕ) (v : ℕ) → length l < room → set (padded room l) (length l) v ≡ padded room (l ++ (v ∷ []))
unfolding padded
set-padded room l v h =
    let left : room - length l ≡ suc (room - (length l + 1)) = omega arith in
    rw (length-append, left, set-append_seam, append_snoc)

-- ---- clearing from the front

-- `list` is what `old` has become with its first i places cleared
pub record Cleared (old list : List ℕ) (i : ℕ) : Type 0 where
  pub within : i ≤ length old
  pub long : length list ≡ length old
  pub holds : list ≡ zeros i ++ drop i old

-- at first no place is cleared
pub cleared_none : (old : List ℕ) → Cleared old old 0
unfolding zeros padded
cleared_none old = record { within = omega arith; long = refl; holds = refl }

-- a store of 0 after the cleared places clears one more
pub cleared_more : (old list : List ℕ) (i : ℕ) → Cleared old list i → i < length old → Cleared old (set list i 0) (i + 1)
cleared_more old list i done h =
    record {
      within = omega arith;
      long = simp length-set done.long;
      holds = rw (done.holds, zeros-replicate i, zeros-replicate (i + 1)) (fill_more i 0 old h);
    }

-- with all places cleared it is zeros
pub cleared_all : (old list : List ℕ) (i : ℕ) → Cleared old list i → length old ≤ i → list ≡ zeros (length old)
cleared_all old list i done h =
    let all : i ≡ length old = omega arith in
    rw (done.holds, all, drop-length) (append-nil (zeros (length old)))

-- ---- clearing at once

-- so many times 0 are zeros
pub replicate_zeros : (room : ℕ) → replicate room 0 ≡ zeros room
replicate_zeros room = sym (zeros-replicate room)

-- a list whose places from i on were cleared is zeros where i is 0
pub cleared_from : (i k : ℕ) (list rest : List ℕ) → i ≡ 0 → length list ≤ k → rest ≡ replicate (length (take k (drop i list))) 0
    → take i list ++ (rest ++ drop k (drop i list)) ≡ zeros (length list)
cleared_from i k list rest none all cleared =
    rw (cleared, none, take_all k list all, drop_of_length-le list all) (append-nil _ ∙ replicate_zeros (length list))

pub ruleset clearing = (replicate_zeros, cleared_from)

-- ---- one number

pub place_none : (list : List ℕ) (count number : ℕ) → length list ≤ count → (false ≡ has_place list count) × (list ≡ with_number list count number)
unfolding has_place with_number
place_none list count number h =
    let full : ltb count (length list) ≡ false = le-ltb count (length list) h in
    (sym full, sym (ap (λ (b : Bool). cond b (set list count number) list) full))

pub place_some : (list : List ℕ) (count number : ℕ) → count < length list
    → (true ≡ has_place list count) × (set list count number ≡ with_number list count number)
unfolding has_place with_number
place_some list count number h =
    let room : ltb count (length list) ≡ true = lt-ltb count (length list) h in
    (sym room, sym (ap (λ (b : Bool). cond b (set list count number) list) room))

-- a lent list keeps its length
pub length_with_number : (list : List ℕ) (count number : ℕ) → length (with_number list count number) ≡ length list
unfolding with_number
length_with_number list count number = go (has_place list count)
  where
    go : (b : Bool) → length (cond b (set list count number) list) ≡ length list
    go true = length-set list count number
    go false = refl

-- a number after the numbers
pub with_number_padded : (room : ℕ) (l : List ℕ) (count number : ℕ) → length l ≡ count → count < room
    → with_number (padded room l) count number ≡ padded room (l ++ (number ∷ []))
with_number_padded room l count number e h =
    let long = length-padded room l (omega arith) in
    sym (place_some (padded room l) count number (omega arith)).1 ∙ ap (λ (n : ℕ). set (padded room l) n number) (sym e)
    ∙ set-padded room l number (omega arith)

-- ---- numbers one after the other

-- a lent list keeps its length
pub length-with_numbers : (list : List ℕ) (count : ℕ) (ns : List ℕ) → length (with_numbers list count ns) ≡ length list
unfolding with_numbers
length-with_numbers list count [] = refl
length-with_numbers list count (n ∷ ns) = length-with_numbers (with_number list count n) (count + 1) ns ∙ length_with_number list count n

-- some numbers, and then others
pub with_numbers-append : (list : List ℕ) (count : ℕ) (ms ns : List ℕ)
    → with_numbers list count (ms ++ ns) ≡ with_numbers (with_numbers list count ms) (count + length ms) ns
unfolding with_numbers
with_numbers-append list count [] ns = ap (λ (k : ℕ). with_numbers list k ns) (let same : count ≡ count + 0 = omega arith in same)
with_numbers-append list count (m ∷ ms) ns =
    with_numbers-append (with_number list count m) (count + 1) ms ns
    ∙ ap (λ (k : ℕ). with_numbers (with_numbers (with_number list count m) (count + 1) ms) k ns)
    (let same : count + 1 + length ms ≡ count + length (m ∷ ms) = omega arith in same)

-- with room for all of them they stand after the numbers that were there
pub with_numbers-padded : (room : ℕ) (l : List ℕ) (count : ℕ) (ns : List ℕ) → length l ≡ count → count + length ns ≤ room
    → with_numbers (padded room l) count ns ≡ padded room (l ++ ns)
unfolding with_numbers
with_numbers-padded room l count [] e h = ap (padded room) (sym (append-nil l))
with_numbers-padded room l count (n ∷ ns) e h =
    ap (λ (list : List ℕ). with_numbers list (count + 1) ns) (with_number_padded room l count n e (omega arith))
    ∙ with_numbers-padded room (l ++ (n ∷ [])) (count + 1) ns (length-append l (n ∷ []) ∙ ap (λ (k : ℕ). k + 1) e) (omega arith)
    ∙ ap (padded room) (append_snoc l n ns)
