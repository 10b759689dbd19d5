-- Laws of the result list: the places that matches take, what stands there, and putting one match after the other.
-- Assumes nothing.
use mathlib.Core.Path.{◌≡◌, refl, sym, ap, ap₂, ◌∙◌}
use mathlib.Core.List.{List, [], ◌∷◌, ◌++◌, map-append, append-nil}
use Prim.Native.Nat.{ℕ, ◌+◌, ◌≤◌, ◌<◌}
use native.Mathlib.Omega.{arith}
use lib.ListN.{length, get_or, length-append, length-map}
use lib.Seq.{append_snoc, get_or-append-add}
use Rattle.output_list.specs.OutputList.{padded, zeros}
use Rattle.output_list.proofs.OutputListLaws.{length_with_number, padded_nil, get_or-padded, with_number_padded}
use Rattle.payload.specs.Payload.{Text}
use Rattle.matching.specs.Packing.{packed}
use Rattle.matching.specs.ResultList.{room_for, match_number, numbers_of, with_record, Stored, put, put_all}

-- ---- places

pub room_for_is : (n : ℕ) → room_for n ≡ n
unfolding room_for
room_for_is n = refl

pub room_for_none : room_for 0 ≡ 0
unfolding room_for
room_for_none = refl

-- every match takes a place
pub room_for_some : (n : ℕ) → n ≤ room_for n
unfolding room_for
room_for_some n = omega arith

-- more matches take more places
pub room_for_mono : (m n : ℕ) → m ≤ n → room_for m ≤ room_for n
unfolding room_for
room_for_mono m n h = omega arith

pub room_for_more : (m n : ℕ) → m < n → room_for m < room_for n
unfolding room_for
room_for_more m n h = omega arith

-- ---- what the list holds

pub numbers_none : numbers_of [] ≡ []
unfolding numbers_of
numbers_none = refl

pub numbers_append : (xs ys : List Text) → numbers_of (xs ++ ys) ≡ numbers_of xs ++ numbers_of ys
unfolding numbers_of
numbers_append xs ys = map-append match_number xs ys

-- as many numbers as places
pub length_numbers : (ms : List Text) → length (numbers_of ms) ≡ room_for (length ms)
unfolding room_for numbers_of
length_numbers ms = length-map ms match_number

-- the number of a match stands after those of the matches before it
pub number_at_lem : (xs : List Text) (m : Text) (ys : List Text)
    → get_or (numbers_of (xs ++ m ∷ ys)) (room_for (length xs)) 0 ≡ match_number m
unfolding numbers_of
number_at_lem xs m ys =
    let place : room_for (length xs) ≡ length (numbers_of xs) + 0 = let long = length_numbers xs in omega arith in
    ap₂ (λ (l : List ℕ) (i : ℕ). get_or l i 0) (numbers_append xs (m ∷ ys)) place ∙ get_or-append-add (numbers_of xs) (numbers_of (m ∷ ys)) 0 0

-- also where zeros follow
pub number_padded : (room : ℕ) (xs : List Text) (m : Text) (ys : List Text)
    → get_or (padded room (numbers_of (xs ++ m ∷ ys))) (room_for (length xs)) 0 ≡ match_number m
number_padded room xs m ys =
    let long = length_numbers (xs ++ m ∷ ys) in
    let more = room_for_more (length xs) (length (xs ++ m ∷ ys)) (let both = length-append xs (m ∷ ys) in omega arith) in
    get_or-padded room (numbers_of (xs ++ m ∷ ys)) _ (omega arith) ∙ number_at_lem xs m ys

-- ---- a record put after matches

-- a lent list keeps its length
pub length-with_record : (list : List ℕ) (count offset size : ℕ) → length (with_record list count offset size) ≡ length list
unfolding with_record
length-with_record list count offset size = length_with_number list count (packed offset size)

-- where there is room the list holds one match more
pub with_record-padded : (room : ℕ) (seen : List Text) (m : Text) → room_for (length seen + 1) ≤ room
    → with_record (padded room (numbers_of seen)) (length seen) m.at (length m.bytes) ≡ padded room (numbers_of (seen ++ (m ∷ [])))
unfolding room_for with_record numbers_of match_number
with_record-padded room seen m fits =
    with_number_padded room (numbers_of seen) (length seen) (match_number m) (length_numbers seen) (omega arith)
    ∙ ap (padded room) (sym (numbers_append seen (m ∷ [])))

-- ---- one match more

pub count_put : (s : Stored) (m : Text) → (put s m).count ≡ s.count + 1
unfolding put
count_put s m = refl

pub length-put : (s : Stored) (m : Text) → length (put s m).list ≡ length s.list
unfolding put
length-put s m = length-with_record s.list s.count m.at (length m.bytes)

-- ---- all matches

pub put_all_one : (s : Stored) (m : Text) → put_all s (m ∷ []) ≡ put s m
unfolding put_all
put_all_one s m = refl

-- the matches of two lists are put one list after the other
pub put_all_append : (s : Stored) (xs ys : List Text) → put_all s (xs ++ ys) ≡ put_all (put_all s xs) ys
unfolding put_all
put_all_append s [] ys = refl
put_all_append s (x ∷ xs) ys = put_all_append (put s x) xs ys

-- each match is counted, with room or without
pub count_put_all : (s : Stored) (ms : List Text) → (put_all s ms).count ≡ s.count + length ms
unfolding put_all
count_put_all s [] = omega arith
count_put_all s (m ∷ ms) =
    let rest = count_put_all (put s m) ms in
    let one = count_put s m in
    omega arith

-- a lent list keeps its length
pub length_put_all : (s : Stored) (ms : List Text) → length (put_all s ms).list ≡ length s.list
unfolding put_all
length_put_all s [] = refl
length_put_all s (m ∷ ms) = length_put_all (put s m) ms ∙ length-put s m

module _ (room : ℕ) where
  -- a list that holds these matches, and then zeros
  abbrev pub holding : List Text → Stored
  holding ms = record { count = length ms; list = padded room (numbers_of ms) }

  put-after : (seen : List Text) (m : Text) → room_for (length seen + 1) ≤ room → put (holding seen) m ≡ holding (seen ++ (m ∷ []))
  unfolding put
  put-after seen m fits =
      ap₂ (λ (n : ℕ) (l : List ℕ). record { count = n; list = l }) (sym (length-append seen (m ∷ []))) (with_record-padded room seen m fits)

  -- matches put after others, where all have room
  pub stored-after : (seen ms : List Text) → room_for (length seen + length ms) ≤ room → put_all (holding seen) ms ≡ holding (seen ++ ms)
  unfolding put_all
  stored-after seen [] fits = ap holding (sym (append-nil seen))
  stored-after seen (m ∷ ms) fits =
      let more = length-append seen (m ∷ []) in
      let one = room_for_mono (length seen + 1) (length seen + length (m ∷ ms)) (omega arith) in
      let rest = room_for_mono (length (seen ++ (m ∷ [])) + length ms) (length seen + length (m ∷ ms)) (omega arith) in
      ap (λ (s : Stored). put_all s ms) (put-after seen m (omega arith)) ∙ stored-after (seen ++ (m ∷ [])) ms (omega arith) ∙ ap holding (append_snoc seen m ms)

  -- matches put on zeros
  pub stored_all : (ms : List Text) → room_for (length ms) ≤ room → put_all (record { count = 0; list = zeros room }) ms ≡ holding ms
  stored_all ms fits =
      let all = room_for_mono (0 + length ms) (length ms) (omega arith) in
      ap (λ (l : List ℕ). put_all (record { count = 0; list = l }) ms) (sym (ap (padded room) numbers_none ∙ padded_nil room))
      ∙ stored-after [] ms (omega arith)
