-- Laws of the numbers of matches: each unpacks to where the match lies, and so packing keeps what the old form of a reader gave.
-- Assumes nothing.
use mathlib.Core.Path.{◌≡◌, refl, sym, ap, ap₂, ◌∙◌}
use mathlib.Core.Bool.{Bool, true, false}
use mathlib.Core.List.{List, [], ◌∷◌, ◌++◌, map, flat_map, Memᴰ}
use Prim.Native.Nat.{ℕ, zero, suc, ◌+◌, ◌*◌, ◌^◌, ◌/◌, ◌-◌, ◌≤◌, ◌<◌}
use native.Mathlib.Omega.{arith}
use lib.Dec.{leb}
use lib.ListN.{length, take, replicate}
use borrow.Author.Tests.{leb-true, leb-false, le-leb, lt-leb}
use Rattle.lists.proofs.ListsLaws.{flat_map_append}
use Rattle.output_list.specs.OutputList.{padded, zeros}
use Rattle.output_list.proofs.OutputListLaws.{take-padded, padded-append, zeros-replicate}
use Rattle.outcome.specs.Outcome.{Outcome, answer, refused, list_of}
use Rattle.payload.specs.Payload.{Text}
use Rattle.matching.specs.Packing.{offset_of, length_of, unpacked}
use Rattle.matching.specs.ResultList.{room_for, match_number, numbers_of}
use Rattle.matching.proofs.PackingLaws.{unpacked_offset, unpacked-length, packed_some}
use Rattle.matching.proofs.ResultListLaws.{room_for_is, length_numbers}
use Rattle.theorems_read.specs.ReadByRules.{Unpacks}
use Rattle.theorems_read.specs.Pairs.{pairs_of, PackingKeeps}

-- ---- one match

-- where a match lies: after the first byte, within 2^30 bytes
pub record Placed (m : Text) : Type 0 where
  pub after : 0 < m.at
  pub within : m.at + length m.bytes ≤ 2 ^ 30

pub placed⇒unpacks : (m : Text) → Placed m → Unpacks m
unfolding match_number
placed⇒unpacks m p =
    let within = p.within in
    let short : length m.bytes < 2 ^ 32 = omega arith in
    record {
      offset = unpacked_offset m.at (length m.bytes) short;
      size = unpacked-length m.at (length m.bytes) short;
      some = packed_some m.at (length m.bytes) p.after;
    }

-- ---- a list of matches

-- unpacked, their numbers are their pairs
numbers⇒pairs : (ms : List Text) → ((m : Text) → Memᴰ m ms → Placed m) → unpacked (numbers_of ms) ≡ pairs_of ms
unfolding unpacked numbers_of pairs_of flat_map map
numbers⇒pairs [] all = refl
numbers⇒pairs (m ∷ ms) all =
    let u = placed⇒unpacks m (all m (Memᴰ.head refl)) in
    ap₂ (λ (at size : ℕ). at ∷ size ∷ unpacked (numbers_of ms)) u.offset u.size
    ∙ ap (λ (l : List ℕ). m.at ∷ length m.bytes ∷ l) (numbers⇒pairs ms (λ n i. all n (Memᴰ.tail i)))

-- so are those at the front of a result list
listed⇒pairs : (room : ℕ) (ms : List Text) → ((m : Text) → Memᴰ m ms → Placed m)
    → unpacked (take (length ms) (padded room (numbers_of ms))) ≡ pairs_of ms
listed⇒pairs room ms all =
    let many : length ms ≡ length (numbers_of ms) = sym (length_numbers ms ∙ room_for_is (length ms)) in
    ap unpacked (ap (λ (n : ℕ). take n (padded room (numbers_of ms))) many ∙ take-padded room (numbers_of ms)) ∙ numbers⇒pairs ms all

-- ---- a list of matches and zeros

length_pairs : (ms : List Text) → length (pairs_of ms) ≡ 2 * length ms
unfolding pairs_of flat_map
length_pairs [] = refl
length_pairs (m ∷ ms) = let rest = length_pairs ms in omega arith

-- a place that holds 0 unpacks to two
unpacked-zeros : (n : ℕ) → unpacked (replicate n 0) ≡ replicate (2 * n) 0
unfolding unpacked offset_of length_of flat_map
unpacked-zeros zero = refl
unpacked-zeros (suc n) =
    let more : 2 * suc n ≡ suc (suc (2 * n)) = omega arith in
    ap (λ (l : List ℕ). 0 ∷ 0 ∷ l) (unpacked-zeros n) ∙ sym (ap (λ (k : ℕ). replicate k 0) more)

zeros-unpacked : (n : ℕ) → unpacked (zeros n) ≡ zeros (2 * n)
zeros-unpacked n = ap unpacked (zeros-replicate n) ∙ unpacked-zeros n ∙ sym (zeros-replicate (2 * n))

padded-unpacked : (room : ℕ) (ms : List Text) → ((m : Text) → Memᴰ m ms → Placed m) → length ms ≤ room
    → unpacked (padded room (numbers_of ms)) ≡ padded (2 * room) (pairs_of ms)
unfolding unpacked
padded-unpacked room ms all fits =
    let long = length_numbers ms ∙ room_for_is (length ms) in
    let pairs = length_pairs ms in
    let left : 2 * (room - length (numbers_of ms)) ≡ 2 * room - length (pairs_of ms) = omega arith in
    ap unpacked (padded-append room (numbers_of ms))
    ∙ flat_map_append (λ n. offset_of n ∷ length_of n ∷ []) (numbers_of ms) (zeros (room - length (numbers_of ms)))
    ∙ ap₂ (λ (k l : List ℕ). k ++ l) (numbers⇒pairs ms all) (zeros-unpacked (room - length (numbers_of ms)) ∙ ap zeros left)
    ∙ sym (padded-append (2 * room) (pairs_of ms))

-- whatever the outcome, of whose answer these are the matches: twice the places hold the pairs, and zeros after a refusal
list_unpacks : {A : Type 0} (matchesOf : A → List Text) (room : ℕ) (o : Outcome A)
    → ((a : A) → o ≡ answer a → (length (matchesOf a) ≤ room) × ((m : Text) → Memᴰ m (matchesOf a) → Placed m))
    → list_of (λ a. pairs_of (matchesOf a)) (2 * room) o ≡ unpacked (list_of (λ a. numbers_of (matchesOf a)) room o)
unfolding list_of
list_unpacks matchesOf room (answer a) all = let (fits, placed) = all a refl in sym (padded-unpacked room (matchesOf a) placed fits)
list_unpacks matchesOf room (refused number place) all = sym (zeros-unpacked room)

-- ---- room of the old form: half as many matches as places

pub pairs_room : (n places : ℕ) → leb (2 * n) places ≡ leb (room_for n) (places / 2)
unfolding room_for
pairs_room n places = go (leb n (places / 2)) refl
  where
    go : (b : Bool) → leb n (places / 2) ≡ b → leb (2 * n) places ≡ b
    go true e = let few = leb-true n (places / 2) e in le-leb (2 * n) places (omega arith)
    go false e = let many = leb-false n (places / 2) e in lt-leb (2 * n) places (omega arith)

pub half_twice : (room : ℕ) → 2 * room / 2 ≡ room
half_twice room = omega arith

-- ---- a reader and its old form

-- `reader` answers with so many places, and `inPairs` is its old form. An answer has matches, for which there is room, and which its report counts.
module _ {A R : Type 0} (matchesOf : A → List Text) (report : Outcome A → R) (number matches : R → ℕ) (reader inPairs : ℕ → Outcome A)
    (halves : (places : ℕ) → inPairs places ≡ reader (places / 2)) (room : ℕ)
    (fits : (a : A) → reader room ≡ answer a → room_for (length (matchesOf a)) ≤ room)
    (placed : (a : A) → reader room ≡ answer a → (m : Text) → Memᴰ m (matchesOf a) → Placed m)
    (other-room : (a : A) → reader room ≡ answer a → (other : ℕ) → room_for (length (matchesOf a)) ≤ other → reader other ≡ answer a)
    (answered : number (report (reader room)) ≡ 0 → (a : A) × (reader room ≡ answer a))
    (counted : (a : A) → reader room ≡ answer a → matches (report (reader room)) ≡ length (matchesOf a)) where
  twice : inPairs (2 * room) ≡ reader room
  twice = halves (2 * room) ∙ ap reader (half_twice room)

  -- with room for the pairs of an answer
  enough : (a : A) → reader room ≡ answer a → (places : ℕ) → 2 * length (matchesOf a) ≤ places → inPairs places ≡ reader room
  enough a e places h =
      let same = room_for_is (length (matchesOf a)) in
      halves places ∙ other-room a e (places / 2) (omega arith) ∙ sym e

  module _ (r : R) (results : List ℕ) (told : r ≡ report (reader room)) (held : results ≡ list_of (λ a. numbers_of (matchesOf a)) room (reader room)) where
    many : (a : A) → reader room ≡ answer a → matches r ≡ length (matchesOf a)
    many a e = ap matches told ∙ counted a e

    pairs : (a : A) → reader room ≡ answer a → (places : ℕ) → 2 * matches r ≤ places
        → list_of (λ b. pairs_of (matchesOf b)) places (inPairs places) ≡ padded places (unpacked (take (matches r) results))
    unfolding list_of
    pairs a e places h =
        let count = many a e in
        ap (list_of (λ b. pairs_of (matchesOf b)) places) (enough a e places (omega arith) ∙ e)
        ∙ ap (padded places)
        (sym (ap₂ (λ (n : ℕ) (l : List ℕ). unpacked (take n l)) (many a e) (held ∙ ap (list_of (λ b. numbers_of (matchesOf b)) room) e)
        ∙ listed⇒pairs room (matchesOf a) (placed a e)))

    pub packing_keeps : PackingKeeps number matches (λ places. report (inPairs places)) (λ places. list_of (λ a. pairs_of (matchesOf a)) places (inPairs places))
        room r results
    packing_keeps =
        record {
          same_twice = ap report twice ∙ sym told;
          pairs_twice =
              ap (list_of (λ a. pairs_of (matchesOf a)) (2 * room)) twice
              ∙ list_unpacks matchesOf room (reader room)
              (λ a e. let few = fits a e in let same = room_for_is (length (matchesOf a)) in (omega arith, placed a e))
              ∙ sym (ap unpacked held);
          same_enough = λ z places h.
              let (a, e) = answered (ap number (sym told) ∙ z) in
              let count = many a e in
              ap report (enough a e places (omega arith)) ∙ sym told;
          pairs_enough = λ z places h. let (a, e) = answered (ap number (sym told) ∙ z) in pairs a e places h;
        }
