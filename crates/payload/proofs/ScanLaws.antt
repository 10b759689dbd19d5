-- A pass over the items of a payload that counts them, keeps the last byte string and sees whether they rise.
-- Assumes nothing.
use mathlib.Core.Path.{◌≡◌, refl, sym, ap, ap₂, ◌∙◌}
use mathlib.Core.Bool.{Bool, true, false, ◌&&◌, and_assoc, and-true}
use mathlib.Core.List.{List, [], ◌∷◌, ◌++◌, map, map-append, Memᴰ}
use Prim.Native.Nat.{ℕ, ◌+◌, ◌≤◌, ◌<◌}
use native.Mathlib.Omega.{arith}
use lib.Dec.{ltb}
use lib.ListN.{length, length-append}
use borrow.Author.Tests.{lt-ltb, le-ltb}
use Rattle.byte_string.specs.Order.{at_most}
use Rattle.byte_string.proofs.OrderLaws.{nil_at_most, at_most_trans}
use Rattle.outcome.specs.Outcome.{Outcome, answer, refused}
use Rattle.items.specs.declared.Step.{Step}
use Rattle.part.specs.Part.{part}
use Rattle.outcome.proofs.OutcomeLaws.{kept, broken, bind_answer, bind_refused}
use Rattle.items.proofs.ItemsLaws.{Progress, progress_start, progress_more, progress_end, progress_refused}
use Rattle.lists.proofs.ListsLaws.{both⁻¹}
use Rattle.lists.specs.Groups.{last_or}
use Rattle.payload.specs.Payload.{Text, rising, rising_from, payload_at}
use Rattle.payload.specs.Answers.{text_in, counted}

-- ---- one byte string more

pub last_or_snoc : {A : Type 0} (none : A) (xs : List A) (y : A) → last_or none (xs ++ (y ∷ [])) ≡ y
unfolding last_or
last_or_snoc none [] y = refl
last_or_snoc none (x ∷ xs) y = last_or_snoc x xs y

pub last_or_map : {A B : Type 0} (f : A → B) (none : A) (xs : List A) → last_or (f none) (map f xs) ≡ f (last_or none xs)
unfolding last_or
last_or_map f none [] = refl
last_or_map f none (x ∷ xs) = last_or_map f x xs

pub rising_from_nil : (xs : List (List ℕ)) → rising xs ≡ rising_from [] xs
unfolding rising rising_from
rising_from_nil [] = refl
rising_from_nil (x ∷ xs) = sym (ap (λ (b : Bool). b && rising_from x xs) (nil_at_most x))

pub rising_from_snoc : (x : List ℕ) (xs : List (List ℕ)) (y : List ℕ) → rising_from x (xs ++ (y ∷ [])) ≡ (rising_from x xs && at_most (last_or x xs) y)
unfolding rising_from last_or
rising_from_snoc x [] y = and-true (at_most x y)
rising_from_snoc x (z ∷ xs) y = ap (λ (b : Bool). at_most x z && b) (rising_from_snoc z xs y) ∙ sym (and_assoc (at_most x z) (rising_from z xs) (at_most (last_or z xs) y))

pub rising_snoc : (xs : List (List ℕ)) (y : List ℕ) → rising (xs ++ (y ∷ [])) ≡ (rising xs && at_most (last_or [] xs) y)
rising_snoc xs y = rising_from_nil (xs ++ (y ∷ [])) ∙ rising_from_snoc [] xs y ∙ ap (λ (b : Bool). b && at_most (last_or [] xs) y) (sym (rising_from_nil xs))

-- the first is at most every one after it
pub rising_from-each : (x : List ℕ) (xs : List (List ℕ)) → rising_from x xs ≡ true → (y : List ℕ) → Memᴰ y xs → at_most x y ≡ true
unfolding rising_from
rising_from-each x xs h y m = go y xs m x h
  where
    go : (y : List ℕ) (xs : List (List ℕ)) → Memᴰ y xs → (x : List ℕ) → rising_from x xs ≡ true → at_most x y ≡ true
    go y xs (Memᴰ.head {x = z} {xs = zs} e) x h = ap (at_most x) e ∙ (both⁻¹ (at_most x z) (rising_from z zs) h).0
    go y xs (Memᴰ.tail {x = z} {xs = zs} m) x h =
        let r = both⁻¹ (at_most x z) (rising_from z zs) h in
        at_most_trans x z y r.0 (go y zs m z r.1)

-- ---- the pass

module _ {A : Type 0} (step_at : ℕ → List ℕ → ℕ → Outcome (Step A)) (text_of : A → Text) (s : List ℕ) (from : ℕ) where
  -- what is known at `at`: the items seen, their count, whether they rise, and the bytes of the last
  pub record Passed (at count : ℕ) (rises : Bool) (last : List ℕ) : Type 0 where
    pub seen : List A
    pub progress : (place : ℕ) → Progress (step_at place s) (length s) from at seen
    pub numbered : count ≡ length seen
    pub sorted : rises ≡ rising (map (λ x. (text_of x).bytes) seen)
    pub last_is : last ≡ last_or [] (map (λ x. (text_of x).bytes) seen)
    pub few : count ≤ at
    pub within : at ≤ length s

  pub passed_start : from ≤ length s → Passed from 0 true []
  unfolding rising last_or
  passed_start h =
      record {
        seen = [];
        progress = λ place. progress_start (step_at place s) (length s) from;
        numbered = refl;
        sorted = refl;
        last_is = refl;
        few = omega arith;
        within = h;
      }

  pub passed_more : (at count : ℕ) (rises : Bool) (last : List ℕ) → Passed at count rises last → at < length s
      → (x : A) (next : ℕ) (bytes : List ℕ) → ((place : ℕ) → step_at place s at ≡ answer (record { item = x; next = next })) → (text_of x).bytes ≡ bytes
      → at < next → next ≤ length s → (still : Bool) → still ≡ (rises && at_most last bytes) → Passed next (count + 1) still bytes
  passed_more at count rises last p h x next bytes e text forward within still flag =
      record {
        seen = p.seen ++ (x ∷ []);
        progress = λ place. progress_more (step_at place s) (length s) from at p.seen (record { item = x; next = next }) (p.progress place) h (e place) forward;
        numbered = ap (λ (k : ℕ). k + 1) p.numbered ∙ sym (length-append p.seen (x ∷ []));
        sorted =
            flag ∙ ap₂ (λ (a b : Bool). a && b) p.sorted (ap₂ at_most p.last_is (sym text)) ∙ sym (rising_snoc (map (λ y. (text_of y).bytes) p.seen) (text_of x).bytes)
            ∙ sym (ap rising (map-append (λ y. (text_of y).bytes) p.seen (x ∷ [])));
        last_is =
            sym text ∙ sym (last_or_snoc [] (map (λ y. (text_of y).bytes) p.seen) (text_of x).bytes)
            ∙ sym (ap (last_or []) (map-append (λ y. (text_of y).bytes) p.seen (x ∷ [])));
        few = omega arith;
        within = within;
      }

  -- and where its byte string lies
  pub record Scanned (at count : ℕ) (rises : Bool) (last size : ℕ) : Type 0 where
    pub passed : Passed at count rises (part s last size)
    pub last_is : text_in s last size ≡ last_or (text_in s from 0) (map text_of passed.seen)
    pub last_within : last + size ≤ length s

  pub scanned_start : from ≤ length s → Scanned from 0 true from 0
  unfolding last_or part passed_start
  scanned_start h =
      record {
        passed = passed_start h;
        last_is = refl;
        last_within = omega arith;
      }

  start_bytes : (start n : ℕ) (t : Text) → t ≡ text_in s start n → part s start n ≡ t.bytes
  unfolding text_in
  start_bytes start n t e = sym (ap (λ (u : Text). u.bytes) e)

  pub scanned_more : (at count : ℕ) (rises : Bool) (last size : ℕ) → Scanned at count rises last size → at < length s
      → (x : A) (next start n : ℕ) → ((place : ℕ) → step_at place s at ≡ answer (record { item = x; next = next })) → text_of x ≡ text_in s start n
      → at < next → next ≤ length s → start + n ≤ length s
      → (still : Bool) → still ≡ (rises && at_most (part s last size) (part s start n)) → Scanned next (count + 1) still start n
  unfolding passed_more
  scanned_more at count rises last size p h x next start n e text forward within inside still flag =
      record {
        passed =
            passed_more at count rises (part s last size) p.passed h x next (part s start n) e (sym (start_bytes start n (text_of x) text))
            forward within still flag;
        last_is =
            sym (ap (last_or (text_in s from 0)) (map-append text_of p.passed.seen (x ∷ []))
            ∙ last_or_snoc (text_in s from 0) (map text_of p.passed.seen) (text_of x) ∙ text);
        last_within = inside;
      }

  -- the answers at the ways out
  module _ (unsorted : ℕ) where
    pub scanned_empty : length s ≤ from → (place : ℕ) → counted (payload_at (step_at place s) text_of unsorted place (length s) from) ≡ refused 15 place
    unfolding counted payload_at
    scanned_empty h place = bind_refused _ _ 15 place (broken (ltb from (length s)) 15 place _ (le-ltb from (length s) h))

    pub passed_refused : (at count : ℕ) (rises : Bool) (last : List ℕ) → from < length s → Passed at count rises last → at < length s
        → (number place : ℕ) → step_at place s at ≡ refused number place
        → counted (payload_at (step_at place s) text_of unsorted place (length s) from) ≡ refused number place
    unfolding counted payload_at
    passed_refused at count rises last some p h number place e =
        bind_refused _ _ number place
        (kept (ltb from (length s)) 15 place _ (lt-ltb from (length s) some)
        ∙ bind_refused _ _ number place (progress_refused (step_at place s) (length s) from at number place p.seen (p.progress place) h e))

    pub passed_unsorted : (at count : ℕ) (rises : Bool) (last : List ℕ) → from < length s → Passed at count rises last → length s ≤ at → rises ≡ false
        → (place : ℕ) → counted (payload_at (step_at place s) text_of unsorted place (length s) from) ≡ refused unsorted place
    unfolding counted payload_at
    passed_unsorted at count rises last some p h wrong place =
        bind_refused _ _ unsorted place
        (kept (ltb from (length s)) 15 place _ (lt-ltb from (length s) some)
        ∙ bind_answer _ _ p.seen (progress_end (step_at place s) (length s) from at p.seen (p.progress place) h)
        ∙ broken (rising (map (λ x. (text_of x).bytes) p.seen)) unsorted place _ (sym p.sorted ∙ wrong))

    pub passed_sound : (at count : ℕ) (rises : Bool) (last : List ℕ) → from < length s → Passed at count rises last → length s ≤ at → rises ≡ true
        → (place : ℕ) → counted (payload_at (step_at place s) text_of unsorted place (length s) from) ≡ answer count
    unfolding counted payload_at
    passed_sound at count rises last some p h right place =
        bind_answer _ _ p.seen
        (kept (ltb from (length s)) 15 place _ (lt-ltb from (length s) some)
        ∙ bind_answer _ _ p.seen (progress_end (step_at place s) (length s) from at p.seen (p.progress place) h)
        ∙ kept (rising (map (λ x. (text_of x).bytes) p.seen)) unsorted place _ (sym p.sorted ∙ right))
        ∙ ap answer (sym p.numbered)

    pub scanned_refused : (at count : ℕ) (rises : Bool) (last size : ℕ) → from < length s → Scanned at count rises last size → at < length s
        → (number place : ℕ) → step_at place s at ≡ refused number place
        → counted (payload_at (step_at place s) text_of unsorted place (length s) from) ≡ refused number place
    scanned_refused at count rises last size some p = passed_refused at count rises (part s last size) some p.passed

    pub scanned_unsorted : (at count : ℕ) (rises : Bool) (last size : ℕ) → from < length s → Scanned at count rises last size → length s ≤ at → rises ≡ false
        → (place : ℕ) → counted (payload_at (step_at place s) text_of unsorted place (length s) from) ≡ refused unsorted place
    scanned_unsorted at count rises last size some p = passed_unsorted at count rises (part s last size) some p.passed

    pub scanned_sound : (at count : ℕ) (rises : Bool) (last size : ℕ) → from < length s → Scanned at count rises last size → length s ≤ at → rises ≡ true
        → (place : ℕ) → counted (payload_at (step_at place s) text_of unsorted place (length s) from) ≡ answer count
    scanned_sound at count rises last size some p = passed_sound at count rises (part s last size) some p.passed
