-- Laws of names and records of a SIM phonebook.
-- Assumes nothing.
use mathlib.Core.Path.{◌≡◌, refl, sym, ap, ◌∙◌}
use mathlib.Core.Bool.{Bool, true, false, not, ◌&&◌, cond}
use mathlib.Core.List.{List, [], ◌∷◌, ◌++◌, append_assoc}
use Prim.Native.Nat.{ℕ, suc, ◌+◌, ◌-◌, ◌*◌, ◌/◌, ◌≤◌, ◌<◌}
use native.Mathlib.Omega.{arith}
use lib.Dec.{eqb, leb, ltb}
use lib.Seq.{length-take-le, drop-cons}
use lib.ListN.{length, take, drop, length-append, length-take, length-drop, take-append-drop, get_or, drop_of_length-le}
use borrow.Author.Tests.{le-leb, lt-leb, le-ltb, lt-ltb, leb-true, leb-false, ltb-false, eq-eqb, ne_eqb}
use Rattle.std.proofs.Common.{Some, None, nat_eq, Ordering, Less, Equal, Greater, is_le}
use Rattle.std.specs.Ordering.{nat_cmp, ordering_then}
use Rattle.byte_string.specs.Order.{order, at_most}
use Rattle.std.specs.Option.{unwrap_or}
use Rattle.std.specs.List.{list_all, position_or_len}
use Rattle.std.specs.Prelude.{slice_get}
use Rattle.std.specs.Simd.{first_chunks}
use Rattle.std.specs.Cmp.Lexicographic.{pointwise}
use Rattle.std.proofs.lemmas.List.Sums.{prefix_len-le-length}
use Rattle.lists.specs.Lists.{all}
use Rattle.lists.specs.Groups.{first_or}
use Rattle.lists.proofs.ListsLaws.{all_append}
use Rattle.part.specs.Part.{part}
use Rattle.outcome.specs.Outcome.{answer, refused, must, ◌>>◌}
use Rattle.outcome.proofs.OutcomeLaws.{kept, broken, must_kept, must_broken, after_assoc}
use Rattle.sim.specs.Adn.{is_filled, pairs_length, plain_length, name_length, name_of, is_name, judged, number_length, record_of, record_at, imported}
use native.Mathlib.Numerals.{add-one}

-- ---- nothing but FF

pub filled_list : (s : List ℕ) → list_all (λ b. eqb b 255) s ≡ is_filled s
unfolding is_filled all
filled_list [] = refl
filled_list (b ∷ s) = ap (λ t. eqb b 255 && t) (filled_list s)

pub filled_append : (s t : List ℕ) → is_filled (s ++ t) ≡ (is_filled s && is_filled t)
unfolding is_filled
filled_append s t = all_append (λ b. eqb b 255) s t

-- a record by its two parts
pub filled_parts : (x : ℕ) (adn field rest : List ℕ) → field ≡ take x adn → rest ≡ drop x adn → is_filled (field ++ rest) ≡ is_filled adn
filled_parts x adn field rest e f = rw (e, f, take-append-drop x adn)

pub filled_other : (s : List ℕ) (i : ℕ) → i < length s → (get_or s i 0 ≡ 255 → ⊥) → is_filled (drop i s) ≡ false
unfolding is_filled all
filled_other s i h n = rw (drop-cons s i 0 h, ne_eqb (get_or s i 0) 255 n)

pub filled_more : (s : List ℕ) (i : ℕ) → i < length s → get_or s i 0 ≡ 255 → is_filled (drop i s) ≡ is_filled (drop (i + 1) s)
unfolding is_filled all
filled_more s i h e = rw (drop-cons s i 0 h, eq-eqb (get_or s i 0) 255 e, add-one i)

pub filled_end : (s : List ℕ) (i : ℕ) → length s ≤ i → is_filled (drop i s) ≡ true
unfolding is_filled all
filled_end s i h = rw (drop_of_length-le s h)

-- ---- what is counted from the front

-- the first place that passes, or else the length
pub first_place : {A : Type 0} (p : A → Bool) (s : List A)
    → unwrap_or (cond (ltb (position_or_len p s) (length s)) (Some (position_or_len p s)) None) (length s) ≡ position_or_len p s
first_place p s = go (ltb (position_or_len p s) (length s)) refl
  where
    go : (t : Bool) → ltb (position_or_len p s) (length s) ≡ t → unwrap_or (cond t (Some (position_or_len p s)) None) (length s) ≡ position_or_len p s
    go true e = refl
    go false e = omega (arith, ltb-false (position_or_len p s) (length s) e, prefix_len-le-length (λ x. not (p x)) s)

pub plain_position : (s : List ℕ) → position_or_len (λ b. leb 128 b) s ≡ plain_length s
unfolding plain_length
plain_position [] = refl
plain_position (b ∷ s) = go (leb 128 b) refl (plain_position s)
  where
    go : (t : Bool) → leb 128 b ≡ t → position_or_len (λ b. leb 128 b) s ≡ plain_length s
        → cond (not t) (1 + position_or_len (λ b. leb 128 b) s) 0 ≡ cond (ltb b 128) (suc (plain_length s)) 0
    go true e ih = rw (le-ltb b 128 (leb-true 128 b e))
    go false e ih = rw (lt-ltb b 128 (leb-false 128 b e)) (omega (arith, ih))

-- a pair FF FF
abbrev pub last : List ℕ → Bool
last p = pointwise nat_eq p (255 ∷ 255 ∷ [])

pub pairs_position : (s : List ℕ) → 2 * position_or_len last (first_chunks 2 (length s / 2) s) ≡ pairs_length s
unfolding pairs_length
pairs_position [] = refl
pairs_position (a ∷ []) = refl
pairs_position (a ∷ (b ∷ s)) =
    let half : suc (suc (length s)) / 2 ≡ suc (length s / 2) = omega arith in
    rw half (go (eqb a 255) (eqb b 255) (position_or_len last (first_chunks 2 (length s / 2) s)) (pairs_position s))
  where
    go : (p q : Bool) (n : ℕ) → 2 * n ≡ pairs_length s → 2 * cond (not (p && (q && true))) (1 + n) 0 ≡ cond (p && q) 0 (2 + pairs_length s)
    go true true n ih = refl
    go true false n ih = omega (arith, ih)
    go false q n ih = omega (arith, ih)

-- they are no more than there are bytes
pub pairs_few : (s : List ℕ) → pairs_length s ≤ length s
unfolding pairs_length
pairs_few [] = omega arith
pairs_few (a ∷ []) = omega arith
pairs_few (a ∷ (b ∷ s)) = go (eqb a 255 && eqb b 255) (pairs_few s)
  where
    go : (t : Bool) → pairs_length s ≤ length s → cond t 0 (2 + pairs_length s) ≤ suc (suc (length s))
    go true ih = omega arith
    go false ih = omega arith

-- the first byte, or 0
pub first_slice : (s : List ℕ) → unwrap_or (slice_get s 0) 0 ≡ first_or 0 s
unfolding first_or
first_slice [] = refl
first_slice (b ∷ s) = refl

-- ---- place by place

pub plain_stop : (s : List ℕ) (i : ℕ) → i < length s → 128 ≤ get_or s i 0 → plain_length (drop i s) ≡ 0
unfolding plain_length
plain_stop s i h l = rw (drop-cons s i 0 h, le-ltb (get_or s i 0) 128 l)

pub plain_more : (s : List ℕ) (i : ℕ) → i < length s → get_or s i 0 < 128 → plain_length (drop i s) ≡ 1 + plain_length (drop (i + 1) s)
unfolding plain_length
plain_more s i h l = rw (drop-cons s i 0 h, lt-ltb (get_or s i 0) 128 l, add-one i) (omega arith)

pub plain_end : (s : List ℕ) (i : ℕ) → length s ≤ i → plain_length (drop i s) ≡ 0
unfolding plain_length
plain_end s i h = rw (drop_of_length-le s h)

two : (s : List ℕ) (i : ℕ) → i + 1 < length s → drop i s ≡ get_or s i 0 ∷ (get_or s (i + 1) 0 ∷ drop (i + 2) s)
two s i h =
    drop-cons s i 0 (omega arith)
    ∙ ap (λ (l : List ℕ). get_or s i 0 ∷ l) (rw (← add-one i) (drop-cons s (i + 1) 0 h) ∙ ap (λ (n : ℕ). get_or s (i + 1) 0 ∷ drop n s) (step i))
  where
    step : (i : ℕ) → suc (i + 1) ≡ i + 2
    step i = omega arith

pub pairs_stop : (s : List ℕ) (i : ℕ) → 2 ≤ length s - i → (eqb (get_or s i 0) 255 && eqb (get_or s (i + 1) 0) 255) ≡ true → pairs_length (drop i s) ≡ 0
unfolding pairs_length
pairs_stop s i h e = rw (two s i (omega arith), e)

pub pairs_more : (s : List ℕ) (i : ℕ) → 2 ≤ length s - i → (eqb (get_or s i 0) 255 && eqb (get_or s (i + 1) 0) 255) ≡ false
    → pairs_length (drop i s) ≡ 2 + pairs_length (drop (i + 2) s)
unfolding pairs_length
pairs_more s i h e = rw (two s i (omega arith), e)

pub pairs_end : (s : List ℕ) (i : ℕ) → length s - i < 2 → pairs_length (drop i s) ≡ 0
unfolding pairs_length
pairs_end s i h = short (drop i s) (rw length-drop (omega arith))
  where
    short : (l : List ℕ) → length l ≤ 1 → pairs_length l ≡ 0
    short [] k = refl
    short (a ∷ []) k = refl
    short (a ∷ (b ∷ l)) k = absurd (omega arith)

pub pairs_within : (field s : List ℕ) (n : ℕ) → s ≡ drop 1 field → n ≡ pairs_length s → n ≤ length field
pairs_within field s n e f =
    let long = ap length e ∙ length-drop 1 field in
    let few = pairs_few s in
    omega arith

-- ---- the name, by its first byte

pub name_none : (s : List ℕ) → length s ≡ 0 → 0 ≡ name_length s
unfolding name_length
name_none [] e = refl
name_none (b ∷ s) e = absurd (omega arith)

-- s is what follows the first byte
module _ (field s : List ℕ) (some : 0 < length field) (e : s ≡ drop 1 field) where
  coded : (coding : ℕ) → get_or field 0 0 ≡ coding → field ≡ coding ∷ s
  coded coding f = drop-cons field 0 0 some ∙ rw (f, e)

  pub name_pairs : get_or field 0 0 ≡ 128 → 1 + pairs_length s ≡ name_length field
  unfolding name_length
  name_pairs f = rw (coded 128 f)

  pub name_one_base : get_or field 0 0 ≡ 129 → 3 + first_or 0 s ≡ name_length field
  unfolding name_length
  name_one_base f = rw (coded 129 f)

  pub name_two_bases : get_or field 0 0 ≡ 130 → 4 + first_or 0 s ≡ name_length field
  unfolding name_length
  name_two_bases f = rw (coded 130 f)

pub name_plain : (s : List ℕ) → (get_or s 0 0 ≡ 128 → ⊥) → (get_or s 0 0 ≡ 129 → ⊥) → (get_or s 0 0 ≡ 130 → ⊥) → plain_length s ≡ name_length s
unfolding name_length plain_length
name_plain [] p q r = refl
name_plain (b ∷ s) p q r = rw (ne_eqb b 128 p, ne_eqb b 129 q, ne_eqb b 130 r)

-- the first byte, or 0
pub first_some : (s : List ℕ) → 0 < length s → get_or s 0 0 ≡ first_or 0 s
unfolding first_or
first_some [] h = absurd (omega arith)
first_some (b ∷ s) h = refl

pub first_none : (s : List ℕ) → length s ≡ 0 → 0 ≡ first_or 0 s
unfolding first_or
first_none [] e = refl
first_none (b ∷ s) e = absurd (omega arith)

-- ---- parts

-- the front of what is behind
pub part_of : (s t : List ℕ) (at n : ℕ) {r : List ℕ} → t ≡ drop at s → r ≡ take n t → r ≡ part s at n
unfolding part
part_of s t at n e f = f ∙ ap (take n) e

-- the front of the front
pub name_of_lem : (adn field : List ℕ) (x n : ℕ) {r : List ℕ} → field ≡ take x adn → n ≡ name_length field → r ≡ take n field → r ≡ name_of (take x adn)
unfolding name_of
name_of_lem adn field x n e f g = g ∙ rw (f, e)

pub name_long : (field : List ℕ) (n : ℕ) → n ≡ name_length field → length field < n → is_name field ≡ false
unfolding is_name
name_long field n e l = rw (← e, lt-leb n (length field) l)

pub name_short : (field rest : List ℕ) (n : ℕ) (b : Bool) → n ≡ name_length field → n ≤ length field → rest ≡ drop n field → b ≡ is_filled rest → b ≡ is_name field
unfolding is_name
name_short field rest n b e l f g = g ∙ rw (f, ← e, le-leb n (length field) l)

-- ---- refusals

module _ (field rest : List ℕ) where
  pub judged_33 : is_name field ≡ false → judged field rest ≡ refused 33 0
  unfolding judged
  judged_33 e = broken (is_name field) 33 0 (must (leb (first_or 0 rest) 11) 34 0) e

  pub judged_34 : is_name field ≡ true → 11 < first_or 0 rest → judged field rest ≡ refused 34 0
  unfolding judged
  judged_34 e l =
      kept (is_name field) 33 0 (must (leb (first_or 0 rest) 11) 34 0) e ∙ must_broken (leb (first_or 0 rest) 11) 34 0 (lt-leb (first_or 0 rest) 11 l)

  pub judged_not : is_name field ≡ true → first_or 0 rest ≤ 11 → judged field rest ≡ answer tt
  unfolding judged
  judged_not e l =
      kept (is_name field) 33 0 (must (leb (first_or 0 rest) 11) 34 0) e ∙ must_kept (leb (first_or 0 rest) 11) 34 0 (le-leb (first_or 0 rest) 11 l)

pub ruleset judging = (judged_33, judged_34, judged_not)

-- the record is judged by its two parts
pub imported_judged : (x : ℕ) (adn : List ℕ) → imported x adn ≡ (judged (take x adn) (drop x adn) >> answer (record_of x adn))
unfolding imported judged number_length
imported_judged x adn =
    after_assoc (must (is_name (take x adn)) 33 0) (must (leb (first_or 0 (drop x adn)) 11) 34 0) (answer (record_of x adn))

-- ---- the order

-- where two have fronts of one length, these decide, or what follows them does
pub order_fronts : (p q x y : List ℕ) → length p ≡ length q → order (p ++ x) (q ++ y) ≡ ordering_then (order p q) (order x y)
unfolding order
order_fronts [] [] x y e = refl
order_fronts [] (b ∷ q) x y e = absurd (omega arith)
order_fronts (a ∷ p) [] x y e = absurd (omega arith)
order_fronts (a ∷ p) (b ∷ q) x y e = go (nat_cmp a b) (order_fronts p q x y (omega arith))
  where
    go : (o : Ordering) → order (p ++ x) (q ++ y) ≡ ordering_then (order p q) (order x y)
        → ordering_then o (order (p ++ x) (q ++ y)) ≡ ordering_then (ordering_then o (order p q)) (order x y)
    go Less h = refl
    go Equal h = h
    go Greater h = refl

-- two strings in two parts each, with n no more than the first part of either has
module _ (x s y t : List ℕ) (n : ℕ) (h : n ≤ length x) (k : n ≤ length y) where
  fronts : order (x ++ s) (y ++ t) ≡ ordering_then (order (take n x) (take n y)) (order (drop n x ++ s) (drop n y ++ t))
  fronts =
      let same : length (take n x) ≡ length (take n y) = length-take-le n x h ∙ sym (length-take-le n y k) in
      let x-is : take n x ++ (drop n x ++ s) ≡ x ++ s = sym (append_assoc (take n x) (drop n x) s) ∙ ap (λ l. l ++ s) (take-append-drop n x) in
      let y-is : take n y ++ (drop n y ++ t) ≡ y ++ t = sym (append_assoc (take n y) (drop n y) t) ∙ ap (λ l. l ++ t) (take-append-drop n y) in
      rw (← x-is, ← y-is) (order_fronts (take n x) (take n y) (drop n x ++ s) (drop n y ++ t) same)

  pub fronts_decide : (o : Ordering) → o ≡ order (take n x) (take n y) → (o ≡ Equal → ⊥) → is_le o ≡ at_most (x ++ s) (y ++ t)
  unfolding at_most
  fronts_decide o e d = rw (fronts, ← e) (go o d)
    where
      go : (o : Ordering) → (o ≡ Equal → ⊥) → is_le o ≡ is_le (ordering_then o (order (drop n x ++ s) (drop n y ++ t)))
      go Less d = refl
      go Equal d = absurd (d refl)
      go Greater d = refl

  pub fronts_agree : (o : Ordering) → Equal ≡ order (take n x) (take n y) → o ≡ order (drop n x ++ s) (drop n y ++ t)
      → is_le o ≡ at_most (x ++ s) (y ++ t)
  unfolding at_most
  fronts_agree o e f = rw (fronts, ← e, f)

-- ---- the record

module _ (x : ℕ) (adn : List ℕ) where
  pub number_length_lem : (rest : List ℕ) (n : ℕ) → rest ≡ drop x adn → n ≡ first_or 0 rest → n ≡ number_length x adn
  unfolding number_length
  number_length_lem rest n e f = f ∙ rw e

  -- our record in its two parts
  pub record_parts : (s t : List ℕ) → s ≡ name_of (take x adn) → t ≡ drop x adn → s ++ t ≡ record_of x adn
  unfolding record_of
  record_parts s t e f = rw (e, f)

-- the record at an offset, in the two parts of ours
pub parts_record : (x : ℕ) (dump : List ℕ) (at : ℕ) (field name rest : List ℕ) → field ≡ take x (part dump at (x + 14)) → name ≡ name_of field
    → rest ≡ drop x (part dump at (x + 14)) → name ++ rest ≡ record_at x dump at
unfolding record_at record_of
parts_record x dump at field name rest e f g = rw (f, e, g)

pub record_at_lem : (x : ℕ) (dump adn : List ℕ) (at : ℕ) → adn ≡ part dump at (x + 14) → record_of x adn ≡ record_at x dump at
unfolding record_at
record_at_lem x dump adn at e = rw e

-- a record takes no more bytes than stand in the dump, and at least those after the name field
pub record_short : (x : ℕ) (adn : List ℕ) → length (record_of x adn) ≤ length adn
unfolding record_of name_of
record_short x adn =
    let name = length-take (name_length (take x adn)) (take x adn) in
    let field = length-take x adn in
    let rest = length-drop x adn in
    rw length-append (omega arith)

pub record_long : (x : ℕ) (adn : List ℕ) → length adn - x ≤ length (record_of x adn)
unfolding record_of
record_long x adn = rw (length-append, length-drop) (omega arith)
