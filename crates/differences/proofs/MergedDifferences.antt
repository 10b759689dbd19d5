-- Where the records of both lists rise, going through both at once finds their differences.
-- Assumes nothing.
use Prim.Native.Nat.{ℕ, zero, suc}
use native.Mathlib.Omega.{arith}
use mathlib.Core.Path.{◌≡◌, refl, sym, ap, ◌∙◌, subst}
use mathlib.Core.Bool.{Bool, true, false, cond}
use mathlib.Core.Logic.{◌⊎◌, inl, inr}
use mathlib.Core.List.Memᴰ
use mathlib.Core.List.{List, [], ◌∷◌, ◌++◌, map, Memᴰ}
use lib.Dec.{eqb}
use lib.ListN.{drop}
use borrow.Author.Tests.{eqb-true, eqb-false, eq-eqb, ne_eqb}
use Rattle.byte_string.specs.Order.{less, at_most}
use Rattle.byte_string.specs.Rising.{rising}
use Rattle.byte_string.proofs.OrderLaws.{at_most_trans, at_most_of_less, less_of_not_at_most, less-at_most_trans}
use Rattle.payload.specs.Payload.{Text}
use Rattle.byte_string.specs.Order.{same}
use Rattle.differences.specs.Differences.{strings, copies, first_copy, Difference, differing, difference_of, differences}
use Rattle.byte_string.specs.Rising.{Strict, no_string, one_string}
use Rattle.differences.specs.Merge.{leading, Next, none, next, next_of, listed, merged}
use Rattle.byte_string.proofs.SameLaws.{same_refl, same_eq, not_same}
use Rattle.differences.proofs.CopyLaws.{copies_here, copies_none, copies_member, first_here}
use Rattle.differences.proofs.StrictLaws.{less_not_eq, strict_unique}
use Rattle.differences.proofs.DifferingLaws.{differing_strict, differing_member, member_differing}
use Rattle.differences.proofs.MergeLaws.{next_none, next_first, next_second, next_first_only, next_second_only, next_end}
use Rattle.differences.proofs.MergeLaws.{merged_none, merged_next, merge_induction, listed_none, listed_one}
use Rattle.differences.proofs.PassingLaws.{records_least, passing_copies, passing_first, passing_rises, passing_above, leading_all}

-- ---- the record that comes next

-- it is at most every record, and it is the first copy in the first list, or in the second where the first has none
record Least (xs ys : List Text) (which : ℕ) (r : Text) : Type 0 where
  low_first : (q : Text) → Memᴰ q xs → at_most r.bytes q.bytes ≡ true
  low_second : (q : Text) → Memᴰ q ys → at_most r.bytes q.bytes ≡ true
  file : cond (eqb (copies xs r.bytes) 0) 2 1 ≡ which
  place : cond (eqb (copies xs r.bytes) 0) (first_copy ys r.bytes) (first_copy xs r.bytes) ≡ r.at

-- from the first list
least_first : (x : Text) (xs ys : List Text) → rising (strings (x ∷ xs)) ≡ true → ((q : Text) → Memᴰ q ys → at_most x.bytes q.bytes ≡ true)
    → Least (x ∷ xs) ys 1 x
least_first x xs ys h low =
    let some = copies_here x xs x.bytes (same_refl x.bytes) in
    let test : eqb (copies (x ∷ xs) x.bytes) 0 ≡ false = ne_eqb (copies (x ∷ xs) x.bytes) 0 (λ e. omega arith) in
    record {
      low_first = records_least x xs h;
      low_second = low;
      file = rw test;
      place = rw test (first_here x xs x.bytes (same_refl x.bytes));
    }

-- from the second list
least_second : (xs : List Text) (y : Text) (ys : List Text) → rising (strings (y ∷ ys)) ≡ true
    → ((q : Text) → Memᴰ q xs → less y.bytes q.bytes ≡ true) → Least xs (y ∷ ys) 2 y
least_second xs y ys h low =
    let test : eqb (copies xs y.bytes) 0 ≡ true
    = eq-eqb (copies xs y.bytes) 0 (copies_none xs y.bytes (λ q m e. less_not_eq y.bytes q.bytes (low q m) (sym e))) in
    record {
      low_first = λ q m. at_most_of_less y.bytes q.bytes (low q m);
      low_second = records_least y ys h;
      file = rw test;
      place = rw test (first_here y ys y.bytes (same_refl y.bytes));
    }

abbrev LeastNext : List Text → List Text → Next → Type 0
LeastNext xs ys none = Unit {0}
LeastNext xs ys (next which r) = Least xs ys which r

next_least : (xs ys : List Text) → rising (strings xs) ≡ true → rising (strings ys) ≡ true → LeastNext xs ys (next_of xs ys)
next_least [] [] h k = subst (LeastNext [] []) (sym next_end) tt
next_least [] (y ∷ ys) h k =
    subst (LeastNext [] (y ∷ ys)) (sym (next_second_only y ys)) (least_second [] y ys k (λ q m. absurd (Memᴰ.not-nil m)))
next_least (x ∷ xs) [] h k =
    subst (LeastNext (x ∷ xs) []) (sym (next_first_only x xs)) (least_first x xs [] h (λ q m. absurd (Memᴰ.not-nil m)))
next_least (x ∷ xs) (y ∷ ys) h k = go (at_most x.bytes y.bytes) refl
  where
    go : (b : Bool) → at_most x.bytes y.bytes ≡ b → LeastNext (x ∷ xs) (y ∷ ys) (next_of (x ∷ xs) (y ∷ ys))
    go true l =
        subst (LeastNext (x ∷ xs) (y ∷ ys)) (sym (next_first x xs y ys l))
        (least_first x xs (y ∷ ys) h (λ q m. at_most_trans x.bytes y.bytes q.bytes l (records_least y ys k q m)))
    go false l =
        subst (LeastNext (x ∷ xs) (y ∷ ys)) (sym (next_second x xs y ys l))
        (least_second (x ∷ xs) y ys k
        (λ q m. less-at_most_trans y.bytes x.bytes q.bytes (less_of_not_at_most x.bytes y.bytes l) (records_least x xs h q m)))

-- ---- what holds of the differences found

-- the byte strings of differences
abbrev shown : List Difference → List (List ℕ)
shown ds = map (λ (d : Difference). d.bytes) ds

record Found (xs ys : List Text) (ds : List Difference) : Type 0 where
  strict : Strict (shown ds)
  each : (d : Difference) → Memᴰ d ds → d ≡ difference_of xs ys d.bytes
  differ : (d : Difference) → Memᴰ d ds → copies xs d.bytes ≡ copies ys d.bytes → ⊥
  every : (x : List ℕ) → (copies xs x ≡ copies ys x → ⊥) → Memᴰ x (shown ds)

found_end : Found [] [] []
found_end =
    record {
      strict = no_string;
      each = λ d m. absurd (Memᴰ.not-nil m);
      differ = λ d m. absurd (Memᴰ.not-nil m);
      every = λ x h. absurd (h refl);
    }

-- by equal copies and first copies
difference_same : (xs ys vs ws : List Text) (x : List ℕ) → copies vs x ≡ copies xs x → copies ws x ≡ copies ys x → first_copy vs x ≡ first_copy xs x
    → first_copy ws x ≡ first_copy ys x → difference_of vs ws x ≡ difference_of xs ys x
unfolding difference_of
difference_same xs ys vs ws x a b c d = rw (a, b, c, d)

-- a string with different numbers of copies is that of a record
differ_record : (vs ws : List Text) (x : List ℕ) (m n : ℕ) → copies vs x ≡ m → copies ws x ≡ n → (m ≡ n → ⊥)
    → ((q : Text) × Memᴰ q vs × (q.bytes ≡ x)) ⊎ ((q : Text) × Memᴰ q ws × (q.bytes ≡ x))
differ_record vs ws x (suc m) n e f h = inl (copies_member vs x (omega arith))
differ_record vs ws x zero (suc n) e f h = inr (copies_member ws x (omega arith))
differ_record vs ws x zero zero e f h = absurd (h refl)

-- ---- a step

abbrev as_difference : ℕ → Text → ℕ → ℕ → Difference
as_difference which r m n = record { which = which; offset = r.at; bytes = r.bytes; first = m; second = n }

-- the record r comes next, and vs and ws are left
module _ (xs ys : List Text) (which : ℕ) (r : Text) (h : rising (strings xs) ≡ true) (k : rising (strings ys) ≡ true) (l : Least xs ys which r) where
  abbrev m : ℕ
  m = leading r.bytes xs

  abbrev n : ℕ
  n = leading r.bytes ys

  abbrev vs : List Text
  vs = drop m xs

  abbrev ws : List Text
  ws = drop n ys

  first_all : leading r.bytes xs ≡ copies xs r.bytes
  first_all = leading_all r.bytes xs h l.low_first

  second_all : leading r.bytes ys ≡ copies ys r.bytes
  second_all = leading_all r.bytes ys k l.low_second

  -- what differs in the rest is above r
  rest_above : (x : List ℕ) → (copies vs x ≡ copies ws x → ⊥) → less r.bytes x ≡ true
  rest_above x d = go (differ_record vs ws x (copies vs x) (copies ws x) refl refl d)
    where
      go : ((q : Text) × Memᴰ q vs × (q.bytes ≡ x)) ⊎ ((q : Text) × Memᴰ q ws × (q.bytes ≡ x)) → less r.bytes x ≡ true
      go (inl q) = subst (λ (v : List ℕ). less r.bytes v ≡ true) q.2 (passing_above r.bytes xs h l.low_first q.0 q.1)
      go (inr q) = subst (λ (v : List ℕ). less r.bytes v ≡ true) q.2 (passing_above r.bytes ys k l.low_second q.0 q.1)

  -- another byte string differs in the rest where it differs in all
  rest_differs : (x : List ℕ) → (r.bytes ≡ x → ⊥) → (copies xs x ≡ copies ys x → ⊥) → copies vs x ≡ copies ws x → ⊥
  rest_differs x o d e = d (sym (passing_copies r.bytes xs x o) ∙ e ∙ passing_copies r.bytes ys x o)

  module _ (ds : List Difference) (f : Found vs ws ds) where
    rest_other : (d : Difference) → Memᴰ d ds → r.bytes ≡ d.bytes → ⊥
    rest_other d m = less_not_eq r.bytes d.bytes (rest_above d.bytes (f.differ d m))

    rest_each : (d : Difference) → Memᴰ d ds → d ≡ difference_of xs ys d.bytes
    rest_each d m =
        let z = r.bytes in
        let x = d.bytes in
        let o = rest_other d m in
        f.each d m
        ∙ difference_same xs ys vs ws x (passing_copies z xs x o) (passing_copies z ys x o) (passing_first z xs x o) (passing_first z ys x o)

    rest_differ : (d : Difference) → Memᴰ d ds → copies xs d.bytes ≡ copies ys d.bytes → ⊥
    rest_differ d m e =
        let o = rest_other d m in
        f.differ d m (passing_copies r.bytes xs d.bytes o ∙ e ∙ sym (passing_copies r.bytes ys d.bytes o))

    -- as many copies in both: no difference
    found_same : copies xs r.bytes ≡ copies ys r.bytes → Found xs ys ds
    found_same e = record { strict = f.strict; each = rest_each; differ = rest_differ; every = λ x d. go x d (same r.bytes x) refl }
      where
        go : (x : List ℕ) → (copies xs x ≡ copies ys x → ⊥) → (b : Bool) → same r.bytes x ≡ b → Memᴰ x (shown ds)
        go x d true s = absurd (d (subst (λ (v : List ℕ). copies xs v ≡ copies ys v) (same_eq r.bytes x s) e))
        go x d false s = f.every x (rest_differs x (not_same r.bytes x s) d)

    own_is : as_difference which r m n ≡ difference_of xs ys r.bytes
    unfolding difference_of
    own_is = cc (l.file, l.place, first_all, second_all)

    -- more copies in one of them: a difference
    found_more : (copies xs r.bytes ≡ copies ys r.bytes → ⊥) → Found xs ys (as_difference which r m n ∷ ds)
    found_more o =
        record {
          strict = one_string above f.strict;
          each = λ d i. each_of d (Memᴰ.cases_cons i);
          differ = λ d i. differ_of d (Memᴰ.cases_cons i);
          every = λ x d. every_of x d (same r.bytes x) refl;
        }
      where
        above : (x : List ℕ) → Memᴰ x (shown ds) → less r.bytes x ≡ true
        above x m =
            let d = Memᴰ.of_map (λ (e : Difference). e.bytes) ds m in
            subst (λ (v : List ℕ). less r.bytes v ≡ true) d.2 (rest_above d.0.bytes (f.differ d.0 d.1))

        each_of : (d : Difference) → (d ≡ as_difference which r m n) ⊎ Memᴰ d ds → d ≡ difference_of xs ys d.bytes
        each_of d (inl e) = e ∙ own_is ∙ ap (λ (v : Difference). difference_of xs ys v.bytes) (sym e)
        each_of d (inr m) = rest_each d m

        differ_of : (d : Difference) → (d ≡ as_difference which r m n) ⊎ Memᴰ d ds → copies xs d.bytes ≡ copies ys d.bytes → ⊥
        differ_of d (inl e) = subst (λ (v : Difference). copies xs v.bytes ≡ copies ys v.bytes → ⊥) (sym e) o
        differ_of d (inr m) = rest_differ d m

        every_of : (x : List ℕ) → (copies xs x ≡ copies ys x → ⊥) → (b : Bool) → same r.bytes x ≡ b → Memᴰ x (r.bytes ∷ shown ds)
        every_of x d true s = Memᴰ.head (sym (same_eq r.bytes x s))
        every_of x d false s = Memᴰ.tail (f.every x (rest_differs x (not_same r.bytes x s) d))

    found_step : Found xs ys (listed which r m n ++ ds)
    found_step = go (eqb m n) refl
      where
        go : (b : Bool) → eqb m n ≡ b → Found xs ys (listed which r m n ++ ds)
        go true e = let equal = eqb-true m n e in rw (listed_none which r m n equal) (found_same (sym first_all ∙ equal ∙ second_all))
        go false e =
            let apart = eqb-false m n e in
            rw (listed_one which r m n apart) (found_more (λ equal. apart (first_all ∙ equal ∙ sym second_all)))

-- ---- all of them

merged_found : (xs ys : List Text) → rising (strings xs) ≡ true → rising (strings ys) ≡ true → Found xs ys (merged xs ys)
merged_found = merge_induction (λ (xs ys : List Text). rising (strings xs) ≡ true → rising (strings ys) ≡ true → Found xs ys (merged xs ys)) end step
  where
    end : (xs ys : List Text) → next_of xs ys ≡ none → rising (strings xs) ≡ true → rising (strings ys) ≡ true → Found xs ys (merged xs ys)
    end xs ys e h k = let both = next_none xs ys e in rw (merged_none xs ys e, both.0, both.1) found_end

    step : (xs ys : List Text) (which : ℕ) (r : Text) → next_of xs ys ≡ next which r
        → (rising (strings (drop (leading r.bytes xs) xs)) ≡ true → rising (strings (drop (leading r.bytes ys) ys)) ≡ true
        → Found (drop (leading r.bytes xs) xs) (drop (leading r.bytes ys) ys)
        (merged (drop (leading r.bytes xs) xs) (drop (leading r.bytes ys) ys)))
        → rising (strings xs) ≡ true → rising (strings ys) ≡ true → Found xs ys (merged xs ys)
    step xs ys which r e rest h k =
        let z = r.bytes in
        let found = rest (passing_rises z xs h) (passing_rises z ys k) in
        rw (merged_next xs ys which r e)
        (found_step xs ys which r h k (subst (LeastNext xs ys) e (next_least xs ys h k)) (merged (drop (leading z xs) xs) (drop (leading z ys) ys)) found)

-- differences that are each those of their byte strings
each_map : (f : List ℕ → Difference) (ds : List Difference) → ((d : Difference) → Memᴰ d ds → d ≡ f d.bytes) → ds ≡ map f (shown ds)
each_map f [] h = refl
each_map f (d ∷ ds) h =
    ap (λ (e : Difference). e ∷ ds) (h d (Memᴰ.head refl))
    ∙ ap (λ (l : List Difference). f d.bytes ∷ l) (each_map f ds (λ (e : Difference) (m : Memᴰ e ds). h e (Memᴰ.tail m)))

pub merged_differences : (xs ys : List Text) → rising (strings xs) ≡ true → rising (strings ys) ≡ true → merged xs ys ≡ differences xs ys
unfolding differences
merged_differences xs ys h k =
    each_map (difference_of xs ys) (merged xs ys) found.each
    ∙ ap (map (difference_of xs ys)) (strict_unique (shown (merged xs ys)) (differing xs ys) found.strict (differing_strict xs ys) to from)
  where
    found : Found xs ys (merged xs ys)
    found = merged_found xs ys h k

    to : (x : List ℕ) → Memᴰ x (shown (merged xs ys)) → Memᴰ x (differing xs ys)
    to x m =
        let d = Memᴰ.of_map (λ (e : Difference). e.bytes) (merged xs ys) m in
        subst (λ (v : List ℕ). Memᴰ v (differing xs ys)) d.2 (member_differing xs ys d.0.bytes (found.differ d.0 d.1))

    from : (x : List ℕ) → Memᴰ x (differing xs ys) → Memᴰ x (shown (merged xs ys))
    from x m = found.every x (differing_member xs ys x m)
