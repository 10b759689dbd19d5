-- The laws of `sum_of`: the differences add up to how many more records the second list has.
-- Assumes nothing.
use Prim.Native.Nat.{ℕ, ◌+◌}
use native.Mathlib.Omega.{arith}
use mathlib.Core.Path.{◌≡◌, refl, sym, ap, ap₂, ◌∙◌}
use mathlib.Core.Bool.{Bool, true, false}
use mathlib.Core.List.{List, ◌++◌}
use lib.Dec.{eqb}
use lib.IntN.{ℤ, pos, neg_ℤ, ◌+ℤ◌, ◌-ℤ◌, +ℤ_assoc, +ℤ_comm, +ℤ_idl, +ℤ_invr, neg_ℤ-+ℤ}
use lib.ListN.{length, drop, length-drop}
use borrow.Author.Tests.{eqb-true, eqb-false}
use Rattle.byte_string.specs.Rising.{rising}
use Rattle.payload.specs.Payload.{Text}
use Rattle.differences.specs.Differences.{strings, Difference, differences, sum_of}
use Rattle.differences.specs.Merge.{leading, none, next, next_of, listed, merged}
use Rattle.differences.proofs.MergeLaws.{leading_few, next_none, merged_none, merged_next, merge_induction, listed_none, listed_one}
use Rattle.differences.proofs.MergedDifferences.{merged_differences}

-- ---- whole numbers

regroup : (a b c d : ℤ) → (a +ℤ b) +ℤ (c +ℤ d) ≡ (a +ℤ c) +ℤ (b +ℤ d)
regroup a b c d =
    +ℤ_assoc a b (c +ℤ d)
    ∙ ap (λ (z : ℤ). a +ℤ z) (sym (+ℤ_assoc b c d) ∙ ap (λ (z : ℤ). z +ℤ d) (+ℤ_comm b c) ∙ +ℤ_assoc c b d)
    ∙ sym (+ℤ_assoc a c (b +ℤ d))

less-add : (m n a b : ℕ) → (pos n -ℤ pos m) +ℤ (pos b -ℤ pos a) ≡ pos (n + b) -ℤ pos (m + a)
less-add m n a b =
    regroup (pos n) (neg_ℤ (pos m)) (pos b) (neg_ℤ (pos a))
    ∙ ap (λ (z : ℤ). pos (n + b) +ℤ z) (sym (neg_ℤ-+ℤ (pos m) (pos a)))

-- ---- the sum of what a merge lists

sum-listed : (which : ℕ) (r : Text) (m n : ℕ) (ds : List Difference) → sum_of (listed which r m n ++ ds) ≡ (pos n -ℤ pos m) +ℤ sum_of ds
unfolding sum_of
sum-listed which r m n ds = go (eqb m n) refl
  where
    go : (b : Bool) → eqb m n ≡ b → sum_of (listed which r m n ++ ds) ≡ (pos n -ℤ pos m) +ℤ sum_of ds
    go true e =
        ap (λ (l : List Difference). sum_of (l ++ ds)) (listed_none which r m n (eqb-true m n e))
        ∙ sym (+ℤ_idl (sum_of ds))
        ∙ ap (λ (z : ℤ). z +ℤ sum_of ds) (sym (+ℤ_invr (pos n)) ∙ ap (λ (k : ℕ). pos n -ℤ pos k) (sym (eqb-true m n e)))
    go false e = ap (λ (l : List Difference). sum_of (l ++ ds)) (listed_one which r m n (eqb-false m n e))

pub sum-merged : (xs ys : List Text) → sum_of (merged xs ys) ≡ pos (length ys) -ℤ pos (length xs)
unfolding sum_of
sum-merged =
    merge_induction (λ (xs ys : List Text). sum_of (merged xs ys) ≡ pos (length ys) -ℤ pos (length xs)) end step
  where
    end : (xs ys : List Text) → next_of xs ys ≡ none → sum_of (merged xs ys) ≡ pos (length ys) -ℤ pos (length xs)
    end xs ys e =
        let both = next_none xs ys e in
        ap sum_of (merged_none xs ys e) ∙ sym (ap₂ (λ (k l : List Text). pos (length k) -ℤ pos (length l)) both.1 both.0)

    step : (xs ys : List Text) (which : ℕ) (r : Text) → next_of xs ys ≡ next which r
        → sum_of (merged (drop (leading r.bytes xs) xs) (drop (leading r.bytes ys) ys))
        ≡ pos (length (drop (leading r.bytes ys) ys)) -ℤ pos (length (drop (leading r.bytes xs) xs))
        → sum_of (merged xs ys) ≡ pos (length ys) -ℤ pos (length xs)
    step xs ys which r e rest =
        let m = leading r.bytes xs in
        let n = leading r.bytes ys in
        let a = leading_few r.bytes xs in
        let b = leading_few r.bytes ys in
        let first : m + length (drop m xs) ≡ length xs = simp length-drop (omega arith) in
        let second : n + length (drop n ys) ≡ length ys = simp length-drop (omega arith) in
        ap sum_of (merged_next xs ys which r e)
        ∙ sum-listed which r m n (merged (drop m xs) (drop n ys))
        ∙ ap (λ (z : ℤ). (pos n -ℤ pos m) +ℤ z) rest
        ∙ less-add m n (length (drop m xs)) (length (drop n ys))
        ∙ ap₂ (λ (k l : ℕ). pos k -ℤ pos l) second first

pub sum_differences : (xs ys : List Text) → rising (strings xs) ≡ true → rising (strings ys) ≡ true
    → sum_of (differences xs ys) ≡ pos (length ys) -ℤ pos (length xs)
sum_differences xs ys h k = ap sum_of (sym (merged_differences xs ys h k)) ∙ sum-merged xs ys
