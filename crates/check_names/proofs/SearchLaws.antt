-- What the binary search among the starts on the work list finds.
-- Assumes nothing.
use mathlib.Core.Path.{◌≡◌, refl}
use mathlib.Core.Bool.{Bool, true, false}
use mathlib.Core.List.{List}
use Prim.Native.Nat.{ℕ, ◌%◌, ◌^◌, ◌≤◌, ◌<◌}
use native.Mathlib.Omega.{arith}
use lib.Dec.{ltb}
use lib.ListN.{length, get_or}
use borrow.Author.Tests.{ltb-true, ltb-false}
use Rattle.std.specs.Prelude.{Result, Ok, Err}
use Rattle.std.specs.Result.{result_ok}
use Rattle.std.specs.declared.cmp.Ordering.TheVariants.{Less, Equal, Greater}
use Rattle.std.specs.Ordering.{nat_cmp, ordering_index}
use Rattle.std.specs.List.Sorted.{IsBinarySearchResult, IsPartitionPoint}
use Rattle.std.proofs.lemmas.Bool.Decides.{nat_tests}
use Rattle.std.proofs.lemmas.List.{get_or_default}
use Rattle.check_names.specs.Starts.{start_at, StartsRise, Located}

-- numbers that rise compare likewise with a third
higher : (a b x : ℕ) → a ≤ b → ordering_index (nat_cmp a x) ≤ ordering_index (nat_cmp b x)
higher a b x h = grind (arith, nat_tests)

equal_only : (a x : ℕ) → nat_cmp a x ≡ Equal → a ≡ x
equal_only a x h = grind (arith, nat_tests)

not_less : (a x : ℕ) → nat_cmp a x ≡ Less → a ≡ x → ⊥
not_less a x h e = grind (arith, nat_tests)

not_greater : (a x : ℕ) → nat_cmp a x ≡ Greater → a ≡ x → ⊥
not_greater a x h e = grind (arith, nat_tests)

pub located : (work : List ℕ) (start : ℕ) (r : Result ℕ ℕ) → IsBinarySearchResult (λ word. nat_cmp (word % 2 ^ 30) start) work r → StartsRise work
    → Located work start (result_ok r)
unfolding StartsRise Located start_at
located work start (Ok i) h rise = equal_only (get_or work i 0 % 2 ^ 30) start (h 0)
located work start (Err i) h rise = λ j inside same. go j inside same (ltb j i) refl
  where
    rises : (a b d : ℕ) → a ≤ b → b < length work → get_or work a d % 2 ^ 30 ≤ get_or work b d % 2 ^ 30
    rises a b d le lt = by (ltb a b) refl
      where
        by : (t : Bool) → ltb a b ≡ t → get_or work a d % 2 ^ 30 ≤ get_or work b d % 2 ^ 30
        by true e = omega (arith, rise a b (ltb-true a b e) lt, get_or_default work a d 0 (omega arith), get_or_default work b d 0 lt)
        by false e = let same : a ≡ b = omega (arith, ltb-false a b e) in rw same (omega arith)

    parted : IsPartitionPoint (λ word. nat_cmp (word % 2 ^ 30) start ≡ Less) (λ word. nat_cmp (word % 2 ^ 30) start ≡ Greater) work i
    parted = h (λ a b d le lt. higher (get_or work a d % 2 ^ 30) (get_or work b d % 2 ^ 30) start (rises a b d le lt))

    go : (j : ℕ) → j < length work → get_or work j 0 % 2 ^ 30 ≡ start → (b : Bool) → ltb j i ≡ b → ⊥
    go j inside same true e = not_less _ start (parted.0 j 0 (omega arith) (ltb-true j i e)) same
    go j inside same false e = not_greater _ start (parted.1 j 0 (ltb-false j i e) inside) same
