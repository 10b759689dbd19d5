-- Byte strings of which each is at most the next are sorted, and offsets that pass the walk's test rise.
-- Assumes nothing.
use mathlib.Core.Path.{◌≡◌, refl, ◌∙◌}
use mathlib.Core.Bool.{true}
use mathlib.Core.List.Memᴰ
use mathlib.Core.List.{List, [], ◌∷◌, Memᴰ}
use Prim.Native.Nat.{ℕ, suc, ◌≤◌}
use lib.Dec.{leb}
use borrow.Author.Tests.{le-leb}
use Rattle.byte_string.specs.Order.{at_most}
use Rattle.outcome.specs.Outcome.{answer}
use Rattle.outcome.proofs.OutcomeLaws.{kept}
use Rattle.payload.specs.Payload.{rising, rising_from}
use Rattle.tree.specs.Stages.{ascending}
use Rattle.payload.proofs.ScanLaws.{rising_from-each}
use Rattle.tree.proofs.StageLaws.{ascending⁻¹}
use Rattle.lists.proofs.RisingLaws.{member_below}
use Rattle.theorems_check.specs.Rules.{Sorted, no_string, one_string, Rising, no_number, one_number}
use Rattle.lists.proofs.ListsLaws.{both, both⁻¹, Ascending, below_each}

-- ---- byte strings

sorted_from : (x : List ℕ) (xs : List (List ℕ)) → rising_from x xs ≡ true → Sorted (x ∷ xs)
unfolding rising_from
sorted_from x [] h = one_string (λ y m. absurd (Memᴰ.not-nil m)) no_string
sorted_from x (y ∷ ys) h = one_string (rising_from-each x (y ∷ ys) h) (sorted_from y ys (both⁻¹ (at_most x y) (rising_from y ys) h).1)

pub rising⇒Sorted : (xs : List (List ℕ)) → rising xs ≡ true → Sorted xs
unfolding rising
rising⇒Sorted [] h = no_string
rising⇒Sorted (x ∷ xs) h = sorted_from x xs h

from_sorted : (x : List ℕ) (xs : List (List ℕ)) → ((y : List ℕ) → Memᴰ y xs → at_most x y ≡ true) → Sorted xs → rising_from x xs ≡ true
unfolding rising_from
from_sorted x xs h no_string = refl
from_sorted x xs h (one_string {x = y} {xs = ys} k r) = both (at_most x y) (rising_from y ys) (h y (Memᴰ.head refl)) (from_sorted y ys k r)

pub Sorted⇒rising : (xs : List (List ℕ)) → Sorted xs → rising xs ≡ true
unfolding rising
Sorted⇒rising xs no_string = refl
Sorted⇒rising xs (one_string {x = x} {xs = ys} h r) = from_sorted x ys h r

-- ---- offsets

-- as the rules say it, and as a pair for each
pub Rising⇒Ascending : (xs : List ℕ) → Rising xs → Ascending xs
unfolding Ascending
Rising⇒Ascending xs no_number = tt
Rising⇒Ascending xs (one_number {x} {xs = ys} h r) = (member_below x ys h, Rising⇒Ascending ys r)

pub Ascending⇒Rising : (xs : List ℕ) → Ascending xs → Rising xs
unfolding Ascending
Ascending⇒Rising [] h = no_number
Ascending⇒Rising (x ∷ xs) h = one_number (below_each x xs h.0) (Ascending⇒Rising xs h.1)

pub ascending⇒Rising : (least : ℕ) (xs : List ℕ) → ascending least xs ≡ answer tt → Rising xs
ascending⇒Rising least xs h = Ascending⇒Rising xs (ascending⁻¹ least xs h).0

pub Rising⇒ascending : (least : ℕ) (xs : List ℕ) → ((y : ℕ) → Memᴰ y xs → least ≤ y) → Rising xs → ascending least xs ≡ answer tt
unfolding ascending
Rising⇒ascending least xs h no_number = refl
Rising⇒ascending least xs h (one_number {x = x} {xs = ys} k r) =
    kept (leb least x) 22 x (ascending (suc x) ys) (le-leb least x (h x (Memᴰ.head refl))) ∙ Rising⇒ascending (suc x) ys k r
