-- The laws of `differing`: it holds exactly the byte strings with different numbers of copies, and it rises strictly.
-- Assumes nothing.
use Prim.Native.Nat.{ℕ, zero, suc, ◌<◌}
use native.Mathlib.Omega.{arith}
use mathlib.Core.Path.{◌≡◌, refl, sym, ap}
use mathlib.Core.Bool.{not}
use mathlib.Core.List.Memᴰ
use mathlib.Core.List.{List, [], ◌++◌, Memᴰ}
use lib.Dec.{eqb}
use borrow.Author.Tests.{eqb-false, eq-eqb, ne_eqb, not-true}
use Rattle.lists.proofs.ListsLaws.{keep_member, member_keep}
use Rattle.lists.proofs.CountLaws.{keep_none}
use Rattle.payload.specs.Payload.{Text}
use Rattle.sorting.specs.Sorting.{sorted}
use Rattle.sorting.proofs.PermutationLaws.{permutation_member, permutation_back}
use Rattle.sorting.proofs.SortedLaws.{sorted_permutation, rising-sorted}
use Rattle.differences.specs.Differences.{strings, copies, once, differing}
use Rattle.byte_string.specs.Rising.{Strict}
use Rattle.differences.proofs.CopyLaws.{copies_member, copies-strings}
use Rattle.differences.proofs.StrictLaws.{strict_keep, once_strict, member_once}

-- ---- the byte strings of both, sorted

member_sorted : (xs : List (List ℕ)) (x : List ℕ) → Memᴰ x xs → Memᴰ x (sorted xs)
member_sorted xs x m = permutation_member x (permutation_back (sorted_permutation xs)) m

-- what is stored stands among the strings
copies_string : (rs : List Text) (x : List ℕ) → 0 < copies rs x → Memᴰ x (strings rs)
unfolding strings
copies_string rs x h = let r = copies_member rs x h in Memᴰ.cast (sym r.2) (Memᴰ.map (λ (q : Text). q.bytes) r.1)

-- ---- those that differ

module _ (first second : List Text) where
  pub differing_strict : Strict (differing first second)
  unfolding differing
  differing_strict =
      let all = sorted (strings first ++ strings second) in
      strict_keep _ (once all) (once_strict all (rising-sorted (strings first ++ strings second)))

  pub differing_member : (x : List ℕ) → Memᴰ x (differing first second) → copies first x ≡ copies second x → ⊥
  unfolding differing
  differing_member x m =
      let held = keep_member _ (once (sorted (strings first ++ strings second))) x m in
      eqb-false (copies first x) (copies second x) (not-true (eqb (copies first x) (copies second x)) held.1)

  -- a string with different numbers of copies is stored in one of the two
  differing_stored : (x : List ℕ) (m n : ℕ) → copies first x ≡ m → copies second x ≡ n → (m ≡ n → ⊥) → Memᴰ x (strings first ++ strings second)
  differing_stored x (suc m) n e f h = Memᴰ.append_left (strings second) (copies_string first x (omega arith))
  differing_stored x zero (suc n) e f h = Memᴰ.append_right (strings first) (copies_string second x (omega arith))
  differing_stored x zero zero e f h = absurd (h refl)

  pub member_differing : (x : List ℕ) → (copies first x ≡ copies second x → ⊥) → Memᴰ x (differing first second)
  unfolding differing
  member_differing x h =
      let all = strings first ++ strings second in
      member_keep (λ (y : List ℕ). not (eqb (copies first y) (copies second y))) (once (sorted all)) x
      (member_once (sorted all) x (member_sorted all x (differing_stored x (copies first x) (copies second x) refl refl h)))
      (ap not (ne_eqb (copies first x) (copies second x) h))

  -- lists with the same byte strings do not differ
  pub differing_none : strings first ≡ strings second → differing first second ≡ []
  unfolding differing
  differing_none e =
      keep_none (λ (x : List ℕ). not (eqb (copies first x) (copies second x))) (once (sorted (strings first ++ strings second)))
      (λ x m. ap not (eq-eqb (copies first x) (copies second x) (copies-strings first second x e)))
