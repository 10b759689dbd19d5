-- What is given: one record for each that isn't free, each as often as it stands there, in the one order that rises.
-- Assumes nothing.
use mathlib.Core.Path.{◌≡◌, refl, sym, ap, ◌∙◌}
use mathlib.Core.Logic.{◌≢◌, ◌↔◌}
use mathlib.Core.Bool.{true}
use mathlib.Core.List.{List, [], ◌∷◌, map}
use Prim.Native.Nat.{ℕ}
use native.Mathlib.Omega.{arith}
use lib.ListN.{length, length-map}
use Rattle.lists.specs.Lists.{keep}
use Rattle.lists.proofs.CountLaws.{keep_map}
use Rattle.byte_string.specs.Order.{same}
use Rattle.byte_string.proofs.SameLaws.{same_eq, eq_same}
use Rattle.sorting.specs.Sorting.{sorted}
use Rattle.sorting.proofs.PermutationLaws.{permutation_length, permutation_count}
use Rattle.sorting.proofs.SortedLaws.{sorted_unique}
use Rattle.sim.specs.Adn.{record_of}
use Rattle.sim_import.specs.Import.{occupied}
use Rattle.theorems_check.proofs.SortedLaws.{Sorted⇒rising}
use Rattle.theorems_import.specs.ImportedByRules.{Imported}

-- ---- counting

pub same_exactly : (s r : List ℕ) → (same s r ≡ true) ↔ (s ≡ r)
same_exactly s r = (same_eq s r, eq_same s r)

-- ---- the records that are given

module _ (x : ℕ) (dump : List ℕ) (rs : List (List ℕ)) (i : Imported x dump rs) where
  -- they are the sorted ones
  pub imported_sorted : rs ≡ sorted (map (record_of x) (occupied x dump))
  imported_sorted = sorted_unique (map (record_of x) (occupied x dump)) rs i.each (Sorted⇒rising rs i.rises)

  -- one for each that isn't free
  pub one_for_each : length rs ≡ length (occupied x dump)
  one_for_each = permutation_length i.each ∙ length-map (occupied x dump) (record_of x)

  -- every byte string stands among them as often as it is our record of one that isn't free
  pub copies : (s : List ℕ) → length (keep (same s) rs) ≡ length (keep (λ adn. same s (record_of x adn)) (occupied x dump))
  copies s =
      permutation_count (same s) i.each ∙ sym (ap length (keep_map (same s) (record_of x) (occupied x dump)))
      ∙ length-map (keep (λ adn. same s (record_of x adn)) (occupied x dump)) (record_of x)

  -- there are some exactly if there is one that isn't free
  pub some_exactly : (rs ≢ []) ↔ (occupied x dump ≢ [])
  some_exactly = (
    λ some none. some (no_length rs (one_for_each ∙ ap length none)),
    λ some none. some (no_length (occupied x dump) (sym one_for_each ∙ ap length none)),
  )
    where
      no_length : {A : Type 0} (l : List A) → length l ≡ 0 → l ≡ []
      no_length [] e = refl
      no_length (y ∷ l) e = absurd (omega arith)

-- no two lists are given
pub imported_unique : (x : ℕ) (dump : List ℕ) (rs ss : List (List ℕ)) → Imported x dump rs → Imported x dump ss → rs ≡ ss
imported_unique x dump rs ss i j = imported_sorted x dump rs i ∙ sym (imported_sorted x dump ss j)
