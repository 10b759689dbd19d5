-- Each number that importing answers is given exactly for its reason.
-- Assumes nothing.
use mathlib.Core.Path.{◌≡◌, sym, ◌∙◌, subst}
use mathlib.Core.Logic.{◌↔◌}
use mathlib.Core.List.{List, map}
use Prim.Native.Nat.{ℕ, ◌+◌, ◌<◌}
use native.Mathlib.Omega.{arith}
use lib.Dec.{leb}
use lib.ListN.{length}
use borrow.Author.Tests.{leb-true, leb-false}
use Rattle.lists.specs.Groups.{groups}
use Rattle.layout.specs.Blocks.{records_bytes}
use Rattle.written.specs.declared.Written.{Written}
use Rattle.sorting.specs.Sorting.{sorted}
use Rattle.sim.specs.Adn.{record_of}
use Rattle.sim_import.specs.Import.{occupied}
use Rattle.theorems_import.specs.ImportedByRules.{IsDump, NoName, LongNumber, AllFine, First, Fits, ImportedByRules}
use Rattle.theorems_import.specs.ImportedByRules.{Ends, no_dump, no_name, long_number, too_long, done}
use Rattle.theorems_import.proofs.NameTheorems.{untrue}
use Rattle.theorems_import.proofs.ImportTheorems.{ends_number}

module _ (dump : List ℕ) (x room : ℕ) where
  -- the cases exclude each other
  pub ends_one : (m n : ℕ) → Ends dump x room m → Ends dump x room n → m ≡ n
  ends_one m n a b = sym (ends_number dump x room m a) ∙ ends_number dump x room n b

  module _ (r : Written) (output : List ℕ) (w : ImportedByRules dump x room r output) where
    -- a number is answered exactly if its reason holds
    pub number_exactly : (n : ℕ) → (r.number ≡ n) ↔ Ends dump x room n
    number_exactly n = (λ e. subst (Ends dump x room) e w.ends, λ e. ends_one r.number n w.ends e)

    -- 32 exactly where x is above 241 or the size isn't a multiple of x + 14
    pub exact_32 : (r.number ≡ 32) ↔ (IsDump x dump → ⊥)
    exact_32 = (λ e. there ((number_exactly 32).0 e), λ f. (number_exactly 32).1 (no_dump f))
      where
        there : Ends dump x room 32 → IsDump x dump → ⊥
        there (no_dump f) = f

    -- 33 exactly where the first record that isn't fine has no name in its field
    pub exact_33 : (r.number ≡ 33) ↔ (IsDump x dump × First x (NoName x) (groups (x + 14) dump))
    exact_33 = (λ e. there ((number_exactly 33).0 e), λ p. (number_exactly 33).1 (no_name p.0 p.1))
      where
        there : Ends dump x room 33 → IsDump x dump × First x (NoName x) (groups (x + 14) dump)
        there (no_name d first) = (d, first)

    -- 34 exactly where it has a name, and a number of more than 11 bytes
    pub exact_34 : (r.number ≡ 34) ↔ (IsDump x dump × First x (LongNumber x) (groups (x + 14) dump))
    exact_34 = (λ e. there ((number_exactly 34).0 e), λ p. (number_exactly 34).1 (long_number p.0 p.1))
      where
        there : Ends dump x room 34 → IsDump x dump × First x (LongNumber x) (groups (x + 14) dump)
        there (long_number d first) = (d, first)

    -- 31 exactly where all are fine and the output is too short for the sorted records
    pub exact_31 : (r.number ≡ 31)
        ↔ (IsDump x dump × AllFine x (groups (x + 14) dump) × (room < length (records_bytes (sorted (map (record_of x) (occupied x dump))))))
    unfolding Fits
    exact_31 = (λ e. there ((number_exactly 31).0 e), λ p. (number_exactly 31).1 (too_long p.0 p.1 (λ f. omega (arith, f, p.2))))
      where
        long : ℕ
        long = length (records_bytes (sorted (map (record_of x) (occupied x dump))))

        there : Ends dump x room 31 → IsDump x dump × AllFine x (groups (x + 14) dump) × (room < long)
        there (too_long d all f) = (d, all, leb-false long room (untrue (leb long room) (λ e. f (omega (arith, leb-true long room e)))))

    -- 0 exactly where they fit
    pub exact_0 : (r.number ≡ 0) ↔ (IsDump x dump × AllFine x (groups (x + 14) dump) × Fits dump x room)
    exact_0 = (λ e. there ((number_exactly 0).0 e), λ p. (number_exactly 0).1 (done p.0 p.1 p.2))
      where
        there : Ends dump x room 0 → IsDump x dump × AllFine x (groups (x + 14) dump) × Fits dump x room
        there (done d all f) = (d, all, f)
