-- What is answered about one store is as claimed.
-- Assumes nothing.
use mathlib.Core.Path.{◌≡◌, refl, sym, ap, ◌∙◌, subst}
use mathlib.Core.Bool.{Bool, true, false, false≢true}
use mathlib.Core.List.{List, []}
use Prim.Native.Nat.{ℕ, zero, suc, ◌+◌, ◌-◌, ◌≤◌, ◌<◌}
use native.Mathlib.Omega.{arith}
use lib.ListN.{length, take, get_or}
use Rattle.byte_string.specs.Order.{begins}
use Rattle.byte_string.proofs.PrefixLaws.{take_begins}
use Rattle.part.specs.Part.{part}
use Rattle.part.specs.declared.Part.{Part}
use Rattle.part.proofs.PartLaws.{length_part, part_rest}
use Rattle.header.specs.Header.{magic, unfinished_magic, H}
use Rattle.header.proofs.RuleLaws.{holds_header_of}
use Rattle.stores.specs.Store.{Store}
use Rattle.stores.specs.FileStores.{has_stores, four_stores, stores_of, store_part}
use Rattle.stores.proofs.FileStoreLaws.{has_stores⁻¹, stores_four, stores_by_header, no_stores}
use Rattle.stores.proofs.FileStoreLaws.{first_store, blocks_store, header_store, last_store, no_more_stores}
use Rattle.theorems_stores.specs.StoredByRules.{HasStore, bytes_of, StoreByRules}

-- a file with the magic and its header has stores
pub has_stores_lem : (file : List ℕ) → begins magic file ≡ true → 24 + H file ≤ length file → has_stores file ≡ true
has_stores_lem file opens whole = stores_by_header file opens ∙ holds_header_of file (omega (arith, whole)) whole

module _ (file : List ℕ) where
  abbrev store : ℕ → Store
  store i = get_or (stores_of file) i (record { offset = 0; bytes = [] })

  -- the answer is as claimed
  abbrev AsClaimed : ℕ → Part → Type 0
  AsClaimed i r = StoreByRules file i r

  nothing : (i : ℕ) → (HasStore file i → ⊥) → AsClaimed i (record { offset = 0; length = 0 })
  nothing i missing = record { is = λ h. absurd (missing h); long = λ h. absurd (missing h); none = λ _. refl; within = omega arith }

  module _ (has : has_stores file ≡ true) where
    some : (i : ℕ) → i < 4 → HasStore file i
    some i below = record { below = below; opens = (has_stores⁻¹ file has).0; whole = (has_stores⁻¹ file has).1 }

    -- one of the four
    something : (i : ℕ) (r : Part) → i < 4
        → get_or (four_stores file) i (record { offset = 0; bytes = [] }) ≡ record { offset = r.offset; bytes = bytes_of file i r }
        → length (bytes_of file i r) ≡ r.length → r.offset + r.length ≤ length file → AsClaimed i r
    something i r below is long within =
        record {
          is = λ _. ap (λ (ss : List Store). get_or ss i (record { offset = 0; bytes = [] })) (stores_four file has) ∙ is;
          long = λ _. long;
          none = λ missing. absurd (missing (some i below));
          within = within;
        }

    stored : (i : ℕ) → AsClaimed i (store_part file i)
    unfolding four_stores bytes_of unfinished_magic magic part
    stored zero =
        let whole = (has_stores⁻¹ file has).1 in
        subst (AsClaimed 0) (sym (first_store file has 0 refl)) (something 0 _ (omega arith) refl refl (omega arith))
    stored (suc zero) =
        let whole = (has_stores⁻¹ file has).1 in
        let at : ℕ = 24 + H file in
        subst (AsClaimed 1) (sym (blocks_store file has 1 at refl refl))
        (something 1 _ (omega arith)
        (ap (λ (bytes : List ℕ). record { offset = at; bytes = bytes }) (sym (part_rest file at (length file - at) (omega arith))))
        (length_part file at (length file - at) (omega arith)) (omega arith))
    stored (suc (suc zero)) =
        let whole = (has_stores⁻¹ file has).1 in
        let same : 16 + H file ≡ 24 + H file - 8 = omega arith in
        subst (AsClaimed 2) (sym (header_store file has 2 (24 + H file) refl refl))
        (something 2 _ (omega arith) (ap (λ (n : ℕ). record { offset = 8; bytes = part file 8 n }) same)
        (length_part file 8 (24 + H file - 8) (omega arith)) (omega arith))
    stored (suc (suc (suc zero))) =
        let whole = (has_stores⁻¹ file has).1 in
        let front : take 8 file ≡ magic = take_begins magic file (has_stores⁻¹ file has).0 in
        subst (AsClaimed 3) (sym (last_store file has 3 refl))
        (something 3 _ (omega arith) (ap (λ (bytes : List ℕ). record { offset = 0; bytes = bytes }) (sym front)) (ap length front) (omega arith))
    stored (suc (suc (suc (suc i)))) =
        subst (AsClaimed (suc (suc (suc (suc i))))) (sym (no_more_stores file has (suc (suc (suc (suc i)))) (omega arith)))
        (nothing (suc (suc (suc (suc i)))) (λ h. absurd (omega (arith, h.below))))

  pub store_by_rules : (i : ℕ) (r : Part) → r ≡ store_part file i → StoreByRules file i r
  store_by_rules i r e = subst (AsClaimed i) (sym e) (go (has_stores file) refl)
    where
      go : (b : Bool) → has_stores file ≡ b → AsClaimed i (store_part file i)
      go true has = stored has i
      go false has =
          subst (AsClaimed i) (sym (no_stores file i has)) (nothing i (λ h. false≢true (sym has ∙ has_stores_lem file h.opens h.whole)))
