-- The stores of a file, one by one.
-- Assumes nothing.
use mathlib.Core.Path.{◌≡◌, refl, sym, ap, ◌∙◌}
use mathlib.Core.Bool.{Bool, true, false, false≢true}
use mathlib.Core.List.{List, []}
use Prim.Native.Nat.{ℕ, zero, suc, ◌+◌, ◌-◌, ◌≤◌}
use native.Mathlib.Omega.{arith}
use lib.ListN.{length, length-drop, get_or}
use Rattle.byte_string.specs.Order.{begins}
use Rattle.part.proofs.PartLaws.{length_part}
use Rattle.header.specs.Header.{magic, unfinished_magic, H, holds_header}
use Rattle.header.proofs.RuleLaws.{holds_header⁻¹}
use Rattle.stores.specs.Store.{Store}
use Rattle.stores.specs.FileStores.{has_stores, four_stores, stores_of, extent, store_part}

-- ---- whether there are stores

pub stores_four : (file : List ℕ) → has_stores file ≡ true → stores_of file ≡ four_stores file
unfolding stores_of
stores_four file h = rw h

pub stores_none : (file : List ℕ) → has_stores file ≡ false → stores_of file ≡ []
unfolding stores_of
stores_none file h = rw h

-- without the magic there are none, and with it the header decides
pub stores_by_magic : (file : List ℕ) → begins magic file ≡ false → has_stores file ≡ false
unfolding has_stores
stores_by_magic file h = rw h

pub stores_by_header : (file : List ℕ) → begins magic file ≡ true → has_stores file ≡ holds_header file
unfolding has_stores
stores_by_header file h = rw h

-- a file with stores begins with the magic, and holds its header
pub has_stores⁻¹ : (file : List ℕ) → has_stores file ≡ true → (begins magic file ≡ true) × (24 + H file ≤ length file)
has_stores⁻¹ file h = go (begins magic file) refl
  where
    go : (b : Bool) → begins magic file ≡ b → (begins magic file ≡ true) × (24 + H file ≤ length file)
    go true opens = (opens, (holds_header⁻¹ file (sym (stores_by_header file opens) ∙ h)).1)
    go false other = absurd (false≢true (sym (stores_by_magic file other) ∙ h))

-- ---- where store i goes, and how long it is

abbrev no_store : Store
no_store = record { offset = 0; bytes = [] }

extent_of : (file : List ℕ) (i : ℕ) (ss : List Store) → stores_of file ≡ ss → store_part file i ≡ extent (get_or ss i no_store)
unfolding store_part
extent_of file i ss e = ap (λ (ss : List Store). extent (get_or ss i no_store)) e

pub no_stores : (file : List ℕ) (i : ℕ) → has_stores file ≡ false → store_part file i ≡ record { offset = 0; length = 0 }
unfolding extent
no_stores file i h = extent_of file i [] (stores_none file h)

module _ (file : List ℕ) (h : has_stores file ≡ true) where
  stands : (i : ℕ) → store_part file i ≡ extent (get_or (four_stores file) i no_store)
  stands i = extent_of file i (four_stores file) (stores_four file h)

  pub first_store : (i : ℕ) → i ≡ 0 → store_part file i ≡ record { offset = 0; length = 8 }
  unfolding extent four_stores unfinished_magic
  first_store i e = ap (store_part file) e ∙ stands 0

  pub blocks_store : (i at : ℕ) → i ≡ 1 → at ≡ 24 + H file → store_part file i ≡ record { offset = at; length = length file - at }
  unfolding extent four_stores
  blocks_store i at e begins =
      ap (store_part file) e ∙ stands 1 ∙ ap (λ (n : ℕ). record { offset = 24 + H file; length = n }) (length-drop (24 + H file) file)
      ∙ ap (λ (n : ℕ). record { offset = n; length = length file - n }) (sym begins)

  pub header_store : (i at : ℕ) → i ≡ 2 → at ≡ 24 + H file → store_part file i ≡ record { offset = 8; length = at - 8 }
  unfolding extent four_stores
  header_store i at e begins =
      let within = (has_stores⁻¹ file h).1 in
      let sixteen : 16 + H file ≡ at - 8 = omega arith in
      ap (store_part file) e ∙ stands 2
      ∙ ap (λ (n : ℕ). record { offset = 8; length = n }) (length_part file 8 (16 + H file) (omega arith) ∙ sixteen)

  pub last_store : (i : ℕ) → i ≡ 3 → store_part file i ≡ record { offset = 0; length = 8 }
  unfolding extent four_stores magic
  last_store i e = ap (store_part file) e ∙ stands 3

  pub no_more_stores : (i : ℕ) → 4 ≤ i → store_part file i ≡ record { offset = 0; length = 0 }
  unfolding extent four_stores
  no_more_stores zero far = absurd (omega arith)
  no_more_stores (suc zero) far = absurd (omega arith)
  no_more_stores (suc (suc zero)) far = absurd (omega arith)
  no_more_stores (suc (suc (suc zero))) far = absurd (omega arith)
  no_more_stores (suc (suc (suc (suc i)))) far = stands (suc (suc (suc (suc i))))
