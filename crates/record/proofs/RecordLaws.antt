-- Laws of a record as a part of the file.
-- Assumes nothing.
use mathlib.Core.Path.{◌≡◌, refl, sym, subst, ap, ◌∙◌}
use mathlib.Core.Bool.{Bool, true, false, cond}
use mathlib.Core.List.{List, []}
use Prim.Native.Nat.{ℕ, ◌+◌, ◌≤◌, ◌-◌, ◌<◌}
use native.Mathlib.Omega.{arith}
use lib.ListN.{length, take, drop}
use borrow.Author.Tests.{le-leb, leb-true, lt-leb, leb-false}
use Rattle.part.specs.Part.{part}
use Rattle.part.specs.declared.Part.{Part}
use Rattle.part.proofs.PartLaws.{part_empty, lent_part}
use Rattle.record.specs.Record.{is_within, part_start, part_length, part_of, record_of}
use native.Mathlib.Nat.{add_comm}
use lib.Dec.{leb}

module _ (file : List ℕ) (offset n : ℕ) where
  -- ---- the test

  pub within⁻¹ : is_within file offset n ≡ true → offset + n ≤ length file
  unfolding is_within
  within⁻¹ e = leb-true (offset + n) (length file) e

  pub within_of : offset + n ≤ length file → is_within file offset n ≡ true
  unfolding is_within
  within_of h = le-leb (offset + n) (length file) h

  -- an offset past the end is not within
  pub not_within : length file < offset → is_within file offset n ≡ false
  unfolding is_within
  not_within h = lt-leb (offset + n) (length file) (omega arith)

  -- the test on bounded numbers, where the offset is not past the end
  pub within_left : offset ≤ length file → leb n (length file - offset) ≡ is_within file offset n
  unfolding is_within
  within_left h = go (leb n (length file - offset)) refl
    where
      go : (b : Bool) → leb n (length file - offset) ≡ b → b ≡ leb (offset + n) (length file)
      go true e = let few = leb-true n (length file - offset) e in sym (le-leb (offset + n) (length file) (omega arith))
      go false e = let many = leb-false n (length file - offset) e in sym (lt-leb (offset + n) (length file) (omega arith))

  -- ---- the part

  -- a part that lies within is what is handed back
  pub record_within : is_within file offset n ≡ true → record_of file offset n ≡ part file offset n
  unfolding record_of part_start part_length
  record_within e = rw e

  -- and one that doesn't is empty
  pub record_outside : is_within file offset n ≡ false → record_of file offset n ≡ []
  unfolding record_of part_start part_length
  record_outside e = rw e (part_empty file 0)

  -- ---- the part that the code hands back

  -- the test says which one
  abbrev picked : Bool → Part
  picked b = record { offset = cond b offset 0; length = cond b n 0 }

  pub part_picked : (b : Bool) → b ≡ is_within file offset n → picked b ≡ part_of file offset n
  unfolding part_of part_start part_length
  part_picked b e = ap picked e

  -- it lies within the file
  fits : part_start file offset n + part_length file offset n ≤ length file
  unfolding part_start part_length
  fits = go (is_within file offset n) refl
    where
      go : (b : Bool) → is_within file offset n ≡ b → cond b offset 0 + cond b n 0 ≤ length file
      go true e = within⁻¹ e
      go false e = omega arith

  module _ (p : Part) (is : p ≡ part_of file offset n) where
    pub part_fits : p.offset + p.length ≤ length file
    unfolding part_of
    part_fits = subst (λ (q : Part). q.offset + q.length ≤ length file) (sym is) fits

    -- its bytes, as they are lent
    pub part_lent : take (p.offset + p.length - p.offset) (drop p.offset file) ≡ record_of file offset n
    unfolding part_of record_of
    part_lent = lent_part file p.offset p.length ∙ ap (λ (q : Part). part file q.offset q.length) is

    -- where it begins, from the pointer to the file
    pub part_place : (file-at : ℕ × ℕ) → ◌≡◌ {A = ℕ × ℕ} (file-at.0, p.offset + file-at.1) (file-at.0, file-at.1 + part_start file offset n)
    unfolding part_of
    part_place file-at = ap (λ (k : ℕ). (file-at.0, k)) (add_comm p.offset file-at.1 ∙ ap (λ (q : Part). file-at.1 + q.offset) is)
