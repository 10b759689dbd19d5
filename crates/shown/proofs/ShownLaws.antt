-- Laws of a part of one of two files.
-- Assumes nothing.
use mathlib.Core.Path.{◌≡◌, refl, sym, subst, ap, ◌∙◌}
use mathlib.Core.Bool.{Bool, true, false, ◌||◌, cond}
use mathlib.Core.List.{List}
use Prim.Native.Nat.{ℕ, ◌+◌, ◌≤◌, ◌<◌}
use native.Mathlib.Omega.{arith}
use borrow.Author.Tests.{eq-eqb, ne_eqb}
use lib.Dec.{eqb}
use lib.ListN.{length}
use Rattle.lists.proofs.ListsLaws.{both⁻¹}
use Rattle.part.specs.Part.{part}
use Rattle.record.specs.Record.{is_within}
use Rattle.record.proofs.RecordLaws.{within⁻¹}
use Rattle.shown.specs.declared.place.Shown.{Shown}
use Rattle.std.proofs.Common.{nat_eq, Result, Ok, Err}
use Rattle.std.proofs.lemmas.Bool.Decides.{nat_tests}
use Rattle.part.specs.declared.Part.{Part}
use Rattle.shown.specs.declared.place.Which.{Which}
use Rattle.shown.specs.declared.place.Which.TheVariants.{First, Second}
use Rattle.shown.specs.Which.{number, file_of, which_of, place_of}
use Rattle.shown.specs.Shown.{file_named, names_part, part_shown, shown_bytes}

-- ---- the numbers of the files

number_of_which : (n : ℕ) (w : Which) → which_of n ≡ Ok w → n ≡ number w
unfolding which_of number
number_of_which n w e = go (nat_eq n 1) (nat_eq n 2) refl refl w e
  where
    Found : Type 0
    Found = Result Which (Unit {0})

    go : (a b : Bool) → nat_eq n 1 ≡ a → nat_eq n 2 ≡ b → (w : Which) → ◌≡◌ {A = Found} (cond a (Ok First) (cond b (Ok Second) (Err (tt {0})))) (Ok w) → n ≡ number w
    go true b p q First e = grind (arith, nat_tests)
    go true b p q Second e = cc
    go false true p q First e = cc
    go false true p q Second e = grind (arith, nat_tests)
    go false false p q w e = cc

no_which : (n : ℕ) → which_of n ≡ Err tt → (n ≡ 1 → ⊥) × (n ≡ 2 → ⊥)
unfolding which_of
no_which n e = (λ h. cc (rw h at e), λ h. cc (rw h at e))

module _ (first second : List ℕ) where
  -- ---- the file of a part

  pub first_file : (which : ℕ) → (which ≡ 2 → ⊥) → file_named first second which ≡ first
  unfolding file_named
  first_file which h = rw (ne_eqb which 2 h)

  pub second_file : (which : ℕ) → which ≡ 2 → file_named first second which ≡ second
  unfolding file_named
  second_file which h = rw (eq-eqb which 2 h)

  module _ (which offset n : ℕ) where
    -- ---- whether a part is named

    pub names-first : which ≡ 1 → names_part first second which offset n ≡ is_within first offset n
    unfolding names_part file_named
    names-first h = rw h

    pub names_second : which ≡ 2 → names_part first second which offset n ≡ is_within second offset n
    unfolding names_part file_named
    names_second h = rw h

    pub names_none : (which ≡ 1 → ⊥) → (which ≡ 2 → ⊥) → names_part first second which offset n ≡ false
    unfolding names_part
    names_none h k = rw (ne_eqb which 1 h, ne_eqb which 2 k)

    pub place_if : (named : Bool) (r : Shown) → named ≡ names_part first second which offset n
        → r ≡ cond named (record { which = which; offset = offset; length = n }) (record { which = 1; offset = 0; length = 0 })
        → r ≡ part_shown first second which offset n
    unfolding part_shown
    place_if named r e is =
        is ∙ ap (λ (b : Bool). cond b (record { which = which; offset = offset; length = n }) (record { which = 1; offset = 0; length = 0 })) e

    -- ---- the part

    -- a part that is named lies within its file, and is what is handed back
    module _ (named : names_part first second which offset n ≡ true) where
      pub named_within : offset + n ≤ length (file_named first second which)
      unfolding names_part
      named_within =
          within⁻¹ (file_named first second which) offset n (both⁻¹ (eqb which 1 || eqb which 2) (is_within (file_named first second which) offset n) named).1

      pub named_place : part_shown first second which offset n ≡ record { which = which; offset = offset; length = n }
      unfolding part_shown
      named_place = rw named

  -- ---- the file as one of two

  -- the file with the number of w
  pub file_of_number : (w : Which) → file_named first second (number w) ≡ file_of first second w
  unfolding file_named file_of number
  file_of_number First = refl
  file_of_number Second = refl

  module _ (offset n : ℕ) where
    -- the numbers name a part of w where it lies within
    names_number : (w : Which) → names_part first second (number w) offset n ≡ is_within (file_of first second w) offset n
    unfolding names_part file_named file_of number
    names_number First = refl
    names_number Second = refl

    module _ (which : ℕ) (w : Which) (e : which_of which ≡ Ok w) where
      names_in : names_part first second which offset n ≡ is_within (file_of first second w) offset n
      names_in = rw (number_of_which which w e) (names_number w)

      pub part_inside : is_within (file_of first second w) offset n ≡ true → place_of w (record { offset = offset; length = n }) ≡ part_shown first second which offset n
      unfolding part_shown place_of
      part_inside h = rw (names_in, h, number_of_which which w e)

      pub part_outside : is_within (file_of first second w) offset n ≡ false → place_of First (record { offset = 0; length = 0 }) ≡ part_shown first second which offset n
      unfolding part_shown place_of number
      part_outside h = rw (names_in, h)

    pub part_of_none : (which : ℕ) → which_of which ≡ Err tt → place_of First (record { offset = 0; length = 0 }) ≡ part_shown first second which offset n
    unfolding part_shown place_of number names_part
    part_of_none which e = let h = no_which which e in rw (ne_eqb which 1 h.0, ne_eqb which 2 h.1)

    -- ---- what is handed back

    -- it lies within its file
    fits : (which : ℕ) (b : Bool) → names_part first second which offset n ≡ b
        → (part_shown first second which offset n).offset + (part_shown first second which offset n).length ≤ length (file_named first second (part_shown first second which offset n).which)
    unfolding part_shown
    fits which true e = rw e (named_within which offset n e)
    fits which false e = rw e (omega arith)

    module _ (which : ℕ) (w : Which) (p : Part) (is : place_of w p ≡ part_shown first second which offset n) where
      pub shown_fits : p.offset + p.length ≤ length (file_of first second w)
      unfolding place_of
      shown_fits =
          let P : Shown → Type 0 = λ q. q.offset + q.length ≤ length (file_named first second q.which) in
          rw (file_of_number w) at (subst P (sym is) (fits which (names_part first second which offset n) refl))

      -- and ends below what the lengths of both files are below
      pub shown_below : (limit : ℕ) → length first < limit → length second < limit → p.offset + p.length < limit
      unfolding file_of
      shown_below limit h k = go w shown_fits
        where
          go : (v : Which) → p.offset + p.length ≤ length (file_of first second v) → p.offset + p.length < limit
          go First within = omega arith
          go Second within = omega arith

      -- its bytes
      pub shown_lent : part (file_of first second w) p.offset p.length ≡ shown_bytes first second (part_shown first second which offset n)
      unfolding shown_bytes place_of
      shown_lent = rw (← is, file_of_number w)

      -- where it begins, from the pointers to the files
      pub shown_place : (first-at second_at : ℕ × ℕ) → ◌≡◌ {A = ℕ × ℕ} ((file_of first-at second_at w).0, (file_of first-at second_at w).1 + p.offset)
          (cond (eqb (part_shown first second which offset n).which 2)
          (second_at.0, second_at.1 + (part_shown first second which offset n).offset)
          (first-at.0, first-at.1 + (part_shown first second which offset n).offset))
      unfolding place_of number file_of
      shown_place first-at second_at = rw (← is) (go w)
        where
          go : (v : Which) → ◌≡◌ {A = ℕ × ℕ} ((file_of first-at second_at v).0, (file_of first-at second_at v).1 + p.offset)
              (cond (eqb (number v) 2) (second_at.0, second_at.1 + p.offset) (first-at.0, first-at.1 + p.offset))
          go First = refl
          go Second = refl
