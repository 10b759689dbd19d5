-- The differences of two accepted files are exactly the byte strings with more copies in one of them, and each can be handed back.
-- Assumes nothing.
use mathlib.Core.Path.{◌≡◌, refl, sym, ap, ◌∙◌, subst}
use mathlib.Core.Bool.{Bool, true, false}
use mathlib.Core.List.Memᴰ
use mathlib.Core.List.{List, [], ◌∷◌, map}
use Prim.Native.Nat.{ℕ, zero, suc, ◌+◌, ◌≤◌, ◌<◌}
use native.Mathlib.Omega.{arith}
use borrow.Author.Tests.{eqb-true, eqb-false}
use lib.Dec.{eqb}
use lib.ListN.{length}
use Rattle.part.specs.Part.{part}
use Rattle.record.proofs.RecordLaws.{within_of}
use Rattle.header.specs.Header.{header_numbers, blocks_from}
use Rattle.header.proofs.HeaderLaws.{blocks_within}
use Rattle.payload.specs.Payload.{Text}
use Rattle.block.specs.Block.{Block}
use Rattle.block.specs.Survey.{records_of}
use Rattle.block.proofs.TileLaws.{file_records_all}
use Rattle.theorems_check.proofs.AcceptLaws.{Accepted}
use Rattle.theorems_check.proofs.RecordsSorted.{accepted_rising}
use Rattle.theorems_read.proofs.ReadTheorems.{record_bytes}
use Rattle.differences.specs.Differences.{strings, copies, first_copy, differing, difference_of, differences}
use Rattle.differences.proofs.CopyLaws.{first_copy_lem, first_lowest}
use Rattle.differences.proofs.DifferingLaws.{differing_strict, differing_member, member_differing, differing_none}
use Rattle.differences.proofs.SumLaws.{sum_differences}
use Rattle.byte_string.specs.Rising.{Strict}
use Rattle.shown.specs.Shown.{file_named, names_part, part_shown, shown_bytes}
use Rattle.shown.proofs.ShownLaws.{names-first, names_second, named_place, first_file, second_file}
use Rattle.theorems_compare.specs.ComparedByRules.{FirstCopy, IsDifference, AreDifferences}

-- ---- one file

module _ (file : List ℕ) (bs : List Block) (a : Accepted file bs) (x : List ℕ) (some : 0 < copies (records_of bs) x) where
  -- the offset of the first copy is that of a record, and the lowest
  pub first-copies : FirstCopy (records_of bs) x (first_copy (records_of bs) x)
  unfolding FirstCopy
  first-copies = (
    first_copy_lem (records_of bs) x some,
    first_lowest (records_of bs) x
        (file_records_all file (blocks_from (header_numbers file)) bs a.blocks (blocks_within file (header_numbers file) a.header)),
  )

  -- and the bytes there are those
  pub first_bytes : (first_copy (records_of bs) x + length x ≤ length file) × (part file (first_copy (records_of bs) x) (length x) ≡ x)
  first_bytes =
      let (r, member, bytes, at) = first_copy_lem (records_of bs) x some in
      let stands = record_bytes file (header_numbers file) bs a.header a.blocks r member in
      subst (λ (b : List ℕ). (first_copy (records_of bs) x + length b ≤ length file) × (part file (first_copy (records_of bs) x) (length b) ≡ b)) bytes
      (subst (λ (n : ℕ). (n + length r.bytes ≤ length file) × (part file n (length r.bytes) ≡ r.bytes)) at stands)

-- ---- both files

positive : (n : ℕ) → (n ≡ 0 → ⊥) → 0 < n
positive zero h = absurd (h refl)
positive (suc n) h = omega arith

bytes_is : (xs ys : List Text) (x : List ℕ) → (difference_of xs ys x).bytes ≡ x
unfolding difference_of
bytes_is xs ys x = refl

-- the bytes of differences are the byte strings that they were made of
bytes_of : (xs ys : List Text) (l : List (List ℕ)) → map (λ d. d.bytes) (map (difference_of xs ys) l) ≡ l
unfolding difference_of
bytes_of xs ys [] = refl
bytes_of xs ys (x ∷ l) = ap (λ (m : List (List ℕ)). x ∷ m) (bytes_of xs ys l)

module _ (first second : List ℕ) (xs ys : List Block) (a : Accepted first xs) (b : Accepted second ys) where
  -- a part that is named and has these bytes
  handed_back : (which offset : ℕ) (x : List ℕ) → names_part first second which offset (length x) ≡ true → part (file_named first second which) offset (length x) ≡ x
      → shown_bytes first second (part_shown first second which offset (length x)) ≡ x
  unfolding shown_bytes
  handed_back which offset x named bytes = ap (shown_bytes first second) (named_place first second which offset (length x) named) ∙ bytes

  is_difference : (x : List ℕ) → (copies (records_of xs) x ≡ copies (records_of ys) x → ⊥)
      → IsDifference first second (records_of xs) (records_of ys) (difference_of (records_of xs) (records_of ys) x)
  unfolding difference_of
  is_difference x differ = go (eqb (copies (records_of xs) x) 0) refl
    where
      go : (b : Bool) → eqb (copies (records_of xs) x) 0 ≡ b
          → IsDifference first second (records_of xs) (records_of ys) (difference_of (records_of xs) (records_of ys) x)
      go true e =
          let none = eqb-true (copies (records_of xs) x) 0 e in
          let some : 0 < copies (records_of ys) x = positive (copies (records_of ys) x) (λ z. differ (none ∙ sym z)) in
          let bytes = first_bytes second ys b x some in
          let named = names_second first second 2 (first_copy (records_of ys) x) (length x) refl ∙ within_of second (first_copy (records_of ys) x) (length x) bytes.0 in
          rw e (record {
            copies-first = refl;
            copies_second = refl;
            differ = differ;
            from_first = λ h. absurd (omega arith);
            from_second = λ z. (refl, first-copies second ys b x some);
            placed = named_place first second 2 (first_copy (records_of ys) x) (length x) named;
            handed =
                handed_back 2 (first_copy (records_of ys) x) x named
                (ap (λ (l : List ℕ). part l (first_copy (records_of ys) x) (length x)) (second_file first second 2 refl) ∙ bytes.1);
          })
      go false e =
          let some : 0 < copies (records_of xs) x = positive (copies (records_of xs) x) (eqb-false (copies (records_of xs) x) 0 e) in
          let bytes = first_bytes first xs a x some in
          let named = names-first first second 1 (first_copy (records_of xs) x) (length x) refl ∙ within_of first (first_copy (records_of xs) x) (length x) bytes.0 in
          rw e (record {
            copies-first = refl;
            copies_second = refl;
            differ = differ;
            from_first = λ h. (refl, first-copies first xs a x some);
            from_second = λ z. absurd (omega arith);
            placed = named_place first second 1 (first_copy (records_of xs) x) (length x) named;
            handed =
                handed_back 1 (first_copy (records_of xs) x) x named
                (ap (λ (l : List ℕ). part l (first_copy (records_of xs) x) (length x)) (first_file first second 1 (λ z. omega arith)) ∙ bytes.1);
          })

  -- the differences as they are defined are all of them
  pub differences_are : AreDifferences first second (records_of xs) (records_of ys) (differences (records_of xs) (records_of ys))
  unfolding differences strings
  differences_are =
      let rs = records_of xs in
      let qs = records_of ys in
      record {
        rising = subst Strict (sym (bytes_of rs qs (differing rs qs))) (differing_strict rs qs);
        only = λ d m.
            let (x, member, is) = Memᴰ.of_map (difference_of rs qs) (differing rs qs) m in
            subst (IsDifference first second rs qs) is (is_difference x (differing_member rs qs x member));
        every = λ x differ. (difference_of rs qs x, Memᴰ.map (difference_of rs qs) (member_differing rs qs x differ), bytes_is rs qs x);
        added = sum_differences rs qs (accepted_rising first xs a) (accepted_rising second ys b);
      }

-- files with the same byte strings have no differences, whatever their blocks
pub same_records_no_differences : (xs ys : List Text) → strings xs ≡ strings ys → differences xs ys ≡ []
unfolding differences
same_records_no_differences xs ys e = ap (map (difference_of xs ys)) (differing_none xs ys e)
