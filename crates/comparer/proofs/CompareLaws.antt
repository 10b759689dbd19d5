-- Laws of comparing two files: what is answered after each check, and after the merge.
-- Assumes nothing.
use mathlib.Core.Path.{◌≡◌, refl, sym, ap, ap₂, ◌∙◌}
use mathlib.Core.List.{List, []}
use Prim.Native.Nat.{ℕ, ◌+◌, ◌*◌, ◌/◌, ◌^◌, ◌≤◌, ◌<◌}
use native.Mathlib.Omega.{arith}
use borrow.Author.Tests.{le-leb, lt-leb}
use lib.IntN.{ℤ, pos, ◌-ℤ◌}
use lib.ListN.{length}
use Rattle.output_list.specs.OutputList.{padded, zeros}
use Rattle.output_list.proofs.OutputListLaws.{padded_nil}
use Rattle.outcome.specs.Outcome.{Outcome, answer, refused, number_of, place_of, count_of, list_of}
use Rattle.outcome.proofs.OutcomeLaws.{bind_answer, bind_refused, kept, broken}
use Rattle.header.specs.declared.Header.{Header}
use Rattle.header.specs.Header.{header_of, blocks_from, header_numbers}
use Rattle.header.proofs.HeaderLaws.{is_header}
use Rattle.block.specs.Block.{Block}
use Rattle.block.specs.Laid.{laid_from}
use Rattle.block.specs.Survey.{records_of}
use Rattle.block.proofs.LaidLaws.{blocks⇒laid}
use Rattle.payload.specs.Payload.{Text}
use Rattle.checker.specs.declared.Checked.{Checked}
use Rattle.checker.specs.Check.{check_of, check_answer}
use Rattle.theorems_check.proofs.AcceptLaws.{Accepted, check⇒Accepted}
use Rattle.theorems_check.proofs.CheckTheorems.{number_0⇒answer, number_some⇒refused, check_answer_lem}
use Rattle.theorems_check.proofs.RecordsSorted.{accepted_rising, accepted_few}
use Rattle.differences.specs.Differences.{Difference, strings, differences, numbers_of, room_for, sum_of}
use Rattle.differences.specs.Merge.{merged}
use Rattle.differences.proofs.MergedDifferences.{merged_differences}
use Rattle.differences.proofs.SumLaws.{sum_differences}
use Rattle.cursor.specs.declared.Cursor.{Cursor}
use Rattle.cursor.specs.Cursor.{following}
use Rattle.std.proofs.Common.{Some, Result, Ok, Err}
use Rattle.std.specs.Result.{IsErrAnd}
use Rattle.std.proofs.lemmas.Result.{err_from_is_err_and}
use Rattle.shown.specs.declared.place.Which.TheVariants.{First, Second}
use Rattle.shown.specs.Which.{number}
use Rattle.comparer.specs.declared.Refused.{Refused}
use Rattle.shown.specs.declared.place.Which.{Which}
use Rattle.comparer.specs.Reported.{number_of_file, refused_as, reported, CheckSaid}
use Rattle.comparer.specs.declared.Compared.{Compared}
use Rattle.comparer.specs.Compare.{listed_in, compare_of, refused_file, sum_in, answered, compare_answer, compare_list}
use Rattle.output_list.specs.OutputList.{with_numbers}
use Rattle.output_list.proofs.OutputListLaws.{with_numbers-padded}
use Rattle.comparer.proofs.ListLaws.{length-numbers_of}

-- ---- what is answered

module _ (first second : List ℕ) (places room : ℕ) where
  -- r and the list that it leaves
  abbrev pub Answers : Compared → List ℕ → Type 0
  Answers r list = (r ≡ compare_answer first second places room) × (list ≡ compare_list first second places room)

  -- of an outcome
  by_outcome : (which : ℕ) (o : Outcome (List Difference)) → refused_file (check_of first places) (check_of second places) ≡ which
      → compare_of first second places room ≡ o → Answers (answered which o) (list_of numbers_of room o)
  unfolding compare_answer compare_list
  by_outcome which o e f = (sym (ap₂ answered e f), sym (ap (list_of numbers_of room) f))

  pub compare_refused_first : (number place : ℕ) → check_of first places ≡ refused number place
      → Answers (record { number = number; place = place; which = 1; differences = 0; sum = pos 0 }) (zeros room)
  unfolding compare_of refused_file answered sum_in number_of place_of count_of list_of
  compare_refused_first number place e =
      by_outcome 1 (refused number place) (ap (λ (o : Outcome (List Block)). refused_file o (check_of second places)) e)
      (bind_refused (check_of first places) _ number place e)

  module _ (xs : List Block) (e : check_of first places ≡ answer xs) where
    pub compare_refused_second : (number place : ℕ) → check_of second places ≡ refused number place
        → Answers (record { number = number; place = place; which = 2; differences = 0; sum = pos 0 }) (zeros room)
    unfolding compare_of refused_file answered sum_in number_of place_of count_of list_of
    compare_refused_second number place f =
        by_outcome 2 (refused number place) (ap₂ refused_file e f)
        (bind_answer (check_of first places) _ xs e ∙ bind_refused (check_of second places) _ number place f)

    module _ (ys : List Block) (f : check_of second places ≡ answer ys) where
      both : compare_of first second places room ≡ listed_in room (differences (records_of xs) (records_of ys))
      unfolding compare_of
      both = bind_answer (check_of first places) _ xs e ∙ bind_answer (check_of second places) _ ys f

      none : refused_file (check_of first places) (check_of second places) ≡ 0
      unfolding refused_file
      none = ap₂ refused_file e f

      pub compare_short : (ds : List Difference) → ds ≡ differences (records_of xs) (records_of ys) → room < room_for (length ds)
          → Answers (record { number = 35; place = 0; which = 0; differences = 0; sum = pos 0 }) (zeros room)
      unfolding listed_in answered sum_in number_of place_of count_of list_of
      compare_short ds is few =
          by_outcome 0 (refused 35 0) none
          (both ∙ ap (listed_in room) (sym is) ∙ broken _ 35 0 (answer ds) (lt-leb (room_for (length ds)) room few))

      pub compare_listed : (ds : List Difference) → ds ≡ differences (records_of xs) (records_of ys) → room_for (length ds) ≤ room
          → Answers (record { number = 0; place = 0; which = 0; differences = length ds; sum = sum_of ds }) (padded room (numbers_of ds))
      unfolding listed_in answered sum_in number_of place_of count_of list_of
      compare_listed ds is fits =
          by_outcome 0 (answer ds) none
          (both ∙ ap (listed_in room) (sym is) ∙ kept _ 35 0 (answer ds) (le-leb (room_for (length ds)) room fits))

-- ---- a file that was checked, and a cursor in front of its records

pub record Checks (file : List ℕ) (places count : ℕ) : Type 0 where
  pub blocks : List Block
  pub checked : check_of file places ≡ answer blocks
  pub accepted : Accepted file blocks
  pub counted : count ≡ length (records_of blocks)
  pub few : length (records_of blocks) ≤ 2 ^ 30

pub checks : (file : List ℕ) (places : ℕ) (which : Which) (count : ℕ) → CheckSaid which (Ok count) (check_of file places) → Checks file places count
unfolding CheckSaid
checks file places which count (bs, checked, counted) =
    let accepted = (check⇒Accepted file places bs checked).0 in
    let few = accepted_few file bs accepted in
    let small = (is_header file (header_numbers file) accepted.header).small in
    record { blocks = bs; checked = checked; accepted = accepted; counted = counted; few = omega arith }

-- what the answer of `check` says
pub check_counted : (file : List ℕ) (places : ℕ) (which : Which) (r : Checked) → r ≡ check_answer (check_of file places) → r.number ≡ 0
    → CheckSaid which (Ok r.records) (check_of file places)
unfolding CheckSaid
check_counted file places which r e z =
    let (bs, checked) = number_0⇒answer file places (ap (λ (a : Checked). a.number) (sym e) ∙ z) in
    (bs, checked, ap (λ (a : Checked). a.records) (e ∙ check_answer_lem file places bs checked))

pub check_refused : (file : List ℕ) (places : ℕ) (which : Which) (r : Checked) → r ≡ check_answer (check_of file places) → (r.number ≡ 0 → ⊥)
    → CheckSaid which (Err (record { number = r.number; place = r.place; file = Some which })) (check_of file places)
unfolding CheckSaid
check_refused file places which r e some = (
  number_some⇒refused file places (λ z. some (ap (λ (a : Checked). a.number) e ∙ z))
      ∙ ap (λ (a : Checked). refused a.number a.place) (sym e),
  refl,
)

module _ (file : List ℕ) (places count : ℕ) (k : Checks file places count) (from : ℕ) (begin : (h : Header) → header_of file ≡ answer h → from ≡ blocks_from h)
    (c : Cursor) (at : (f : List ℕ) → following f c ≡ records_of (laid_from f from)) where
  pub follows : following file c ≡ records_of k.blocks
  follows =
      let header = k.accepted.header in
      at file ∙ ap (λ (n : ℕ). records_of (laid_from file n)) (begin (header_numbers file) header)
      ∙ ap records_of (blocks⇒laid file (blocks_from (header_numbers file)) k.blocks k.accepted.blocks)

-- ---- after the merge

module _ (first second : List ℕ) (places room : ℕ) (one two : ℕ) (j : Checks first places one) (k : Checks second places two)
    (xs ys : List Text) (e : xs ≡ records_of j.blocks) (f : ys ≡ records_of k.blocks) where
  -- there are few records
  pub compare_few : length xs + length ys < 2 ^ 32
  compare_few =
      let left = ap length e in
      let right = ap length f in
      let few = j.few in
      let few₂ = k.few in
      omega arith

  found : merged xs ys ≡ differences (records_of j.blocks) (records_of k.blocks)
  unfolding strings
  found =
      ap₂ merged e f
      ∙ merged_differences (records_of j.blocks) (records_of k.blocks) (accepted_rising first j.blocks j.accepted) (accepted_rising second k.blocks k.accepted)

  module _ (count : ℕ) (is : count ≡ length (merged xs ys)) where
    pub merged_short : room / 5 < count
        → Answers first second places room (record { number = 35; place = 0; which = 0; differences = 0; sum = pos 0 }) (zeros room)
    unfolding room_for
    merged_short h = compare_short first second places room j.blocks j.checked k.blocks k.checked (merged xs ys) found (omega arith)

    pub merged-listed : count ≤ room / 5 → (before list : List ℕ) → before ≡ zeros room → list ≡ with_numbers before 0 (numbers_of (merged xs ys))
        → (sum : ℤ) → sum ≡ pos two -ℤ pos one
        → Answers first second places room (record { number = 0; place = 0; which = 0; differences = count; sum = sum }) list
    unfolding room_for strings
    merged-listed h before list cleared put sum added =
        let long = length-numbers_of (merged xs ys) in
        let fits : 5 * length (merged xs ys) ≤ room = omega arith in
        let given = compare_listed first second places room j.blocks j.checked k.blocks k.checked (merged xs ys) found fits in
        let total : sum_of (merged xs ys) ≡ sum =
        ap sum_of found
        ∙ sum_differences (records_of j.blocks) (records_of k.blocks) (accepted_rising first j.blocks j.accepted) (accepted_rising second k.blocks k.accepted)
        ∙ ap₂ (λ (m n : ℕ). pos m -ℤ pos n) (sym k.counted) (sym j.counted) ∙ sym added in (
          ap₂ (λ (n : ℕ) (s : ℤ). record { number = 0; place = 0; which = 0; differences = n; sum = s }) is (sym total) ∙ given.0,
          put ∙ ap (λ (l : List ℕ). with_numbers l 0 (numbers_of (merged xs ys))) (cleared ∙ sym (padded_nil room))
              ∙ with_numbers-padded room [] 0 (numbers_of (merged xs ys)) refl (omega arith) ∙ given.1,
        )

-- ---- what the results say

-- a refusal that is handed on
module _ (first second : List ℕ) (places : ℕ) (r : Result Compared Refused) (e : Refused) (err : IsErrAnd r (λ x. x ≡ e)) (list : List ℕ) where
  -- of the first file
  pub first_handed : CheckSaid First (Err e) (check_of first places)
      → (reported r ≡ compare_answer first second places (length list)) × (zeros (length list) ≡ compare_list first second places (length list))
  unfolding CheckSaid reported refused_as number_of_file number
  first_handed (why, file) =
      let p = err_from_is_err_and r err in
      let told = compare_refused_first first second places (length list) e.number e.place why in
      (rw (p.1, p.2, file) told.0, told.1)

  -- of the second
  pub second_handed : (count : ℕ) → Checks first places count → CheckSaid Second (Err e) (check_of second places)
      → (reported r ≡ compare_answer first second places (length list)) × (zeros (length list) ≡ compare_list first second places (length list))
  unfolding CheckSaid reported refused_as number_of_file number
  second_handed count j (why, file) =
      let p = err_from_is_err_and r err in
      let told = compare_refused_second first second places (length list) j.blocks j.checked e.number e.place why in
      (rw (p.1, p.2, file) told.0, told.1)
