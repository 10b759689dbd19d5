-- Importing is as claimed.
-- Assumes nothing.
use mathlib.Core.Path.{◌≡◌, refl, sym, ap, ◌∙◌, subst}
use mathlib.Core.Logic.{◌≢◌}
use mathlib.Core.Bool.{Bool, true, false, true≢false}
use mathlib.Core.List.{List, map}
use Prim.Native.Nat.{ℕ, ◌+◌, ◌%◌}
use native.Mathlib.Omega.{arith}
use lib.Dec.{eqb, leb}
use lib.ListN.{length}
use borrow.Author.Tests.{leb-true, le-leb, eqb-true, eq-eqb}
use Rattle.lists.specs.Groups.{groups}
use Rattle.lists.proofs.ListsLaws.{both, both⁻¹}
use Rattle.output_list.proofs.OutputListLaws.{take-padded}
use Rattle.outcome.specs.Outcome.{Outcome, answer, refused, number_of, place_of, count_of, list_of}
use Rattle.outcome.proofs.OutcomeLaws.{kept, broken, bind_answer, bind_refused}
use Rattle.layout.specs.Blocks.{records_bytes}
use Rattle.written.specs.declared.Written.{Written}
use Rattle.written.specs.Written.{written_answer, written_output}
use Rattle.sorting.specs.Sorting.{sorted}
use Rattle.sorting.proofs.SortedLaws.{rising-sorted, sorted_permutation}
use Rattle.sim.specs.Adn.{record_of}
use Rattle.sim_import.specs.Import.{is_dump, occupied, imported_all, import_of}
use Rattle.theorems_check.proofs.SortedLaws.{rising⇒Sorted}
use Rattle.theorems_import.specs.ImportedByRules.{IsDump, AllFine, Fits, ImportedByRules}
use Rattle.theorems_import.specs.ImportedByRules.{Ends, no_dump, no_name, long_number, too_long, done}
use Rattle.theorems_import.proofs.NameTheorems.{untrue}
use Rattle.theorems_import.proofs.JudgeLaws.{Judged, all_fine, first_nameless, first_long, judge, fine⇒answer, nameless⇒33, long⇒34}

-- ---- the tests

dump⇒IsDump : (x : ℕ) (dump : List ℕ) → is_dump x dump ≡ true → IsDump x dump
unfolding is_dump IsDump
dump⇒IsDump x dump e =
    let p = both⁻¹ (leb x 241) (eqb (length dump % (x + 14)) 0) e in
    (leb-true x 241 p.0, eqb-true (length dump % (x + 14)) 0 p.1)

IsDump⇒dump : (x : ℕ) (dump : List ℕ) → IsDump x dump → is_dump x dump ≡ true
unfolding is_dump IsDump
IsDump⇒dump x dump d = both _ _ (le-leb x 241 d.0) (eq-eqb (length dump % (x + 14)) 0 d.1)

module _ (dump : List ℕ) (x room : ℕ) where
  abbrev adns : List (List ℕ)
  adns = groups (x + 14) dump

  abbrev records : List (List ℕ)
  records = sorted (map (record_of x) (occupied x dump))

  -- ---- what importing gives for each reason

  at_32 : is_dump x dump ≡ false → import_of dump x room ≡ refused 32 0
  unfolding import_of
  at_32 e = broken (is_dump x dump) 32 0 _ e

  at_record : (n : ℕ) → IsDump x dump → imported_all x (occupied x dump) ≡ refused n 0 → import_of dump x room ≡ refused n 0
  unfolding import_of
  at_record n d e = kept (is_dump x dump) 32 0 _ (IsDump⇒dump x dump d) ∙ bind_refused (imported_all x (occupied x dump)) _ n 0 e

  at_31 : IsDump x dump → AllFine x adns → leb (length (records_bytes records)) room ≡ false → import_of dump x room ≡ refused 31 0
  unfolding import_of occupied
  at_31 d all e =
      kept (is_dump x dump) 32 0 _ (IsDump⇒dump x dump d)
      ∙ bind_answer (imported_all x (occupied x dump)) _ (map (record_of x) (occupied x dump)) (fine⇒answer x adns all)
      ∙ broken (leb (length (records_bytes records)) room) 31 0 _ e

  at_0 : IsDump x dump → AllFine x adns → leb (length (records_bytes records)) room ≡ true → import_of dump x room ≡ answer (records_bytes records)
  unfolding import_of occupied
  at_0 d all e =
      kept (is_dump x dump) 32 0 _ (IsDump⇒dump x dump d)
      ∙ bind_answer (imported_all x (occupied x dump)) _ (map (record_of x) (occupied x dump)) (fine⇒answer x adns all)
      ∙ kept (leb (length (records_bytes records)) room) 31 0 _ e

  fits⇒Fits : leb (length (records_bytes records)) room ≡ true → Fits dump x room
  unfolding Fits
  fits⇒Fits e = omega (arith, leb-true (length (records_bytes records)) room e)

  Fits⇒fits : Fits dump x room → leb (length (records_bytes records)) room ≡ true
  unfolding Fits
  Fits⇒fits f = le-leb (length (records_bytes records)) room (omega (arith, f))

  -- ---- the answer and the output

  -- answer and output of this outcome are as claimed
  abbrev AsClaimed : Outcome (List ℕ) → Type 0
  AsClaimed o = ImportedByRules dump x room (written_answer o) (written_output room o)

  refused_claimed : (n : ℕ) → n ≢ 0 → Ends dump x room n → AsClaimed (refused n 0)
  unfolding written_answer written_output number_of place_of count_of list_of
  refused_claimed n some ends = record { ends = ends; place = refl; refused = λ _. (refl, refl); given = λ z. absurd (some z) }

  done_claimed : IsDump x dump → AllFine x adns → Fits dump x room → AsClaimed (answer (records_bytes records))
  unfolding written_answer written_output number_of place_of count_of list_of
  done_claimed d all f =
      record {
        ends = done d all f;
        place = refl;
        refused = λ some. absurd (some refl);
        given = λ z. (
          records,
          record { rises = rising⇒Sorted records (rising-sorted given); each = sorted_permutation given },
          record { length_is = refl; output_is = refl; front_is = take-padded room (records_bytes records) },
        );
      }
    where
      given : List (List ℕ)
      given = map (record_of x) (occupied x dump)

  import_claimed : AsClaimed (import_of dump x room)
  unfolding occupied
  import_claimed = dumped (is_dump x dump) refl
    where
      refuse : (n : ℕ) → n ≢ 0 → import_of dump x room ≡ refused n 0 → Ends dump x room n → AsClaimed (import_of dump x room)
      refuse n some e ends = subst AsClaimed (sym e) (refused_claimed n some ends)

      fit : IsDump x dump → AllFine x adns → (b : Bool) → leb (length (records_bytes records)) room ≡ b → AsClaimed (import_of dump x room)
      fit d all true e = subst AsClaimed (sym (at_0 d all e)) (done_claimed d all (fits⇒Fits e))
      fit d all false e =
          refuse 31 (λ z. omega arith) (at_31 d all e)
          (too_long d all (λ f. true≢false (sym (Fits⇒fits f) ∙ e)))

      judged : IsDump x dump → Judged x adns → AsClaimed (import_of dump x room)
      judged d (all_fine all) = fit d all (leb (length (records_bytes records)) room) refl
      judged d (first_nameless w) = refuse 33 (λ z. omega arith) (at_record 33 d (nameless⇒33 x adns w)) (no_name d w)
      judged d (first_long w) = refuse 34 (λ z. omega arith) (at_record 34 d (long⇒34 x adns w)) (long_number d w)

      dumped : (b : Bool) → is_dump x dump ≡ b → AsClaimed (import_of dump x room)
      dumped true e = judged (dump⇒IsDump x dump e) (judge x adns)
      dumped false e = refuse 32 (λ z. omega arith) (at_32 e) (no_dump (λ d. true≢false (sym (IsDump⇒dump x dump d) ∙ e)))

  -- of an answer and an output that are the import's
  pub import_by_rules : (r : Written) (output : List ℕ) → r ≡ written_answer (import_of dump x room) → output ≡ written_output room (import_of dump x room)
      → ImportedByRules dump x room r output
  import_by_rules r output told held = rw (told, held) import_claimed

  -- a reason decides the number
  pub ends_number : (n : ℕ) → Ends dump x room n → number_of (import_of dump x room) ≡ n
  unfolding number_of occupied
  ends_number n (no_dump f) = ap number_of (at_32 (untrue (is_dump x dump) (λ e. f (dump⇒IsDump x dump e))))
  ends_number n (no_name d w) = ap number_of (at_record 33 d (nameless⇒33 x adns w))
  ends_number n (long_number d w) = ap number_of (at_record 34 d (long⇒34 x adns w))
  ends_number n (too_long d all f) = ap number_of (at_31 d all (untrue (leb (length (records_bytes records)) room) (λ e. f (fits⇒Fits e))))
  ends_number n (done d all f) = ap number_of (at_0 d all (Fits⇒fits f))
