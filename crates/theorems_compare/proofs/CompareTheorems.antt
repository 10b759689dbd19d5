-- What is answered for two files, from what the checks say of them and from their differences.
-- Assumes nothing.
use mathlib.Core.Path.{◌≡◌, refl, sym, ap, ◌∙◌}
use mathlib.Core.List.{List}
use Prim.Native.Nat.{ℕ, ◌≤◌}
use lib.IntN.{pos}
use lib.ListN.{length}
use Rattle.outcome.specs.Outcome.{Outcome, answer, refused}
use Rattle.block.specs.Block.{Block}
use Rattle.block.specs.Survey.{ordinary, records_of}
use Rattle.checker.specs.Check.{accept_of, check_of}
use Rattle.theorems_check.proofs.AcceptLaws.{accepted⇒Accepted, accepted⇒Rules, check⇒Accepted, Accepted⇒accepted}
use Rattle.theorems_check.proofs.PlacesLaws.{check_accepts, check_not_0}
use Rattle.differences.specs.Differences.{differences}
use Rattle.comparer.specs.declared.Compared.{Compared}
use Rattle.comparer.specs.Compare.{compare_answer, compare_list}
use Rattle.comparer.proofs.CompareLaws.{compare_refused_first, compare_refused_second, compare_short, compare_listed}
use Rattle.theorems_compare.specs.ComparedByRules.{Refuses, Lists, ComparedByRules}
use Rattle.theorems_compare.proofs.DifferenceTheorems.{differences_are}

module _ (first second : List ℕ) (places room : ℕ) (r : Compared) (list : List ℕ) (told : r ≡ compare_answer first second places room)
    (held : list ≡ compare_list first second places room) where
  module _ (xs ys : List Block) (e : check_of first places ≡ answer xs) (f : check_of second places ≡ answer ys) where
    -- 35 exactly if the list has fewer than five places for each difference
    pub compare_lists : Lists room (differences (records_of xs) (records_of ys)) r list
    unfolding Refuses
    compare_lists = record {
      fits = λ h.
          let a = compare_listed first second places room xs e ys f (differences (records_of xs) (records_of ys)) refl h in
          (told ∙ sym a.0, held ∙ sym a.1);
      too_short = λ h.
          let a = compare_short first second places room xs e ys f (differences (records_of xs) (records_of ys)) refl h in
          (told ∙ sym a.0, held ∙ sym a.1);
    }

  -- number 0 means that both files are accepted
  both_accepted : r.number ≡ 0
      → (xs : List Block) × (ys : List Block) × (accept_of first ≡ answer xs) × (length (ordinary xs) ≤ places) × (accept_of second ≡ answer ys)
      × (length (ordinary ys) ≤ places)
  both_accepted z = go (check_of first places) refl (check_of second places) refl
    where
      numbered : (n p w : ℕ) → r ≡ record { number = n; place = p; which = w; differences = 0; sum = pos 0 } → n ≡ 0
      numbered n p w e = sym (ap (λ (a : Compared). a.number) e) ∙ z

      go : (o : Outcome (List Block)) → check_of first places ≡ o → (q : Outcome (List Block)) → check_of second places ≡ q
          → (xs : List Block) × (ys : List Block) × (accept_of first ≡ answer xs) × (length (ordinary xs) ≤ places) × (accept_of second ≡ answer ys)
          × (length (ordinary ys) ≤ places)
      go (refused n p) e q f = absurd ((check_not_0 first places).among n p e (numbered n p 1 (told ∙ sym (compare_refused_first first second places room n p e).0)))
      go (answer xs) e (refused n p) f =
          absurd ((check_not_0 second places).among n p f (numbered n p 2 (told ∙ sym (compare_refused_second first second places room xs e n p f).0)))
      go (answer xs) e (answer ys) f =
          let a = check⇒Accepted first places xs e in
          let b = check⇒Accepted second places ys f in
          (xs, ys, Accepted⇒accepted first xs a.0, a.1, Accepted⇒accepted second ys b.0, b.1)

  pub compare_by_rules : ComparedByRules first second places room r list
  unfolding Refuses
  compare_by_rules = record {
    refused_first = λ number place e.
        let a = compare_refused_first first second places room number place e in
        (told ∙ sym a.0, held ∙ sym a.1);
    refused_second = λ xs number place e f.
        let a = compare_refused_second first second places room xs e number place f in
        (told ∙ sym a.0, held ∙ sym a.1);
    only = both_accepted;
    compared = λ xs ys a few b few₂. (
      differences (records_of xs) (records_of ys),
      differences_are first second xs ys (accepted⇒Accepted first xs a) (accepted⇒Accepted second ys b),
      compare_lists xs ys ((check_accepts first places xs few).1 (accepted⇒Rules first xs a)) ((check_accepts second places ys few₂).1 (accepted⇒Rules second ys b)),
    );
  }
