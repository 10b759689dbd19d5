-- A list of records is all fine, or has a first that is wrong; and what importing them gives in either case.
-- Assumes nothing.
use mathlib.Core.Path.{◌≡◌, refl, sym, ap, ◌∙◌, subst}
use mathlib.Core.Logic.{◌⊎◌, inl, inr}
use mathlib.Core.Bool.{Bool, true, false, not, true≢false}
use mathlib.Core.List.Memᴰ
use mathlib.Core.List.{List, [], ◌∷◌, ◌++◌, map, Memᴰ}
use Prim.Native.Nat.{ℕ}
use native.Mathlib.Omega.{arith}
use lib.Dec.{leb}
use lib.ListN.{take}
use borrow.Author.Tests.{leb-true, leb-false, le-leb, lt-leb}
use Rattle.lists.specs.Lists.{keep}
use Rattle.lists.proofs.ListsLaws.{keep_first, keep_later}
use Rattle.outcome.specs.Outcome.{answer, refused}
use Rattle.outcome.proofs.OutcomeLaws.{kept, broken, bind_answer, bind_refused}
use Rattle.sim.specs.Adn.{is_filled, name_of, is_name, number_length, record_of, imported}
use Rattle.sim_import.specs.Import.{not_free, imported_all}
use Rattle.theorems_import.specs.Names.{Filled}
use Rattle.theorems_import.specs.ImportedByRules.{Named, Fine, free, formed, NoName, LongNumber, AllFine, First}
use Rattle.theorems_import.proofs.NameTheorems.{untrue, filled⇒Filled, Filled⇒filled, is_name⇒NameIn, NameIn⇒is_name}

module _ (x : ℕ) where
  -- ---- one record

  is_name⇒Named : (adn : List ℕ) → is_name (take x adn) ≡ true → Named x adn
  unfolding Named
  is_name⇒Named adn e = (name_of (take x adn), is_name⇒NameIn (take x adn) e)

  Named⇒is_name : (adn : List ℕ) → Named x adn → is_name (take x adn) ≡ true
  unfolding Named
  Named⇒is_name adn n = (NameIn⇒is_name (take x adn) n.0 n.1).0

  imported_answer : (adn : List ℕ) → is_name (take x adn) ≡ true → leb (number_length x adn) 11 ≡ true → imported x adn ≡ answer (record_of x adn)
  unfolding imported
  imported_answer adn e l = kept (is_name (take x adn)) 33 0 _ e ∙ kept (leb (number_length x adn) 11) 34 0 _ l

  imported_33 : (adn : List ℕ) → NoName x adn → imported x adn ≡ refused 33 0
  unfolding imported NoName
  imported_33 adn f = broken (is_name (take x adn)) 33 0 _ (untrue (is_name (take x adn)) (λ e. f.1 (is_name⇒Named adn e)))

  imported_34 : (adn : List ℕ) → LongNumber x adn → imported x adn ≡ refused 34 0
  unfolding imported LongNumber
  imported_34 adn f =
      kept (is_name (take x adn)) 33 0 _ (Named⇒is_name adn f.1)
      ∙ broken (leb (number_length x adn) 11) 34 0 _ (lt-leb (number_length x adn) 11 (omega (arith, f.2)))

  data JudgedOne (adn : List ℕ) : Type 0 where
    fine : Fine x adn → JudgedOne adn
    nameless : NoName x adn → JudgedOne adn
    long : LongNumber x adn → JudgedOne adn

  judge_one : (adn : List ℕ) → JudgedOne adn
  unfolding NoName LongNumber
  judge_one adn = go (is_filled adn) refl (is_name (take x adn)) refl (leb (number_length x adn) 11) refl
    where
      occupied : is_filled adn ≡ false → Filled adn → ⊥
      occupied e f = true≢false (sym (Filled⇒filled adn f) ∙ e)

      go : (a : Bool) → is_filled adn ≡ a → (b : Bool) → is_name (take x adn) ≡ b → (c : Bool) → leb (number_length x adn) 11 ≡ c → JudgedOne adn
      go true e b f c g = fine (free (filled⇒Filled adn e))
      go false e false f c g = nameless (occupied e, λ n. true≢false (sym (Named⇒is_name adn n) ∙ f))
      go false e true f true g = fine (formed (is_name⇒Named adn f) (omega (arith, leb-true (number_length x adn) 11 g)))
      go false e true f false g = long (occupied e, is_name⇒Named adn f, omega (arith, leb-false (number_length x adn) 11 g))

  -- ---- a list of records

  pub data Judged (adns : List (List ℕ)) : Type 0 where
    all_fine : AllFine x adns → Judged adns
    first_nameless : First x (NoName x) adns → Judged adns
    first_long : First x (LongNumber x) adns → Judged adns

  none_wrong : AllFine x []
  unfolding AllFine
  none_wrong adn m = absurd (Memᴰ.not-nil m)

  fine_more : (adn : List ℕ) (more : List (List ℕ)) → Fine x adn → AllFine x more → AllFine x (adn ∷ more)
  unfolding AllFine
  fine_more adn more f all other m = go (Memᴰ.cases_cons m)
    where
      go : (other ≡ adn) ⊎ Memᴰ other more → Fine x other
      go (inl e) = subst (Fine x) (sym e) f
      go (inr later) = all other later

  first_here : (Wrong : List ℕ → Type 0) (adn : List ℕ) (more : List (List ℕ)) → Wrong adn → First x Wrong (adn ∷ more)
  first_here Wrong adn more w = record { before = []; adn = adn; after = more; stands = refl; fine = none_wrong; wrong = w }

  first_later : (Wrong : List ℕ → Type 0) (adn : List ℕ) (more : List (List ℕ)) → Fine x adn → First x Wrong more → First x Wrong (adn ∷ more)
  first_later Wrong adn more f first =
      record {
        before = adn ∷ first.before;
        adn = first.adn;
        after = first.after;
        stands = ap (λ (l : List (List ℕ)). adn ∷ l) first.stands;
        fine = fine_more adn first.before f first.fine;
        wrong = first.wrong;
      }

  pub judge : (adns : List (List ℕ)) → Judged adns
  judge [] = all_fine none_wrong
  judge (adn ∷ more) = go (judge_one adn) (judge more)
    where
      go : JudgedOne adn → Judged more → Judged (adn ∷ more)
      go (fine f) (all_fine all) = all_fine (fine_more adn more f all)
      go (fine f) (first_nameless w) = first_nameless (first_later (NoName x) adn more f w)
      go (fine f) (first_long w) = first_long (first_later (LongNumber x) adn more f w)
      go (nameless w) j = first_nameless (first_here (NoName x) adn more w)
      go (long w) j = first_long (first_here (LongNumber x) adn more w)

  -- ---- what importing them gives

  free_skipped : (adn : List ℕ) (more : List (List ℕ)) → is_filled adn ≡ true → not_free (adn ∷ more) ≡ not_free more
  unfolding not_free
  free_skipped adn more e = keep_later (λ a. not (is_filled a)) adn more (ap not e)

  occupied_kept : (adn : List ℕ) (more : List (List ℕ)) → is_filled adn ≡ false → not_free (adn ∷ more) ≡ adn ∷ not_free more
  unfolding not_free
  occupied_kept adn more e = keep_first (λ a. not (is_filled a)) adn more (ap not e)

  refused_here : (adn : List ℕ) (more : List (List ℕ)) (n : ℕ) → imported x adn ≡ refused n 0 → imported_all x (adn ∷ more) ≡ refused n 0
  unfolding imported_all
  refused_here adn more n e = bind_refused (imported x adn) _ n 0 e

  refused_later : (adn : List ℕ) (more : List (List ℕ)) (r : List ℕ) (n : ℕ) → imported x adn ≡ answer r → imported_all x more ≡ refused n 0
      → imported_all x (adn ∷ more) ≡ refused n 0
  unfolding imported_all
  refused_later adn more r n e f = bind_answer (imported x adn) _ r e ∙ bind_refused (imported_all x more) _ n 0 f

  answered : (adn : List ℕ) (more : List (List ℕ)) (r : List ℕ) (rs : List (List ℕ)) → imported x adn ≡ answer r → imported_all x more ≡ answer rs
      → imported_all x (adn ∷ more) ≡ answer (r ∷ rs)
  unfolding imported_all
  answered adn more r rs e f = bind_answer (imported x adn) _ r e ∙ bind_answer (imported_all x more) _ rs f

  -- a fine record that isn't free has an answer
  fine_answer : (adn : List ℕ) → is_filled adn ≡ false → Fine x adn → imported x adn ≡ answer (record_of x adn)
  fine_answer adn e (free f) = absurd (true≢false (sym (Filled⇒filled adn f) ∙ e))
  fine_answer adn e (formed n l) = imported_answer adn (Named⇒is_name adn n) (le-leb (number_length x adn) 11 (omega arith))

  pub fine⇒answer : (adns : List (List ℕ)) → AllFine x adns → imported_all x (not_free adns) ≡ answer (map (record_of x) (not_free adns))
  unfolding AllFine
  fine⇒answer [] all = unfold not_free keep imported_all in refl
  fine⇒answer (adn ∷ more) all = go (is_filled adn) refl (fine⇒answer more (λ a m. all a (Memᴰ.tail m)))
    where
      go : (b : Bool) → is_filled adn ≡ b → imported_all x (not_free more) ≡ answer (map (record_of x) (not_free more))
          → imported_all x (not_free (adn ∷ more)) ≡ answer (map (record_of x) (not_free (adn ∷ more)))
      go true e ih = rw (free_skipped adn more e) ih
      go false e ih =
          rw (occupied_kept adn more e)
          (answered adn (not_free more) (record_of x adn) (map (record_of x) (not_free more)) (fine_answer adn e (all adn (Memᴰ.head refl))) ih)

  -- the first that is wrong decides
  wrong⇒refused : (before : List (List ℕ)) (adn : List ℕ) (after : List (List ℕ)) (n : ℕ) → AllFine x before → (Filled adn → ⊥)
      → imported x adn ≡ refused n 0 → imported_all x (not_free (before ++ (adn ∷ after))) ≡ refused n 0
  unfolding AllFine
  wrong⇒refused [] adn after n all f e =
      ap (imported_all x) (occupied_kept adn after (untrue (is_filled adn) (λ t. f (filled⇒Filled adn t)))) ∙ refused_here adn (not_free after) n e
  wrong⇒refused (b ∷ before) adn after n all f e = go (is_filled b) refl (wrong⇒refused before adn after n (λ a m. all a (Memᴰ.tail m)) f e)
    where
      rest : List (List ℕ)
      rest = before ++ (adn ∷ after)

      go : (t : Bool) → is_filled b ≡ t → imported_all x (not_free rest) ≡ refused n 0 → imported_all x (not_free (b ∷ rest)) ≡ refused n 0
      go true t ih = ap (imported_all x) (free_skipped b rest t) ∙ ih
      go false t ih =
          ap (imported_all x) (occupied_kept b rest t)
          ∙ refused_later b (not_free rest) (record_of x b) n (fine_answer b t (all b (Memᴰ.head refl))) ih

  pub nameless⇒33 : (adns : List (List ℕ)) → First x (NoName x) adns → imported_all x (not_free adns) ≡ refused 33 0
  unfolding NoName
  nameless⇒33 adns first =
      ap (λ (l : List (List ℕ)). imported_all x (not_free l)) first.stands
      ∙ wrong⇒refused first.before first.adn first.after 33 first.fine first.wrong.0 (imported_33 first.adn first.wrong)

  pub long⇒34 : (adns : List (List ℕ)) → First x (LongNumber x) adns → imported_all x (not_free adns) ≡ refused 34 0
  unfolding LongNumber
  long⇒34 adns first =
      ap (λ (l : List (List ℕ)). imported_all x (not_free l)) first.stands
      ∙ wrong⇒refused first.before first.adn first.after 34 first.fine first.wrong.0 (imported_34 first.adn first.wrong)
