-- Theorems about the check, over the definitions that the contract of `check` cites.
-- Assumes nothing.
use mathlib.Core.Path.{◌≡◌, refl, sym, ap, ◌∙◌, subst}
use mathlib.Core.Logic.{◌↔◌, ◌≢◌}
use mathlib.Core.List.{List}
use Prim.Native.Nat.{ℕ, ◌≤◌, ◌<◌}
use native.Mathlib.Omega.{arith}
use lib.ListN.{length}
use Rattle.outcome.specs.Outcome.{Outcome, answer, refused}
use Rattle.block.specs.Block.{Block}
use Rattle.block.specs.Survey.{ordinary, records_of}
use Rattle.checker.specs.declared.Checked.{Checked}
use Rattle.checker.specs.Check.{check_of, check_answer}
use Rattle.checker.proofs.CheckLaws.{answer_of_refusal, answer_of_blocks}
use Rattle.header.specs.Header.{header_numbers}
use Rattle.theorems_check.specs.Rules.{Rules}
use Rattle.theorems_check.specs.CheckedByRules.{AcceptedWith, CheckedByRules}
use Rattle.theorems_check.proofs.AcceptLaws.{Accepted⇒Rules, Rules⇒Accepted, Accepted⇒Reached, Accepted⇒accepted, check⇒Accepted}
use Rattle.theorems_check.proofs.PlacesLaws.{check_accepts, check_not_0, TooFew, TooFew⇒18, 18⇒TooFew}

module _ (file : List ℕ) (places : ℕ) where
  -- ---- demand 1: the answer, for all inputs

  -- after a refusal its number and place are reported, and nothing is counted
  pub check_refusal : (number place : ℕ) → check_of file places ≡ refused number place → check_answer (check_of file places) ≡ record { number = number; place = place; blocks = 0; records = 0 }
  check_refusal number place e = answer_of_refusal (check_of file places) number place e

  -- without one number and place are 0, and the ordinary blocks and the records are counted
  pub check_answer_lem : (bs : List Block) → check_of file places ≡ answer bs
      → check_answer (check_of file places) ≡ record { number = 0; place = 0; blocks = length (ordinary bs); records = length (records_of bs) }
  check_answer_lem bs e = answer_of_blocks (check_of file places) bs e

  refused_number : (number place : ℕ) → check_of file places ≡ refused number place → (check_answer (check_of file places)).number ≡ number
  refused_number number place e = ap (λ (a : Checked). a.number) (check_refusal number place e)

  answered_number : (bs : List Block) → check_of file places ≡ answer bs → (check_answer (check_of file places)).number ≡ 0
  answered_number bs e = ap (λ (a : Checked). a.number) (check_answer_lem bs e)

  -- the number 0 says that there is no refusal
  pub number_0⇒answer : (check_answer (check_of file places)).number ≡ 0 → (bs : List Block) × (check_of file places ≡ answer bs)
  number_0⇒answer z = go (check_of file places) refl
    where
      go : (o : Outcome (List Block)) → check_of file places ≡ o → (bs : List Block) × (check_of file places ≡ answer bs)
      go (answer bs) e = (bs, e)
      go (refused n p) e = absurd ((check_not_0 file places).among n p e (sym (refused_number n p e) ∙ z))

  -- and any other number that there is one, so the answer says which
  pub number_some⇒refused : (check_answer (check_of file places)).number ≢ 0
      → check_of file places ≡ refused (check_answer (check_of file places)).number (check_answer (check_of file places)).place
  number_some⇒refused some = go (check_of file places) refl
    where
      go : (o : Outcome (List Block)) → check_of file places ≡ o → check_of file places ≡ refused (check_answer (check_of file places)).number (check_answer (check_of file places)).place
      go (answer bs) e = absurd (some (answered_number bs e))
      go (refused n p) e = subst (λ (a : Checked). check_of file places ≡ refused a.number a.place) (sym (check_refusal n p e)) e

  -- after a refusal nothing is counted
  pub number_some⇒counts_0 : (check_answer (check_of file places)).number ≢ 0 → ((check_answer (check_of file places)).blocks ≡ 0) × ((check_answer (check_of file places)).records ≡ 0)
  number_some⇒counts_0 some =
      let e = check_refusal _ _ (number_some⇒refused some) in
      (ap (λ (a : Checked). a.blocks) e, ap (λ (a : Checked). a.records) e)

  -- without one the place is 0
  pub number_0⇒place_0 : (check_answer (check_of file places)).number ≡ 0 → (check_answer (check_of file places)).place ≡ 0
  number_0⇒place_0 z = let (bs, e) = number_0⇒answer z in ap (λ (a : Checked). a.place) (check_answer_lem bs e)

  -- ---- demand 2, said of the answer

  -- a file that the check accepts keeps the rules, and the counts are those of its blocks
  pub number_0⇒Rules : (check_answer (check_of file places)).number ≡ 0 → (bs : List Block) × AcceptedWith file places (check_answer (check_of file places)) bs
  number_0⇒Rules z =
      let (bs, e) = number_0⇒answer z in
      let a = check⇒Accepted file places bs e in
      (bs, record { accepted = Accepted⇒accepted file bs a.0; rules = Accepted⇒Rules file bs a.0; enough = a.1; counted = check_answer_lem bs e })

  -- a file that keeps the rules is accepted, if there is a place for each ordinary block
  pub Rules⇒number_0 : (bs : List Block) → Rules file bs → length (ordinary bs) ≤ places → (check_answer (check_of file places)).number ≡ 0
  Rules⇒number_0 bs r enough = answered_number bs ((check_accepts file places bs enough).1 r)

  -- 18 exactly where nothing before applies and the places are too few
  pub number_18 : ((check_answer (check_of file places)).number ≡ 18) ↔ TooFew file places
  number_18 = (
    λ e. 18⇒TooFew file places _ (subst (λ (n : ℕ). check_of file places ≡ refused n (check_answer (check_of file places)).place) e (number_some⇒refused (λ z. let both = sym e ∙ z in omega arith))),
    λ t. refused_number 18 0 (TooFew⇒18 file places t),
  )

  -- a file that keeps the rules and has more ordinary blocks than places
  pub Rules⇒number_18 : (bs : List Block) → Rules file bs → places < length (ordinary bs) → (check_answer (check_of file places)).number ≡ 18
  Rules⇒number_18 bs r few =
      let a = Rules⇒Accepted file bs r in
      number_18.1 (record { header = header_numbers file; blocks = bs; reached = Accepted⇒Reached file bs a; few = few })

  -- so the rules decide the answer
  pub check_by_rules : (r : Checked) → r ≡ check_answer (check_of file places) → CheckedByRules file places r
  check_by_rules r told = rw told (record { only = number_0⇒Rules; every = λ bs k enough. Rules⇒number_0 bs k (omega arith); too_few = λ bs k few. Rules⇒number_18 bs k (omega arith) })

-- with places enough for the ordinary blocks of whatever keeps the rules, the number is 0 exactly where something does
pub number_0_exactly : (file : List ℕ) (places : ℕ) → ((bs : List Block) → Rules file bs → length (ordinary bs) ≤ places)
    → ((check_answer (check_of file places)).number ≡ 0) ↔ ((bs : List Block) × Rules file bs)
number_0_exactly file places enough = (
  λ z. let (bs, a) = number_0⇒Rules file places z in (bs, a.rules),
  λ p. Rules⇒number_0 file places p.0 p.1 (enough p.0 p.1),
)
