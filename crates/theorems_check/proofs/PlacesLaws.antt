-- The check with a work list: it accepts exactly the files that keep the rules, where there are places enough, and 18 is its
-- answer exactly where there are too few.
-- Assumes nothing.
use mathlib.Core.Path.{◌≡◌, refl, sym, ◌∙◌, subst}
use mathlib.Core.Logic.{◌↔◌, ◌≢◌, ◌⊎◌, inl, inr}
use mathlib.Core.Bool.{Bool, true, false, false≢true}
use mathlib.Core.List.Memᴰ
use mathlib.Core.List.{List, [], ◌∷◌, Memᴰ}
use Prim.Native.Nat.{ℕ, suc, ◌≤◌, ◌<◌}
use native.Mathlib.Omega.{arith}
use lib.Dec.{leb, eqb}
use lib.ListN.{length}
use borrow.Author.Tests.{leb-true, leb-false, eqb-true, eq-eqb}
use Rattle.outcome.specs.Outcome.{Outcome, answer, refused, ◌>>◌}
use Rattle.lists.specs.Lists.{any}
use Rattle.outcome.proofs.OutcomeLaws.{answer_not_refused, after_answer, after_refused}
use Rattle.header.specs.declared.Header.{Header}
use Rattle.block.specs.Block.{Block}
use Rattle.block.specs.Survey.{ordinary}
use Rattle.tree.specs.Stages.{each, ascending, all_at_most, neighbours_of, neighbours, naming_of, walk_rules_of, hash_rule_of, tree_of}
use Rattle.checker.specs.Check.{accept_of, check_of}
use Rattle.checker.proofs.CheckLaws.{Reached, accept_tree, check_18, check_tree, check⁺}
use Rattle.header.specs.Header.{header_numbers}
use Rattle.theorems_check.specs.Rules.{Rules}
use Rattle.lists.proofs.ListsLaws.{any_member, member_any}
use Rattle.outcome.proofs.RefusalLaws.{Refuses, refuses_answer, refuses_refused, refuses_must, refuses_stage, refuses_rule, refuses_more}
use Rattle.theorems_check.proofs.EarlyStages.{Stages, refuses, reaches, stages}
use Rattle.theorems_check.proofs.AcceptLaws.{Accepted⇒Rules, Rules⇒Accepted, check⇒Accepted, Accepted⇒Reached}

-- ---- acceptance

-- the check accepts a file exactly where it keeps the rules, with those blocks, if there are places enough
pub check_accepts : (file : List ℕ) (places : ℕ) (bs : List Block) → length (ordinary bs) ≤ places → (check_of file places ≡ answer bs) ↔ Rules file bs
check_accepts file places bs enough = (
  λ e. Accepted⇒Rules file bs (check⇒Accepted file places bs e).0,
  λ r. let a = Rules⇒Accepted file bs r in check⁺ file places (header_numbers file) bs (Accepted⇒Reached file bs a) enough a.tree,
)

-- ---- the numbers of refusals

-- a number of a list that can be computed
listed : (n : ℕ) (ns : List ℕ) → any (eqb n) ns ≡ true → Memᴰ n ns
listed n ns e = let r = any_member (eqb n) ns e in Memᴰ.cast (eqb-true n r.0 r.2) r.1

unlisted : (n : ℕ) (ns : List ℕ) → any (eqb n) ns ≡ false → Memᴰ n ns → ⊥
unlisted n ns e m = false≢true (sym e ∙ member_any (eqb n) ns n m (eq-eqb n n refl))

module _ (Kind : ℕ → Type 0) where
  each_refuses : (rule : Block → Bool) (number : ℕ) (bs : List Block) → Kind number → Refuses Kind (each rule number bs)
  unfolding each
  each_refuses rule number [] k = refuses_answer Kind tt
  each_refuses rule number (b ∷ bs) k = refuses_rule Kind (rule b) number b.frame.start (each rule number bs) k (each_refuses rule number bs k)

  ascending_refuses : (least : ℕ) (xs : List ℕ) → Kind 22 → Refuses Kind (ascending least xs)
  unfolding ascending
  ascending_refuses least [] k = refuses_answer Kind tt
  ascending_refuses least (x ∷ xs) k = refuses_rule Kind (leb least x) 22 x (ascending (suc x) xs) k (ascending_refuses (suc x) xs k)

  neighbours_of_refuses : (a : Block) (bs : List Block) → Kind 23 → Refuses Kind (neighbours_of a bs)
  unfolding neighbours_of
  neighbours_of_refuses a [] k = refuses_answer Kind tt
  neighbours_of_refuses a (b ∷ bs) k = refuses_rule Kind (all_at_most a b) 23 b.frame.start (neighbours_of b bs) k (neighbours_of_refuses b bs k)

  neighbours_refuses : (bs : List Block) → Kind 23 → Refuses Kind (neighbours bs)
  unfolding neighbours
  neighbours_refuses [] k = refuses_answer Kind tt
  neighbours_refuses (a ∷ bs) k = neighbours_of_refuses a bs k

-- the numbers of the tree's stages
unfoldable pub tree_numbers : List ℕ
tree_numbers = 19 ∷ 20 ∷ 22 ∷ 23 ∷ 24 ∷ 25 ∷ []

pub tree_refuses : (file : List ℕ) (h : Header) (bs : List Block) → Refuses (λ n. Memᴰ n tree_numbers) (tree_of file h bs)
unfolding tree_of naming_of walk_rules_of hash_rule_of tree_numbers any
tree_refuses file h bs =
    refuses_stage Kind (naming_of bs h.root) _
    (refuses_stage Kind _ _ (each_refuses Kind _ 19 _ (listed 19 tree_numbers refl)) (each_refuses Kind _ 20 _ (listed 20 tree_numbers refl)))
    (refuses_stage Kind (walk_rules_of bs h.root) _
    (refuses_stage Kind _ _ (ascending_refuses Kind 0 _ (listed 22 tree_numbers refl))
    (refuses_stage Kind _ _ (neighbours_refuses Kind _ (listed 23 tree_numbers refl)) (each_refuses Kind _ 24 _ (listed 24 tree_numbers refl))))
    (refuses_must Kind _ 25 0 (listed 25 tree_numbers refl)))
  where
    Kind : ℕ → Type 0
    Kind n = Memᴰ n tree_numbers

not_18 : (n : ℕ) → Memᴰ n tree_numbers → n ≢ 18
unfolding tree_numbers any
not_18 n m e = unlisted 18 tree_numbers refl (Memᴰ.cast (sym e) m)

not_0 : (n : ℕ) → Memᴰ n tree_numbers → n ≢ 0
unfolding tree_numbers any
not_0 n m e = unlisted 0 tree_numbers refl (Memᴰ.cast (sym e) m)

-- the numbers of acceptance: 1 to 17, 21 and the tree's
pub accept_refuses : (Kind : ℕ → Type 0) → ((n : ℕ) → 1 ≤ n → n ≤ 17 → Kind n) → Kind 21 → ((n : ℕ) → Memᴰ n tree_numbers → Kind n) → (file : List ℕ) → Refuses Kind (accept_of file)
accept_refuses Kind low k21 late file = go (stages file)
  where
    early : (n : ℕ) → ((1 ≤ n) × (n ≤ 17)) ⊎ (n ≡ 21) → Kind n
    early n (inl between) = low n between.0 between.1
    early n (inr same) = subst Kind (sym same) k21

    go : Stages file → Refuses Kind (accept_of file)
    go (refuses number place r) = subst (Refuses Kind) (sym r.by_acceptance) (refuses_refused Kind number place (early number r.among))
    go (reaches h bs r) =
        subst (Refuses Kind) (sym (accept_tree file h r.header bs r.blocks r.root))
        (refuses_stage Kind (tree_of file h bs) (answer bs) (refuses_more (λ n. Memᴰ n tree_numbers) Kind _ late (tree_refuses file h bs)) (refuses_answer Kind bs))

-- 18 is none of them, and neither is 0
pub accept_not_18 : (file : List ℕ) → Refuses (λ n. n ≢ 18) (accept_of file)
accept_not_18 file = accept_refuses (λ n. n ≢ 18) (λ n some few z. omega arith) (λ z. omega arith) not_18 file

pub accept_not_0 : (file : List ℕ) → Refuses (λ n. n ≢ 0) (accept_of file)
accept_not_0 file = accept_refuses (λ n. n ≢ 0) (λ n some few z. omega arith) (λ z. omega arith) not_0 file

-- ---- 18 exactly

-- the check reaches the work list, and it has too few places
pub record TooFew (file : List ℕ) (places : ℕ) : Type 0 where
  pub header : Header
  pub blocks : List Block
  pub reached : Reached file header blocks
  pub few : places < length (ordinary blocks)

-- otherwise the check's answer is acceptance's
pub check_cases : (file : List ℕ) (places : ℕ) → (check_of file places ≡ accept_of file) ⊎ TooFew file places
check_cases file places = go (stages file)
  where
    at_tree : (h : Header) (bs : List Block) → Reached file h bs → (b : Bool) → leb (length (ordinary bs)) places ≡ b → (check_of file places ≡ accept_of file) ⊎ TooFew file places
    at_tree h bs r true enough =
        inl (check_tree file places h bs r.header r.blocks r.root (leb-true _ _ enough) ∙ sym (accept_tree file h r.header bs r.blocks r.root))
    at_tree h bs r false few = inr (record { header = h; blocks = bs; reached = r; few = leb-false _ _ few })

    go : Stages file → (check_of file places ≡ accept_of file) ⊎ TooFew file places
    go (refuses number place r) = inl (r.by_check places ∙ sym r.by_acceptance)
    go (reaches h bs r) = at_tree h bs r (leb (length (ordinary bs)) places) refl

-- too few places give 18, and nothing else does
pub TooFew⇒18 : (file : List ℕ) (places : ℕ) → TooFew file places → check_of file places ≡ refused 18 0
TooFew⇒18 file places t = let r = t.reached in check_18 file places t.header t.blocks r.header r.blocks r.root t.few

pub 18⇒TooFew : (file : List ℕ) (places p : ℕ) → check_of file places ≡ refused 18 p → TooFew file places
18⇒TooFew file places p e = go (check_cases file places)
  where
    go : (check_of file places ≡ accept_of file) ⊎ TooFew file places → TooFew file places
    go (inl same) = absurd ((accept_not_18 file).among 18 p (sym same ∙ e) refl)
    go (inr few) = few

-- no refusal has the number 0
pub check_not_0 : (file : List ℕ) (places : ℕ) → Refuses (λ n. n ≢ 0) (check_of file places)
check_not_0 file places = go (check_cases file places)
  where
    go : (check_of file places ≡ accept_of file) ⊎ TooFew file places → Refuses (λ n. n ≢ 0) (check_of file places)
    go (inl same) = subst (Refuses (λ n. n ≢ 0)) (sym same) (accept_not_0 file)
    go (inr few) = subst (Refuses (λ n. n ≢ 0)) (sym (TooFew⇒18 file places few)) (refuses_refused (λ n. n ≢ 0) 18 0 (λ z. omega arith))

-- where there are places enough, a refusal is the tree's, and its number is one of the tree's
module _ (file : List ℕ) (places : ℕ) (h : Header) (bs : List Block) (r : Reached file h bs) (enough : length (ordinary bs) ≤ places) where
  pub check_refused : (n p : ℕ) → check_of file places ≡ refused n p → (tree_of file h bs ≡ refused n p) × Memᴰ n tree_numbers × (n ≢ 18)
  check_refused n p e = go (tree_of file h bs) refl
    where
      refusal : (tree_of file h bs >> answer bs) ≡ refused n p
      refusal = sym (check_tree file places h bs r.header r.blocks r.root enough) ∙ e

      told : tree_of file h bs ≡ refused n p → (tree_of file h bs ≡ refused n p) × Memᴰ n tree_numbers × (n ≢ 18)
      told q = let m = (tree_refuses file h bs).among n p q in (q, m, not_18 n m)

      go : (o : Outcome (Unit {0})) → tree_of file h bs ≡ o → (tree_of file h bs ≡ refused n p) × Memᴰ n tree_numbers × (n ≢ 18)
      go (answer u) q = absurd (answer_not_refused bs n p (sym (after_answer (tree_of file h bs) (answer bs) u q) ∙ refusal))
      go (refused k l) q = told (q ∙ same (sym (after_refused (tree_of file h bs) (answer bs) k l q) ∙ refusal))
        where
          same : ◌≡◌ {A = Outcome (List Block)} (refused k l) (refused n p) → ◌≡◌ {A = Outcome (Unit {0})} (refused k l) (refused n p)
          same z = cc
