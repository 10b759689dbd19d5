-- Laws of the rules of the tree: a stage is passed exactly where each block keeps its rule, and what each rule says of the blocks.
-- Assumes nothing.
use mathlib.Core.Path.{◌≡◌, refl, ap, ◌∙◌, sym}
use mathlib.Core.Logic.{◌⊎◌, inl, inr, ◌≢◌}
use mathlib.Core.Bool.{Bool, true, false, ◌&&◌, cond}
use mathlib.Core.List.Memᴰ
use mathlib.Core.List.{List, [], ◌∷◌, Memᴰ}
use Prim.Native.Nat.{ℕ, suc, ◌+◌, ◌≤◌}
use native.Mathlib.Omega.{arith}
use lib.Dec.{leb, eqb}
use lib.ListN.{drop, length, drop_of_length-le}
use borrow.Author.Tests.{leb-true, le-leb, eqb-true, eq-eqb, eqb-false, ne_eqb}
use Rattle.byte_string.specs.Order.{begins}
use Rattle.sha256.specs.Sha256.{sha256}
use Rattle.outcome.specs.Outcome.{answer, refused}
use Rattle.outcome.proofs.OutcomeLaws.{kept, kept⁻¹, must_kept, after_answer, passed⁻¹, broken, must⁻¹}
use Rattle.lists.specs.Lists.{keep}
use Rattle.lists.proofs.ListsLaws.{Ascending, both⁻¹, any_member, keep_member, member_keep, any_false, member_any, both, all_member}
use Rattle.lists.proofs.RisingLaws.{member_below}
use Rattle.header.specs.declared.Header.{Header}
use Rattle.payload.specs.Payload.{Entry}
use Rattle.block.specs.Block.{Block, is_data, is_ordinary}
use Rattle.block.specs.Survey.{ordinary, is_root}
use Rattle.tree.specs.Tree.{block_level, names, leaves, namings}
use Rattle.tree.specs.Stages.{each, entries_fit, named_rightly, ascending, neighbours, keys_fit, payloads, naming_of, walk_rules_of, hash_rule_of, tree_of, has_root}

-- ---- a rule for each block

module _ (rule : Block → Bool) (number : ℕ) where
  pub each_member : (bs : List Block) → each rule number bs ≡ answer tt → (b : Block) → Memᴰ b bs → rule b ≡ true
  unfolding each
  each_member bs h b m = go b bs m h
    where
      go : (b : Block) (bs : List Block) → Memᴰ b bs → each rule number bs ≡ answer tt → rule b ≡ true
      go b bs (Memᴰ.head {x = c} {xs = cs} e) h = ap rule e ∙ (kept⁻¹ (rule c) number c.frame.start (each rule number cs) tt h).0
      go b bs (Memᴰ.tail {x = c} {xs = cs} m) h = go b cs m (kept⁻¹ (rule c) number c.frame.start (each rule number cs) tt h).1

  pub member_each : (bs : List Block) → ((b : Block) → Memᴰ b bs → rule b ≡ true) → each rule number bs ≡ answer tt
  unfolding each
  member_each [] h = refl
  member_each (b ∷ bs) h =
      kept (rule b) number b.frame.start (each rule number bs) (h b (Memᴰ.head refl)) ∙ member_each bs (λ c m. h c (Memᴰ.tail m))

  -- one block at a time
  pub each_kept : (l more : List Block) (b : Block) → l ≡ b ∷ more → rule b ≡ true → each rule number l ≡ each rule number more
  unfolding each
  each_kept l more b split e = ap (each rule number) split ∙ kept (rule b) number b.frame.start (each rule number more) e

  pub each_broken : (l more : List Block) (b : Block) → l ≡ b ∷ more → rule b ≡ false → each rule number l ≡ refused number b.frame.start
  unfolding each
  each_broken l more b split e = ap (each rule number) split ∙ broken (rule b) number b.frame.start (each rule number more) e

  pub each_none : (i : ℕ) (l : List Block) → length l ≤ i → each rule number (drop i l) ≡ answer tt
  unfolding each
  each_none i l h = ap (each rule number) (drop_of_length-le l h)

-- ---- the ordinary blocks

pub ordinary_member : (bs : List Block) (b : Block) → Memᴰ b (ordinary bs) → Memᴰ b bs × (b.frame.level ≤ 63)
unfolding ordinary is_ordinary
ordinary_member bs b m = let r = keep_member (λ c. is_ordinary c.frame.level) bs b m in (r.0, leb-true b.frame.level 63 r.1)

pub member_ordinary : (bs : List Block) (b : Block) → Memᴰ b bs → b.frame.level ≤ 63 → Memᴰ b (ordinary bs)
unfolding ordinary is_ordinary
member_ordinary bs b m h = member_keep (λ c. is_ordinary c.frame.level) bs b m (le-leb b.frame.level 63 h)

-- ---- what the rules say

-- 17: the root is an index block of the file
pub root⁻¹ : (h : Header) (bs : List Block) → has_root h bs ≡ true
    → (b : Block) × Memᴰ b bs × (b.frame.start ≡ h.root) × (b.frame.size ≡ h.rootsize) × (1 ≤ b.frame.level) × (b.frame.level ≤ 63)
unfolding has_root is_root is_ordinary
root⁻¹ h bs e =
    let r = any_member (λ b. is_root h.root h.rootsize b.frame) bs e in
    let b = r.0 in
    let p = both⁻¹ (eqb b.frame.start h.root && eqb b.frame.size h.rootsize) _ r.2 in
    let q = both⁻¹ (eqb b.frame.start h.root) _ p.0 in
    let l = both⁻¹ (leb 1 b.frame.level) _ p.1 in
    (b, r.1, eqb-true _ _ q.0, eqb-true _ _ q.1, leb-true _ _ l.0, leb-true _ _ l.1)

pub rooted⇒root : (bs : List Block) (h : Header) (b : Block) → Memᴰ b bs → b.frame.start ≡ h.root → b.frame.size ≡ h.rootsize
    → 1 ≤ b.frame.level → b.frame.level ≤ 63 → has_root h bs ≡ true
unfolding has_root is_root is_ordinary
rooted⇒root bs h b m start size low high =
    member_any (λ c. is_root h.root h.rootsize c.frame) bs b m
    (both _ _ (both _ _ (eq-eqb _ _ start) (eq-eqb _ _ size)) (both _ _ (le-leb 1 _ low) (le-leb _ 63 high)))

-- 19: an entry names a block by its exact start and full size, one level lower
pub names⁻¹ : (bs : List Block) (level : ℕ) (e : Entry) → names bs level e ≡ true
    → (c : Block) × Memᴰ c bs × (c.frame.start ≡ e.offset) × (c.frame.size ≡ e.size) × (c.frame.level + 1 ≡ level)
unfolding names
names⁻¹ bs level e h =
    let r = any_member (λ c. (eqb c.frame.start e.offset && eqb c.frame.size e.size) && eqb (c.frame.level + 1) level) (ordinary bs) h in
    let c = r.0 in
    let p = both⁻¹ (eqb c.frame.start e.offset && eqb c.frame.size e.size) _ r.2 in
    let q = both⁻¹ (eqb c.frame.start e.offset) _ p.0 in
    (c, (ordinary_member bs c r.1).0, eqb-true _ _ q.0, eqb-true _ _ q.1, eqb-true _ _ p.1)

pub names_true : (bs : List Block) (level : ℕ) (e : Entry) (c : Block) → Memᴰ c (ordinary bs)
    → c.frame.start ≡ e.offset → c.frame.size ≡ e.size → c.frame.level + 1 ≡ level → names bs level e ≡ true
unfolding names
names_true bs level e c m start size lower =
    member_any _ (ordinary bs) c m
    (rw (eq-eqb c.frame.start e.offset start, eq-eqb c.frame.size e.size size, eq-eqb (c.frame.level + 1) level lower))

pub names_false : (bs : List Block) (level : ℕ) (e : Entry)
    → ((c : Block) → Memᴰ c (ordinary bs) → c.frame.start ≡ e.offset → c.frame.size ≡ e.size → c.frame.level + 1 ≡ level → ⊥)
    → names bs level e ≡ false
unfolding names
names_false bs level e none =
    any_false _ (ordinary bs)
    (λ c m. not_all (eqb c.frame.start e.offset) (eqb c.frame.size e.size) (eqb (c.frame.level + 1) level)
    (λ x y z. none c m (eqb-true c.frame.start e.offset x) (eqb-true c.frame.size e.size y) (eqb-true (c.frame.level + 1) level z)))
  where
    not_all : (x y z : Bool) → (x ≡ true → y ≡ true → z ≡ true → ⊥) → ((x && y) && z) ≡ false
    not_all true true true h = absurd (h refl refl refl)
    not_all true true false h = refl
    not_all true false z h = refl
    not_all false y z h = refl

pub fit⁻¹ : (bs : List Block) → each (entries_fit bs) 19 (ordinary bs) ≡ answer tt → (b : Block) → Memᴰ b bs → b.frame.level ≤ 63
    → (e : Entry) → Memᴰ e b.entries
    → (c : Block) × Memᴰ c bs × (c.frame.start ≡ e.offset) × (c.frame.size ≡ e.size) × (c.frame.level + 1 ≡ b.frame.level)
unfolding entries_fit
fit⁻¹ bs h b m few e n =
    names⁻¹ bs b.frame.level e
    (all_member (names bs b.frame.level) b.entries (each_member (entries_fit bs) 19 (ordinary bs) h b (member_ordinary bs b m few)) e n)

-- 20: the root is named by no entry, and every other ordinary block by one
module _ (bs : List Block) (root : ℕ) where
  pub rightly⇒once : each (named_rightly bs root) 20 (ordinary bs) ≡ answer tt
      → (b : Block) → Memᴰ b bs → b.frame.level ≤ 63 → b.frame.start ≢ root → namings bs b.frame.start ≡ 1
  unfolding named_rightly
  rightly⇒once h b m few other =
      eqb-true _ _ (each_member (named_rightly bs root) 20 (ordinary bs) h b (member_ordinary bs b m few))
      ∙ ap (λ (t : Bool). cond t 0 1) (ne_eqb b.frame.start root other)

  pub rightly⇒unnamed : each (named_rightly bs root) 20 (ordinary bs) ≡ answer tt
      → (b : Block) → Memᴰ b bs → b.frame.level ≤ 63 → b.frame.start ≡ root → namings bs root ≡ 0
  unfolding named_rightly
  rightly⇒unnamed h b m few same =
      ap (namings bs) (sym same)
      ∙ eqb-true _ _ (each_member (named_rightly bs root) 20 (ordinary bs) h b (member_ordinary bs b m few))
      ∙ ap (λ (t : Bool). cond t 0 1) (eq-eqb b.frame.start root same)

  pub once⇒rightly : ((b : Block) → Memᴰ b bs → b.frame.level ≤ 63 → b.frame.start ≢ root → namings bs b.frame.start ≡ 1)
      → namings bs root ≡ 0 → each (named_rightly bs root) 20 (ordinary bs) ≡ answer tt
  unfolding named_rightly
  once⇒rightly once unnamed =
      member_each (named_rightly bs root) 20 (ordinary bs)
      (λ b i. let o = ordinary_member bs b i in go b o.0 o.1 (eqb b.frame.start root) refl)
    where
      go : (b : Block) → Memᴰ b bs → b.frame.level ≤ 63 → (t : Bool) → eqb b.frame.start root ≡ t
          → eqb (namings bs b.frame.start) (cond (eqb b.frame.start root) 0 1) ≡ true
      go b m few true e = eq-eqb _ _ (ap (namings bs) (eqb-true _ _ e) ∙ unnamed ∙ sym (ap (λ (t : Bool). cond t 0 1) e))
      go b m few false e = eq-eqb _ _ (once b m few (eqb-false _ _ e) ∙ sym (ap (λ (t : Bool). cond t 0 1) e))

-- 22: the offsets ascend
pub ascending⁻¹ : (least : ℕ) (xs : List ℕ) → ascending least xs ≡ answer tt → Ascending xs × ((y : ℕ) → Memᴰ y xs → least ≤ y)
unfolding ascending Ascending
ascending⁻¹ least [] h = (tt, λ y m. absurd (Memᴰ.not-nil m))
ascending⁻¹ least (x ∷ xs) h =
    let k = kept⁻¹ (leb least x) 22 x (ascending (suc x) xs) tt h in
    let r = ascending⁻¹ (suc x) xs k.1 in
    let low = leb-true least x k.0 in
    ((member_below x xs (λ y m. let more = r.1 y m in omega arith), r.0), λ y m. go low (Memᴰ.cases_cons m) (r.1 y))
  where
    go : {y : ℕ} → least ≤ x → (y ≡ x) ⊎ Memᴰ y xs → (Memᴰ y xs → suc x ≤ y) → least ≤ y
    go low (inl same) rest = omega arith
    go low (inr inside) rest = let more = rest inside in omega arith

-- ---- the rules one after the other

pub naming⁻¹ : (bs : List Block) (root : ℕ) → naming_of bs root ≡ answer tt
    → (each (entries_fit bs) 19 (ordinary bs) ≡ answer tt) × (each (named_rightly bs root) 20 (ordinary bs) ≡ answer tt)
unfolding naming_of
naming⁻¹ bs root e = passed⁻¹ (each (entries_fit bs) 19 (ordinary bs)) _ tt e

-- each stage from 19 to 25 is passed
pub record Passed (file : List ℕ) (h : Header) (bs : List Block) : Type 0 where
  pub fit : each (entries_fit bs) 19 (ordinary bs) ≡ answer tt
  pub rightly : each (named_rightly bs h.root) 20 (ordinary bs) ≡ answer tt
  pub walk : ascending 0 (leaves bs (block_level bs h.root) h.root) ≡ answer tt
  pub pairs : neighbours (keep (λ b. is_data b.frame.level) bs) ≡ answer tt
  pub keys : each (keys_fit bs) 24 (ordinary bs) ≡ answer tt
  pub hash : begins (sha256 (payloads file bs)) (drop 40 file) ≡ true

module _ (file : List ℕ) (h : Header) (bs : List Block) where
  pub tree⇒Passed : tree_of file h bs ≡ answer tt → Passed file h bs
  unfolding tree_of walk_rules_of hash_rule_of
  tree⇒Passed e =
      let a = passed⁻¹ (naming_of bs h.root) _ tt e in
      let b = naming⁻¹ bs h.root a.0 in
      let c = passed⁻¹ (walk_rules_of bs h.root) _ tt a.1 in
      let d = passed⁻¹ (ascending 0 (leaves bs (block_level bs h.root) h.root)) _ tt c.0 in
      let f = passed⁻¹ (neighbours (keep (λ x. is_data x.frame.level) bs)) _ tt d.1 in
      record { fit = b.0; rightly = b.1; walk = d.0; pairs = f.0; keys = f.1; hash = must⁻¹ _ 25 0 c.1 }

  pub Passed⇒tree : Passed file h bs → tree_of file h bs ≡ answer tt
  unfolding tree_of naming_of walk_rules_of hash_rule_of
  Passed⇒tree p =
      after_answer (naming_of bs h.root) _ tt (after_answer (each (entries_fit bs) 19 (ordinary bs)) _ tt p.fit ∙ p.rightly)
      ∙ after_answer (walk_rules_of bs h.root) _ tt
      (after_answer (ascending 0 (leaves bs (block_level bs h.root) h.root)) _ tt p.walk
      ∙ after_answer (neighbours (keep (λ b. is_data b.frame.level) bs)) _ tt p.pairs
      ∙ p.keys)
      ∙ must_kept (begins (sha256 (payloads file bs)) (drop 40 file)) 25 0 p.hash
