-- What a block leads to, as a relation and as the list of records that the walk down from it meets.
-- Assumes nothing.
use mathlib.Core.Path.{◌≡◌, refl, sym, ap, ◌∙◌, subst}
use mathlib.Core.Logic.{◌↔◌}
use mathlib.Core.List.{List, Memᴰ}
use Prim.Native.Nat.{ℕ, zero, suc}
use native.Mathlib.Omega.{arith}
use Rattle.payload.specs.Payload.{Text}
use Rattle.block.specs.Block.{Block}
use Rattle.tree.specs.Tree.{under}
use Rattle.theorems_search.specs.OpeningRule.{LeadsTo, its_own, through}
use Rattle.tree.proofs.TreeLaws.{Tree, entries_at, same_start, child}
use Rattle.theorems_tree.proofs.TreeBounds.{data_under, entry_under, under_entry}

module _ (bs : List Block) (root : ℕ) (t : Tree bs root) where
  -- what a block leads to is met under it
  pub leads⇒under : (at : ℕ) (r : Text) → LeadsTo bs at r → (b : Block) → Memᴰ b bs → b.frame.start ≡ at → Memᴰ r (under bs b.frame.level at)
  leads⇒under at r (its_own c m s low own) b n p =
      let same : b ≡ c = same_start bs root t b c n m (p ∙ sym s) in
      subst (λ (a : ℕ). Memᴰ r (under bs b.frame.level a)) s
      (subst (λ (l : ℕ). Memᴰ r (under bs l c.frame.start)) (sym (ap (λ (d : Block). d.frame.level) same ∙ low)) (subst (Memᴰ r) (sym (data_under bs root t c m)) own))
  leads⇒under at r (through c e m s i l) b n p =
      let same : b ≡ c = same_start bs root t b c n m (p ∙ sym s) in
      let named = t.named c m e i in
      let below = leads⇒under e.offset r l named.0 named.1 named.2 in
      let higher : b.frame.level ≡ suc named.0.frame.level = let lower = named.4 in let level = ap (λ (d : Block). d.frame.level) same in omega arith in
      subst (λ (k : ℕ). Memᴰ r (under bs k at)) (sym higher)
      (subst (λ (a : ℕ). Memᴰ r (under bs (suc named.0.frame.level) a)) s
      (entry_under bs named.0.frame.level c.frame.start e (subst (Memᴰ e) (sym (entries_at bs root t c m)) i) r below))

  -- and what is met under it, it leads to
  pub under⇒leads : (level : ℕ) (b : Block) → Memᴰ b bs → b.frame.level ≡ level → (r : Text) → Memᴰ r (under bs level b.frame.start) → LeadsTo bs b.frame.start r
  under⇒leads zero b m p r i = its_own b m refl p (subst (Memᴰ r) (data_under bs root t b m) i)
  under⇒leads (suc level) b m p r i =
      let f = under_entry bs level b.frame.start r i in
      let c = child bs root t b m level p f.0 f.1 in
      let below = under⇒leads level c.block c.member c.leveled r (subst (λ (a : ℕ). Memᴰ r (under bs level a)) (sym c.starts) f.2) in
      through b f.0 m refl (subst (Memᴰ f.0) (entries_at bs root t b m) f.1) (subst (λ (a : ℕ). LeadsTo bs a r) c.starts below)

  pub leads_under : (b : Block) → Memᴰ b bs → (r : Text) → LeadsTo bs b.frame.start r ↔ Memᴰ r (under bs b.frame.level b.frame.start)
  leads_under b m r = (λ l. leads⇒under b.frame.start r l b m refl, under⇒leads b.frame.level b m refl r)
