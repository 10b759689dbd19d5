-- The number of bytes is fuel enough for items: reading them goes on as if there were no fuel.
-- Assumes nothing.
use Prim.Native.Nat.{ℕ, zero, suc, ◌<◌, ◌≤◌}
use mathlib.Core.Path.{◌≡◌, refl, sym, ap, ◌∙◌}
use mathlib.Core.Bool.{cond}
use mathlib.Core.List.{List, [], ◌∷◌}
use mathlib.Core.Option.{Option, none, some}
use native.Mathlib.Omega.{arith}
use lib.Dec.{eqb}
use lib.ListN.{length}
use Rattle.json_grammar.specs.Recogniser.{◌>>=◌, skip, item_next, items_from, items_end}
use Rattle.json_grammar.proofs.BindLaws.{bind_none, bind_same}
use Rattle.json_grammar.proofs.FrontLaws.{Shortens}
use Rattle.json_grammar.proofs.SpaceLaws.{skip_shorter}

-- only shorter texts are asked of the next items
next_same : (close : ℕ) (f g : List ℕ → Option (List ℕ)) (q : List ℕ) → ((t : List ℕ) → length t < length q → f t ≡ g t)
    → item_next close f q ≡ item_next close g q
unfolding item_next
next_same close f g [] same = refl
next_same close f g (b ∷ q) same =
    let h = skip_shorter q in
    ap (λ (o : Option (List ℕ)). cond (eqb b close) (some (skip q)) (cond (eqb b 0x2c) o none)) (same (skip q) (omega arith))

module _ (item : List ℕ → Option (List ℕ)) (close : ℕ) (shortens : Shortens item) where
  -- nothing is read from no bytes
  item_none : (s : List ℕ) → length s ≤ 0 → item s ≡ none
  item_none s h = go (item s) refl
    where
      go : (o : Option (List ℕ)) → item s ≡ o → o ≡ none
      go none e = refl
      go (some r) e = let k = shortens s r e in absurd (omega arith)

  from_none : (fuel : ℕ) (s : List ℕ) → length s ≤ 0 → items_from item close fuel s ≡ none
  unfolding items_from
  from_none zero s h = refl
  from_none (suc fuel) s h = bind_none (item s) _ (item_none s h)

  fuel_enough : (f g : ℕ) (s : List ℕ) → length s ≤ f → length s ≤ g → items_from item close f s ≡ items_from item close g s
  unfolding items_from
  fuel_enough zero g s h k = sym (from_none g s h)
  fuel_enough (suc f) zero s h k = from_none (suc f) s k
  fuel_enough (suc f) (suc g) s h k =
      bind_same (item s) _ _
      (λ q e. next_same close (items_from item close f) (items_from item close g) q
      (λ t less. fuel_enough f g t (omega (arith, shortens s q e)) (omega (arith, shortens s q e))))

  pub items_unfold : (s : List ℕ) → items_end item close s ≡ (item s >>= item_next close (items_end item close))
  unfolding items_end items_from
  items_unfold s =
      fuel_enough (length s) (suc (length s)) s (omega arith) (omega arith)
      ∙ bind_same (item s) _ _
      (λ q e. next_same close (items_from item close (length s)) (items_end item close) q
      (λ t less. fuel_enough (length s) (length t) t (omega (arith, shortens s q e)) (omega arith)))
