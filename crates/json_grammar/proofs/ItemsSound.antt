-- What is passed over as items, or as what follows an opening character, are such items by the grammar.
-- Assumes nothing.
use Prim.Native.Nat.{ℕ, zero, suc}
use mathlib.Core.Path.{◌≡◌, subst}
use mathlib.Core.Bool.{true}
use mathlib.Core.List.{List, [], ◌∷◌, ◌++◌, append_assoc}
use mathlib.Core.Option.{Option, some}
use lib.Dec.{eqb}
use lib.ListN.{length}
use borrow.Author.Tests.{eqb-true}
use Rattle.json_grammar.specs.Grammar.{Ws, Structural, ValueSeparator}
use Rattle.json_grammar.specs.Recogniser.{skip, item_next, items_from, items_end, container_end}
use Rattle.json_grammar.proofs.BindLaws.{bind⁻¹, by_cond, only⁻¹, none_not_some, some_injective}
use Rattle.json_grammar.proofs.FrontLaws.{Front, Both, both, Sound, front_both, front_as}
use Rattle.json_grammar.proofs.SpaceLaws.{structural_front, structural_spaced}

-- item *( value-separator item )
pub data Items (P : List ℕ → Type 0) : List ℕ → Type 0 where
  one_item : {s : List ℕ} → P s → Items P s
  more_items : {s c t : List ℕ} → P s → ValueSeparator c → Items P t → Items P (s ++ (c ++ t))

-- what follows an opening character: [ item *( value-separator item ) ] and the closing character
pub data Body (P : List ℕ → Type 0) (close : ℕ) : List ℕ → Type 0 where
  no_items : {e : List ℕ} → Structural close e → Body P close e
  some_items : {s e : List ℕ} → Items P s → Structural close e → Body P close (s ++ e)

module _ (item : List ℕ → Option (List ℕ)) (close : ℕ) (P : List ℕ → Type 0) (sound : Sound item (Both P Ws)) where
  last : (t : List ℕ) → Both P (Structural close) t → Both (Items P) (Structural close) t
  last t (both x e) = both (one_item x) e

  more : (t : List ℕ) → Both (Both P ValueSeparator) (Both (Items P) (Structural close)) t → Both (Items P) (Structural close) t
  more t (both (both {s} {t = c} x y) (both {s = u} {t = e} xs end)) =
      subst (Both (Items P) (Structural close)) (regroup s c u e) (both (more_items x y xs) end)
    where
      regroup : (s c u e : List ℕ) → (s ++ (c ++ u)) ++ e ≡ (s ++ c) ++ (u ++ e)
      regroup s c u e = simp append_assoc

  -- after an item
  next_sound : (items : List ℕ → Option (List ℕ)) → Sound items (Both (Items P) (Structural close)) → (s q r : List ℕ) → Front (Both P Ws) s q
      → item_next close items q ≡ some r → Front (Both (Items P) (Structural close)) s r
  unfolding item_next
  next_sound items later s [] r x e = absurd (none_not_some r e)
  next_sound items later s (b ∷ q) r x e =
      by_cond (eqb b close) _ _ r e
      (λ p e. rw (← some_injective (skip q) r e) (front_as s (skip q) last (separated close p)))
      (λ _ e. let y = only⁻¹ (eqb b 0x2c) _ r e in
      front_as s r more (front_both s (skip q) r (separated 0x2c y.0) (later (skip q) r y.1)))
    where
      separated : (c : ℕ) → eqb b c ≡ true → Front (Both P (Structural c)) s (skip q)
      separated c p = front_as s (skip q) (structural_spaced c) (front_both s (b ∷ q) (skip q) x (rw (eqb-true b c p) (structural_front c q)))

  from_sound : (fuel : ℕ) → Sound (items_from item close fuel) (Both (Items P) (Structural close))
  unfolding items_from
  from_sound zero s r e = absurd (none_not_some r e)
  from_sound (suc fuel) s r e =
      let x = bind⁻¹ (item s) _ r e in
      next_sound (items_from item close fuel) (from_sound fuel) s x.0 r (sound s x.0 x.1) x.2

  pub items_sound : Sound (items_end item close) (Both (Items P) (Structural close))
  unfolding items_end
  items_sound s r e = from_sound (length s) s r e

  pub container_sound : Sound (container_end item close) (Body P close)
  unfolding container_end
  container_sound [] r e = absurd (none_not_some r e)
  container_sound (b ∷ s) r e =
      by_cond (eqb b close) _ _ r e
      (λ p e. rw (eqb-true b close p, ← some_injective (skip s) r e) (front_as (close ∷ s) (skip s) (λ t. no_items) (structural_front close s)))
      (λ _ e. front_as (b ∷ s) r full (items_sound (b ∷ s) r e))
    where
      full : (t : List ℕ) → Both (Items P) (Structural close) t → Body P close t
      full t (both xs end) = some_items xs end
