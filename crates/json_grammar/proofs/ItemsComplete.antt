-- Items by the grammar are passed over, and so is what follows an opening character.
-- Assumes nothing.
use Prim.Native.Nat.{ℕ}
use mathlib.Core.Path.{◌≡◌, refl, sym, ◌∙◌}
use mathlib.Core.Bool.{Bool, true, false, cond}
use mathlib.Core.List.Memᴰ
use mathlib.Core.List.{List, [], ◌∷◌, ◌++◌, append_assoc, Memᴰ}
use mathlib.Core.Option.{Option, none, some}
use lib.Dec.{eqb}
use borrow.Author.Tests.{eqb-true, eq-eqb}
use Rattle.json_grammar.specs.Grammar.{Ws, ws_none, ws_more, Structural, structural}
use Rattle.json_grammar.specs.Recogniser.{◌>>=◌, one_of, is_space, is_digit, skip, item_next, items_from, items_end, structural_end, container_end}
use Rattle.json_grammar.proofs.BindLaws.{bind_some, bind_none, none_not_some}
use Rattle.json_grammar.proofs.FrontLaws.{Shortens}
use Rattle.json_grammar.proofs.SpaceLaws.{structural_skip, structural_complete}
use Rattle.json_grammar.proofs.FuelLaws.{items_unfold}
use Rattle.json_grammar.proofs.NumberLaws.{goes_on, Apart}
use Rattle.json_grammar.proofs.ItemsSound.{Items, one_item, more_items}

-- ---- what follows an item

-- white space doesn't go on with a number
space_apart : (b : ℕ) → Memᴰ b (0x20 ∷ 0x09 ∷ 0x0a ∷ 0x0d ∷ []) → goes_on b ≡ false
unfolding goes_on is_digit one_of
space_apart b (Memᴰ.head e) = rw e
space_apart b (Memᴰ.tail (Memᴰ.head e)) = rw e
space_apart b (Memᴰ.tail (Memᴰ.tail (Memᴰ.head e))) = rw e
space_apart b (Memᴰ.tail (Memᴰ.tail (Memᴰ.tail (Memᴰ.head e)))) = rw e
space_apart b (Memᴰ.tail (Memᴰ.tail (Memᴰ.tail (Memᴰ.tail m)))) = absurd (Memᴰ.not-nil m)

ws_apart : (v s : List ℕ) → Ws v → Apart s → Apart (v ++ s)
unfolding Apart
ws_apart v s ws_none h = h
ws_apart v s (ws_more {b} m more) h = space_apart b m

pub structural_apart : (c : ℕ) (t r : List ℕ) → Structural c t → goes_on c ≡ false → Apart (t ++ r)
unfolding Apart
structural_apart c t r (structural {v} {w} x y) h = rw (append_assoc v (c ∷ w) r) (ws_apart v (c ∷ (w ++ r)) x h)

-- ---- items

-- the item is passed over with the white space after it, wherever no number could go on
abbrev pub Passes : (List ℕ → Option (List ℕ)) → List ℕ → Type 0
Passes item t = (r : List ℕ) → Apart r → item (skip (t ++ r)) ≡ some (skip r)

-- what is asked of a closing character: no item begins with it, and it is neither white space nor a separator nor part of a number
pub record Closes (item : List ℕ → Option (List ℕ)) (close : ℕ) : Type 0 where
  pub shut : (s : List ℕ) → item (close ∷ s) ≡ none
  pub space : is_space close ≡ false
  pub comma : eqb 0x2c close ≡ false
  pub apart : goes_on close ≡ false

module _ (item : List ℕ → Option (List ℕ)) (close : ℕ) (shortens : Shortens item) (closes : Closes item close) where
  item_step : (s q r : List ℕ) → item s ≡ some q → item_next close (items_end item close) q ≡ some r → items_end item close s ≡ some r
  item_step s q r e next = items_unfold item close shortens s ∙ bind_some (item s) _ q e ∙ next

  next_close : (e r : List ℕ) → Structural close e → item_next close (items_end item close) (skip (e ++ r)) ≡ some (skip r)
  unfolding item_next
  next_close e r x =
      let y = structural_skip close e r x closes.space in
      rw (y.1, eq-eqb close close refl, y.2)

  next_more : (c r : List ℕ) → Structural 0x2c c → item_next close (items_end item close) (skip (c ++ r)) ≡ items_end item close (skip r)
  unfolding item_next is_space one_of
  next_more c r x =
      let y = structural_skip 0x2c c r x refl in
      rw (y.1, closes.comma, y.2)

  item_more : (s c rest r : List ℕ) → Passes item s → Structural 0x2c c → items_end item close (skip rest) ≡ some r
      → items_end item close (skip (s ++ (c ++ rest))) ≡ some r
  unfolding goes_on is_digit one_of
  item_more s c rest r x y later =
      item_step (skip (s ++ (c ++ rest))) (skip (c ++ rest)) r (x (c ++ rest) (structural_apart 0x2c c rest y refl)) (next_more c rest y ∙ later)

  pub items_complete : (t e r : List ℕ) → Items (Passes item) t → Structural close e → items_end item close (skip (t ++ (e ++ r))) ≡ some (skip r)
  items_complete t e r (one_item x) end =
      item_step (skip (t ++ (e ++ r))) (skip (e ++ r)) (skip r) (x (e ++ r) (structural_apart close e r end closes.apart)) (next_close e r end)
  items_complete t e r (more_items {s} {c} {t = u} x y more) end =
      rw (regroup s c u (e ++ r)) (item_more s c (u ++ (e ++ r)) (skip r) x y (items_complete u e r more end))
    where
      regroup : (s c t e : List ℕ) → (s ++ (c ++ t)) ++ e ≡ s ++ (c ++ (t ++ e))
      regroup s c t e = simp append_assoc

  -- ---- what follows an opening character

  container_items : (s r : List ℕ) → items_end item close s ≡ some r → container_end item close s ≡ some r
  unfolding container_end items_end items_from
  container_items [] r e = e
  container_items (b ∷ s) r e = go (eqb b close) refl
    where
      go : (is : Bool) → eqb b close ≡ is → cond is (some (skip s)) (items_end item close (b ∷ s)) ≡ some r
      go true p = absurd (none_not_some r (sym (bind_none (item (b ∷ s)) _ (rw (eqb-true b close p) (closes.shut s))) ∙ e))
      go false p = e

  container_empty : (e r : List ℕ) → Structural close e → container_end item close (skip (e ++ r)) ≡ some (skip r)
  unfolding container_end
  container_empty e r x =
      let y = structural_skip close e r x closes.space in
      rw (y.1, eq-eqb close close refl, y.2)

  container_full : (t e r : List ℕ) → Items (Passes item) t → Structural close e → container_end item close (skip ((t ++ e) ++ r)) ≡ some (skip r)
  container_full t e r xs end = rw (append_assoc t e r) (container_items (skip (t ++ (e ++ r))) (skip r) (items_complete t e r xs end))

  -- with the opening character
  module _ (open-with : ℕ) (unspaced : is_space open-with ≡ false) where
    pub brackets_empty : (b e r : List ℕ) → Structural open-with b → Structural close e
        → (structural_end open-with (skip ((b ++ e) ++ r)) >>= container_end item close) ≡ some (skip r)
    brackets_empty b e r x y =
        rw (append_assoc b e r) (bind_some _ _ (skip (e ++ r)) (structural_complete open-with b (e ++ r) x unspaced) ∙ container_empty e r y)

    pub brackets_full : (b t e r : List ℕ) → Structural open-with b → Items (Passes item) t → Structural close e
        → (structural_end open-with (skip ((b ++ (t ++ e)) ++ r)) >>= container_end item close) ≡ some (skip r)
    brackets_full b t e r x xs y =
        rw (append_assoc b (t ++ e) r)
        (bind_some _ _ (skip ((t ++ e) ++ r)) (structural_complete open-with b ((t ++ e) ++ r) x unspaced) ∙ container_full t e r xs y)
