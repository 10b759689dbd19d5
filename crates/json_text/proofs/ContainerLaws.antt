-- Laws of containers at the front: how one begins, what follows an item, and values by their first byte.
-- Assumes nothing.
use Rattle.std.proofs.Common.{◌≡◌, ◌≢◌, get_or, ℕ, zero, suc, ◌-◌, ◌<◌, length, Bool, true, false, cond, eqb, List, [], ◌∷◌, refl, sym, ◌∙◌, arith}
use Rattle.std.proofs.Math.Option.{Option, none, some}
use Rattle.json_text.specs.declared.value.Kind.{Kind}
use Rattle.json_text.specs.declared.value.Kind.TheVariants.{Object, Array}
use Rattle.json_grammar.specs.Recogniser.{◌>>=◌, skip, structural_end, item_next, items_from, items_end, container_end}
use Rattle.json_grammar.specs.Recogniser.{skip_minus, int_end, digits_end, is_digit, number_end, scalar_end, plain_end}
use Rattle.std.proofs.lemmas.Bool.{ne_eqb}
use Rattle.json_grammar.specs.Recogniser.{member_over, object_over, array_over, value_over, value_end, object_end, array_end, is_done, is_object}
use Rattle.json_grammar.proofs.BindLaws.{bind_some, bind_none, only⁻¹, none_not_some, some_injective}
use Rattle.json_grammar.proofs.FrontLaws.{Shortens}
use Rattle.json_grammar.proofs.FuelLaws.{items_unfold}
use Rattle.json_grammar.proofs.ShorterLaws.{value_shorter, member_shorter}
use Rattle.json_grammar.proofs.SpaceLaws.{skip_shorter}
use Rattle.json_text.specs.Answers.{name_of, item_of, container_of, opening_of, closing_of}

-- ---- how a container begins

pub container_flat : (kind : Kind) (depth : ℕ) (s : List ℕ) → depth < 1 → container_of kind depth s ≡ none
unfolding object_end array_end
container_flat Object zero s h = refl
container_flat Array zero s h = refl
container_flat kind (suc d) s h = absurd (omega arith)

one_less : (d : ℕ) → suc d - 1 ≡ d
one_less d = omega arith

pub container_deep : (kind : Kind) (depth : ℕ) (s : List ℕ) → 0 < depth
    → container_of kind depth s ≡ (structural_end (opening_of kind) s >>= container_end (item_of kind (depth - 1)) (closing_of kind))
unfolding object_end array_end object_over array_over
container_deep kind zero s h = absurd (omega arith)
container_deep Object (suc d) s h = rw (one_less d)
container_deep Array (suc d) s h = rw (one_less d)

-- a test that does not hold
pub not_only : (b : Bool) (s : List ℕ) → cond b (some s) none ≡ none → b ≡ false
not_only true s e = absurd (none_not_some s (sym e))
not_only false s e = refl

module _ (item : List ℕ → Option (List ℕ)) (close : ℕ) where
  pub container_empty : (s r : List ℕ) → structural_end close s ≡ some r → container_end item close s ≡ some r
  unfolding structural_end container_end
  container_empty [] r e = e
  container_empty (b ∷ s) r e = let x = only⁻¹ (eqb b close) (some (skip s)) r e in rw x.0 x.1

  pub container_items : (s : List ℕ) → structural_end close s ≡ none → container_end item close s ≡ items_end item close s
  unfolding structural_end container_end items_end items_from
  container_items [] e = refl
  container_items (b ∷ s) e = rw (not_only (eqb b close) (skip s) e)

-- ---- what follows an item

module _ (close : ℕ) (items : List ℕ → Option (List ℕ)) where
  pub next_closed : (s r : List ℕ) → structural_end close s ≡ some r → item_next close items s ≡ some r
  unfolding structural_end item_next
  next_closed [] r e = e
  next_closed (b ∷ s) r e = let x = only⁻¹ (eqb b close) (some (skip s)) r e in rw x.0 x.1

  pub next_more : (s : List ℕ) → structural_end close s ≡ none → item_next close items s ≡ (structural_end 0x2c s >>= items)
  unfolding structural_end item_next ◌>>=◌
  next_more [] e = refl
  next_more (b ∷ s) e = rw (not_only (eqb b close) (skip s) e) (go (eqb b 0x2c))
    where
      go : (is : Bool) → cond is (items (skip s)) none ≡ (cond is (some (skip s)) none >>= items)
      go true = refl
      go false = refl

pub item_named : (kind : Kind) (d : ℕ) (s : List ℕ) → item_of kind d s ≡ (name_of kind s >>= value_end d)
unfolding member_over ◌>>=◌
item_named Object d s = refl
item_named Array d s = refl

pub item_shorter : (kind : Kind) (d : ℕ) → Shortens (item_of kind d)
item_shorter Object d = member_shorter d
item_shorter Array d = value_shorter d

pub items_turn : (kind : Kind) (d : ℕ) (s : List ℕ)
    → items_end (item_of kind d) (closing_of kind) s ≡ (item_of kind d s >>= item_next (closing_of kind) (items_end (item_of kind d) (closing_of kind)))
items_turn kind d s = items_unfold (item_of kind d) (closing_of kind) (item_shorter kind d) s

pub structural_shorter : (c : ℕ) → Shortens (structural_end c)
unfolding structural_end
structural_shorter c [] r e = absurd (none_not_some r e)
structural_shorter c (b ∷ s) r e =
    let x = only⁻¹ (eqb b c) (some (skip s)) r e in
    let h = skip_shorter s in
    rw (← some_injective (skip s) r x.1) (omega arith)

-- after a name, a value and a comma the other items go on
pub turn_same : (kind : Kind) (d : ℕ) (s t r q : List ℕ) → some t ≡ name_of kind s → some r ≡ value_end d t → none ≡ structural_end (closing_of kind) r
    → some q ≡ structural_end 0x2c r → items_end (item_of kind d) (closing_of kind) q ≡ items_end (item_of kind d) (closing_of kind) s
turn_same kind d s t r q name value unclosed comma =
    let items = items_end (item_of kind d) (closing_of kind) in
    let item = item_named kind d s ∙ bind_some (name_of kind s) (value_end d) t (sym name) ∙ sym value in
    sym (items_turn kind d s ∙ bind_some (item_of kind d s) (item_next (closing_of kind) items) r item
    ∙ next_more (closing_of kind) items r (sym unclosed) ∙ bind_some (structural_end 0x2c r) items q (sym comma))

-- a name, a value and a comma take bytes
pub turn_shorter : (kind : Kind) (d : ℕ) (s t r q : List ℕ) → some t ≡ name_of kind s → some r ≡ value_end d t → some q ≡ structural_end 0x2c r
    → length q < length s
turn_shorter kind d s t r q name value comma =
    let item = item_shorter kind d s r (item_named kind d s ∙ bind_some (name_of kind s) (value_end d) t (sym name) ∙ sym value) in
    let next = structural_shorter 0x2c r q (sym comma) in
    omega arith

-- ---- values, by their first byte

pub value_object : (depth : ℕ) (s : List ℕ) → get_or s 0 0 ≡ 0x7b → value_end depth s ≡ object_end depth s
unfolding value_end value_over object_end plain_end scalar_end number_end skip_minus int_end digits_end is_digit ◌>>=◌
value_object depth [] e = absurd (omega arith)
value_object zero (b ∷ s) e = rw e
value_object (suc d) (b ∷ s) e = rw e

pub value_array : (depth : ℕ) (s : List ℕ) → get_or s 0 0 ≡ 0x5b → value_end depth s ≡ array_end depth s
unfolding value_end value_over array_end plain_end scalar_end number_end skip_minus int_end digits_end is_digit ◌>>=◌
value_array depth [] e = absurd (omega arith)
value_array zero (b ∷ s) e = rw e
value_array (suc d) (b ∷ s) e = rw e

pub value_plain : (depth : ℕ) (s : List ℕ) → get_or s 0 0 ≢ 0x7b → get_or s 0 0 ≢ 0x5b → value_end depth s ≡ plain_end s
unfolding value_end value_over plain_end scalar_end ◌>>=◌
value_plain zero s p q = refl
value_plain (suc d) [] p q = refl
value_plain (suc d) (b ∷ s) p q = rw (ne_eqb b 0x7b p, ne_eqb b 0x5b q)

pub value_nothing : (depth : ℕ) (s : List ℕ) → length s < 1 → value_end depth s ≡ plain_end s
value_nothing depth [] e = value_plain depth [] (λ z. omega arith) (λ z. omega arith)
value_nothing depth (b ∷ s) e = absurd (omega arith)

-- ---- the whole

pub object_whole : (depth : ℕ) (s r : List ℕ) → object_end depth s ≡ some r → is_object depth s ≡ eqb (length r) 0
unfolding is_object is_done
object_whole depth s [] e = rw e
object_whole depth s (b ∷ r) e = rw (e, ne_eqb (length (b ∷ r)) 0 (λ z. omega arith))

pub no_object : (depth : ℕ) (s : List ℕ) → object_end depth s ≡ none → is_object depth s ≡ false
unfolding is_object is_done
no_object depth s e = rw e

-- ---- for tactics

pub ruleset containers =
    (container_flat, container_deep, container_empty, container_items, next_closed, next_more, items_turn, item_named, bind_some, bind_none)

pub ruleset values = (value_object, value_array, value_plain, value_nothing)

pub ruleset whole = (object_whole, no_object)
