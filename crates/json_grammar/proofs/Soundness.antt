-- What the recogniser passes over, the grammar derives.
-- Assumes nothing.
use Prim.Native.Nat.{ℕ, zero, suc}
use mathlib.Core.Path.{◌≡◌, subst}
use mathlib.Core.List.{List, [], ◌∷◌, ◌++◌, append_assoc}
use mathlib.Core.Option.{Option}
use lib.Dec.{eqb}
use Rattle.json_grammar.specs.Grammar.{Ws, BeginArray, BeginObject, NameSeparator, String, Derives, value, object, members, member, array, values}
use Rattle.json_grammar.specs.Grammar.{object_value, array_value}
use Rattle.json_grammar.specs.Grammar.{no_members, some_members, one_member, more_members, named, no_values, some_values, one_value, more_values, ws_none}
use Rattle.json_grammar.specs.Recogniser.{skip, string_end, structural_end, name_end}
use Rattle.json_grammar.specs.Recogniser.{member_over, object_over, array_over, value_over, value_end, object_end, array_end}
use Rattle.json_grammar.proofs.BindLaws.{bind⁻¹, by_cond, none_not_some}
use Rattle.json_grammar.proofs.FrontLaws.{Front, Both, both, Sound, front_none, front_both, front_as}
use Rattle.json_grammar.proofs.SpaceLaws.{skip_sound, structural_sound, structural_spaced}
use Rattle.json_grammar.proofs.StringLaws.{string_sound}
use Rattle.json_grammar.proofs.ScalarLaws.{plain_sound}
use Rattle.json_grammar.proofs.ItemsSound.{Items, one_item, more_items, Body, no_items, some_items, container_sound}

name_sound : Sound name_end (Both String NameSeparator)
unfolding name_end
name_sound s r e =
    let x = bind⁻¹ (string_end s) _ r e in
    front_as s r (structural_spaced 0x3a)
    (front_both s (skip x.0) r (front_both s x.0 (skip x.0) (string_sound s x.0 x.1) (skip_sound x.0))
    (structural_sound 0x3a (skip x.0) r x.2))

module _ (d : ℕ) (below : List ℕ → Option (List ℕ)) (sound : Sound below (Both (Derives value d) Ws)) where
  pub member_sound : Sound (member_over below) (Both (Derives member d) Ws)
  unfolding member_over
  member_sound s r e =
      let x = bind⁻¹ (name_end s) _ r e in
      front_as s r whole (front_both s x.0 r (name_sound s x.0 x.1) (sound x.0 r x.2))
    where
      regroup : (n c v w : List ℕ) → (n ++ (c ++ v)) ++ w ≡ (n ++ c) ++ (v ++ w)
      regroup n c v w = simp append_assoc

      whole : (t : List ℕ) → Both (Both String NameSeparator) (Both (Derives value d) Ws) t → Both (Derives member d) Ws t
      whole t (both (both {s = n} {t = c} x y) (both {s = v} {t = w} z space)) =
          subst (Both (Derives member d) Ws) (regroup n c v w) (both (named x y z) space)

  items_members : {t : List ℕ} → Items (Derives member d) t → Derives members d t
  items_members (one_item x) = one_member x
  items_members (more_items x c more) = more_members x c (items_members more)

  items_values : {t : List ℕ} → Items (Derives value d) t → Derives values d t
  items_values (one_item x) = one_value x
  items_values (more_items x c more) = more_values x c (items_values more)

  object_over_lem : Sound (object_over below) (Derives object (suc d))
  unfolding object_over
  object_over_lem s r e =
      let x = bind⁻¹ (structural_end 0x7b s) _ r e in
      front_as s r whole
      (front_both s x.0 r (structural_sound 0x7b s x.0 x.1)
      (container_sound (member_over below) 0x7d (Derives member d) member_sound x.0 r x.2))
    where
      whole : (t : List ℕ) → Both BeginObject (Body (Derives member d) 0x7d) t → Derives object (suc d) t
      whole t (both b (no_items e)) = no_members b e
      whole t (both b (some_items xs e)) = some_members b (items_members xs) e

  array_over_lem : Sound (array_over below) (Derives array (suc d))
  unfolding array_over
  array_over_lem s r e =
      let x = bind⁻¹ (structural_end 0x5b s) _ r e in
      front_as s r whole
      (front_both s x.0 r (structural_sound 0x5b s x.0 x.1) (container_sound below 0x5d (Derives value d) sound x.0 r x.2))
    where
      whole : (t : List ℕ) → Both BeginArray (Body (Derives value d) 0x5d) t → Derives array (suc d) t
      whole t (both b (no_items e)) = no_values b e
      whole t (both b (some_items xs e)) = some_values b (items_values xs) e

-- no white space more
spaced : {P : List ℕ → Type 0} (s r : List ℕ) → Front P s r → Front (Both P Ws) s r
spaced s r x = front_both s r r x (front_none r ws_none)

pub value_sound : (d : ℕ) → Sound (value_end d) (Both (Derives value d) Ws)
unfolding value_end value_over
value_sound zero s r e = plain_sound 0 s r e
value_sound (suc d) [] r e = absurd (none_not_some r e)
value_sound (suc d) (b ∷ s) r e =
    by_cond (eqb b 0x7b) _ _ r e
    (λ _ e. spaced (b ∷ s) r (front_as (b ∷ s) r (λ t. object_value) (object_over_lem d (value_end d) (value_sound d) (b ∷ s) r e)))
    (λ _ e. by_cond (eqb b 0x5b) _ _ r e
    (λ _ e. spaced (b ∷ s) r (front_as (b ∷ s) r (λ t. array_value) (array_over_lem d (value_end d) (value_sound d) (b ∷ s) r e)))
    (λ _ e. plain_sound (suc d) (b ∷ s) r e))

pub object_sound : (d : ℕ) → Sound (object_end d) (Derives object d)
unfolding object_end
object_sound zero s r e = absurd (none_not_some r e)
object_sound (suc d) s r e = object_over_lem d (value_end d) (value_sound d) s r e

pub array_sound : (d : ℕ) → Sound (array_end d) (Derives array d)
unfolding array_end
array_sound zero s r e = absurd (none_not_some r e)
array_sound (suc d) s r e = array_over_lem d (value_end d) (value_sound d) s r e
