-- What the grammar derives, the recogniser passes over.
-- Assumes nothing.
use Prim.Native.Nat.{ℕ, zero, suc}
use mathlib.Core.Path.{◌≡◌, refl, ◌∙◌}
use mathlib.Core.Bool.{false}
use mathlib.Core.List.{List, [], ◌∷◌, ◌++◌, append_assoc}
use mathlib.Core.Option.{none, some}
use native.Mathlib.Omega.{arith}
use lib.Dec.{eqb}
use borrow.Author.Tests.{ne_eqb}
use Rattle.byte_range.specs.Range.{In}
use Rattle.json_grammar.specs.Grammar.{Structural, String, string, Number, Symbol, Derives, value, object, members, member, array, values}
use Rattle.json_grammar.specs.Grammar.{false_value, null_value, true_value, object_value, array_value, number_value, string_value}
use Rattle.json_grammar.specs.Grammar.{no_members, some_members, one_member, more_members, named, no_values, some_values, one_value, more_values}
use Rattle.json_grammar.specs.Recogniser.{◌>>=◌, one_of, is_space, is_digit, skip, skip_minus, digits_end, int_end, number_end}
use Rattle.json_grammar.specs.Recogniser.{string_end, word_end, scalar_end, plain_end, structural_end, name_end}
use Rattle.json_grammar.specs.Recogniser.{member_over, object_over, array_over, value_over, value_end, object_end, array_end}
use Rattle.json_grammar.proofs.BindLaws.{bind_some, bind⁻¹, none_not_some}
use Rattle.json_grammar.proofs.SpaceLaws.{skip_kept, structural_first, structural_complete}
use Rattle.json_grammar.proofs.NumberLaws.{goes_on, Apart, number_first}
use Rattle.json_grammar.proofs.StringLaws.{string_complete}
use Rattle.json_grammar.proofs.ScalarLaws.{plain_string, plain_number}
use Rattle.json_grammar.proofs.ItemsSound.{Items, one_item, more_items}
use Rattle.json_grammar.proofs.ShorterLaws.{value_shorter, member_shorter}
use Rattle.json_grammar.proofs.ItemsComplete.{Passes, Closes, brackets_empty, brackets_full}

-- ---- closing characters

array_closes : (d : ℕ) → Closes (value_end d) 0x5d
unfolding is_space one_of goes_on is_digit value_end value_over plain_end scalar_end number_end skip_minus int_end digits_end ◌>>=◌
array_closes d = record { shut = shut d; space = refl; comma = refl; apart = refl }
  where
    shut : (d : ℕ) (s : List ℕ) → value_end d (0x5d ∷ s) ≡ none
    shut zero s = refl
    shut (suc d) s = refl

object_closes : (d : ℕ) → Closes (member_over (value_end d)) 0x7d
unfolding is_space one_of goes_on is_digit member_over name_end string_end ◌>>=◌
object_closes d = record { shut = λ s. refl; space = refl; comma = refl; apart = refl }

-- ---- values by their first byte

-- neither white space nor an opening bracket
scalar_value : (d b : ℕ) (s r : List ℕ) → is_space b ≡ false → eqb b 0x7b ≡ false → eqb b 0x5b ≡ false → plain_end (b ∷ s) ≡ some r
    → value_end d (skip (b ∷ s)) ≡ some r
unfolding value_end value_over
scalar_value zero b s r h i j e = rw (skip_kept b s h) e
scalar_value (suc d) b s r h i j e = rw (skip_kept b s h, i, j) e

value_string : (d : ℕ) (t r : List ℕ) → String t → value_end d (skip (t ++ r)) ≡ some (skip r)
unfolding is_space one_of
value_string d t r (string {s} more) = scalar_value d 0x22 (s ++ r) (skip r) refl refl refl (plain_string (0x22 ∷ s) r (string more))

-- no number begins with white space
number_unspaced : (b : ℕ) → In 0x2d 0x39 b → is_space b ≡ false
unfolding is_space one_of
number_unspaced b i =
    rw (ne_eqb b 0x20 (λ e. omega arith), ne_eqb b 0x09 (λ e. omega arith), ne_eqb b 0x0a (λ e. omega arith), ne_eqb b 0x0d (λ e. omega arith))

value_number : (d : ℕ) (t r : List ℕ) → Number t → Apart r → value_end d (skip (t ++ r)) ≡ some (skip r)
value_number d t r n h =
    let x = number_first t n in
    let no-brace = ne_eqb x.0 0x7b (λ e. omega arith) in
    let no-bracket = ne_eqb x.0 0x5b (λ e. omega arith) in
    rw x.2 (scalar_value d x.0 (x.1 ++ r) (skip r) (number_unspaced x.0 x.3) no-brace no-bracket (rw x.2 at (plain_number t r n h)))

value_false : (d : ℕ) → Passes (value_end d) (0x66 ∷ 0x61 ∷ 0x6c ∷ 0x73 ∷ 0x65 ∷ [])
unfolding is_space one_of plain_end scalar_end word_end ◌>>=◌
value_false d r h = scalar_value d 0x66 _ (skip r) refl refl refl refl

value_null : (d : ℕ) → Passes (value_end d) (0x6e ∷ 0x75 ∷ 0x6c ∷ 0x6c ∷ [])
unfolding is_space one_of plain_end scalar_end word_end ◌>>=◌
value_null d r h = scalar_value d 0x6e _ (skip r) refl refl refl refl

value_true : (d : ℕ) → Passes (value_end d) (0x74 ∷ 0x72 ∷ 0x75 ∷ 0x65 ∷ [])
unfolding is_space one_of plain_end scalar_end word_end ◌>>=◌
value_true d r h = scalar_value d 0x74 _ (skip r) refl refl refl refl

object⇒value : (d : ℕ) (s r : List ℕ) → object_end d s ≡ some r → value_end d s ≡ some r
unfolding object_end object_over value_end value_over
object⇒value zero s r e = absurd (none_not_some r e)
object⇒value (suc d) s r e =
    let x = bind⁻¹ (structural_end 0x7b s) _ r e in
    let y = structural_first 0x7b s x.0 x.1 in
    rw y.1 (rw y.1 at e)

array⇒value : (d : ℕ) (s r : List ℕ) → array_end d s ≡ some r → value_end d s ≡ some r
unfolding array_end array_over value_end value_over
array⇒value zero s r e = absurd (none_not_some r e)
array⇒value (suc d) s r e =
    let x = bind⁻¹ (structural_end 0x5b s) _ r e in
    let y = structural_first 0x5b s x.0 x.1 in
    rw y.1 (rw y.1 at e)

-- ---- members

name_complete : (s c r : List ℕ) → String s → Structural 0x3a c → name_end (skip (s ++ (c ++ r))) ≡ some (skip r)
unfolding name_end is_space one_of
name_complete s c r (string {s = t} more) y =
    rw (skip_kept 0x22 (t ++ (c ++ r)) refl)
    (bind_some _ _ (c ++ r) (string_complete (0x22 ∷ t) (c ++ r) (string more)) ∙ structural_complete 0x3a c r y refl)

member_complete : (d : ℕ) (s c t : List ℕ) → String s → Structural 0x3a c → Passes (value_end d) t → Passes (member_over (value_end d)) (s ++ (c ++ t))
unfolding member_over
member_complete d s c t x y z r h = rw (regroup s c t r) (bind_some _ _ (skip (t ++ r)) (name_complete s c (t ++ r) x y) ∙ z r h)
  where
    regroup : (s c t r : List ℕ) → (s ++ (c ++ t)) ++ r ≡ s ++ (c ++ (t ++ r))
    regroup s c t r = simp append_assoc

-- ---- by the derivation

abbrev Complete : Symbol → ℕ → List ℕ → Type 0
Complete value d t = Passes (value_end d) t
Complete object d t = (r : List ℕ) → object_end d (skip (t ++ r)) ≡ some (skip r)
Complete members d t = Items (Passes (member_over (value_end d))) t
Complete member d t = Passes (member_over (value_end d)) t
Complete array d t = (r : List ℕ) → array_end d (skip (t ++ r)) ≡ some (skip r)
Complete values d t = Items (Passes (value_end d)) t

complete : {k : Symbol} {d : ℕ} {t : List ℕ} → Derives k d t → Complete k d t
unfolding object_end object_over array_end array_over is_space one_of
complete (false_value {d}) = value_false d
complete (null_value {d}) = value_null d
complete (true_value {d}) = value_true d
complete (object_value {d} {s} x) = λ r h. object⇒value d (skip (s ++ r)) (skip r) (complete x r)
complete (array_value {d} {s} x) = λ r h. array⇒value d (skip (s ++ r)) (skip r) (complete x r)
complete (number_value {d} {s} x) = λ r h. value_number d s r x h
complete (string_value {d} {s} x) = λ r h. value_string d s r x
complete (no_members {d} {b} {e} x y) =
    λ r. brackets_empty (member_over (value_end d)) 0x7d (member_shorter d) (object_closes d) 0x7b refl b e r x y
complete (some_members {d} {b} {s} {e} x xs y) =
    λ r. brackets_full (member_over (value_end d)) 0x7d (member_shorter d) (object_closes d) 0x7b refl b s e r x (complete xs) y
complete (one_member x) = one_item (complete x)
complete (more_members {s} x c xs) = more_items {s = s} (complete x) c (complete xs)
complete (named {d} {s} {c} {t} x y z) = member_complete d s c t x y (complete z)
complete (no_values {d} {b} {e} x y) =
    λ r. brackets_empty (value_end d) 0x5d (value_shorter d) (array_closes d) 0x5b refl b e r x y
complete (some_values {d} {b} {s} {e} x xs y) =
    λ r. brackets_full (value_end d) 0x5d (value_shorter d) (array_closes d) 0x5b refl b s e r x (complete xs) y
complete (one_value x) = one_item (complete x)
complete (more_values {s} x c xs) = more_items {s = s} (complete x) c (complete xs)

pub value_complete : (d : ℕ) (t r : List ℕ) → Derives value d t → Apart r → value_end d (skip (t ++ r)) ≡ some (skip r)
value_complete d t r x h = complete x r h

pub object_complete : (d : ℕ) (t r : List ℕ) → Derives object d t → object_end d (skip (t ++ r)) ≡ some (skip r)
object_complete d t r x = complete x r

pub array_complete : (d : ℕ) (t r : List ℕ) → Derives array d t → array_end d (skip (t ++ r)) ≡ some (skip r)
array_complete d t r x = complete x r
