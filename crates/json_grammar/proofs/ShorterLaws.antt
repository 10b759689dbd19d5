-- No value, member, object or array is empty, so what is left after one is shorter.
-- Assumes nothing.
use Prim.Native.Nat.{ℕ, ◌<◌}
use mathlib.Core.List.{List, ◌∷◌, ◌++◌}
use native.Mathlib.Omega.{arith}
use lib.ListN.{length, length-append}
use Rattle.json_grammar.specs.Grammar.{Structural, structural, String, string, Number, Derives, value, object, member, array, named}
use Rattle.json_grammar.specs.Grammar.{false_value, null_value, true_value, object_value, array_value, number_value, string_value}
use Rattle.json_grammar.specs.Grammar.{no_members, some_members, no_values, some_values}
use Rattle.json_grammar.specs.Recogniser.{member_over, value_end, object_end, array_end}
use Rattle.json_grammar.proofs.FrontLaws.{Both, both, Shortens, front_shorter}
use Rattle.json_grammar.proofs.NumberLaws.{number_first}
use Rattle.json_grammar.proofs.Soundness.{value_sound, member_sound, object_sound, array_sound}

append_some : (s t : List ℕ) → 0 < length s → 0 < length (s ++ t)
append_some s t h = rw (length-append s t) (omega arith)

structural_some : (c : ℕ) (t : List ℕ) → Structural c t → 0 < length t
structural_some c t (structural {v} {w} x y) = rw (length-append v (c ∷ w)) (omega arith)

string_some : (t : List ℕ) → String t → 0 < length t
string_some t (string more) = omega arith

number_some : (t : List ℕ) → Number t → 0 < length t
number_some t n = let x = number_first t n in rw x.2 (omega arith)

pub object_some : (d : ℕ) (t : List ℕ) → Derives object d t → 0 < length t
object_some d t (no_members {b} {e} x y) = append_some b e (structural_some 0x7b b x)
object_some d t (some_members {b} {s} {e} x y z) = append_some b (s ++ e) (structural_some 0x7b b x)

pub array_some : (d : ℕ) (t : List ℕ) → Derives array d t → 0 < length t
array_some d t (no_values {b} {e} x y) = append_some b e (structural_some 0x5b b x)
array_some d t (some_values {b} {s} {e} x y z) = append_some b (s ++ e) (structural_some 0x5b b x)

pub value_some : (d : ℕ) (t : List ℕ) → Derives value d t → 0 < length t
value_some d t false_value = omega arith
value_some d t null_value = omega arith
value_some d t true_value = omega arith
value_some d t (object_value x) = object_some d t x
value_some d t (array_value x) = array_some d t x
value_some d t (number_value x) = number_some t x
value_some d t (string_value x) = string_some t x

pub member_some : (d : ℕ) (t : List ℕ) → Derives member d t → 0 < length t
member_some d t (named {s} {c} {t = v} x y z) = append_some s (c ++ v) (string_some s x)

both_some : {P Q : List ℕ → Type 0} (t : List ℕ) → ((s : List ℕ) → P s → 0 < length s) → Both P Q t → 0 < length t
both_some t h (both {s} {t = u} x y) = append_some s u (h s x)

-- ---- what is left

pub value_shorter : (d : ℕ) → Shortens (value_end d)
value_shorter d s r e = front_shorter s r (λ t. both_some t (value_some d)) (value_sound d s r e)

pub member_shorter : (d : ℕ) → Shortens (member_over (value_end d))
member_shorter d s r e = front_shorter s r (λ t. both_some t (member_some d)) (member_sound d (value_end d) (value_sound d) s r e)

pub object_shorter : (d : ℕ) → Shortens (object_end d)
object_shorter d s r e = front_shorter s r (object_some d) (object_sound d s r e)

pub array_shorter : (d : ℕ) → Shortens (array_end d)
array_shorter d s r e = front_shorter s r (array_some d) (array_sound d s r e)
