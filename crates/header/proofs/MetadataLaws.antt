-- Laws of the metadata rule: the test says what the relation says.
-- Assumes nothing.
use mathlib.Core.Path.{◌≡◌, refl}
use mathlib.Core.Bool.{true, ◌&&◌, and-eq-true_iff, false}
use mathlib.Core.List.{List, ◌∷◌, ◌++◌, []}
use Prim.Native.Nat.{ℕ, ◌-◌, ◌≤◌, ◌<◌}
use native.Mathlib.Omega.{arith}
use lib.Dec.{eqb}
use lib.ListN.{length, length-append, get_or}
use borrow.Author.Tests.{eqb-true, eq-eqb, ne_eqb}
use Rattle.utf8.specs.Utf8.{is_utf8}
use Rattle.utf8.proofs.Utf8Laws.{is_utf8⇒Utf8, Utf8⇒is_utf8}
use Rattle.json_grammar.specs.Grammar.{Structural, structural, Derives, object, no_members, some_members}
use Rattle.json_grammar.specs.Recogniser.{is_object}
use Rattle.json_grammar.proofs.Recognised.{is_object⇒derived, derived⇒is_object}
use Rattle.header.specs.Metadata.{Metadata, is_metadata}

-- ---- the test and the relation

pub is_metadata⇒Metadata : (m : List ℕ) → is_metadata m ≡ true → Metadata m
unfolding is_metadata
is_metadata⇒Metadata m e =
    let first = (and-eq-true_iff (eqb (get_or m 0 0) 0x7b) (eqb (get_or m (length m - 1) 0) 0x7d && (is_utf8 m && is_object 64 m))).0 e in
    let last = (and-eq-true_iff (eqb (get_or m (length m - 1) 0) 0x7d) (is_utf8 m && is_object 64 m)).0 first.1 in
    let rest = (and-eq-true_iff (is_utf8 m) (is_object 64 m)).0 last.1 in
    record {
      opens = eqb-true (get_or m 0 0) 0x7b first.0;
      closes = eqb-true (get_or m (length m - 1) 0) 0x7d last.0;
      text = is_utf8⇒Utf8 m rest.0;
      derived = is_object⇒derived 64 m rest.1;
    }

pub Metadata⇒is_metadata : (m : List ℕ) → Metadata m → is_metadata m ≡ true
unfolding is_metadata
Metadata⇒is_metadata m r =
    rw (
      eq-eqb (get_or m 0 0) 0x7b r.opens,
      eq-eqb (get_or m (length m - 1) 0) 0x7d r.closes,
      Utf8⇒is_utf8 m r.text,
      derived⇒is_object 64 m r.opens r.derived,
    )

-- ---- metadata have two bytes or more

structural_some : (c : ℕ) (s : List ℕ) → Structural c s → 1 ≤ length s
structural_some c s (structural {v} {w} before after) = let sum = length-append v (c ∷ w) in omega arith

object_long : (d : ℕ) (s : List ℕ) → Derives object d s → 2 ≤ length s
object_long d s (no_members {b = b} {e = e} begin end) =
    let sum = length-append b e in let first = structural_some 0x7b b begin in let last = structural_some 0x7d e end in omega arith
object_long d s (some_members {b = b} {s = t} {e = e} begin members end) =
    let sum = length-append b (t ++ e) in
    let rest = length-append t e in
    let first = structural_some 0x7b b begin in
    let last = structural_some 0x7d e end in
    omega arith

pub metadata_long : (m : List ℕ) → Metadata m → 2 ≤ length m
metadata_long m r = object_long 64 m r.derived

-- ---- the test, case by case

-- no byte
pub metadata_empty : (m : List ℕ) → length m < 1 → is_metadata m ≡ false
unfolding is_metadata
metadata_empty [] few = refl
metadata_empty (b ∷ m) few = absurd (omega arith)

-- the first byte is not `{`
pub metadata_unopened : (m : List ℕ) → (get_or m 0 0 ≡ 0x7b → ⊥) → is_metadata m ≡ false
unfolding is_metadata
metadata_unopened m other = rw (ne_eqb (get_or m 0 0) 0x7b other)

-- the last byte is not `}`
pub metadata_unclosed : (m : List ℕ) → get_or m 0 0 ≡ 0x7b → (get_or m (length m - 1) 0 ≡ 0x7d → ⊥) → is_metadata m ≡ false
unfolding is_metadata
metadata_unclosed m first other = rw (eq-eqb (get_or m 0 0) 0x7b first, ne_eqb (get_or m (length m - 1) 0) 0x7d other)

-- the bytes are no text
pub metadata_no_text : (m : List ℕ) → get_or m 0 0 ≡ 0x7b → get_or m (length m - 1) 0 ≡ 0x7d → is_utf8 m ≡ false → is_metadata m ≡ false
unfolding is_metadata
metadata_no_text m first last other = rw (eq-eqb (get_or m 0 0) 0x7b first, eq-eqb (get_or m (length m - 1) 0) 0x7d last, other)

-- otherwise the grammar decides
pub metadata_text : (m : List ℕ) → get_or m 0 0 ≡ 0x7b → get_or m (length m - 1) 0 ≡ 0x7d → is_utf8 m ≡ true → is_metadata m ≡ is_object 64 m
unfolding is_metadata
metadata_text m first last text = rw (eq-eqb (get_or m 0 0) 0x7b first, eq-eqb (get_or m (length m - 1) 0) 0x7d last, text)
