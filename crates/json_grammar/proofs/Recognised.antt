-- A text that begins with `{` is recognised as an object exactly when the grammar derives it.
-- Assumes nothing.
use Prim.Native.Nat.{ℕ}
use mathlib.Core.Path.{◌≡◌, refl, sym, ◌∙◌, subst}
use mathlib.Core.Bool.{true, false≢true}
use mathlib.Core.List.{List, [], ◌∷◌, append-nil}
use mathlib.Core.Option.{Option, none, some}
use native.Mathlib.Omega.{arith}
use lib.ListN.{get_or}
use Rattle.json_grammar.specs.Grammar.{Derives, object}
use Rattle.json_grammar.specs.Recogniser.{one_of, is_space, skip_while, skip, object_end, is_done, is_object}
use Rattle.json_grammar.proofs.SpaceLaws.{skip_kept}
use Rattle.json_grammar.proofs.Soundness.{object_sound}
use Rattle.json_grammar.proofs.Completeness.{object_complete}

pub recognised⇒derived : (d : ℕ) (m : List ℕ) → object_end d m ≡ some [] → Derives object d m
recognised⇒derived d m e =
    let x = object_sound d m [] e in
    subst (Derives object d) (sym (x.whole ∙ append-nil x.text)) x.stands

-- The recogniser passes over no white space before the brace.
opened : (m : List ℕ) → get_or m 0 0 ≡ 0x7b → skip m ≡ m
unfolding is_space one_of
opened [] e = absurd (omega arith)
opened (b ∷ s) e = skip_kept b s (rw e)

pub derived⇒recognised : (d : ℕ) (m : List ℕ) → get_or m 0 0 ≡ 0x7b → Derives object d m → object_end d m ≡ some []
unfolding skip_while
derived⇒recognised d m first x = rw (append-nil m, opened m first) at (object_complete d m [] x)

-- ---- as a test

is_done⁻¹ : (o : Option (List ℕ)) → is_done o ≡ true → o ≡ some []
unfolding is_done
is_done⁻¹ none e = absurd (false≢true e)
is_done⁻¹ (some []) e = refl
is_done⁻¹ (some (b ∷ s)) e = absurd (false≢true e)

pub is_object⇒derived : (d : ℕ) (m : List ℕ) → is_object d m ≡ true → Derives object d m
unfolding is_object
is_object⇒derived d m e = recognised⇒derived d m (is_done⁻¹ (object_end d m) e)

pub derived⇒is_object : (d : ℕ) (m : List ℕ) → get_or m 0 0 ≡ 0x7b → Derives object d m → is_object d m ≡ true
unfolding is_object is_done
derived⇒is_object d m first x = rw (derived⇒recognised d m first x)
