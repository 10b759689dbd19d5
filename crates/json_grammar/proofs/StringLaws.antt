-- Laws of strings: what is passed over is a string by the grammar, and a string is passed over.
-- Assumes nothing.
use Prim.Native.Nat.{ℕ, zero, suc, ◌-◌, ◌<◌, ◌≤◌}
use mathlib.Core.Path.{◌≡◌, refl, sym, ◌∙◌}
use mathlib.Core.Bool.{Bool, true, false, cond, true≢false}
use mathlib.Core.List.{List, [], ◌∷◌, ◌++◌, append_assoc}
use mathlib.Core.Option.{none, some}
use native.Mathlib.Omega.{arith}
use lib.Dec.{leb, eqb, eqb-suc-zero}
use borrow.Author.Tests.{eqb-true, eqb-false, ne_eqb, leb-true, le-leb}
use Rattle.json_grammar.specs.Grammar.{Hex, Char, unescaped, escaped, unicode, Chars, quotation_mark, char, String, string}
use Rattle.json_grammar.specs.Recogniser.{one_of, is_hex, is_escape, chars_end, string_end}
use Rattle.json_grammar.proofs.ByteLaws.{one_of⇒member, member⇒one_of, is_hex⇒hex, hex⇒is_hex}
use Rattle.json_grammar.proofs.BindLaws.{by_cond, only⁻¹, none_not_some, some_injective}
use Rattle.json_grammar.proofs.FrontLaws.{Front, Sound, front_one, front_more}

-- ---- what was passed over

-- What ends a string that stands open: so many hex digits and then characters, or (5) what makes a backslash whole and then characters.
data Due : ℕ → List ℕ → Type 0 where
  due_chars : {t : List ℕ} → Chars t → Due 0 t
  due_hex : {n b : ℕ} {t : List ℕ} → n < 4 → Hex b → Due n t → Due (suc n) (b ∷ t)
  due_escape : {t : List ℕ} → Chars (0x5c ∷ t) → Due 5 t

due_chars⁻¹ : (t : List ℕ) → Due 0 t → Chars t
due_chars⁻¹ t (due_chars c) = c

due_escape⁻¹ : (t : List ℕ) → Due 5 t → Chars (0x5c ∷ t)
due_escape⁻¹ t (due_hex h x y) = absurd (omega arith)
due_escape⁻¹ t (due_escape c) = c

due_unicode : (t : List ℕ) → Due 4 t → Chars (0x5c ∷ 0x75 ∷ t)
due_unicode t (due_hex _ a (due_hex _ b (due_hex _ c (due_hex _ d (due_chars more))))) = char (unicode a b c d) more

module _ (b : ℕ) (s r : List ℕ) (below : (n : ℕ) → n ≤ 5 → chars_end n s ≡ some r → Front (Due n) s r) where
  char_from : cond (eqb b 0x22) (some s) (cond (eqb b 0x5c) (chars_end 5 s) (cond (leb 0x20 b) (chars_end 0 s) none)) ≡ some r → Front (Due 0) (b ∷ s) r
  char_from e =
      by_cond (eqb b 0x22) _ _ r e
      (λ p e. rw (eqb-true b 0x22 p, ← some_injective s r e) (front_one 0x22 s (due_chars quotation_mark)))
      (λ p e. by_cond (eqb b 0x5c) _ _ r e
      (λ q e. rw (eqb-true b 0x5c q) (front_more 0x5c s r (λ t y. due_chars (due_escape⁻¹ t y)) (below 5 (omega arith) e)))
      (λ q e. let x = only⁻¹ (leb 0x20 b) _ r e in
      front_more b s r (λ t y. due_chars (char (unescaped (leb-true 0x20 b x.0) (eqb-false b 0x22 p) (eqb-false b 0x5c q)) (due_chars⁻¹ t y)))
      (below 0 (omega arith) x.1)))

  escape_from : cond (eqb b 0x75) (chars_end 4 s) (cond (is_escape b) (chars_end 0 s) none) ≡ some r → Front (Due 5) (b ∷ s) r
  unfolding is_escape
  escape_from e =
      by_cond (eqb b 0x75) _ _ r e
      (λ p e. rw (eqb-true b 0x75 p) (front_more 0x75 s r (λ t y. due_escape (due_unicode t y)) (below 4 (omega arith) e)))
      (λ p e. let x = only⁻¹ (is_escape b) _ r e in
      front_more b s r (λ t y. due_escape (char (escaped (one_of⇒member _ b x.0)) (due_chars⁻¹ t y))) (below 0 (omega arith) x.1))

  hex_from : (n : ℕ) → n < 4 → cond (is_hex b) (chars_end n s) none ≡ some r → Front (Due (suc n)) (b ∷ s) r
  hex_from n h e =
      let x = only⁻¹ (is_hex b) _ r e in
      front_more b s r (λ t. due_hex h (is_hex⇒hex b x.0)) (below n (omega arith) x.1)

chars_from : (s : List ℕ) (due : ℕ) (r : List ℕ) → due ≤ 5 → chars_end due s ≡ some r → Front (Due due) s r
unfolding chars_end
chars_from [] due r h e = absurd (none_not_some r e)
chars_from (b ∷ s) zero r h e = char_from b s r (λ n. chars_from s n r) e
chars_from (b ∷ s) (suc due) r h e = go (eqb (suc due) 5) refl (λ n. chars_from s n r)
  where
    go : (is : Bool) → eqb (suc due) 5 ≡ is → ((n : ℕ) → n ≤ 5 → chars_end n s ≡ some r → Front (Due n) s r)
        → Front (Due (suc due)) (b ∷ s) r
    go true p below = rw (eqb-true (suc due) 5 p) (escape_from b s r below (rw (eqb-suc-zero due, p) at e))
    go false p below =
        let other = eqb-false (suc due) 5 p in
        let one_less : suc due - 1 ≡ due = omega arith in
        hex_from b s r below due (omega (arith, other)) (rw (eqb-suc-zero due, p, one_less) at e)

pub string_sound : Sound string_end String
unfolding string_end
string_sound [] r e = absurd (none_not_some r e)
string_sound (b ∷ s) r e =
    let x = only⁻¹ (eqb b 0x22) (chars_end 0 s) r e in
    rw (eqb-true b 0x22 x.0) (front_more 0x22 s r (λ t y. string (due_chars⁻¹ t y)) (chars_from s 0 r (omega arith) x.1))

-- ---- a string is passed over

-- what a backslash makes whole is not `u`
pub escape_plain : (b : ℕ) → is_escape b ≡ true → eqb b 0x75 ≡ false
unfolding is_escape one_of
escape_plain b e = ne_eqb b 0x75 (λ same. true≢false (sym e ∙ rw same))

char_complete : (c s : List ℕ) → Char c → chars_end 0 (c ++ s) ≡ chars_end 0 s
unfolding chars_end is_escape
char_complete c s (unescaped {b} least h k) = rw (ne_eqb b 0x22 h, ne_eqb b 0x5c k, le-leb 0x20 b least)
char_complete c s (escaped {b} m) =
    let e = member⇒one_of _ b m in
    rw (escape_plain b e, e)
char_complete c s (unicode {a} {b} {c = x} {d} h i j k) = rw (hex⇒is_hex a h, hex⇒is_hex b i, hex⇒is_hex x j, hex⇒is_hex d k)

chars_complete : (t r : List ℕ) → Chars t → chars_end 0 (t ++ r) ≡ some r
unfolding chars_end
chars_complete t r quotation_mark = refl
chars_complete t r (char {c} {s} x more) = rw (append_assoc c s r, char_complete c (s ++ r) x) (chars_complete s r more)

pub string_complete : (t r : List ℕ) → String t → string_end (t ++ r) ≡ some r
unfolding string_end
string_complete t r (string {s} more) = chars_complete s r more
