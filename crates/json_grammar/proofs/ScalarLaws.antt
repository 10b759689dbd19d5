-- Laws of scalars: false, null, true, strings and numbers.
-- Assumes nothing.
use Prim.Native.Nat.{ℕ}
use mathlib.Core.Path.{◌≡◌, refl, ap, ◌∙◌}
use mathlib.Core.Bool.{true}
use mathlib.Core.List.{List, [], ◌∷◌, ◌++◌}
use mathlib.Core.Option.{some}
use native.Mathlib.Omega.{arith}
use lib.Dec.{eqb}
use borrow.Author.Tests.{eqb-true, ne_eqb}
use Rattle.byte_range.specs.Range.{In}
use Rattle.json_grammar.specs.Grammar.{Ws, Number, String, string, value, Derives, false_value, null_value, true_value, number_value, string_value}
use Rattle.json_grammar.specs.Recogniser.{◌>>=◌, skip, number_end, word_end, scalar_end, plain_end}
use Rattle.json_grammar.proofs.BindLaws.{bind_some, bind⁻¹, by_cond, only⁻¹, none_not_some, some_injective}
use Rattle.json_grammar.proofs.FrontLaws.{Front, Both, Sound, front_none, front_more, front_as, front_both}
use Rattle.json_grammar.proofs.SpaceLaws.{skip_sound}
use Rattle.json_grammar.proofs.NumberLaws.{Apart, number_sound, number_complete, number_first}
use Rattle.json_grammar.proofs.StringLaws.{string_sound, string_complete}

-- ---- words

word_sound : (w : List ℕ) → Sound (word_end w) (λ t. t ≡ w)
unfolding word_end
word_sound [] s r e = rw (some_injective s r e) (front_none r refl)
word_sound (c ∷ w) [] r e = absurd (none_not_some r e)
word_sound (c ∷ w) (b ∷ s) r e = go (only⁻¹ (eqb c b) (word_end w s) r e) (word_sound w s r)
  where
    go : (eqb c b ≡ true) × (word_end w s ≡ some r) → (word_end w s ≡ some r → Front (λ t. t ≡ w) s r) → Front (λ t. t ≡ c ∷ w) (b ∷ s) r
    go x later =
        let y = later x.1 in
        rw (eqb-true c b x.0) (front_more b s r (λ t same. ap (λ (l : List ℕ). b ∷ l) same) y)

-- ---- what was passed over

module _ (d : ℕ) where
  word_value : (w s r : List ℕ) → Derives value d w → word_end w s ≡ some r → Front (Derives value d) s r
  word_value w s r h e = front_as s r (λ t same. rw same h) (word_sound w s r e)

  scalar_sound : Sound scalar_end (Derives value d)
  unfolding scalar_end
  scalar_sound [] r e = absurd (none_not_some r e)
  scalar_sound (b ∷ s) r e =
      by_cond (eqb b 0x22) _ _ r e (λ _ e. front_as (b ∷ s) r (λ t. string_value) (string_sound (b ∷ s) r e))
      (λ _ e. by_cond (eqb b 0x66) _ _ r e (λ _ e. word_value _ (b ∷ s) r false_value e)
      (λ _ e. by_cond (eqb b 0x6e) _ _ r e (λ _ e. word_value _ (b ∷ s) r null_value e)
      (λ _ e. by_cond (eqb b 0x74) _ _ r e (λ _ e. word_value _ (b ∷ s) r true_value e)
      (λ _ e. front_as (b ∷ s) r (λ t. number_value) (number_sound (b ∷ s) r e)))))

  -- with the white space after it
  pub plain_sound : Sound plain_end (Both (Derives value d) Ws)
  unfolding plain_end
  plain_sound s r e =
      let x = bind⁻¹ (scalar_end s) _ r e in
      rw (← some_injective (skip x.0) r x.2) (front_both s x.0 (skip x.0) (scalar_sound s x.0 x.1) (skip_sound x.0))

-- ---- a scalar is passed over

pub plain_string : (t r : List ℕ) → String t → plain_end (t ++ r) ≡ some (skip r)
unfolding plain_end scalar_end ◌>>=◌
plain_string t r (string {s} more) = rw (string_complete (0x22 ∷ s) r (string more))

number_scalar : (b : ℕ) (s : List ℕ) → In 0x2d 0x39 b → scalar_end (b ∷ s) ≡ number_end (b ∷ s)
unfolding scalar_end
number_scalar b s i =
    rw (ne_eqb b 0x22 (λ e. omega arith), ne_eqb b 0x66 (λ e. omega arith), ne_eqb b 0x6e (λ e. omega arith), ne_eqb b 0x74 (λ e. omega arith))

pub plain_number : (t r : List ℕ) → Number t → Apart r → plain_end (t ++ r) ≡ some (skip r)
unfolding plain_end
plain_number t r n h =
    let x = number_first t n in
    bind_some (scalar_end (t ++ r)) _ r (rw x.2 (number_scalar x.0 (x.1 ++ r) x.3 ∙ rw x.2 at (number_complete t r n h)))
