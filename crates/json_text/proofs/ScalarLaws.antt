-- Laws of words at the front.
-- Assumes nothing.
use Rattle.std.proofs.lemmas.Bool.{ne_eqb}
use Rattle.std.proofs.Common.{◌≢◌, ◌<◌, get_or, ◌≡◌, ℕ, ◌+◌, length, true, false, cond, eqb, List, [], ◌∷◌, take, drop, refl, arith, MatchOption, Some, None}
use Rattle.std.proofs.Math.Option.{none, some}
use Rattle.std.specs.Prelude.{Option as Given}
use Rattle.std.specs.Borrow.{Bor}
use Rattle.std.proofs.lemmas.Bool.Decides.{nat_tests}
use lib.Pointwise.{pointwise}
use Rattle.json_grammar.specs.Recogniser.{◌>>=◌, word_end, skip_minus, int_end, number_end, scalar_end}
use Rattle.json_text.specs.Answers.{left}
use Rattle.json_text.proofs.FrontLaws.{both}

either_way : (a b : ℕ) → eqb a b ≡ eqb b a
either_way a b = grind (arith, nat_tests)

word_front : (w s : List ℕ) → word_end w s ≡ cond (pointwise eqb (take (length w) s) w) (some (drop (length w) s)) none
unfolding word_end
word_front [] s = refl
word_front (a ∷ w) [] = refl
word_front (a ∷ w) (b ∷ s) = rw (word_front w s, either_way a b) (both (eqb b a) _ _)

-- the answer of the code, where it strips a word
pub word_stripped : (w s : List ℕ) (r : Given (Bor (List ℕ))) → MatchOption r (pointwise eqb (take (length w) s) w ≡ false) (λ x.
    (pointwise eqb (take (length w) s) w ≡ true) × (x.now ≡ drop (length w) s) × (length x.now + length w ≡ length s)) → left r ≡ word_end w s
word_stripped w s None other = rw (word_front w s, other)
word_stripped w s (Some x) found = rw (word_front w s, found.0, found.1)

pub scalar_number : (s : List ℕ) → get_or s 0 0 ≢ 0x22 → get_or s 0 0 ≢ 0x66 → get_or s 0 0 ≢ 0x6e → get_or s 0 0 ≢ 0x74 → scalar_end s ≡ number_end s
unfolding scalar_end number_end skip_minus int_end ◌>>=◌
scalar_number [] p q r t = refl
scalar_number (b ∷ s) p q r t = rw (ne_eqb b 0x22 p, ne_eqb b 0x66 q, ne_eqb b 0x6e r, ne_eqb b 0x74 t)

pub scalar_nothing : (s : List ℕ) → length s < 1 → scalar_end s ≡ number_end s
scalar_nothing [] h = scalar_number [] (λ e. omega arith) (λ e. omega arith) (λ e. omega arith) (λ e. omega arith)
scalar_nothing (b ∷ s) h = absurd (omega arith)

-- for tactics
pub ruleset scalars = (word_stripped, scalar_number, scalar_nothing)
