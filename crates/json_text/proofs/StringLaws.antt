-- Laws of the hex digits of an escape.
-- Assumes nothing.
use Rattle.std.proofs.Common.{◌≡◌, ℕ, zero, suc, ◌-◌, ◌<◌, ◌≤◌, length, Bool, true, false, List, [], ◌∷◌, take, drop, cond, refl, arith}
use Rattle.std.proofs.Math.Option.{none}
use Rattle.std.specs.Prelude.{Option as Given}
use Rattle.std.specs.Bool.{then_some}
use Rattle.std.specs.Borrow.{Bor}
use Rattle.json_text.specs.Answers.{chars_after}
use Rattle.std.proofs.lemmas.Grind.{common_steps}
use Rattle.std.proofs.lemmas.Bool.{ne_eqb}
use Rattle.std.specs.Char.{is_ascii_hexdigit}
use Rattle.std.specs.List.{list_all, IsSplitAt}
use Rattle.json_text.proofs.FrontLaws.{both}
use Rattle.json_grammar.specs.Recogniser.{is_hex, chars_end}

same_hex : (b : ℕ) → is_ascii_hexdigit b ≡ is_hex b
unfolding is_hex
same_hex b = grind (arith, common_steps)

less : (n : ℕ) → suc n - 1 ≡ n
less n = omega arith

-- one digit
hex_next : (n b : ℕ) (s : List ℕ) → suc n < 5 → chars_end (suc n) (b ∷ s) ≡ cond (is_ascii_hexdigit b) (chars_end n s) none
unfolding chars_end
hex_next n b s few = rw (ne_eqb (suc n) 0 (λ z. omega arith), ne_eqb (suc n) 5 (λ z. omega arith), same_hex b, less n)

hex_nothing : (due : ℕ) → chars_end due [] ≡ none
unfolding chars_end
hex_nothing due = refl

-- n digits are due: they all stand there or not, or there are too few bytes
hex_front : (n : ℕ) (s : List ℕ) → n < 5 → n ≤ length s → chars_end n s ≡ cond (list_all is_ascii_hexdigit (take n s)) (chars_end 0 (drop n s)) none
hex_front zero s few long = refl
hex_front (suc n) [] few long = absurd (omega arith)
hex_front (suc n) (b ∷ s) few long = rw (hex_next n b s few, hex_front n s (omega arith) (omega arith)) (both (is_ascii_hexdigit b) _ _)

pub hex_cut : (n : ℕ) (s : List ℕ) → n < 5 → length s < n → chars_end n s ≡ none
hex_cut zero s few cut = absurd (omega arith)
hex_cut (suc n) [] few cut = hex_nothing (suc n)
hex_cut (suc n) (b ∷ s) few cut = rw (hex_next n b s few, hex_cut n s (omega arith) (omega arith)) (grind (arith, common_steps))

-- the answer of the code, where the digits are `front`
pub hex_after : (s front : List ℕ) (rest : Bor (List ℕ)) (r : Given (Bor (List ℕ))) → IsSplitAt s 4 front rest.now
    → r ≡ then_some (list_all is_ascii_hexdigit front) rest → chars_after r ≡ chars_end 4 s
hex_after s front rest r split said =
    rw (hex_front 4 s (omega arith) split.0, ← split.1, ← split.2, said) (go (list_all is_ascii_hexdigit front))
  where
    go : (is : Bool) → chars_after (then_some is rest) ≡ cond is (chars_end 0 rest.now) none
    go true = refl
    go false = refl
