-- Laws of what the recogniser says, by the first byte of the bytes and by what is left after the parts of a text.
-- Assumes nothing.
use Prim.Native.Nat.{ℕ, ◌-◌, ◌<◌, ◌≤◌}
use mathlib.Core.Path.{◌≡◌, refl}
use mathlib.Core.Logic.{◌⊎◌, inl, inr}
use mathlib.Core.Bool.{Bool, true, false, ◌&&◌, and-eq-true_iff, false≢true}
use mathlib.Core.List.{List, [], ◌∷◌}
use mathlib.Core.Option.{Option, none, some}
use native.Mathlib.Omega.{arith}
use lib.Dec.{eqb}
use lib.ListN.{length, drop, get_or}
use borrow.Author.Tests.{eqb-true, eq-eqb, ne_eqb, le-leb, lt-leb}
use Rattle.byte_range.proofs.RangeLaws.{within⇒in}
use Rattle.json_grammar.specs.Recogniser.{◌>>=◌, one_of, skip, is_digit, skip_digits, digits_end, skip_minus, int_end, frac_end, skip_sign, exp_end, number_end}
use Rattle.json_grammar.specs.Recogniser.{is_hex, is_escape, chars_end, string_end, word_end, scalar_end, structural_end, name_end, plain_end, member_over}
use Rattle.json_grammar.proofs.ByteLaws.{by_or, or_left, or_right}
use Rattle.json_grammar.proofs.StringLaws.{escape_plain}

-- ---- a byte that is one of some

-- the byte is one of the keys
abbrev pub Key : ℕ → List ℕ → ℕ → Type 0
Key k [] b = b ≡ k
Key k (j ∷ ks) b = (b ≡ k) ⊎ Key j ks b

abbrev pub all_of : (ℕ → Bool) → List ℕ → Bool
all_of test [] = true
all_of test (c ∷ cs) = test c && all_of test cs

key⇒one_of : (k : ℕ) (ks : List ℕ) (b : ℕ) → Key k ks b → one_of (k ∷ ks) b ≡ true
unfolding one_of
key⇒one_of k [] b e = or_left (eqb b k) _ (eq-eqb b k e)
key⇒one_of k (j ∷ ks) b (inl e) = or_left (eqb b k) _ (eq-eqb b k e)
key⇒one_of k (j ∷ ks) b (inr o) = or_right (eqb b k) _ (key⇒one_of j ks b o)

one_of⇒key : (k : ℕ) (ks : List ℕ) (b : ℕ) → one_of (k ∷ ks) b ≡ true → Key k ks b
unfolding one_of
one_of⇒key k [] b e = by_or (eqb b k) _ e (eqb-true b k) (λ e. absurd (false≢true e))
one_of⇒key k (j ∷ ks) b e = by_or (eqb b k) _ e (λ e. inl (eqb-true b k e)) (λ e. inr (one_of⇒key j ks b e))

-- a test that takes each of some bytes takes a byte that is one of them
each_taken : (test : ℕ → Bool) (cs : List ℕ) (b : ℕ) → all_of test cs ≡ true → one_of cs b ≡ true → test b ≡ true
unfolding one_of
each_taken test [] b all e = absurd (false≢true e)
each_taken test (c ∷ cs) b all e =
    let both = (and-eq-true_iff (test c) (all_of test cs)).0 all in
    by_or (eqb b c) _ e (λ e. rw (eqb-true b c e) both.0) (λ e. each_taken test cs b both.1 e)

-- a test that takes each key
pub key_taken : (test : ℕ → Bool) (k : ℕ) (ks : List ℕ) (b : ℕ) → all_of test (k ∷ ks) ≡ true → Key k ks b → test b ≡ true
key_taken test k ks b all key = each_taken test (k ∷ ks) b all (key⇒one_of k ks b key)

-- a test for bytes that are all keys
pub no_key : (cs : List ℕ) (k : ℕ) (ks : List ℕ) (b : ℕ) → all_of (one_of (k ∷ ks)) cs ≡ true → (Key k ks b → ⊥) → one_of cs b ≡ false
no_key cs k ks b all other = go (one_of cs b) refl
  where
    go : (is : Bool) → one_of cs b ≡ is → is ≡ false
    go true e = absurd (other (one_of⇒key k ks b (each_taken (one_of (k ∷ ks)) cs b all e)))
    go false e = refl

-- ---- numbers, by the first byte

pub digit_some : (b : ℕ) → is_digit b ≡ true → 0 < b
unfolding is_digit
digit_some b e = let i = within⇒in 0x30 0x39 b e in omega (arith, i.least)

pub digits_found : (s : List ℕ) → is_digit (get_or s 0 0) ≡ true → some (skip_digits (drop 1 s)) ≡ digits_end s
unfolding digits_end is_digit
digits_found [] e = absurd (false≢true e)
digits_found (b ∷ s) e = rw e

pub digits_none : (s : List ℕ) → is_digit (get_or s 0 0) ≡ false → none ≡ digits_end s
unfolding digits_end
digits_none [] e = refl
digits_none (b ∷ s) e = rw e

pub minus_found : (s : List ℕ) → get_or s 0 0 ≡ 0x2d → drop 1 s ≡ skip_minus s
unfolding skip_minus
minus_found [] e = absurd (omega arith)
minus_found (b ∷ s) e = rw e

pub minus_none : (s : List ℕ) → (get_or s 0 0 ≡ 0x2d → ⊥) → s ≡ skip_minus s
unfolding skip_minus
minus_none [] other = refl
minus_none (b ∷ s) other = rw (ne_eqb b 0x2d other)

pub int_zero : (s : List ℕ) → get_or s 0 0 ≡ 0x30 → some (drop 1 s) ≡ int_end s
unfolding int_end
int_zero [] e = absurd (omega arith)
int_zero (b ∷ s) e = rw e

pub int_digits : (s : List ℕ) → (get_or s 0 0 ≡ 0x30 → ⊥) → digits_end s ≡ int_end s
unfolding int_end digits_end
int_digits [] other = refl
int_digits (b ∷ s) other = rw (ne_eqb b 0x30 other)

pub frac_found : (s : List ℕ) → get_or s 0 0 ≡ 0x2e → digits_end (drop 1 s) ≡ frac_end s
unfolding frac_end
frac_found [] e = absurd (omega arith)
frac_found (b ∷ s) e = rw e

pub frac_none : (s : List ℕ) → (get_or s 0 0 ≡ 0x2e → ⊥) → some s ≡ frac_end s
unfolding frac_end
frac_none [] other = refl
frac_none (b ∷ s) other = rw (ne_eqb b 0x2e other)

pub sign_found : (s : List ℕ) → one_of (0x2d ∷ 0x2b ∷ []) (get_or s 0 0) ≡ true → drop 1 s ≡ skip_sign s
unfolding skip_sign one_of
sign_found [] e = absurd (false≢true e)
sign_found (b ∷ s) e = rw e

pub sign_none : (s : List ℕ) → one_of (0x2d ∷ 0x2b ∷ []) (get_or s 0 0) ≡ false → s ≡ skip_sign s
unfolding skip_sign
sign_none [] e = refl
sign_none (b ∷ s) e = rw e

pub exp_found : (s : List ℕ) → one_of (0x65 ∷ 0x45 ∷ []) (get_or s 0 0) ≡ true → digits_end (skip_sign (drop 1 s)) ≡ exp_end s
unfolding exp_end one_of
exp_found [] e = absurd (false≢true e)
exp_found (b ∷ s) e = rw e

pub exp_none : (s : List ℕ) → one_of (0x65 ∷ 0x45 ∷ []) (get_or s 0 0) ≡ false → some s ≡ exp_end s
unfolding exp_end
exp_none [] e = refl
exp_none (b ∷ s) e = rw e

-- ---- a number, by its parts: from `s`, after the minus `m`, after the integer `p`, after the fraction `q`

pub number_no_int : (s m : List ℕ) → m ≡ skip_minus s → none ≡ int_end m → none ≡ number_end s
unfolding number_end ◌>>=◌
number_no_int s m minus int = rw (← minus, ← int)

pub number_no_frac : (s m p : List ℕ) → m ≡ skip_minus s → some p ≡ int_end m → none ≡ frac_end p → none ≡ number_end s
unfolding number_end ◌>>=◌
number_no_frac s m p minus int frac = rw (← minus, ← int, ← frac)

pub number_found : (s m p q : List ℕ) → m ≡ skip_minus s → some p ≡ int_end m → some q ≡ frac_end p → exp_end q ≡ number_end s
unfolding number_end ◌>>=◌
number_found s m p q minus int frac = rw (← minus, ← int, ← frac)

-- ---- a byte of a string, by what is due

module _ (due b : ℕ) (s : List ℕ) where
  pub char_closes : due ≡ 0 → b ≡ 0x22 → some s ≡ chars_end due (b ∷ s)
  unfolding chars_end
  char_closes d e = rw (d, e)

  pub char_escapes : due ≡ 0 → b ≡ 0x5c → chars_end 5 s ≡ chars_end due (b ∷ s)
  unfolding chars_end
  char_escapes d e = rw (d, e)

  pub char_control : due ≡ 0 → (b ≡ 0x22 → ⊥) → (b ≡ 0x5c → ⊥) → b < 0x20 → none ≡ chars_end due (b ∷ s)
  unfolding chars_end
  char_control d quote escape h = rw (d, ne_eqb b 0x22 quote, ne_eqb b 0x5c escape, lt-leb 0x20 b h)

  pub char_unescaped : due ≡ 0 → (b ≡ 0x22 → ⊥) → (b ≡ 0x5c → ⊥) → 0x20 ≤ b → chars_end 0 s ≡ chars_end due (b ∷ s)
  unfolding chars_end
  char_unescaped d quote escape h = rw (d, ne_eqb b 0x22 quote, ne_eqb b 0x5c escape, le-leb 0x20 b h)

  pub escape_unicode : due ≡ 5 → b ≡ 0x75 → chars_end 4 s ≡ chars_end due (b ∷ s)
  unfolding chars_end
  escape_unicode d e = rw (d, e)

  pub escape_whole : due ≡ 5 → is_escape b ≡ true → chars_end 0 s ≡ chars_end due (b ∷ s)
  unfolding chars_end
  escape_whole d e = rw (d, escape_plain b e, e)

  pub escape_stray : due ≡ 5 → (b ≡ 0x75 → ⊥) → is_escape b ≡ false → none ≡ chars_end due (b ∷ s)
  unfolding chars_end
  escape_stray d unicode e = rw (d, ne_eqb b 0x75 unicode, e)

  pub hex_taken : (due ≡ 0 → ⊥) → (due ≡ 5 → ⊥) → is_hex b ≡ true → chars_end (due - 1) s ≡ chars_end due (b ∷ s)
  unfolding chars_end
  hex_taken some-due no-escape e = rw (ne_eqb due 0 some-due, ne_eqb due 5 no-escape, e)

  pub hex_stray : (due ≡ 0 → ⊥) → (due ≡ 5 → ⊥) → is_hex b ≡ false → none ≡ chars_end due (b ∷ s)
  unfolding chars_end
  hex_stray some-due no-escape e = rw (ne_eqb due 0 some-due, ne_eqb due 5 no-escape, e)

pub chars_cut : (s : List ℕ) (due : ℕ) → length s ≤ 0 → none ≡ chars_end due s
unfolding chars_end
chars_cut [] due h = refl
chars_cut (b ∷ s) due h = absurd (omega arith)

pub string_found : (s : List ℕ) → get_or s 0 0 ≡ 0x22 → chars_end 0 (drop 1 s) ≡ string_end s
unfolding string_end
string_found [] e = absurd (omega arith)
string_found (b ∷ s) e = rw e

pub string_none : (s : List ℕ) → (get_or s 0 0 ≡ 0x22 → ⊥) → none ≡ string_end s
unfolding string_end
string_none [] other = refl
string_none (b ∷ s) other = rw (ne_eqb b 0x22 other)

-- ---- a scalar, by its first byte

pub scalar_string : (s : List ℕ) → get_or s 0 0 ≡ 0x22 → string_end s ≡ scalar_end s
unfolding scalar_end
scalar_string [] e = absurd (omega arith)
scalar_string (b ∷ s) e = rw e

pub scalar_false : (s : List ℕ) → get_or s 0 0 ≡ 0x66 → word_end (0x66 ∷ 0x61 ∷ 0x6c ∷ 0x73 ∷ 0x65 ∷ []) s ≡ scalar_end s
unfolding scalar_end
scalar_false [] e = absurd (omega arith)
scalar_false (b ∷ s) e = rw e

pub scalar_null : (s : List ℕ) → get_or s 0 0 ≡ 0x6e → word_end (0x6e ∷ 0x75 ∷ 0x6c ∷ 0x6c ∷ []) s ≡ scalar_end s
unfolding scalar_end
scalar_null [] e = absurd (omega arith)
scalar_null (b ∷ s) e = rw e

pub scalar_true : (s : List ℕ) → get_or s 0 0 ≡ 0x74 → word_end (0x74 ∷ 0x72 ∷ 0x75 ∷ 0x65 ∷ []) s ≡ scalar_end s
unfolding scalar_end
scalar_true [] e = absurd (omega arith)
scalar_true (b ∷ s) e = rw e

-- with the white space after it: from `s`, after the scalar `t`
pub plain_found : (s t r : List ℕ) → some t ≡ scalar_end s → r ≡ skip t → some r ≡ plain_end s
unfolding plain_end ◌>>=◌
plain_found s t r scalar skipped = rw (← scalar, skipped)

pub plain_none : (s : List ℕ) → none ≡ scalar_end s → none ≡ plain_end s
unfolding plain_end ◌>>=◌
plain_none s scalar = rw (← scalar)

-- ---- structural characters, and names: from `s`, after the string `t`, after white space `r`

module _ (c : ℕ) (s : List ℕ) where
  pub structural_past : length s ≤ 0 → none ≡ structural_end c s
  unfolding structural_end
  structural_past h = go s h
    where
      go : (s : List ℕ) → length s ≤ 0 → none ≡ structural_end c s
      go [] h = refl
      go (b ∷ s) h = absurd (omega arith)

  pub structural_found : (r : List ℕ) → 0 < length s → get_or s 0 0 ≡ c → r ≡ skip (drop 1 s) → some r ≡ structural_end c s
  unfolding structural_end
  structural_found r h e skipped = go s h e skipped
    where
      go : (s : List ℕ) → 0 < length s → get_or s 0 0 ≡ c → r ≡ skip (drop 1 s) → some r ≡ structural_end c s
      go [] h e skipped = absurd (omega arith)
      go (b ∷ s) h e skipped = rw (eq-eqb b c e, skipped)

  pub structural_other : (get_or s 0 0 ≡ c → ⊥) → none ≡ structural_end c s
  unfolding structural_end
  structural_other other = go s other
    where
      go : (s : List ℕ) → (get_or s 0 0 ≡ c → ⊥) → none ≡ structural_end c s
      go [] other = refl
      go (b ∷ s) other = rw (ne_eqb b c other)

pub name_found : (s t r : List ℕ) → some t ≡ string_end s → r ≡ skip t → structural_end 0x3a r ≡ name_end s
unfolding name_end ◌>>=◌
name_found s t r string skipped = rw (← string, skipped)

pub name_none : (s : List ℕ) → none ≡ string_end s → none ≡ name_end s
unfolding name_end ◌>>=◌
name_none s string = rw (← string)

-- ---- a member: from `s`, after the name `t`

module _ (value : List ℕ → Option (List ℕ)) (s : List ℕ) where
  pub member_unnamed : none ≡ name_end s → none ≡ member_over value s
  unfolding member_over ◌>>=◌
  member_unnamed name = rw (← name)

  pub member_named : (t : List ℕ) → some t ≡ name_end s → value t ≡ member_over value s
  unfolding member_over ◌>>=◌
  member_named t name = rw (← name)
