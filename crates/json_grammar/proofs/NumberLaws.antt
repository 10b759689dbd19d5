-- Laws of numbers: what is passed over is a number by the grammar, and a number is passed over.
-- Assumes nothing.
use Prim.Native.Nat.{ℕ}
use mathlib.Core.Path.{◌≡◌, refl, ap, ◌∙◌, subst}
use mathlib.Core.Bool.{Bool, true, false, ◌||◌, cond}
use mathlib.Core.List.Memᴰ
use mathlib.Core.List.{List, [], ◌∷◌, ◌++◌, append_assoc, Memᴰ}
use mathlib.Core.Option.{some}
use native.Mathlib.Omega.{arith}
use lib.Dec.{eqb}
use borrow.Author.Tests.{eqb-true, eqb-false, ne_eqb}
use Rattle.byte_range.specs.Range.{In}
use Rattle.byte_range.proofs.RangeLaws.{within⇒in, in⇒within}
use Rattle.json_grammar.specs.Grammar.{Digits, digit, digits, Int, int_zero, int_one, int_more, Minus, no_minus, minus, Frac, no_frac, frac}
use Rattle.json_grammar.specs.Grammar.{Sign, no_sign, sign, Exp, no_exp, exp, Number, number}
use Rattle.json_grammar.specs.Recogniser.{◌>>=◌, one_of, is_digit, skip_while, skip_digits, digits_end, skip_minus, int_end, frac_end, skip_sign, exp_end, number_end}
use Rattle.json_grammar.proofs.ByteLaws.{one_of⇒member, member⇒one_of, or_false⁻¹}
use Rattle.json_grammar.proofs.BindLaws.{bind_some, bind⁻¹, by_cond, only⁻¹, none_not_some, some_injective}
use Rattle.json_grammar.proofs.FrontLaws.{Front, Both, both, Sound, front_none, front_one, front_more, front_both, front_as}

is_digit⇒in : (b : ℕ) → is_digit b ≡ true → In 0x30 0x39 b
unfolding is_digit
is_digit⇒in b e = within⇒in 0x30 0x39 b e

in⇒is_digit : (b : ℕ) → In 0x30 0x39 b → is_digit b ≡ true
unfolding is_digit
in⇒is_digit b i = in⇒within 0x30 0x39 b i

-- ---- what was passed over

digits_from : (b : ℕ) (s : List ℕ) → In 0x30 0x39 b → Front Digits (b ∷ s) (skip_digits s)
unfolding skip_while
digits_from b [] i = front_one b [] (digit i)
digits_from b (c ∷ s) i = go (is_digit c) refl (digits_from c s)
  where
    go : (is : Bool) → is_digit c ≡ is → (In 0x30 0x39 c → Front Digits (c ∷ s) (skip_digits s)) → Front Digits (b ∷ c ∷ s) (cond is (skip_digits s) (c ∷ s))
    go true e later = front_more b (c ∷ s) (skip_digits s) (λ t. digits i) (later (is_digit⇒in c e))
    go false e later = front_one b (c ∷ s) (digit i)

digits_sound : Sound digits_end Digits
unfolding digits_end
digits_sound [] r e = absurd (none_not_some r e)
digits_sound (b ∷ s) r e =
    let x = only⁻¹ (is_digit b) (some (skip_digits s)) r e in
    subst (Front Digits (b ∷ s)) (some_injective (skip_digits s) r x.1) (digits_from b s (is_digit⇒in b x.0))

minus_sound : (s : List ℕ) → Front Minus s (skip_minus s)
unfolding skip_minus
minus_sound [] = front_none [] no_minus
minus_sound (b ∷ s) = go (eqb b 0x2d) refl
  where
    go : (is : Bool) → eqb b 0x2d ≡ is → Front Minus (b ∷ s) (cond is s (b ∷ s))
    go true e = front_one b s (rw (eqb-true b 0x2d e) minus)
    go false e = front_none (b ∷ s) no_minus

int_from : (b : ℕ) (s : List ℕ) → In 0x31 0x39 b → Front Int (b ∷ s) (skip_digits s)
unfolding skip_while
int_from b [] i = front_one b [] (int_one i)
int_from b (c ∷ s) i = go (is_digit c) refl
  where
    go : (is : Bool) → is_digit c ≡ is → Front Int (b ∷ c ∷ s) (cond is (skip_digits s) (c ∷ s))
    go true e = front_more b (c ∷ s) (skip_digits s) (λ t. int_more i) (digits_from c s (is_digit⇒in c e))
    go false e = front_one b (c ∷ s) (int_one i)

int_sound : Sound int_end Int
unfolding int_end digits_end
int_sound [] r e = absurd (none_not_some r e)
int_sound (b ∷ s) r e =
    by_cond (eqb b 0x30) _ _ r e
    (λ p e. subst (Front Int (b ∷ s)) (some_injective s r e) (front_one b s (rw (eqb-true b 0x30 p) int_zero)))
    (λ p e. let x = only⁻¹ (is_digit b) (some (skip_digits s)) r e in
    let i = is_digit⇒in b x.0 in
    let other = eqb-false b 0x30 p in
    subst (Front Int (b ∷ s)) (some_injective (skip_digits s) r x.1) (int_from b s (record { least = omega (arith, other); most = i.most })))

frac_sound : Sound frac_end Frac
unfolding frac_end
frac_sound [] r e = rw (← some_injective [] r e) (front_none [] no_frac)
frac_sound (b ∷ s) r e =
    by_cond (eqb b 0x2e) _ _ r e
    (λ p e. rw (eqb-true b 0x2e p) (front_more 0x2e s r (λ t. frac) (digits_sound s r e)))
    (λ p e. subst (Front Frac (b ∷ s)) (some_injective (b ∷ s) r e) (front_none (b ∷ s) no_frac))

sign_sound : (s : List ℕ) → Front Sign s (skip_sign s)
unfolding skip_sign
sign_sound [] = front_none [] no_sign
sign_sound (b ∷ s) = go (one_of (0x2d ∷ 0x2b ∷ []) b) refl
  where
    go : (is : Bool) → one_of (0x2d ∷ 0x2b ∷ []) b ≡ is → Front Sign (b ∷ s) (cond is s (b ∷ s))
    go true e = front_one b s (sign (one_of⇒member _ b e))
    go false e = front_none (b ∷ s) no_sign

exp_sound : Sound exp_end Exp
unfolding exp_end
exp_sound [] r e = rw (← some_injective [] r e) (front_none [] no_exp)
exp_sound (b ∷ s) r e =
    by_cond (one_of (0x65 ∷ 0x45 ∷ []) b) _ _ r e
    (λ p e. front_more b s r (whole p) (front_both s (skip_sign s) r (sign_sound s) (digits_sound (skip_sign s) r e)))
    (λ p e. subst (Front Exp (b ∷ s)) (some_injective (b ∷ s) r e) (front_none (b ∷ s) no_exp))
  where
    whole : one_of (0x65 ∷ 0x45 ∷ []) b ≡ true → (t : List ℕ) → Both Sign Digits t → Exp (b ∷ t)
    whole e t (both x y) = exp (one_of⇒member _ b e) x y

pub number_sound : Sound number_end Number
unfolding number_end
number_sound s r e =
    let x = bind⁻¹ (int_end (skip_minus s) >>= frac_end) exp_end r e in
    let y = bind⁻¹ (int_end (skip_minus s)) frac_end x.0 x.1 in
    front_as s r whole
    (front_both s (skip_minus s) r (minus_sound s)
    (front_both (skip_minus s) y.0 r (int_sound (skip_minus s) y.0 y.1)
    (front_both y.0 x.0 r (frac_sound y.0 x.0 y.2) (exp_sound x.0 r x.2))))
  where
    whole : (t : List ℕ) → Both Minus (Both Int (Both Frac Exp)) t → Number t
    whole t (both m (both i (both f e))) = number m i f e

-- ---- what follows a number

-- a byte with which a number can go on
unfoldable pub goes_on : ℕ → Bool
goes_on b = is_digit b || one_of (0x2e ∷ 0x65 ∷ 0x45 ∷ []) b

-- nothing, or a byte with which no number goes on
unfoldable pub Apart : List ℕ → Type 0
Apart [] = Unit {0}
Apart (b ∷ s) = goes_on b ≡ false

apart_digits : (r : List ℕ) → Apart r → skip_digits r ≡ r
unfolding Apart goes_on skip_while
apart_digits [] h = refl
apart_digits (b ∷ s) h = rw (or_false⁻¹ (is_digit b) _ h).0

apart_frac : (r : List ℕ) → Apart r → frac_end r ≡ some r
unfolding Apart goes_on one_of frac_end
apart_frac [] h = refl
apart_frac (b ∷ s) h = rw (or_false⁻¹ (eqb b 0x2e) _ (or_false⁻¹ (is_digit b) _ h).1).0

apart_exp : (r : List ℕ) → Apart r → exp_end r ≡ some r
unfolding Apart goes_on one_of exp_end
apart_exp [] h = refl
apart_exp (b ∷ s) h = rw (or_false⁻¹ (eqb b 0x2e) _ (or_false⁻¹ (is_digit b) _ h).1).1

-- ---- a number is passed over

digits_skipped : (t r : List ℕ) → Digits t → skip_digits r ≡ r → skip_digits (t ++ r) ≡ r
unfolding skip_while
digits_skipped t r (digit {b} i) h = rw (in⇒is_digit b i) h
digits_skipped t r (digits {b} {s} i more) h = rw (in⇒is_digit b i) (digits_skipped s r more h)

digits_complete : (t r : List ℕ) → Digits t → skip_digits r ≡ r → digits_end (t ++ r) ≡ some r
unfolding digits_end
digits_complete t r (digit {b} i) h = rw (in⇒is_digit b i) (ap some h)
digits_complete t r (digits {b} {s} i more) h = rw (in⇒is_digit b i) (ap some (digits_skipped s r more h))

int_complete : (t r : List ℕ) → Int t → skip_digits r ≡ r → int_end (t ++ r) ≡ some r
unfolding int_end
int_complete t r int_zero h = refl
int_complete t r (int_one {b} i) h =
    rw (ne_eqb b 0x30 (λ e. omega (arith, i.least, e))) (digits_complete (b ∷ []) r (digit (record { least = omega (arith, i.least); most = i.most })) h)
int_complete t r (int_more {b} {s} i more) h =
    rw (ne_eqb b 0x30 (λ e. omega (arith, i.least, e)))
    (digits_complete (b ∷ s) r (digits (record { least = omega (arith, i.least); most = i.most }) more) h)

-- an integer has no minus
int_unsigned : (t r : List ℕ) → Int t → skip_minus (t ++ r) ≡ t ++ r
unfolding skip_minus
int_unsigned t r int_zero = refl
int_unsigned t r (int_one {b} i) = rw (ne_eqb b 0x2d (λ e. omega (arith, i.least, e)))
int_unsigned t r (int_more {b} i more) = rw (ne_eqb b 0x2d (λ e. omega (arith, i.least, e)))

minus_complete : (m t r : List ℕ) → Minus m → Int t → skip_minus (m ++ (t ++ r)) ≡ t ++ r
unfolding skip_minus
minus_complete m t r no_minus i = int_unsigned t r i
minus_complete m t r minus i = refl

frac_complete : (t r : List ℕ) → Frac t → skip_digits r ≡ r → frac_end r ≡ some r → frac_end (t ++ r) ≡ some r
unfolding frac_end
frac_complete t r no_frac h k = k
frac_complete t r (frac {s} more) h k = digits_complete s r more h

-- a digit is no sign
digits_unsigned : (t r : List ℕ) → Digits t → skip_sign (t ++ r) ≡ t ++ r
unfolding skip_sign one_of
digits_unsigned t r (digit {b} i) = rw (ne_eqb b 0x2d (λ e. omega (arith, i.least, e)), ne_eqb b 0x2b (λ e. omega (arith, i.least, e)))
digits_unsigned t r (digits {b} i more) = rw (ne_eqb b 0x2d (λ e. omega (arith, i.least, e)), ne_eqb b 0x2b (λ e. omega (arith, i.least, e)))

sign_complete : (s t r : List ℕ) → Sign s → Digits t → skip_sign (s ++ (t ++ r)) ≡ t ++ r
unfolding skip_sign
sign_complete s t r no_sign d = digits_unsigned t r d
sign_complete s t r (sign {b} m) d = rw (member⇒one_of _ b m)

exp_complete : (t r : List ℕ) → Exp t → Apart r → exp_end (t ++ r) ≡ some r
unfolding exp_end
exp_complete t r no_exp h = apart_exp r h
exp_complete t r (exp {e} {s} {t = d} m x y) h = rw (member⇒one_of _ e m, append_assoc s d r, sign_complete s d r x y) (digits_complete d r y (apart_digits r h))

-- what begins with an exponent, or has none, is apart from digits and from a fraction
e_apart : (b : ℕ) (s : List ℕ) → Memᴰ b (0x65 ∷ 0x45 ∷ []) → (skip_digits (b ∷ s) ≡ b ∷ s) × (frac_end (b ∷ s) ≡ some (b ∷ s))
unfolding skip_while frac_end is_digit
e_apart b s (Memᴰ.head e) = rw e (refl, refl)
e_apart b s (Memᴰ.tail m) = rw (Memᴰ.eq_of_singleton m) (refl, refl)

exp_apart : (t r : List ℕ) → Exp t → Apart r → (skip_digits (t ++ r) ≡ t ++ r) × (frac_end (t ++ r) ≡ some (t ++ r))
exp_apart t r no_exp h = (apart_digits r h, apart_frac r h)
exp_apart t r (exp {e} {s} {t = d} m x y) h = e_apart e ((s ++ d) ++ r) m

frac_apart : (t r : List ℕ) → Frac t → skip_digits r ≡ r → skip_digits (t ++ r) ≡ t ++ r
unfolding skip_while is_digit
frac_apart t r no_frac h = h
frac_apart t r (frac more) h = refl

pub number_complete : (t r : List ℕ) → Number t → Apart r → number_end (t ++ r) ≡ some r
unfolding number_end
number_complete t r (number {m} {i} {f} {e} a b c d) h =
    let apart = exp_apart e r d h in
    let later = frac_apart f (e ++ r) c apart.0 in
    rw (regroup m i f e r, minus_complete m i (f ++ (e ++ r)) a b)
    (bind_some _ exp_end (e ++ r)
    (bind_some _ frac_end (f ++ (e ++ r)) (int_complete i (f ++ (e ++ r)) b later) ∙ frac_complete f (e ++ r) c apart.0 apart.1)
    ∙ exp_complete e r d h)
  where
    regroup : (a b c d e : List ℕ) → (a ++ (b ++ (c ++ d))) ++ e ≡ a ++ (b ++ (c ++ (d ++ e)))
    regroup a b c d e = simp append_assoc

-- how a number begins
pub number_first : (t : List ℕ) → Number t → (b : ℕ) × (s : List ℕ) × (t ≡ b ∷ s) × In 0x2d 0x39 b
number_first t (number {m} {i} {f} {e} a b c d) = go m i (f ++ e) a b
  where
    go : (m i s : List ℕ) → Minus m → Int i → (b : ℕ) × (t : List ℕ) × (m ++ (i ++ s) ≡ b ∷ t) × In 0x2d 0x39 b
    go m i s minus x = (0x2d, i ++ s, refl, record { least = omega arith; most = omega arith })
    go m i s no_minus int_zero = (0x30, s, refl, record { least = omega arith; most = omega arith })
    go m i s no_minus (int_one {b} x) = (b, s, refl, record { least = omega (arith, x.least); most = x.most })
    go m i s no_minus (int_more {b} {s = more} x y) = (b, more ++ s, refl, record { least = omega (arith, x.least); most = x.most })
