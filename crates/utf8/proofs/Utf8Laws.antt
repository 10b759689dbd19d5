-- Laws of UTF-8: the test takes exactly the byte strings that the relation describes.
-- Assumes nothing.
use mathlib.Core.Path.{◌≡◌, refl, sym, ◌∙◌}
use mathlib.Core.Bool.{Bool, true, false, ◌&&◌, cond, and-eq-true_iff}
use mathlib.Core.List.{List, [], ◌∷◌, ◌++◌}
use Prim.Native.Nat.{ℕ, zero, suc, ◌-◌}
use native.Mathlib.Omega.{arith}
use lib.Dec.{leb}
use borrow.Author.Tests.{leb-true, leb-false, le-leb, lt-leb, eqb-true, ne_eqb}
use Rattle.byte_range.specs.Range.{In, within}
use Rattle.byte_range.proofs.RangeLaws.{within⇒in, in⇒within}
use Rattle.utf8.specs.Utf8.{Tail, Character, UTF8_1, UTF8_2, UTF8_3_e0, UTF8_3_e1, UTF8_3_ed, UTF8_3_ee, UTF8_4_f0, UTF8_4_f1, UTF8_4_f4}
use Rattle.utf8.specs.Utf8.{Utf8, nothing, more, Due, due, Row, rows, due_by, due_after, utf8_from, is_utf8}

-- ---- limits

-- where a and z are on the same side of a limit, all between them are
least_same : (a z b limit : ℕ) → In a z b → leb limit a ≡ leb limit z → leb limit b ≡ leb limit a
least_same a z b limit h e = go (leb limit a) refl
  where
    go : (t : Bool) → leb limit a ≡ t → leb limit b ≡ leb limit a
    go true p = let l = leb-true limit a p in rw p (le-leb limit b (omega arith))
    go false p = let l = leb-false limit z (sym e ∙ p) in rw p (lt-leb limit b (omega arith))

most_same : (a z b limit : ℕ) → In a z b → leb a limit ≡ leb z limit → leb b limit ≡ leb a limit
most_same a z b limit h e = go (leb a limit) refl
  where
    go : (t : Bool) → leb a limit ≡ t → leb b limit ≡ leb a limit
    go true p = let l = leb-true z limit (sym e ∙ p) in rw p (le-leb b limit (omega arith))
    go false p = let l = leb-false a limit p in rw p (lt-leb b limit (omega arith))

-- ---- what is due after a first byte

-- on which side of each limit of the rows a byte is
abbrev pub sides : List Row → ℕ → List Bool
sides [] b = []
sides (r ∷ others) b = leb r.first b ∷ leb b r.last ∷ sides others b

due_by-same : (l : List Row) (a z b : ℕ) → In a z b → sides l a ≡ sides l z → due_by l b ≡ due_by l a
due_by-same [] a z b h e = refl
due_by-same (r ∷ l) a z b h e =
    rw (least_same a z b r.first h (cc), most_same a z b r.last h (cc), due_by-same l a z b h (cc))

-- where a and z are on the same side of every limit, the same is due after all from a to z
pub due_after-same : (a z b : ℕ) → In a z b → sides rows a ≡ sides rows z → due_after a ≡ due_after b
unfolding due_after
due_after-same a z b h e = sym (due_by-same rows a z b h e)

-- ---- the test and the relation

-- the bytes that are due, and then some of which P holds
data Going (P : List ℕ → Type 0) : Due → List ℕ → Type 0 where
  whole : {low high : ℕ} {s : List ℕ} → P s → Going P (due 0 low high) s
  byte : {n low high b : ℕ} {s : List ℕ} → In low high b → Going P (due n 0x80 0xbf) s → Going P (due (suc n) low high) (b ∷ s)

-- From the relation to the test.

abbrev Passes : List ℕ → Type 0
Passes s = is_utf8 s ≡ true

passes : {d : Due} {s : List ℕ} → Going Passes d s → utf8_from d s ≡ true
unfolding is_utf8 utf8_from
passes (whole {s = []} e) = refl
passes (whole {s = b ∷ s} e) = e
passes (byte {n} {low} {high} {b} h g) =
    let less : suc n - 1 ≡ n = omega arith in
    rw (ne_eqb (suc n) 0 (λ z. omega arith), in⇒within _ _ _ h, less) (passes g)

first : (a : ℕ) (s : List ℕ) → Going Passes (due_after a) s → Passes (a ∷ s)
unfolding is_utf8 utf8_from
first a s g = passes g

-- a character in front
one_more : {c : List ℕ} (s : List ℕ) → Character c → Passes s → Passes (c ++ s)
unfolding due_after
one_more s (UTF8_1 {a} h) e = first a _ (rw (← due_after-same 0x00 0x7f a h refl) (whole e))
one_more s (UTF8_2 {a} h b) e = first a _ (rw (← due_after-same 0xc2 0xdf a h refl) (byte b (whole e)))
one_more s (UTF8_3_e0 b c) e = first 0xe0 _ (byte b (byte c (whole e)))
one_more s (UTF8_3_e1 {a} h b c) e = first a _ (rw (← due_after-same 0xe1 0xec a h refl) (byte b (byte c (whole e))))
one_more s (UTF8_3_ed b c) e = first 0xed _ (byte b (byte c (whole e)))
one_more s (UTF8_3_ee {a} h b c) e = first a _ (rw (← due_after-same 0xee 0xef a h refl) (byte b (byte c (whole e))))
one_more s (UTF8_4_f0 b c d) e = first 0xf0 _ (byte b (byte c (byte d (whole e))))
one_more s (UTF8_4_f1 {a} h b c d) e = first a _ (rw (← due_after-same 0xf1 0xf3 a h refl) (byte b (byte c (byte d (whole e)))))
one_more s (UTF8_4_f4 b c d) e = first 0xf4 _ (byte b (byte c (byte d (whole e))))

pub Utf8⇒is_utf8 : (s : List ℕ) → Utf8 s → is_utf8 s ≡ true
unfolding is_utf8 utf8_from
Utf8⇒is_utf8 s nothing = refl
Utf8⇒is_utf8 s (more {s = rest} c u) = one_more rest c (Utf8⇒is_utf8 rest u)

-- From the test to the relation.

-- a is the first byte of a character of one byte, two, three or four, or of none
module _ {a : ℕ} where
  one : {s : List ℕ} → Character (a ∷ []) → Going Utf8 (due 0 0x80 0xbf) s → Utf8 (a ∷ s)
  one k (whole u) = more k u

  two : {s : List ℕ} → ((b : ℕ) → Tail b → Character (a ∷ b ∷ [])) → Going Utf8 (due 1 0x80 0xbf) s → Utf8 (a ∷ s)
  two k (byte b (whole u)) = more (k _ b) u

  three : {low high : ℕ} {s : List ℕ} → ((b c : ℕ) → In low high b → Tail c → Character (a ∷ b ∷ c ∷ [])) → Going Utf8 (due 2 low high) s
      → Utf8 (a ∷ s)
  three k (byte b (byte c (whole u))) = more (k _ _ b c) u

  four : {low high : ℕ} {s : List ℕ} → ((b c d : ℕ) → In low high b → Tail c → Tail d → Character (a ∷ b ∷ c ∷ d ∷ []))
      → Going Utf8 (due 3 low high) s → Utf8 (a ∷ s)
  four k (byte b (byte c (byte d (whole u)))) = more (k _ _ _ b c d) u

  none : {s : List ℕ} → Going Utf8 (due 1 1 0) s → Utf8 (a ∷ s)
  none (byte h g) = absurd (omega arith)

  -- by whether a is from `low` to `high`
  at : (low high : ℕ) {x y : Due} {s : List ℕ} → (In low high a → Going Utf8 x s → Utf8 (a ∷ s)) → (Going Utf8 y s → Utf8 (a ∷ s))
      → Going Utf8 (cond (within low high a) x y) s → Utf8 (a ∷ s)
  at low high {x} {y} {s} f g = go (within low high a) refl
    where
      go : (t : Bool) → within low high a ≡ t → Going Utf8 (cond t x y) s → Utf8 (a ∷ s)
      go true e = f (within⇒in low high a e)
      go false e = g

only : {low b : ℕ} → In low low b → b ≡ low
only h = omega arith

-- a first byte, and what is due after it
begins : (a : ℕ) (s : List ℕ) → Going Utf8 (due_after a) s → Utf8 (a ∷ s)
unfolding due_after
begins a s =
    at 0x00 0x7f (λ h. one (UTF8_1 h))
    (at 0xc2 0xdf (λ h. two (λ b. UTF8_2 h))
    (at 0xe0 0xe0 (λ h. three (λ b c. rw (only h) UTF8_3_e0))
    (at 0xe1 0xec (λ h. three (λ b c. UTF8_3_e1 h))
    (at 0xed 0xed (λ h. three (λ b c. rw (only h) UTF8_3_ed))
    (at 0xee 0xef (λ h. three (λ b c. UTF8_3_ee h))
    (at 0xf0 0xf0 (λ h. four (λ b c d. rw (only h) UTF8_4_f0))
    (at 0xf1 0xf3 (λ h. four (λ b c d. UTF8_4_f1 h))
    (at 0xf4 0xf4 (λ h. four (λ b c d. rw (only h) UTF8_4_f4))
    none))))))))

goes : (count low high : ℕ) (s : List ℕ) → utf8_from (due count low high) s ≡ true → Going Utf8 (due count low high) s
unfolding utf8_from
goes zero low high [] e = whole nothing
goes zero low high (b ∷ s) e = whole (begins b s (goes (due_after b).count (due_after b).low (due_after b).high s e))
goes (suc n) low high [] e = absurd (let z = eqb-true (suc n) 0 e in omega arith)
goes (suc n) low high (b ∷ s) e =
    let less : suc n - 1 ≡ n = omega arith in
    let rest : (within low high b && utf8_from (due n 0x80 0xbf) s) ≡ true = rw (ne_eqb (suc n) 0 (λ z. omega arith), less) at e in
    let p = (and-eq-true_iff (within low high b) (utf8_from (due n 0x80 0xbf) s)).0 rest in
    byte (within⇒in low high b p.0) (goes n 0x80 0xbf s p.1)

pub is_utf8⇒Utf8 : (s : List ℕ) → is_utf8 s ≡ true → Utf8 s
unfolding is_utf8
is_utf8⇒Utf8 s e = ended (goes 0 0x80 0xbf s e)
  where
    ended : {low high : ℕ} {s : List ℕ} → Going Utf8 (due 0 low high) s → Utf8 s
    ended (whole u) = u
