-- Laws of bytes: a test says what the grammar says.
-- Assumes nothing.
use Prim.Native.Nat.{ℕ}
use mathlib.Core.Path.{◌≡◌, refl}
use mathlib.Core.Bool.{Bool, true, false, ◌||◌, true≢false, false≢true}
use mathlib.Core.List.{List, [], ◌∷◌, Memᴰ}
use lib.Dec.{eqb}
use borrow.Author.Tests.{eqb-true, eq-eqb}
use Rattle.byte_range.specs.Range.{within}
use Rattle.byte_range.proofs.RangeLaws.{within⇒in, in⇒within}
use Rattle.json_grammar.specs.Grammar.{Hex, hex_digit, hex_upper, hex_lower}
use Rattle.json_grammar.specs.Recogniser.{one_of, is_hex}

-- ---- tests joined

-- by two tests of which one holds
pub by_or : {A : Type 0} (x y : Bool) → (x || y) ≡ true → (x ≡ true → A) → (y ≡ true → A) → A
by_or true y e left right = left refl
by_or false y e left right = right e

pub or_left : (x y : Bool) → x ≡ true → (x || y) ≡ true
or_left x y e = rw e

pub or_right : (x y : Bool) → y ≡ true → (x || y) ≡ true
or_right true y e = refl
or_right false y e = e

-- neither of two tests holds
pub or_false⁻¹ : (x y : Bool) → (x || y) ≡ false → (x ≡ false) × (y ≡ false)
or_false⁻¹ true y e = absurd (true≢false e)
or_false⁻¹ false y e = (refl, e)

-- ---- one of some bytes

pub one_of⇒member : (cs : List ℕ) (b : ℕ) → one_of cs b ≡ true → Memᴰ b cs
unfolding one_of
one_of⇒member [] b e = absurd (false≢true e)
one_of⇒member (c ∷ cs) b e = by_or (eqb b c) _ e (λ e. Memᴰ.head (eqb-true b c e)) (λ e. Memᴰ.tail (one_of⇒member cs b e))

pub member⇒one_of : (cs : List ℕ) (b : ℕ) → Memᴰ b cs → one_of cs b ≡ true
unfolding one_of
member⇒one_of cs b m = go b cs m
  where
    go : (b : ℕ) (cs : List ℕ) → Memᴰ b cs → one_of cs b ≡ true
    go b cs (Memᴰ.head {x} {xs} e) = or_left (eqb b x) (one_of xs b) (eq-eqb b x e)
    go b cs (Memᴰ.tail {x} {xs} m) = or_right (eqb b x) (one_of xs b) (go b xs m)

-- ---- hex digits

pub is_hex⇒hex : (b : ℕ) → is_hex b ≡ true → Hex b
unfolding is_hex
is_hex⇒hex b e =
    by_or (within 0x30 0x39 b) _ e (λ e. hex_digit (within⇒in 0x30 0x39 b e))
    (λ e. by_or (within 0x41 0x46 b) _ e (λ e. hex_upper (within⇒in 0x41 0x46 b e)) (λ e. hex_lower (within⇒in 0x61 0x66 b e)))

pub hex⇒is_hex : (b : ℕ) → Hex b → is_hex b ≡ true
unfolding is_hex
hex⇒is_hex b (hex_digit i) = or_left (within 0x30 0x39 b) _ (in⇒within 0x30 0x39 b i)
hex⇒is_hex b (hex_upper i) = or_right (within 0x30 0x39 b) _ (or_left (within 0x41 0x46 b) _ (in⇒within 0x41 0x46 b i))
hex⇒is_hex b (hex_lower i) = or_right (within 0x30 0x39 b) _ (or_right (within 0x41 0x46 b) _ (in⇒within 0x61 0x66 b i))
