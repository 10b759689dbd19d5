-- Laws of numbers of a fixed width, for any width and in either order of the bytes.
-- A law about the highest byte first comes from the one about the lowest first by `reverse`. Assumes nothing.
use mathlib.Core.Path.{◌≡◌, refl, sym, ap, ◌∙◌}
use mathlib.Core.List.{List, [], ◌∷◌, ◌++◌, reverse, reverse-append, reverse-reverse}
use Prim.Native.Nat.{ℕ, zero, suc, ◌+◌, ◌*◌, ◌/◌, ◌%◌, ◌^◌, ◌<◌, ◌≤◌, ◌-◌}
use native.Mathlib.Nat.{add_comm, mul_comm, pow-suc, zero-add, suc-add, one-le-pow, pow-le-pow_right, le_refl, not-suc-le-zero}
use native.Mathlib.Nat.{lt_of_lt_of_le}
use native.Mathlib.Nat.{div-div-eq-div-mul, div-one, mod-lt, mod-eq_of_lt, mod-one}
use native.Mathlib.Numerals.{add-one}
use native.Mathlib.Omega.{arith}
use lib.Arith.{mod-mul}
use lib.Dec.{lit<}
use lib.ListN.{length, get_or, take, length-reverse, drop, length-take, length-drop}
use lib.Seq.{take-suc, drop-cons}
use Rattle.part.specs.Bytes.{AreBytes}
use Rattle.part.proofs.BytesLaws.{bytes_reverse, bytes_take, bytes_drop}
use Rattle.endian.specs.FixedWidth.{little_endian, big_endian, little_bytes, big_bytes}

-- The number of a list of bytes

-- bytes after others count 256 ^ the number of those others
pub little_endian-append : (xs ys : List ℕ) → little_endian (xs ++ ys) ≡ little_endian xs + 256 ^ length xs * little_endian ys
unfolding little_endian
little_endian-append [] ys = omega arith
little_endian-append (x ∷ xs) ys = rw (little_endian-append xs ys, pow-suc) (omega arith)

pub big_endian-append : (xs ys : List ℕ) → big_endian (xs ++ ys) ≡ big_endian xs * 256 ^ length ys + big_endian ys
unfolding big_endian
big_endian-append xs ys = rw (reverse-append, little_endian-append, length-reverse) (omega arith)

-- one byte more at the end
pub big_endian_snoc : (xs : List ℕ) (x : ℕ) → big_endian (xs ++ (x ∷ [])) ≡ big_endian xs * 256 + x
unfolding big_endian little_endian
big_endian_snoc xs x = rw big_endian-append (omega arith)

-- n bytes are a number below 256 ^ n
pub little_endian_lt : (l : List ℕ) → AreBytes l → little_endian l < 256 ^ length l
unfolding little_endian AreBytes
little_endian_lt [] h = lit< tt
little_endian_lt (b ∷ bs) h =
    let below = little_endian_lt bs h.1 in
    let first = h.0 in
    rw pow-suc (omega arith)

pub big_endian_lt : (l : List ℕ) → AreBytes l → big_endian l < 256 ^ length l
unfolding big_endian
big_endian_lt l h = rw length-reverse at (little_endian_lt (reverse l) (bytes_reverse l h))

-- and at most n bytes too
pub little_endian_lt_within : (n : ℕ) (l : List ℕ) → AreBytes l → length l ≤ n → little_endian l < 256 ^ n
little_endian_lt_within n l h few = lt_of_lt_of_le (little_endian_lt l h) (pow-le-pow_right (lit< tt) few)

pub big_endian_lt_within : (n : ℕ) (l : List ℕ) → AreBytes l → length l ≤ n → big_endian l < 256 ^ n
big_endian_lt_within n l h few = lt_of_lt_of_le (big_endian_lt l h) (pow-le-pow_right (lit< tt) few)

pub big_endian-take_lt : (n : ℕ) (l : List ℕ) → AreBytes l → (i : ℕ) → i ≤ n → big_endian (take i l) < 256 ^ n
big_endian-take_lt n l h i few = big_endian_lt_within n (take i l) (bytes_take i l h) (rw length-take (omega arith))

pub little_endian-drop_lt : (n : ℕ) (l : List ℕ) → AreBytes l → (i : ℕ) → length l ≤ n + i → little_endian (drop i l) < 256 ^ n
little_endian-drop_lt n l h i few = little_endian_lt_within n (drop i l) (bytes_drop i l h) (rw length-drop (omega arith))

-- Reading byte after byte

-- from the front: the byte at i comes after those before it
pub big_endian-take_more : (l : List ℕ) (i : ℕ) → i < length l
    → big_endian (take (i + 1) l) ≡ big_endian (take i l) * 256 + get_or l i 0
big_endian-take_more l i h = rw (add-one, take-suc l i 0) (big_endian_snoc (take i l) (get_or l i 0))

-- from the end: the byte before i comes in front of those from i on
pub little_endian-drop-less : (l : List ℕ) (i : ℕ) → 0 < i → i ≤ length l
    → little_endian (drop (i - 1) l) ≡ little_endian (drop i l) * 256 + get_or l (i - 1) 0
unfolding little_endian
little_endian-drop-less l zero none h = absurd (not-suc-le-zero none)
little_endian-drop-less l (suc i) some h =
    let before : suc i - 1 ≡ i = omega arith in
    rw (before, drop-cons l i 0) (omega arith)

-- n bytes from a position on
pub big_endian-part_lt : (n : ℕ) (s : List ℕ) → AreBytes s → (at : ℕ) → big_endian (take n (drop at s)) < 256 ^ n
big_endian-part_lt n s h at = big_endian-take_lt n (drop at s) (bytes_drop at s h) n (le_refl n)

-- The bytes of a number

pub little_bytes-length : (n x : ℕ) → length (little_bytes n x) ≡ n
unfolding little_bytes
little_bytes-length zero x = refl
little_bytes-length (suc n) x = ap suc (little_bytes-length n _)

pub big_bytes-length : (n x : ℕ) → length (big_bytes n x) ≡ n
unfolding big_bytes
big_bytes-length n x = length-reverse (little_bytes n x) ∙ little_bytes-length n x

pub little_bytes_bytes : (n x : ℕ) → AreBytes (little_bytes n x)
unfolding little_bytes AreBytes
little_bytes_bytes zero x = tt
little_bytes_bytes (suc n) x = (mod-lt x (lit< tt), little_bytes_bytes n _)

pub big_bytes_bytes : (n x : ℕ) → AreBytes (big_bytes n x)
unfolding big_bytes
big_bytes_bytes n x = bytes_reverse (little_bytes n x) (little_bytes_bytes n x)

-- m + n bytes are the lowest m, and n of what is above them
pub little_bytes-add : (m n x : ℕ) → little_bytes (m + n) x ≡ little_bytes m x ++ little_bytes n (x / 256 ^ m)
unfolding little_bytes
little_bytes-add zero n x = rw (zero-add, div-one)
little_bytes-add (suc m) n x =
    rw (suc-add, pow-suc, mul_comm (256 ^ m) 256, ← div-div-eq-div-mul)
    (ap (λ (l : List ℕ). x % 256 ∷ l) (little_bytes-add m n (x / 256)))

pub big_bytes-add : (m n x : ℕ) → big_bytes (m + n) x ≡ big_bytes m (x / 256 ^ n) ++ big_bytes n x
unfolding big_bytes
big_bytes-add m n x =
    rw (add_comm m n, little_bytes-add n m x) (reverse-append (little_bytes n x) (little_bytes m (x / 256 ^ n)))

-- There and back

-- the number of the lowest n bytes
pub little_endian-little_bytes : (n x : ℕ) → little_endian (little_bytes n x) ≡ x % 256 ^ n
unfolding little_endian little_bytes
little_endian-little_bytes zero x = sym (mod-one x)
little_endian-little_bytes (suc n) x =
    let parts = mod-mul x {m = 256 ^ n} {c = 256} (one-le-pow n 256 (lit< tt)) (lit< tt) in
    rw (little_endian-little_bytes n (x / 256), pow-suc, parts) (omega arith)

pub big_endian-big_bytes : (n x : ℕ) → big_endian (big_bytes n x) ≡ x % 256 ^ n
unfolding big_endian big_bytes
big_endian-big_bytes n x = rw reverse-reverse (little_endian-little_bytes n x)

-- the bytes of the number of a list of bytes
pub little_bytes-little_endian : (l : List ℕ) → AreBytes l → little_bytes (length l) (little_endian l) ≡ l
unfolding little_endian little_bytes AreBytes
little_bytes-little_endian [] h = refl
little_bytes-little_endian (b ∷ bs) h =
    let first = h.0 in
    let low : little_endian (b ∷ bs) % 256 ≡ b = omega arith in
    let high : little_endian (b ∷ bs) / 256 ≡ little_endian bs = omega arith in
    rw (low, high, little_bytes-little_endian bs h.1)

pub big_bytes-big_endian : (l : List ℕ) → AreBytes l → big_bytes (length l) (big_endian l) ≡ l
unfolding big_endian big_bytes
big_bytes-big_endian l h =
    let back = little_bytes-little_endian (reverse l) (bytes_reverse l h) in
    ap reverse (rw length-reverse at back) ∙ reverse-reverse l

-- only the lowest n bytes of a number count
pub little_bytes_mod : (n x : ℕ) → little_bytes n (x % 256 ^ n) ≡ little_bytes n x
little_bytes_mod n x =
    let back = little_bytes-little_endian (little_bytes n x) (little_bytes_bytes n x) in
    rw (little_bytes-length, little_endian-little_bytes) at back

pub big_bytes_mod : (n x : ℕ) → big_bytes n (x % 256 ^ n) ≡ big_bytes n x
unfolding big_bytes
big_bytes_mod n x = ap reverse (little_bytes_mod n x)

-- numbers of n bytes with the same bytes are the same
pub little_bytes_injective : (n x y : ℕ) → x < 256 ^ n → y < 256 ^ n → little_bytes n x ≡ little_bytes n y → x ≡ y
little_bytes_injective n x y hx hy same =
    let values = sym (little_endian-little_bytes n x) ∙ ap little_endian same ∙ little_endian-little_bytes n y in
    sym (mod-eq_of_lt hx) ∙ values ∙ mod-eq_of_lt hy

pub big_bytes_injective : (n x y : ℕ) → x < 256 ^ n → y < 256 ^ n → big_bytes n x ≡ big_bytes n y → x ≡ y
big_bytes_injective n x y hx hy same =
    let values = sym (big_endian-big_bytes n x) ∙ ap big_endian same ∙ big_endian-big_bytes n y in
    sym (mod-eq_of_lt hx) ∙ values ∙ mod-eq_of_lt hy

-- The widths that the code writes

-- below 256 ^ 4, the highest of four bytes needs no remainder
pub big_bytes_four : (x a b c d : ℕ) → x < 256 ^ 4 → a ≡ x / 16777216 → b ≡ x / 65536 % 256 → c ≡ x / 256 % 256 → d ≡ x % 256
    → a ∷ b ∷ c ∷ d ∷ [] ≡ big_bytes 4 x
unfolding big_bytes little_bytes
big_bytes_four x a b c d h e f g i =
    let highest : x / 256 / 256 / 256 % 256 ≡ a = omega arith in
    let second : x / 256 / 256 % 256 ≡ b = omega arith in
    rw (highest, second, g, i)

-- eight bytes are four and four
pub big_bytes_eight : (x h l : ℕ) → h ≡ x / 4294967296 → l ≡ x % 4294967296 → big_bytes 4 h ++ big_bytes 4 l ≡ big_bytes 8 x
big_bytes_eight x h l e f = rw (e, f) (ap (λ (s : List ℕ). big_bytes 4 (x / 4294967296) ++ s) (big_bytes_mod 4 x) ∙ sym (big_bytes-add 4 4 x))

-- a list of four bytes written out element by element, in front of others
pub big_bytes_four_elements : (l : List ℕ) (x : ℕ) → l ≡ big_bytes 4 x → (r : List ℕ)
    → get_or l 0 0 ∷ get_or l 1 0 ∷ get_or l 2 0 ∷ get_or l 3 0 ∷ r ≡ big_bytes 4 x ++ r
unfolding big_bytes little_bytes
big_bytes_four_elements l x e r = rw e
