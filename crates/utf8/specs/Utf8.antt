-- UTF-8, as RFC 3629 (section 4) has it: no overlong forms, no surrogates, nothing above 10FFFF.
use Rattle.std.specs.Prelude.{ℕ, ◌-◌, Bool, ◌&&◌, cond, List, [], ◌∷◌, ◌++◌, eqb}
use Rattle.byte_range.specs.Range.{In, within}

-- ---- as a relation

abbrev pub Tail : ℕ → Type 0
Tail byte = In 0x80 0xbf byte

-- one character; the names are the RFC's, with the first byte where there are several forms
pub data Character : List ℕ → Type 0 where
  UTF8_1 : {a : ℕ} → In 0x00 0x7f a → Character (a ∷ [])
  UTF8_2 : {a b : ℕ} → In 0xc2 0xdf a → Tail b → Character (a ∷ b ∷ [])
  UTF8_3_e0 : {b c : ℕ} → In 0xa0 0xbf b → Tail c → Character (0xe0 ∷ b ∷ c ∷ [])
  UTF8_3_e1 : {a b c : ℕ} → In 0xe1 0xec a → Tail b → Tail c → Character (a ∷ b ∷ c ∷ [])
  UTF8_3_ed : {b c : ℕ} → In 0x80 0x9f b → Tail c → Character (0xed ∷ b ∷ c ∷ [])
  UTF8_3_ee : {a b c : ℕ} → In 0xee 0xef a → Tail b → Tail c → Character (a ∷ b ∷ c ∷ [])
  UTF8_4_f0 : {b c d : ℕ} → In 0x90 0xbf b → Tail c → Tail d → Character (0xf0 ∷ b ∷ c ∷ d ∷ [])
  UTF8_4_f1 : {a b c d : ℕ} → In 0xf1 0xf3 a → Tail b → Tail c → Tail d → Character (a ∷ b ∷ c ∷ d ∷ [])
  UTF8_4_f4 : {b c d : ℕ} → In 0x80 0x8f b → Tail c → Tail d → Character (0xf4 ∷ b ∷ c ∷ d ∷ [])

-- characters, one after the other
pub data Utf8 : List ℕ → Type 0 where
  nothing : Utf8 []
  more : {c s : List ℕ} → Character c → Utf8 s → Utf8 (c ++ s)

-- ---- as a test, byte by byte

-- what is due: so many bytes of the character, the first of them from `low` to `high`, the others tails
pub record Due : Type 0 where
  pub count : ℕ
  pub low : ℕ
  pub high : ℕ

abbrev pub due : (count low high : ℕ) → Due
due count low high = record { count = count; low = low; high = high }

-- first bytes from `first` to `last`, and what is then due
pub record Row : Type 0 where
  pub first : ℕ
  pub last : ℕ
  pub then : Due

abbrev pub row : (first last count low high : ℕ) → Row
row first last count low high = record { first = first; last = last; then = due count low high }

-- the first bytes of characters
abbrev pub rows : List Row
rows =
    row 0x00 0x7f 0 0x80 0xbf ∷
    row 0xc2 0xdf 1 0x80 0xbf ∷
    row 0xe0 0xe0 2 0xa0 0xbf ∷
    row 0xe1 0xec 2 0x80 0xbf ∷
    row 0xed 0xed 2 0x80 0x9f ∷
    row 0xee 0xef 2 0x80 0xbf ∷
    row 0xf0 0xf0 3 0x90 0xbf ∷
    row 0xf1 0xf3 3 0x80 0xbf ∷
    row 0xf4 0xf4 3 0x80 0x8f ∷ []

-- what is due after a first byte of these rows; after any other, a byte from 1 to 0, which there is not
abbrev pub due_by : List Row → ℕ → Due
due_by [] b = due 1 1 0
due_by (r ∷ others) b = cond (within r.first r.last b) r.then (due_by others b)

-- what is due after the first byte of a character
unfoldable pub due_after : ℕ → Due
due_after b = due_by rows b

-- whether the bytes go on with what is due, and end with a whole character
unfoldable pub utf8_from : Due → List ℕ → Bool
utf8_from d [] = eqb d.count 0
utf8_from d (b ∷ s) =
    cond (eqb d.count 0) (utf8_from (due_after b) s)
    (within d.low d.high b && utf8_from (due (d.count - 1) 0x80 0xbf) s)

-- whether the bytes are UTF-8
unfoldable pub is_utf8 : List ℕ → Bool
is_utf8 s = utf8_from (due 0 0x80 0xbf) s
