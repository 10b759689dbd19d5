-- The grammar of JSON, as RFC 8259 (sections 2 to 7) has it, over the bytes of a text in UTF-8. Names are the RFC's.
use Rattle.std.specs.Prelude.{ℕ, suc, ◌≤◌, ◌≢◌}
use mathlib.Core.List.{List, [], ◌∷◌, ◌++◌, Memᴰ}
use Rattle.byte_range.specs.Range.{In}

-- ---- white space and structural characters

-- ws = *( space / horizontal tab / line feed / carriage return )
pub data Ws : List ℕ → Type 0 where
  ws_none : Ws []
  ws_more : {b : ℕ} {s : List ℕ} → Memᴰ b (0x20 ∷ 0x09 ∷ 0x0a ∷ 0x0d ∷ []) → Ws s → Ws (b ∷ s)

-- one of the six structural characters, between white space
pub data Structural (character : ℕ) : List ℕ → Type 0 where
  structural : {v w : List ℕ} → Ws v → Ws w → Structural character (v ++ (character ∷ w))

abbrev pub BeginArray : List ℕ → Type 0
BeginArray = Structural 0x5b

abbrev pub BeginObject : List ℕ → Type 0
BeginObject = Structural 0x7b

abbrev pub EndArray : List ℕ → Type 0
EndArray = Structural 0x5d

abbrev pub EndObject : List ℕ → Type 0
EndObject = Structural 0x7d

abbrev pub NameSeparator : List ℕ → Type 0
NameSeparator = Structural 0x3a

abbrev pub ValueSeparator : List ℕ → Type 0
ValueSeparator = Structural 0x2c

-- ---- numbers

-- 1*DIGIT
pub data Digits : List ℕ → Type 0 where
  digit : {b : ℕ} → In 0x30 0x39 b → Digits (b ∷ [])
  digits : {b : ℕ} {s : List ℕ} → In 0x30 0x39 b → Digits s → Digits (b ∷ s)

-- int = zero / ( digit1-9 *DIGIT )
pub data Int : List ℕ → Type 0 where
  int_zero : Int (0x30 ∷ [])
  int_one : {b : ℕ} → In 0x31 0x39 b → Int (b ∷ [])
  int_more : {b : ℕ} {s : List ℕ} → In 0x31 0x39 b → Digits s → Int (b ∷ s)

-- [ minus ]
pub data Minus : List ℕ → Type 0 where
  no_minus : Minus []
  minus : Minus (0x2d ∷ [])

-- [ frac ], frac = decimal-point 1*DIGIT
pub data Frac : List ℕ → Type 0 where
  no_frac : Frac []
  frac : {s : List ℕ} → Digits s → Frac (0x2e ∷ s)

-- [ minus / plus ]
pub data Sign : List ℕ → Type 0 where
  no_sign : Sign []
  sign : {b : ℕ} → Memᴰ b (0x2d ∷ 0x2b ∷ []) → Sign (b ∷ [])

-- [ exp ], exp = e [ minus / plus ] 1*DIGIT
pub data Exp : List ℕ → Type 0 where
  no_exp : Exp []
  exp : {e : ℕ} {s t : List ℕ} → Memᴰ e (0x65 ∷ 0x45 ∷ []) → Sign s → Digits t → Exp (e ∷ (s ++ t))

-- number = [ minus ] int [ frac ] [ exp ]
pub data Number : List ℕ → Type 0 where
  number : {m i f e : List ℕ} → Minus m → Int i → Frac f → Exp e → Number (m ++ (i ++ (f ++ e)))

-- ---- strings

-- HEXDIG, in either case
pub data Hex (b : ℕ) : Type 0 where
  hex_digit : In 0x30 0x39 b → Hex b
  hex_upper : In 0x41 0x46 b → Hex b
  hex_lower : In 0x61 0x66 b → Hex b

-- char = unescaped / escape ( .. / u 4HEXDIG ). A byte from 80 up is part of a character above 7F, which may stand unescaped.
pub data Char : List ℕ → Type 0 where
  unescaped : {b : ℕ} → 0x20 ≤ b → b ≢ 0x22 → b ≢ 0x5c → Char (b ∷ [])
  escaped : {b : ℕ} → Memᴰ b (0x22 ∷ 0x5c ∷ 0x2f ∷ 0x62 ∷ 0x66 ∷ 0x6e ∷ 0x72 ∷ 0x74 ∷ []) → Char (0x5c ∷ b ∷ [])
  unicode : {a b c d : ℕ} → Hex a → Hex b → Hex c → Hex d → Char (0x5c ∷ 0x75 ∷ a ∷ b ∷ c ∷ d ∷ [])

-- *char quotation-mark
pub data Chars : List ℕ → Type 0 where
  quotation_mark : Chars (0x22 ∷ [])
  char : {c s : List ℕ} → Char c → Chars s → Chars (c ++ s)

-- string = quotation-mark *char quotation-mark
pub data String : List ℕ → Type 0 where
  string : {s : List ℕ} → Chars s → String (0x22 ∷ s)

-- ---- values

pub data Symbol : Type 0 where
  value : Symbol
  object : Symbol
  members : Symbol
  member : Symbol
  array : Symbol
  values : Symbol

-- The text is what the symbol stands for, with objects and arrays nested at most `depth` deep.
pub data Derives : Symbol → (depth : ℕ) → List ℕ → Type 0 where
  -- value = false / null / true / object / array / number / string
  false_value : {d : ℕ} → Derives value d (0x66 ∷ 0x61 ∷ 0x6c ∷ 0x73 ∷ 0x65 ∷ [])
  null_value : {d : ℕ} → Derives value d (0x6e ∷ 0x75 ∷ 0x6c ∷ 0x6c ∷ [])
  true_value : {d : ℕ} → Derives value d (0x74 ∷ 0x72 ∷ 0x75 ∷ 0x65 ∷ [])
  object_value : {d : ℕ} {s : List ℕ} → Derives object d s → Derives value d s
  array_value : {d : ℕ} {s : List ℕ} → Derives array d s → Derives value d s
  number_value : {d : ℕ} {s : List ℕ} → Number s → Derives value d s
  string_value : {d : ℕ} {s : List ℕ} → String s → Derives value d s
  -- object = begin-object [ member *( value-separator member ) ] end-object
  no_members : {d : ℕ} {b e : List ℕ} → BeginObject b → EndObject e → Derives object (suc d) (b ++ e)
  some_members : {d : ℕ} {b s e : List ℕ} → BeginObject b → Derives members d s → EndObject e → Derives object (suc d) (b ++ (s ++ e))
  one_member : {d : ℕ} {s : List ℕ} → Derives member d s → Derives members d s
  more_members : {d : ℕ} {s c t : List ℕ} → Derives member d s → ValueSeparator c → Derives members d t → Derives members d (s ++ (c ++ t))
  -- member = string name-separator value
  named : {d : ℕ} {s c t : List ℕ} → String s → NameSeparator c → Derives value d t → Derives member d (s ++ (c ++ t))
  -- array = begin-array [ value *( value-separator value ) ] end-array
  no_values : {d : ℕ} {b e : List ℕ} → BeginArray b → EndArray e → Derives array (suc d) (b ++ e)
  some_values : {d : ℕ} {b s e : List ℕ} → BeginArray b → Derives values d s → EndArray e → Derives array (suc d) (b ++ (s ++ e))
  one_value : {d : ℕ} {s : List ℕ} → Derives value d s → Derives values d s
  more_values : {d : ℕ} {s c t : List ℕ} → Derives value d s → ValueSeparator c → Derives values d t → Derives values d (s ++ (c ++ t))
