-- Recognising JSON from the front: each function gives what is left after the text that it stands for, or nothing. After a value, and after
-- each structural character, white space is passed over.
use Rattle.std.specs.Prelude.{ℕ, zero, suc, ◌-◌, Bool, true, false, ◌||◌, cond, List, [], ◌∷◌, leb, eqb, length}
use Rattle.std.proofs.Math.Option.{Option, none, some}
use Rattle.byte_range.specs.Range.{within}

infixl 20 ◌>>=◌
-- go on with what is left
unfoldable pub ◌>>=◌ : Option (List ℕ) → (List ℕ → Option (List ℕ)) → Option (List ℕ)
none >>= next = none
some s >>= next = next s

-- ---- bytes

-- one of these bytes
unfoldable pub one_of : List ℕ → ℕ → Bool
one_of [] b = false
one_of (c ∷ cs) b = eqb b c || one_of cs b

-- what is left after the bytes at the front that pass a test
unfoldable pub skip_while : (test : ℕ → Bool) → List ℕ → List ℕ
skip_while test [] = []
skip_while test (b ∷ s) = cond (test b) (skip_while test s) (b ∷ s)

-- ---- white space

unfoldable pub is_space : ℕ → Bool
is_space = one_of (0x20 ∷ 0x09 ∷ 0x0a ∷ 0x0d ∷ [])

abbrev pub skip : List ℕ → List ℕ
skip = skip_while is_space

-- ---- numbers

unfoldable pub is_digit : ℕ → Bool
is_digit = within 0x30 0x39

abbrev pub skip_digits : List ℕ → List ℕ
skip_digits = skip_while is_digit

-- one digit or more
unfoldable pub digits_end : List ℕ → Option (List ℕ)
digits_end [] = none
digits_end (b ∷ s) = cond (is_digit b) (some (skip_digits s)) none

unfoldable pub skip_minus : List ℕ → List ℕ
skip_minus [] = []
skip_minus (b ∷ s) = cond (eqb b 0x2d) s (b ∷ s)

unfoldable pub int_end : List ℕ → Option (List ℕ)
int_end [] = none
int_end (b ∷ s) = cond (eqb b 0x30) (some s) (digits_end (b ∷ s))

unfoldable pub frac_end : List ℕ → Option (List ℕ)
frac_end [] = some []
frac_end (b ∷ s) = cond (eqb b 0x2e) (digits_end s) (some (b ∷ s))

unfoldable pub skip_sign : List ℕ → List ℕ
skip_sign [] = []
skip_sign (b ∷ s) = cond (one_of (0x2d ∷ 0x2b ∷ []) b) s (b ∷ s)

unfoldable pub exp_end : List ℕ → Option (List ℕ)
exp_end [] = some []
exp_end (b ∷ s) = cond (one_of (0x65 ∷ 0x45 ∷ []) b) (digits_end (skip_sign s)) (some (b ∷ s))

unfoldable pub number_end : List ℕ → Option (List ℕ)
number_end s = int_end (skip_minus s) >>= frac_end >>= exp_end

-- ---- strings and words

unfoldable pub is_hex : ℕ → Bool
is_hex b = within 0x30 0x39 b || (within 0x41 0x46 b || within 0x61 0x66 b)

-- what may follow a backslash, u aside
unfoldable pub is_escape : ℕ → Bool
is_escape = one_of (0x22 ∷ 0x5c ∷ 0x2f ∷ 0x62 ∷ 0x66 ∷ 0x6e ∷ 0x72 ∷ 0x74 ∷ [])

-- Within a string: so many hex digits of an escape are due (5: a backslash was the last byte).
unfoldable pub chars_end : (due : ℕ) → List ℕ → Option (List ℕ)
chars_end due [] = none
chars_end due (b ∷ s) =
    cond (eqb due 0)
    (cond (eqb b 0x22) (some s) (cond (eqb b 0x5c) (chars_end 5 s) (cond (leb 0x20 b) (chars_end 0 s) none)))
    (cond (eqb due 5)
    (cond (eqb b 0x75) (chars_end 4 s) (cond (is_escape b) (chars_end 0 s) none))
    (cond (is_hex b) (chars_end (due - 1) s) none))

-- a string
unfoldable pub string_end : List ℕ → Option (List ℕ)
string_end [] = none
string_end (b ∷ s) = cond (eqb b 0x22) (chars_end 0 s) none

-- these very bytes
unfoldable pub word_end : (word : List ℕ) → List ℕ → Option (List ℕ)
word_end [] s = some s
word_end (w ∷ ws) [] = none
word_end (w ∷ ws) (b ∷ s) = cond (eqb w b) (word_end ws s) none

-- ---- values

-- false, null, true, a string or a number
unfoldable pub scalar_end : List ℕ → Option (List ℕ)
scalar_end [] = none
scalar_end (b ∷ s) =
    cond (eqb b 0x22) (string_end (b ∷ s))
    (cond (eqb b 0x66) (word_end (0x66 ∷ 0x61 ∷ 0x6c ∷ 0x73 ∷ 0x65 ∷ []) (b ∷ s))
    (cond (eqb b 0x6e) (word_end (0x6e ∷ 0x75 ∷ 0x6c ∷ 0x6c ∷ []) (b ∷ s))
    (cond (eqb b 0x74) (word_end (0x74 ∷ 0x72 ∷ 0x75 ∷ 0x65 ∷ []) (b ∷ s))
    (number_end (b ∷ s)))))

-- the structural character at the front, and the white space after it
unfoldable pub structural_end : (character : ℕ) → List ℕ → Option (List ℕ)
structural_end c [] = none
structural_end c (b ∷ s) = cond (eqb b c) (some (skip s)) none

-- the name of a member, and its separator
unfoldable pub name_end : List ℕ → Option (List ℕ)
name_end s = string_end s >>= λ t. structural_end 0x3a (skip t)

-- what follows an item: the closing character, or a separator and then the next items
unfoldable pub item_next : (close : ℕ) (items : List ℕ → Option (List ℕ)) → List ℕ → Option (List ℕ)
item_next close items [] = none
item_next close items (b ∷ s) = cond (eqb b close) (some (skip s)) (cond (eqb b 0x2c) (items (skip s)) none)

-- Members or values, with separators between them, up to the closing character.
module _ (item : List ℕ → Option (List ℕ)) (close : ℕ) where
  unfoldable pub items_from : (fuel : ℕ) → List ℕ → Option (List ℕ)
  items_from zero s = none
  items_from (suc fuel) s = item s >>= item_next close (items_from fuel)

  -- Each item takes a byte at least, so the number of bytes is fuel enough.
  unfoldable pub items_end : List ℕ → Option (List ℕ)
  items_end s = items_from (length s) s

  -- what follows the opening character: nothing, or items
  unfoldable pub container_end : List ℕ → Option (List ℕ)
  container_end [] = none
  container_end (b ∷ s) = cond (eqb b close) (some (skip s)) (items_end (b ∷ s))

-- a scalar, and the white space after it
unfoldable pub plain_end : List ℕ → Option (List ℕ)
plain_end s = scalar_end s >>= λ t. some (skip t)

-- what holds such values
module _ (value : List ℕ → Option (List ℕ)) where
  unfoldable pub member_over : List ℕ → Option (List ℕ)
  member_over s = name_end s >>= value

  unfoldable pub object_over : List ℕ → Option (List ℕ)
  object_over s = structural_end 0x7b s >>= container_end member_over 0x7d

  unfoldable pub array_over : List ℕ → Option (List ℕ)
  array_over s = structural_end 0x5b s >>= container_end value 0x5d

  unfoldable pub value_over : List ℕ → Option (List ℕ)
  value_over [] = none
  value_over (b ∷ s) = cond (eqb b 0x7b) (object_over (b ∷ s)) (cond (eqb b 0x5b) (array_over (b ∷ s)) (plain_end (b ∷ s)))

-- a value with objects and arrays nested at most `depth` deep
unfoldable pub value_end : (depth : ℕ) → List ℕ → Option (List ℕ)
value_end zero = plain_end
value_end (suc depth) = value_over (value_end depth)

-- an object, itself among the `depth`
unfoldable pub object_end : (depth : ℕ) → List ℕ → Option (List ℕ)
object_end zero s = none
object_end (suc depth) s = object_over (value_end depth) s

-- an array, likewise
unfoldable pub array_end : (depth : ℕ) → List ℕ → Option (List ℕ)
array_end zero s = none
array_end (suc depth) s = array_over (value_end depth) s

-- whether nothing is left
unfoldable pub is_done : Option (List ℕ) → Bool
is_done none = false
is_done (some []) = true
is_done (some (b ∷ s)) = false

-- whether the text is an object from its brace on, itself among the `depth`; white space may follow
unfoldable pub is_object : (depth : ℕ) → List ℕ → Bool
is_object depth s = is_done (object_end depth s)
