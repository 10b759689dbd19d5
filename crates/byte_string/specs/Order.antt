-- The order of byte strings: unsigned bytes are compared one after the other, and a proper beginning comes first.
use Rattle.std.specs.Prelude.{ℕ, suc, Bool, true, false, not, ◌&&◌, cond, List, [], ◌∷◌, eqb, leb, ℤ, pos, negsuc}
use Rattle.std.specs.Int.Signed.{lt_z, le_z}
use Rattle.std.specs.declared.cmp.Ordering.{Ordering}
use Rattle.std.specs.declared.cmp.Ordering.TheVariants.{Less, Equal, Greater}
use Rattle.std.specs.Ordering.{nat_cmp, is_lt, is_le}
use Rattle.std.specs.Cmp.Lexicographic.{slice_cmp}
use Rattle.byte_string.specs.declared.Comparison.{Comparison}
unfoldable pub use Rattle.part.specs.Bytes.{AreBytes}

-- how x compares with y: the first comparison of two bytes that finds a difference decides
unfoldable pub order : List ℕ → List ℕ → Ordering
order x y = slice_cmp nat_cmp x y

-- as a signed answer: minus one, zero or plus one
unfoldable pub signed : Ordering → ℤ
signed Less = negsuc 0
signed Equal = pos 0
signed Greater = pos 1

-- x comes before y
unfoldable pub less : List ℕ → List ℕ → Bool
less x y = is_lt (order x y)

-- x comes before y or is y
unfoldable pub at_most : List ℕ → List ℕ → Bool
at_most x y = is_le (order x y)

-- x begins with p
unfoldable pub begins : List ℕ → List ℕ → Bool
begins [] x = true
begins (p ∷ ps) [] = false
begins (p ∷ ps) (x ∷ xs) = eqb p x && begins ps xs

-- how many leading bytes of x and y agree
unfoldable pub agreeing : List ℕ → List ℕ → ℕ
agreeing [] y = 0
agreeing (x ∷ xs) [] = 0
agreeing (x ∷ xs) (y ∷ ys) = cond (eqb x y) (suc (agreeing xs ys)) 0

-- x compared with y: the sign, and how many leading bytes agree
unfoldable pub comparison : List ℕ → List ℕ → Comparison
comparison x y = record { sign = signed (order x y); agreeing = agreeing x y }

-- What a comparison of x with y says.

-- x comes before y
unfoldable pub says_less : Comparison → Bool
says_less c = lt_z c.sign (pos 0)

-- x comes before y or is y
unfoldable pub says_at_most : Comparison → Bool
says_at_most c = le_z c.sign (pos 0)

-- x is y
unfoldable pub says_equal : Comparison → Bool
says_equal c = says_at_most c && not (says_less c)

-- y begins with x, where x has so many bytes; x begins with y, where y has
unfoldable pub says_begins : (count : ℕ) → Comparison → Bool
says_begins count c = leb count c.agreeing

-- x and y are the same byte string
unfoldable pub same : List ℕ → List ℕ → Bool
same x y = says_equal (comparison x y)
