-- The examples P1 to P14 of docs/FORMAT.md as one table: a question, and its answer.
use Rattle.std.specs.Prelude.{ℕ, ◌-◌, ◌^◌, List, [], ◌∷◌, map, ◌≡◌, Bool, true, false, pos, negsuc}
use Rattle.std.proofs.Math.Option.{Option, none, some}
use Rattle.uleb128.specs.Number.{Reading, number, refused, reading}
use Rattle.byte_string.specs.declared.Comparison.{Comparison}
use Rattle.byte_string.specs.Order.{comparison}
use Rattle.query.specs.Query.{Query}
use Rattle.query.specs.Opening.{may_match}

pub data Question : Type 0 where
  -- the number at the front of these bytes
  number_of : List ℕ → Question
  -- the first byte string against the second
  comparison_of : List ℕ → List ℕ → Question
  -- whether a block with this lower bound and this upper bound, or none, is opened for a query
  opening_of : List ℕ → Option (List ℕ) → Query → Question

pub data Answer : Type 0 where
  is_number : Reading → Answer
  is_comparison : Comparison → Answer
  is_opened : Bool → Answer

-- what the definitions answer
unfoldable pub answered : Question → Answer
answered (number_of s) = is_number (reading s)
answered (comparison_of x y) = is_comparison (comparison x y)
answered (opening_of lower upper q) = is_opened (may_match lower upper q)

pub record Example : Type 0 where
  pub question : Question
  pub answer : Answer

infixl 4 ◌gives◌
abbrev pub ◌gives◌ : Question → Answer → Example
q gives a = record { question = q; answer = a }

unfoldable pub table : List Example
table =
    -- P1 to P7: numbers
    (number_of (0x00 ∷ []) gives is_number (number 0 1))
    ∷ (number_of (0x80 ∷ 0x01 ∷ []) gives is_number (number 128 2))
    ∷ (number_of (0xff ∷ 0x20 ∷ []) gives is_number (number 4223 2))
    ∷ (number_of (0x80 ∷ 0x80 ∷ 0x80 ∷ 0x80 ∷ 0x20 ∷ []) gives is_number (number (2 ^ 33) 5))
    ∷ (number_of (0xff ∷ 0xff ∷ 0xff ∷ 0xff ∷ 0xff ∷ 0xff ∷ 0xff ∷ 0xff ∷ 0x7f ∷ []) gives is_number (number (2 ^ 63 - 1) 9))
    ∷ (number_of (0x80 ∷ 0x00 ∷ []) gives is_number (refused 12))
    ∷ (number_of (0xff ∷ 0xff ∷ 0xff ∷ 0xff ∷ 0xff ∷ 0xff ∷ 0xff ∷ 0xff ∷ 0xff ∷ []) gives is_number (refused 11))
    -- P8 to P10: comparison, the sign and how many leading bytes agree
    ∷ (comparison_of [] (0x00 ∷ []) gives is_comparison (record { sign = negsuc 0; agreeing = 0 }))
    ∷ (comparison_of (0x61 ∷ []) (0x61 ∷ 0x00 ∷ []) gives is_comparison (record { sign = negsuc 0; agreeing = 1 }))
    ∷ (comparison_of (0x80 ∷ []) (0x7f ∷ []) gives is_comparison (record { sign = pos 1; agreeing = 0 }))
    -- P11 to P14: opening
    ∷ (opening_of (0x61 ∷ []) (some (0x62 ∷ [])) (record { start = 0x62 ∷ []; stop = none; prefix = [] }) gives is_opened true)
    ∷ (opening_of (0x63 ∷ []) none (record { start = []; stop = some (0x63 ∷ []); prefix = [] }) gives is_opened false)
    ∷ (opening_of (0x61 ∷ []) (some (0x63 ∷ [])) (record { start = []; stop = none; prefix = 0x62 ∷ [] }) gives is_opened true)
    ∷ (opening_of (0xff ∷ []) none (record { start = []; stop = none; prefix = 0xff ∷ 0xff ∷ [] }) gives is_opened true)
    ∷ []

-- the definitions answer every question of the table so
unfoldable pub Confirmed : Type 0
Confirmed = map (λ e. answered e.question) table ≡ map (λ e. e.answer) table
