-- A record of a SIM phonebook (EF ADN of 3GPP TS 51.011): a field of x bytes for the name, then 14 bytes, of which the first is the length
-- of the number. What a name leaves of its field is filled with FF.
use Rattle.std.specs.Prelude.{ℕ, suc, ◌+◌, Bool, ◌&&◌, cond, List, [], ◌∷◌, ◌++◌, eqb, leb, ltb, length, take, drop}
use Rattle.lists.specs.Lists.{all}
use Rattle.lists.specs.Groups.{first_or}
use Rattle.part.specs.Part.{part}
use Rattle.outcome.specs.Outcome.{Outcome, answer, ◌>>◌, must}

-- nothing but FF: what is left of a field, or a free record
unfoldable pub is_filled : List ℕ → Bool
is_filled s = all (λ b. eqb b 255) s

-- ---- the name

-- how many bytes the pairs take that stand before the first pair FF FF; a lone last byte is none's
unfoldable pub pairs_length : List ℕ → ℕ
pairs_length [] = 0
pairs_length (a ∷ []) = 0
pairs_length (a ∷ (b ∷ s)) = cond (eqb a 255 && eqb b 255) 0 (2 + pairs_length s)

-- how many bytes below 80 hex stand at the front
unfoldable pub plain_length : List ℕ → ℕ
plain_length [] = 0
plain_length (b ∷ s) = cond (ltb b 128) (suc (plain_length s)) 0

-- How many bytes the name in a field takes, coding bytes included. 80 hex: pairs. 81: a count, a base byte and as many bytes as the count says.
-- 82: a count, two base bytes and as many bytes. Otherwise: bytes below 80. By its count a name may run past the field.
unfoldable pub name_length : (field : List ℕ) → ℕ
name_length [] = 0
name_length (coding ∷ s) =
    cond (eqb coding 128) (1 + pairs_length s)
    (cond (eqb coding 129) (3 + first_or 0 s)
    (cond (eqb coding 130) (4 + first_or 0 s)
    (plain_length (coding ∷ s))))

unfoldable pub name_of : (field : List ℕ) → List ℕ
name_of field = take (name_length field) field

-- the name ends within the field, and everything after it is FF
unfoldable pub is_name : (field : List ℕ) → Bool
is_name field = leb (name_length field) (length field) && is_filled (drop (name_length field) field)

-- a name in the field, and a number of at most 11 bytes behind it; 33 for a name not so formed, 34 for a longer number
unfoldable pub judged : (field rest : List ℕ) → Outcome (Unit {0})
judged field rest = do
  must (is_name field) 33 0
  must (leb (first_or 0 rest) 11) 34 0

-- ---- the record

module _ (x : ℕ) where
  -- the length of the number
  unfoldable pub number_length : (adn : List ℕ) → ℕ
  number_length adn = first_or 0 (drop x adn)

  -- our record: the name, then the 14 bytes as they are
  unfoldable pub record_of : (adn : List ℕ) → List ℕ
  record_of adn = name_of (take x adn) ++ drop x adn

  -- our record of the one that stands at an offset of a dump
  unfoldable pub record_at : (dump : List ℕ) (at : ℕ) → List ℕ
  record_at dump at = record_of (part dump at (x + 14))

  -- our record, or the refusal: 33 for a name not so formed, 34 for a number of more than 11 bytes
  unfoldable pub imported : (adn : List ℕ) → Outcome (List ℕ)
  imported adn = do
    must (is_name (take x adn)) 33 0
    must (leb (number_length adn) 11) 34 0
    answer (record_of adn)
