-- Importing a dump of a SIM phonebook: the refusals 32, by record 33 and 34, and 31 in this order, or the records, sorted, in the form that the
-- writer takes.
use Rattle.std.specs.Prelude.{ℕ, ◌+◌, ◌%◌, Bool, not, ◌&&◌, List, [], ◌∷◌, eqb, leb, length}
use Rattle.lists.specs.Lists.{keep}
use Rattle.lists.specs.Groups.{groups}
use Rattle.outcome.specs.Outcome.{Outcome, answer, ◌>>=◌, ◌>>◌, must}
use Rattle.layout.specs.Blocks.{records_bytes}
use Rattle.sorting.specs.Sorting.{sorted}
use Rattle.sim.specs.Adn.{is_filled, imported}

-- a name field of at most 241 bytes, and whole records
unfoldable pub is_dump : (x : ℕ) (dump : List ℕ) → Bool
is_dump x dump = leb x 241 && eqb (length dump % (x + 14)) 0

-- those that aren't free
unfoldable pub not_free : (adns : List (List ℕ)) → List (List ℕ)
not_free adns = keep (λ adn. not (is_filled adn)) adns

-- the records of the dump that aren't free, in its order
unfoldable pub occupied : (x : ℕ) (dump : List ℕ) → List (List ℕ)
occupied x dump = not_free (groups (x + 14) dump)

-- our records of these, or the first refusal
unfoldable pub imported_all : (x : ℕ) (adns : List (List ℕ)) → Outcome (List (List ℕ))
imported_all x [] = answer []
imported_all x (adn ∷ more) = do
  r ← imported x adn
  rs ← imported_all x more
  answer (r ∷ rs)

-- the bytes for an output of `room` bytes
unfoldable pub import_of : (dump : List ℕ) (x room : ℕ) → Outcome (List ℕ)
import_of dump x room = do
  must (is_dump x dump) 32 0
  rs ← imported_all x (occupied x dump)
  must (leb (length (records_bytes (sorted rs))) room) 31 0
  answer (records_bytes (sorted rs))
