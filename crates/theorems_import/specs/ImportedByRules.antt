-- What is claimed of importing: which dumps are imported, and what the output then holds. Nothing here goes from record to record. Shared with
-- the import are the records of a dump (`groups`, `occupied`), our record of one (`record_of`), and the sorted list (`sorted`).
use Rattle.std.specs.Prelude.{ℕ, ◌+◌, ◌%◌, ◌≤◌, ◌<◌, ◌≡◌, ◌≢◌, length, take}
use mathlib.Core.List.{List, ◌∷◌, ◌++◌, map, Memᴰ}
use Rattle.lists.specs.Groups.{groups}
use Rattle.output_list.specs.OutputList.{zeros}
use Rattle.layout.specs.Blocks.{records_bytes}
use Rattle.written.specs.declared.Written.{Written}
use Rattle.sorting.specs.Sorting.{sorted, Permutation}
use Rattle.sim.specs.Adn.{number_length, record_of}
use Rattle.sim_import.specs.Import.{occupied}
use Rattle.theorems_check.specs.Rules.{Sorted}
use Rattle.theorems_write.specs.WrittenByRules.{HoldsFile}
use Rattle.theorems_import.specs.Names.{Filled, NameIn}

-- ---- which dumps are imported

-- a name field of at most 241 bytes, and whole records
unfoldable pub IsDump : (x : ℕ) (dump : List ℕ) → Type 0
IsDump x dump = (x ≤ 241) × (length dump % (x + 14) ≡ 0)

module _ (x : ℕ) where
  -- a name stands in the record's field
  unfoldable pub Named : (adn : List ℕ) → Type 0
  Named adn = (name : List ℕ) × NameIn (take x adn) name

  -- a record that is imported, or is free and skipped
  pub data Fine (adn : List ℕ) : Type 0 where
    free : Filled adn → Fine adn
    formed : Named adn → number_length x adn ≤ 11 → Fine adn

  -- not free, and its name not so formed
  unfoldable pub NoName : (adn : List ℕ) → Type 0
  NoName adn = (Filled adn → ⊥) × (Named adn → ⊥)

  -- not free, a name, and a number of more than 11 bytes
  unfoldable pub LongNumber : (adn : List ℕ) → Type 0
  LongNumber adn = (Filled adn → ⊥) × Named adn × (11 < number_length x adn)

  -- all of them are fine
  unfoldable pub AllFine : (adns : List (List ℕ)) → Type 0
  AllFine adns = (adn : List ℕ) → Memᴰ adn adns → Fine adn

  -- one of them is wrong in this way, and all before it are fine
  pub record First (Wrong : List ℕ → Type 0) (adns : List (List ℕ)) : Type 0 where
    pub before : List (List ℕ)
    pub adn : List ℕ
    pub after : List (List ℕ)
    pub stands : adns ≡ before ++ (adn ∷ after)
    pub fine : AllFine before
    pub wrong : Wrong adn

-- the sorted records fit an output of `room` bytes
unfoldable pub Fits : (dump : List ℕ) (x room : ℕ) → Type 0
Fits dump x room = length (records_bytes (sorted (map (record_of x) (occupied x dump)))) ≤ room

-- The number that importing answers, and why: the cases exclude each other, so each is given exactly for its reason.
pub data Ends (dump : List ℕ) (x room : ℕ) : (number : ℕ) → Type 0 where
  no_dump : (IsDump x dump → ⊥) → Ends dump x room 32
  no_name : IsDump x dump → First x (NoName x) (groups (x + 14) dump) → Ends dump x room 33
  long_number : IsDump x dump → First x (LongNumber x) (groups (x + 14) dump) → Ends dump x room 34
  too_long : IsDump x dump → AllFine x (groups (x + 14) dump) → (Fits dump x room → ⊥) → Ends dump x room 31
  done : IsDump x dump → AllFine x (groups (x + 14) dump) → Fits dump x room → Ends dump x room 0

-- ---- what is given

-- one of our records for each of the dump's that isn't free, in rising order
pub record Imported (x : ℕ) (dump : List ℕ) (rs : List (List ℕ)) : Type 0 where
  pub rises : Sorted rs
  pub each : Permutation rs (map (record_of x) (occupied x dump))

-- The import's promise: r is the answer of importing into an output of `room` bytes, `output` the output at exit.
pub record ImportedByRules (dump : List ℕ) (x room : ℕ) (r : Written) (output : List ℕ) : Type 0 where
  pub ends : Ends dump x room r.number
  pub place : r.place ≡ 0
  -- after a refusal no length, and zeros
  pub refused : r.number ≢ 0 → (r.length ≡ 0) × (output ≡ zeros room)
  -- else the records, in the form that the writer takes, and zeros after them
  pub given : r.number ≡ 0 → (rs : List (List ℕ)) × Imported x dump rs × HoldsFile room r output (records_bytes rs)
