-- What is claimed of stores: which there are, that they make the finished file, and what every cut leaves.
use Rattle.std.specs.Prelude.{ℕ, zero, suc, ◌+◌, ◌≤◌, ◌<◌, ◌≡◌, ◌≢◌, ◌⊎◌, true, List, [], length, take, get_or}
use Rattle.outcome.specs.Outcome.{Outcome, answer, refused}
use Rattle.part.specs.Part.{part}
use Rattle.part.specs.declared.Part.{Part}
use Rattle.byte_string.specs.Order.{begins}
use Rattle.header.specs.Header.{magic, unfinished_magic, H}
use Rattle.checker.specs.Check.{check_of}
use Rattle.written.specs.declared.Written.{Written}
use Rattle.writer.specs.Write.{write_of}
use Rattle.stores.specs.Store.{Store, carry_out_all, cut}
use Rattle.stores.specs.FileStores.{stores_of}

-- ---- one store

-- there is a store i: it is one of four, and the bytes begin with the magic of a finished file and hold their header
pub record HasStore (file : List ℕ) (i : ℕ) : Type 0 where
  pub below : i < 4
  pub opens : begins magic file ≡ true
  pub whole : 24 + H file ≤ length file

-- the bytes of store i, which goes to r: the unfinished magic for store 0, for the others the file's own
unfoldable pub bytes_of : (file : List ℕ) (i : ℕ) (r : Part) → List ℕ
bytes_of file zero r = unfinished_magic
bytes_of file (suc i) r = part file r.offset r.length

-- The promise about one store: r is what is answered about store i of a file.
pub record StoreByRules (file : List ℕ) (i : ℕ) (r : Part) : Type 0 where
  pub is : HasStore file i → get_or (stores_of file) i (record { offset = 0; bytes = [] }) ≡ record { offset = r.offset; bytes = bytes_of file i r }
  pub long : HasStore file i → length (bytes_of file i r) ≡ r.length
  pub none : (HasStore file i → ⊥) → r ≡ record { offset = 0; length = 0 }
  -- the bytes that it names lie within the file
  pub within : r.offset + r.length ≤ length file

-- ---- cuts

-- the check refuses with 2 or 3, whatever its work list
unfoldable pub RefusedWith2Or3 : List ℕ → Type 0
RefusedWith2Or3 file = (places : ℕ) → (check_of file places ≡ refused 2 0) ⊎ (check_of file places ≡ refused 3 0)

-- what stands where the stores of a file went, from nothing, when so many whole ones and so many bytes of the next had arrived
unfoldable pub after_cut : (file : List ℕ) (whole bytes : ℕ) → List ℕ
after_cut file whole bytes = carry_out_all [] (cut whole bytes (stores_of file))

-- the stores of a file make it, and no cut leaves a wrong one
pub record CrashSafe (file : List ℕ) : Type 0 where
  pub four : length (stores_of file) ≡ 4
  pub all : carry_out_all [] (stores_of file) ≡ file
  pub cuts : (whole bytes : ℕ) → RefusedWith2Or3 (after_cut file whole bytes) ⊎ (after_cut file whole bytes ≡ file)

-- ---- the writer's stores

-- the stores of what is written; a refusal gives none
unfoldable pub stores_to_write : Outcome (List ℕ) → List Store
stores_to_write (answer file) = stores_of file
stores_to_write (refused number place) = []

-- The writer's promise: r is the answer of writing into an output of `room` bytes, `output` the output at exit.
pub record WrittenInStores (metadata input : List ℕ) (per_block per_index room : ℕ) (r : Written) (output : List ℕ) : Type 0 where
  -- the stores that the output gives are those of what is written
  pub given : stores_of (take r.length output) ≡ stores_to_write (write_of metadata input per_block per_index room)
  -- after a refusal there is none, neither of `length` bytes of the output nor of all of it
  pub refused_none : r.number ≢ 0 → (stores_of (take r.length output) ≡ []) × (stores_of output ≡ [])
  -- else they make the file, the one that the output holds, and no cut leaves a wrong one
  pub written : r.number ≡ 0 → CrashSafe (take r.length output)
