-- What the functions within the import promise.
use Rattle.std.specs.Prelude.{ℕ, ◌+◌, ◌*◌, ◌-◌, ◌%◌, ◌≤◌, ◌≡◌, length, drop}
use mathlib.Core.List.{List, map, Memᴰ}
use Rattle.outcome.specs.Outcome.{Outcome, answer, ◌>>=◌}
use Rattle.layout.specs.Blocks.{records_bytes}
use Rattle.slots.specs.Slots.{slots}
use Rattle.sim.specs.Adn.{record_of, record_at}
use Rattle.sim_import.specs.Import.{occupied}

-- how many bytes are put, or the refusal
unfoldable pub length_of : Outcome (List ℕ) → Outcome ℕ
length_of o = o >>= λ bytes. answer (length bytes)

-- the dump is whole records
unfoldable pub Whole : (x : ℕ) (dump : List ℕ) → Type 0
Whole x dump = length dump % (x + 14) ≡ 0

-- the offsets in the last `count` slots of an output
unfoldable pub offsets : (count : ℕ) (output : List ℕ) → List ℕ
offsets count output = slots 8 (drop (length output - 8 * count) output)

-- each record takes at least as many bytes as a slot, one of them for its length
unfoldable pub Long : (records : List (List ℕ)) → Type 0
Long records = (r : List ℕ) → Memᴰ r records → 7 ≤ length r

-- the output is as long as our records of those at the offsets in its last slots
pub record Ready (x : ℕ) (dump : List ℕ) (count : ℕ) (output : List ℕ) : Type 0 where
  pub slotted : 8 * count ≤ length output
  pub long : Long (map (record_at x dump) (offsets count output))
  pub exact : length output ≡ length (records_bytes (map (record_at x dump) (offsets count output)))

-- the output is as long as our records of the `count` in the dump that aren't free
pub record Exact (x : ℕ) (dump : List ℕ) (count : ℕ) (output : List ℕ) : Type 0 where
  pub whole : Whole x dump
  pub many : count ≡ length (occupied x dump)
  pub exact : length output ≡ length (records_bytes (map (record_of x) (occupied x dump)))
