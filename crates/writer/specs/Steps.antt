-- What the functions within the writer promise.
use Rattle.std.specs.Prelude.{ℕ, ◌≤◌, ◌<◌, ◌≡◌, Option, Some, length}
use mathlib.Core.List.{List, flat_map}
use Rattle.outcome.specs.Outcome.{Outcome, answer, ◌>>=◌}
use Rattle.items.proofs.ItemsLaws.{Row}
use Rattle.payload.specs.Payload.{Text, text_at}
use Rattle.output_bytes.specs.OutputBytes.{stored}
use Rattle.layout.specs.Blocks.{data_bytes}
use Rattle.file_encoder.specs.Begun.{end_if_fits}

-- what a test says: the refusal, or that there is none
unfoldable pub tested : {A : Type 0} → Outcome A → Outcome (Unit {0})
tested o = o >>= λ a. answer tt

-- how many bytes an outcome has
unfoldable pub length_of : Outcome (List ℕ) → Outcome ℕ
length_of o = o >>= λ bytes. answer (length bytes)

-- records stand side by side in an input, which isn't empty; a block holds one at least
pub record ValidInput (input : List ℕ) (per_block : ℕ) : Type 0 where
  pub records : List Text
  pub row : Row (text_at 0 input) (length input) 0 records
  pub some : 0 < length input
  pub count : 1 ≤ per_block

-- these blocks were put from `from` on: `end` is where they end, or nothing where they don't fit
pub record DataPut (old : List ℕ) (from : ℕ) (blocks : List (List (List ℕ))) (end : Option ℕ) (output : List ℕ) : Type 0 where
  pub ends : end ≡ end_if_fits (length old) from (flat_map data_bytes blocks)
  pub stands : (n : ℕ) → end ≡ Some n → output ≡ stored old from (flat_map data_bytes blocks)
