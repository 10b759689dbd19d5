-- Results as they were before a match was packed: two numbers for each. Kept for the statement that packing loses nothing, and for nothing else.
use Rattle.std.specs.Prelude.{ℕ, ◌*◌, ◌≤◌, ◌≡◌, leb, length, take}
use mathlib.Core.List.{List, [], ◌∷◌, flat_map}
use Rattle.output_list.specs.OutputList.{padded}
use Rattle.outcome.specs.Outcome.{Outcome, answer, ◌>>=◌, ◌>>◌, must, list_of}
use Rattle.header.specs.Header.{header_of, blocks_from}
use Rattle.payload.specs.Payload.{Text}
use Rattle.block.specs.Block.{blocks_at}
use Rattle.block.specs.Survey.{records_of}
use Rattle.query.specs.Query.{Query}
use Rattle.matching.specs.Matching.{matching}
use Rattle.matching.specs.Packing.{unpacked}
use Rattle.reader.specs.declared.ReadAnswer.{ReadAnswer}
use Rattle.reader.specs.Read.{read_answer}

-- the offset and the length of each match
unfoldable pub pairs_of : List Text → List ℕ
pairs_of ms = flat_map (λ m. m.at ∷ length m.bytes ∷ []) ms

-- reading front to back with a list of so many places: 27 exactly if there are fewer than two for each match
unfoldable pub read_in_pairs : (file : List ℕ) → Query → (places : ℕ) → Outcome (List Text)
read_in_pairs file q places = do
  h ← header_of file
  bs ← blocks_at file (blocks_from h)
  must (leb (2 * length (matching q (records_of bs))) places) 27 0
  answer (matching q (records_of bs))

-- and that list at exit
unfoldable pub read_pairs : (file : List ℕ) → Query → (places : ℕ) → List ℕ
read_pairs file q places = list_of pairs_of places (read_in_pairs file q places)

-- What packing keeps of a reader. With so many places its old form answers so (`answers`) and gives this list (`lists`); r is what it answers now with
-- `room` places, and `results` its list at exit.
pub record PackingKeeps {R : Type 0} (number matches : R → ℕ) (answers : ℕ → R) (lists : ℕ → List ℕ) (room : ℕ) (r : R) (results : List ℕ) : Type 0 where
  -- with twice the places the old form answers the same, whether refused or not, and its list is this one unpacked
  pub same_twice : answers (2 * room) ≡ r
  pub pairs_twice : lists (2 * room) ≡ unpacked results
  -- where nothing is refused: so it does with two places for each match or more; its list is the numbers unpacked, then zeros
  pub same_enough : number r ≡ 0 → (places : ℕ) → 2 * matches r ≤ places → answers places ≡ r
  pub pairs_enough : number r ≡ 0 → (places : ℕ) → 2 * matches r ≤ places → lists places ≡ padded places (unpacked (take (matches r) results))

-- of a read with this answer and a list of so many places at exit
unfoldable pub ReadUnpacks : (file : List ℕ) → Query → (room : ℕ) (r : ReadAnswer) (results : List ℕ) → Type 0
ReadUnpacks file q room r results =
    PackingKeeps (λ (a : ReadAnswer). a.number) (λ (a : ReadAnswer). a.matches) (λ places. read_answer (read_in_pairs file q places)) (read_pairs file q)
    room r results
