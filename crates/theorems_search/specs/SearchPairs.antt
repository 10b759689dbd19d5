-- Results of a search as they were before a match was packed: two numbers for each. Kept for the statement that packing loses nothing, and for nothing
-- else; `Pairs` of the crate theorems_read has the same of reading.
use Rattle.std.specs.Prelude.{ℕ, zero, suc, ◌+◌, ◌*◌, ◌≡◌, List, [], ◌∷◌, leb, length}
use Rattle.std.proofs.Math.Option.{Option, none}
use Rattle.outcome.specs.Outcome.{Outcome, answer, ◌>>=◌, ◌>>◌, must, list_of}
use Rattle.header.specs.Header.{header_of, blocks_from}
use Rattle.payload.specs.Payload.{Text}
use Rattle.block.specs.Block.{Block}
use Rattle.query.specs.Query.{Query}
use Rattle.matching.specs.Matching.{matching}
use Rattle.search.specs.declared.Found.{Found}
use Rattle.search.specs.Search.{Walked, nothing, with_opened, with_match, root_named, child_named, open_block, walk_over, search_answer, opened_list}
use Rattle.theorems_read.specs.Pairs.{pairs_of, PackingKeeps}

-- the matches of a data block on a result list of so many places: 27 at a match that finds no two places left
unfoldable pub add_pairs : (places : ℕ) → List Text → Walked → Outcome Walked
add_pairs places [] s = answer s
add_pairs places (r ∷ rs) s = must (leb (2 * (length s.matches + 1)) places) 27 0 >> add_pairs places rs (with_match r s)

-- the walk down from an opened block, with so many places on the opened list and on the result list; blocks begin at `from`
unfoldable pub walk_in_pairs : (file : List ℕ) → Query → (opens places from level : ℕ) (b : Block) (upper : Option (List ℕ)) → Walked → Outcome Walked
walk_in_pairs file q opens places from zero b upper s = add_pairs places (matching q b.records) s
walk_in_pairs file q opens places from (suc level) b upper s =
    walk_over q
    (λ e bound t. open_block file opens from (child_named b.frame.start level e.offset e.size) t
    >>= λ c. walk_in_pairs file q opens places from level c bound (with_opened e.offset t))
    upper b.entries s

-- the search
unfoldable pub search_in_pairs : (file : List ℕ) → Query → (opens places : ℕ) → Outcome Walked
search_in_pairs file q opens places = do
  h ← header_of file
  b ← open_block file opens (blocks_from h) (root_named h.root h.rootsize) nothing
  walk_in_pairs file q opens places (blocks_from h) b.frame.level b none (with_opened h.root nothing)

-- and the result list at exit
unfoldable pub search_pairs : (file : List ℕ) → Query → (opens places : ℕ) → List ℕ
search_pairs file q opens places = list_of (λ s. pairs_of s.matches) places (search_in_pairs file q opens places)

-- What packing keeps of a search with this answer, an opened list of so many places and a result list of so many at exit. With twice the places for
-- results the old form also opens the same blocks.
unfoldable pub SearchUnpacks : (file : List ℕ) → Query → (opens room : ℕ) (r : Found) (list results : List ℕ) → Type 0
SearchUnpacks file q opens room r list results =
    PackingKeeps (λ (a : Found). a.number) (λ (a : Found). a.matches) (λ places. search_answer (search_in_pairs file q opens places)) (search_pairs file q opens)
    room r results
    × (opened_list opens (search_in_pairs file q opens (2 * room)) ≡ list)
