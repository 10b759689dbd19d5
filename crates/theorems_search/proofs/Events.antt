-- The walk of an accepted file as a list of events, with no room and no refusal: blocks that are opened and matches that are found.
-- Assumes nothing.
use Prim.Native.Nat.{ℕ, zero, suc, ◌+◌}
use mathlib.Core.Bool.{cond}
use mathlib.Core.List.{List, [], ◌∷◌, ◌++◌, map}
use mathlib.Core.Option.{Option, none}
use lib.Dec.{leb, ltb}
use lib.ListN.{length}
use Rattle.outcome.specs.Outcome.{Outcome, answer, ◌>>◌, must}
use Rattle.payload.specs.Payload.{Text, Entry}
use Rattle.block.specs.Block.{Block}
use Rattle.query.specs.Query.{Query}
use Rattle.query.specs.Opening.{may_match}
use Rattle.matching.specs.Matching.{matching}
use Rattle.matching.specs.ResultList.{room_for}
use Rattle.search.specs.Search.{Walked, with_opened, with_match, next_key}
use Rattle.tree.specs.Tree.{block_entries, block_records, block_level}

pub data Event : Type 0 where
  opens : (offset : ℕ) → Event
  finds : Text → Event

-- through the entries in order, as `overEntries` of the search
unfoldable pub events_over : Query → (visit : Entry → Option (List ℕ) → List Event) (above : Option (List ℕ)) → List Entry → List Event
events_over q visit above [] = []
events_over q visit above (e ∷ es) = cond (may_match e.key.bytes (next_key es above) q) (visit e (next_key es above)) [] ++ events_over q visit above es

-- below the block of this level at an offset, which is open and has this upper bound
unfoldable pub events_of : List Block → Query → (level at : ℕ) (upper : Option (List ℕ)) → List Event
events_of bs q zero at upper = map finds (matching q (block_records bs at))
events_of bs q (suc level) at upper = events_over q (λ e bound. opens e.offset ∷ events_of bs q level e.offset bound) upper (block_entries bs at)

-- the whole search: the root is always opened
unfoldable pub search_events : List Block → (root : ℕ) → Query → List Event
search_events bs root q = opens root ∷ events_of bs q (block_level bs root) root none

-- the blocks opened and the records found
unfoldable pub opens_in : List Event → List ℕ
opens_in [] = []
opens_in (opens offset ∷ es) = offset ∷ opens_in es
opens_in (finds r ∷ es) = opens_in es

unfoldable pub finds_in : List Event → List Text
finds_in [] = []
finds_in (opens offset ∷ es) = finds_in es
finds_in (finds r ∷ es) = r ∷ finds_in es

-- the events one after the other, on lists with so many places: 26, 27
unfoldable pub run : (places room : ℕ) → List Event → Walked → Outcome Walked
run places room [] s = answer s
run places room (opens offset ∷ es) s = must (ltb (length s.opened) places) 26 0 >> run places room es (with_opened offset s)
run places room (finds r ∷ es) s = must (leb (room_for (length s.matches + 1)) room) 27 0 >> run places room es (with_match r s)
