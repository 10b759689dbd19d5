-- The index search: the walk down from the root, on any bytes. The first fault met decides.
use Rattle.std.specs.Prelude.{ℕ, zero, suc, ◌+◌, ◌&&◌, cond, List, [], ◌∷◌, ◌++◌, leb, ltb, eqb, length}
use Rattle.std.proofs.Math.Option.{Option, none, some}
use Rattle.outcome.specs.Outcome.{Outcome, answer, ◌>>=◌, ◌>>◌, must, number_of, place_of, count_of, list_of}
use Rattle.outcome.specs.declared.Fault.TheVariants.{Root, EntryTarget}
use Rattle.outcome.specs.declared.Refusal.{Refusal}
use Rattle.outcome.specs.Fault.{number}
use Rattle.header.specs.Header.{header_of, blocks_from}
use Rattle.framing.specs.declared.Frame.{Frame}
use Rattle.framing.specs.Frame.{sound_frame_at}
use Rattle.payload.specs.Payload.{Text, Entry}
use Rattle.block.specs.Block.{Block, block_in}
use Rattle.query.specs.Query.{Query}
use Rattle.query.specs.Opening.{may_match}
use Rattle.matching.specs.Matching.{matching}
use Rattle.matching.specs.ResultList.{room_for, numbers_of}
use Rattle.search.specs.declared.Found.{Found}
use Rattle.search.specs.declared.opening.Named.{Named}

-- what the walk has opened and found so far: the offsets of the blocks, and the records, both in walk order
pub record Walked : Type 0 where
  pub opened : List ℕ
  pub matches : List Text

unfoldable pub nothing : Walked
nothing = record { opened = []; matches = [] }

unfoldable pub with_opened : ℕ → Walked → Walked
with_opened offset s = record { opened = s.opened ++ (offset ∷ []); matches = s.matches }

unfoldable pub with_match : Text → Walked → Walked
with_match r s = record { opened = s.opened; matches = s.matches ++ (r ∷ []) }

-- The upper bound of an entry's block, where these entries follow it: the key of the next entry in the same index block; the last
-- entry has the upper bound of the index block that it stands in.
unfoldable pub next_key : List Entry → Option (List ℕ) → Option (List ℕ)
next_key [] above = above
next_key (next ∷ after) above = some next.key.bytes

-- A block as the header or an entry names it is a `Named`: its offset and full size, the least and the largest level that it may have,
-- and the refusal for a wrong offset, size or level.

-- the root is an index block, else 17
unfoldable pub root_named : (root rootsize : ℕ) → Named
root_named root rootsize = record { offset = root; size = rootsize; least = 1; most = 63; refusal = record { fault = Root; place = 0 } }

-- the block of an entry has this level, one less than the index block at `place`, else 19
unfoldable pub child_named : (place level offset size : ℕ) → Named
child_named place level offset size = record { offset = offset; size = size; least = level; most = level; refusal = record { fault = EntryTarget; place = place } }

-- the block of a sound frame: size and level, then the payload
unfoldable pub fitting_block : (file : List ℕ) → Named → Frame → Outcome Block
fitting_block file n f =
    must (eqb f.size n.size && (leb n.least f.level && leb f.level n.most)) (number n.refusal.fault) n.refusal.place >> block_in file f

-- The block that is named, with every test of one block: the offset lies from `from`, where blocks begin, to before the file's end;
-- number, 13, 10, 14; size and level; payload, 16 or 21.
unfoldable pub named_block : (file : List ℕ) (from : ℕ) → Named → Outcome Block
named_block file from n = do
  must (leb from n.offset && ltb n.offset (length file)) (number n.refusal.fault) n.refusal.place
  f ← sound_frame_at file n.offset
  fitting_block file n f

-- 26 if the opened list, of so many places, has none left for the block; then the block's tests
unfoldable pub open_block : (file : List ℕ) (places from : ℕ) → Named → Walked → Outcome Block
open_block file places from n s = must (ltb (length s.opened) places) 26 0 >> named_block file from n

-- the matches of a data block on a result list of so many places: 27 at a match that finds no room left
unfoldable pub add_matches : (room : ℕ) → List Text → Walked → Outcome Walked
add_matches room [] s = answer s
add_matches room (r ∷ rs) s = must (leb (room_for (length s.matches + 1)) room) 27 0 >> add_matches room rs (with_match r s)

-- the entries of an index block in order: the block of an entry is visited where its bounds admit a match; `above` is the index block's
-- upper bound
unfoldable pub walk_over : Query → (visit : Entry → Option (List ℕ) → Walked → Outcome Walked) (above : Option (List ℕ))
    → List Entry → Walked → Outcome Walked
walk_over q visit above [] s = answer s
walk_over q visit above (e ∷ es) s =
    cond (may_match e.key.bytes (next_key es above) q) (visit e (next_key es above) s) (answer s) >>= walk_over q visit above es

-- the walk, with so many places on the opened list and on the result list; blocks begin at `from`
module _ (file : List ℕ) (q : Query) (places room from : ℕ) where
  -- down from an opened block of this level with this upper bound
  unfoldable pub walk_of : (level : ℕ) (b : Block) (upper : Option (List ℕ)) → Walked → Outcome Walked
  walk_of zero b upper s = add_matches room (matching q b.records) s
  walk_of (suc level) b upper s =
      walk_over q
      (λ e bound t. open_block file places from (child_named b.frame.start level e.offset e.size) t
      >>= λ c. walk_of level c bound (with_opened e.offset t))
      upper b.entries s

  -- down from the root, which has no upper bound
  unfoldable pub walk_from : (root rootsize : ℕ) → Outcome Walked
  walk_from root rootsize = open_block file places from (root_named root rootsize) nothing >>= λ b. walk_of b.frame.level b none (with_opened root nothing)

-- the search: refusals 1 to 9, then the walk from the root that the header names
unfoldable pub search_of : (file : List ℕ) (q : Query) (places room : ℕ) → Outcome Walked
search_of file q places room = header_of file >>= λ h. walk_from file q places room (blocks_from h) h.root h.rootsize

-- what `search` answers, and what its lists hold
unfoldable pub search_answer : Outcome Walked → Found
search_answer o =
    record { number = number_of o; place = place_of o; matches = count_of (λ s. length s.matches) o; opened = count_of (λ s. length s.opened) o }

unfoldable pub opened_list : ℕ → Outcome Walked → List ℕ
opened_list places o = list_of (λ s. s.opened) places o

unfoldable pub result_list : ℕ → Outcome Walked → List ℕ
result_list room o = list_of (λ s. numbers_of s.matches) room o

-- what it answers after this refusal
unfoldable pub refused_answer : Refusal → Found
refused_answer r = record { number = number r.fault; place = r.place; matches = 0; opened = 0 }
