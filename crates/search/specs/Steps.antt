-- What the steps of the code say, in the terms of the definitions.
use Rattle.std.specs.Prelude.{ℕ, ◌+◌, ◌-◌, ◌^◌, ◌≤◌, ◌<◌, ◌≡◌, Bool, List, [], ◌∷◌, length, take}
use Rattle.std.specs.Prelude.{Some, None, Result, Ok, Err}
use Rattle.std.specs.Prelude.{Option as Given}
use Rattle.std.proofs.Math.Option.{Option, none, some}
use Rattle.output_list.specs.OutputList.{padded, zeros}
use Rattle.outcome.specs.Outcome.{Outcome, answer, refused, ◌>>=◌}
use Rattle.outcome.specs.declared.Refusal.{Refusal}
use Rattle.outcome.specs.Fault.{number}
use Rattle.items.specs.Items.{items_from}
use Rattle.items.specs.declared.Step.{Step}
use Rattle.part.specs.declared.Part.{Part}
use Rattle.part.specs.Part.{part}
use Rattle.framing.specs.declared.Frame.{Frame}
use Rattle.payload.specs.Payload.{Entry, entry_at}
use Rattle.block.specs.Block.{Block, block_in}
use Rattle.query.specs.Query.{Query}
use Rattle.query.specs.Opening.{may_match}
use Rattle.matching.specs.ResultList.{room_for, numbers_of}
use Rattle.search.specs.declared.child.Child.{Child}
use Rattle.search.specs.declared.walk.Progress.{Progress}
use Rattle.search.specs.Search.{Walked, next_key, child_named, walk_of}

-- ---- openings

-- the frame of a block
unfoldable pub frame_of : Outcome Block → Outcome Frame
frame_of o = o >>= λ b. answer b.frame

-- a frame lies within the file
pub record FrameWithin (file : List ℕ) (f : Frame) : Type 0 where
  pub body : f.body < f.end
  pub end : f.end ≤ length file

-- ---- the block of an entry

-- a part lies within the file
unfoldable pub PartWithin : List ℕ → Part → Type 0
PartWithin file p = p.offset + p.length ≤ length file

-- an upper bound that is a part of the file, or none
unfoldable pub bound_of : List ℕ → Given Part → Option (List ℕ)
bound_of file None = none
bound_of file (Some key) = some (part file key.offset key.length)

-- it lies within the file
unfoldable pub BoundWithin : List ℕ → Given Part → Type 0
BoundWithin file None = Unit {0}
BoundWithin file (Some key) = PartWithin file key

-- the bounds of an entry's block admit a match
unfoldable pub admitted : List ℕ → Query → Child → Bool
admitted file q c = may_match (part file c.key.offset c.key.length) (bound_of file c.upper) q

-- the entries in the payload of an index block from an offset on, or the first refusal
unfoldable pub entries_from : List ℕ → Frame → (at : ℕ) → Outcome (List Entry)
entries_from file f at = items_from (entry_at f.start (take f.end file)) f.end (f.end - at) at

-- an index block lies with its upper bound within the file
pub record IndexWithin (file : List ℕ) (f : Frame) (above : Given Part) : Type 0 where
  pub index : 0 < f.level
  pub end : f.end ≤ length file
  pub bound : BoundWithin file above

module _ (file : List ℕ) (f : Frame) where
  -- the block of the entry at an offset: it is named as a block one level below, its bounds lie within the file, and the next entry begins
  -- later
  pub record ChildWithin (at : ℕ) (c : Child) (next : ℕ) : Type 0 where
    pub named : c.named ≡ child_named f.start (f.level - 1) c.named.offset c.named.size
    pub key : PartWithin file c.key
    pub upper : BoundWithin file c.upper
    pub forward : at < next
    pub before : next ≤ f.end

  -- reading the entry at an offset stays within the file
  unfoldable pub ChildStays : (at : ℕ) → Given (Step Child) → Type 0
  ChildStays at (Some e) = ChildWithin at e.item e.next
  ChildStays at None = Unit {0}

  -- these entries are one, whose block is `c`, and those from `next` on; `above` is the index block's upper bound
  pub record IsChild (above : Given Part) (c : Child) (next : ℕ) (es : List Entry) : Type 0 where
    pub entry : Entry
    pub after : List Entry
    pub split : es ≡ entry ∷ after
    pub rest : entries_from file f next ≡ answer after
    pub lower : part file c.key.offset c.key.length ≡ entry.key.bytes
    pub upper : bound_of file c.upper ≡ next_key after (bound_of file above)
    pub offset : c.named.offset ≡ entry.offset
    pub size : c.named.size ≡ entry.size

  -- what reading the next of these entries says
  unfoldable pub ChildSaid : (above : Given Part) → Given (Step Child) → List Entry → Type 0
  ChildSaid above (Some e) es = IsChild above e.item e.next es
  ChildSaid above None es = es ≡ []

-- ---- the walk

-- there is room for what was opened and found
pub record HasRoom (p : Progress) (places room : ℕ) : Type 0 where
  pub opened : p.used ≤ places
  pub found : room_for p.found ≤ room

-- an answer of the walk stays within the lists
unfoldable pub StaysWithin : Result Progress Refusal → (places room : ℕ) → Type 0
StaysWithin (Ok p) places room = HasRoom p places room
StaysWithin (Err r) places room = Unit {0}

-- what the walk down from a block asks: the block is ordinary and lies with its upper bound within a file that is not too long, and there
-- is room for what was opened and found
pub record WalkAsks (file : List ℕ) (f : Frame) (above : Given Part) (p : Progress) (places room : ℕ) : Type 0 where
  pub small : length file ≤ 2 ^ 30
  pub frame : FrameWithin file f
  pub ordinary : f.level ≤ 63
  pub bound : BoundWithin file above
  pub fits : HasRoom p places room

-- the same for a data block
pub record FindAsks (file : List ℕ) (f : Frame) (p : Progress) (room : ℕ) : Type 0 where
  pub small : length file ≤ 2 ^ 30
  pub frame : FrameWithin file f
  pub leaf : f.level ≡ 0
  pub fits : room_for p.found ≤ room

-- the lent lists hold what was opened and found, then zeros
pub record ListsHold (opened_list results : List ℕ) (p : Progress) (s : Walked) : Type 0 where
  pub opens : opened_list ≡ padded (length opened_list) s.opened
  pub finds : results ≡ padded (length results) (numbers_of s.matches)
  pub many : p.used ≡ length s.opened
  pub matched : p.found ≡ length s.matches

-- what an answer says: the walk goes on with what was opened and found, which the lists hold, or it stops with a refusal
unfoldable pub Reaches : Result Progress Refusal → (opened_list results : List ℕ) → Outcome Walked → Type 0
Reaches (Ok p) opened_list results o = (s : Walked) × (o ≡ answer s) × ListsHold opened_list results p s
Reaches (Err r) opened_list results o = o ≡ refused (number r.fault) r.place

-- what the walk down from a block says, with the lists as they were and as they are then
pub record WalkSaid (file : List ℕ) (q : Query) (from : ℕ) (f : Frame) (above : Given Part) (p : Progress) (opened₀ results₀ : List ℕ)
    (r : Result Progress Refusal) (opened_now resultsNow : List ℕ) : Type 0 where
  pub stays : StaysWithin r (length opened₀) (length results₀)
  pub reaches : (b : Block) (s : Walked) → block_in file f ≡ answer b → ListsHold opened₀ results₀ p s
      → Reaches r opened_now resultsNow (walk_of file q (length opened₀) (length results₀) from f.level b (bound_of file above) s)

-- both lists are all zeros
pub record ListsClear (opened_list results : List ℕ) : Type 0 where
  pub opens : opened_list ≡ zeros (length opened_list)
  pub finds : results ≡ zeros (length results)

-- what the search after the header asks: blocks begin within a file that is not too long, and both lists are all zeros
pub record TreeAsks (file : List ℕ) (from : ℕ) (opened_list results : List ℕ) : Type 0 where
  pub small : length file ≤ 2 ^ 30
  pub within : from ≤ length file
  pub clear : ListsClear opened_list results
