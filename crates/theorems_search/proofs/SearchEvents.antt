-- The search of an accepted file runs its events: every block that an entry or the header names is found.
-- Assumes nothing.
use mathlib.Core.Path.{◌≡◌, refl, sym, ap, ◌∙◌, subst}
use mathlib.Core.Bool.{Bool, true, false, cond}
use mathlib.Core.List.{List, [], ◌∷◌, map, Memᴰ}
use mathlib.Core.Option.{Option, none}
use Prim.Native.Nat.{ℕ, zero, suc, ◌+◌, ◌≤◌}
use native.Mathlib.Omega.{arith}
use lib.Dec.{leb, ltb}
use lib.ListN.{length}
use borrow.Author.Tests.{lt-ltb, le-leb, eq-eqb}
use Rattle.outcome.specs.Outcome.{Outcome, answer, ◌>>=◌, ◌>>◌, must}
use Rattle.outcome.proofs.OutcomeLaws.{after_bind, kept, bind_answer, bind_same}
use Rattle.lists.proofs.ListsLaws.{both}
use Rattle.header.specs.Header.{header_of, blocks_from, field_at, header_numbers}
use Rattle.header.proofs.HeaderLaws.{blocks_within}
use Rattle.framing.specs.Frame.{sound_frame_at}
use Rattle.payload.specs.Payload.{Text, Entry}
use Rattle.block.specs.Block.{Block, block_in, blocks_at}
use Rattle.block.proofs.BlockLaws.{block⇒BlockRead}
use Rattle.block.proofs.TileLaws.{blocks_read}
use Rattle.query.specs.Query.{Query}
use Rattle.query.specs.Opening.{may_match}
use Rattle.matching.specs.Matching.{matching}
use Rattle.matching.specs.ResultList.{room_for}
use Rattle.search.specs.declared.opening.Named.{Named}
use Rattle.search.specs.Search.{Walked, nothing, with_opened, with_match, next_key, root_named, child_named, fitting_block, named_block, open_block, add_matches, walk_over, walk_of, walk_from, search_of}
use Rattle.tree.specs.Tree.{block_level}
use Rattle.checker.specs.Check.{accept_of}
use Rattle.tree.proofs.TreeLaws.{Tree, entries_at, records_at_lem, level_at, child}
use Rattle.theorems_check.proofs.AcceptLaws.{Accepted⇒Rules, accepted⇒Accepted}
use Rattle.theorems_tree.proofs.TreeFile.{rules⇒Tree}
use Rattle.theorems_search.proofs.Events.{Event, opens, finds, events_over, events_of, search_events, run}
use Rattle.theorems_search.proofs.EventsLaws.{run_append}

-- ---- the matches of a block, and the entries of a block

module _ (q : Query) (places room : ℕ) where
  matches_events : (rs : List Text) (s : Walked) → add_matches room rs s ≡ run places room (map finds rs) s
  unfolding add_matches run
  matches_events [] s = refl
  matches_events (r ∷ rs) s = ap (λ (o : Outcome Walked). must (leb (room_for (length s.matches + 1)) room) 27 0 >> o) (matches_events rs (with_match r s))

  -- where each visit runs the events of its entry
  entries_events : (visit : Entry → Option (List ℕ) → Walked → Outcome Walked) (events : Entry → Option (List ℕ) → List Event) (above : Option (List ℕ)) (es : List Entry)
      → ((e : Entry) → Memᴰ e es → (bound : Option (List ℕ)) (t : Walked) → visit e bound t ≡ run places room (events e bound) t)
      → (s : Walked) → walk_over q visit above es s ≡ run places room (events_over q events above es) s
  unfolding walk_over events_over run
  entries_events visit events above [] each s = refl
  entries_events visit events above (e ∷ es) each s =
      bind_same (cond (may_match e.key.bytes bound q) (visit e bound s) (answer s)) (run places room (cond (may_match e.key.bytes bound q) (events e bound) []) s)
      (walk_over q visit above es) (run places room (events_over q events above es))
      (go (may_match e.key.bytes bound q))
      (λ t p. entries_events visit events above es (λ (x : Entry) (m : Memᴰ x es). each x (Memᴰ.tail m)) t)
      ∙ sym (run_append places room (cond (may_match e.key.bytes bound q) (events e bound) []) (events_over q events above es) s)
    where
      bound : Option (List ℕ)
      bound = next_key es above

      go : (may : Bool) → cond may (visit e bound s) (answer s) ≡ run places room (cond may (events e bound) []) s
      go true = each e (Memᴰ.head refl) bound s
      go false = refl

-- ---- blocks that are named

module _ (file : List ℕ) (from : ℕ) (bs : List Block) (stage : blocks_at file from ≡ answer bs) where
  -- a block of the file is found by its start and full size, where its level fits
  pub named_block_lem : (n : Named) (c : Block) → Memᴰ c bs → c.frame.start ≡ n.offset → c.frame.size ≡ n.size → n.least ≤ c.frame.level → c.frame.level ≤ n.most
      → named_block file from n ≡ answer c
  unfolding named_block fitting_block
  named_block_lem n c m starts sized low high =
      let b = blocks_read file from bs stage c m in
      let r = block⇒BlockRead file c.frame.start c b.read in
      let f = r.framed in
      let body = f.number in
      let some = f.some in
      let ends = f.sized in
      let within = f.within in
      let after = b.after in
      kept _ _ _ _ (both (leb from n.offset) (ltb n.offset (length file)) (le-leb from n.offset (omega arith)) (lt-ltb n.offset (length file) (omega arith)))
      ∙ bind_answer (sound_frame_at file n.offset) (fitting_block file n) c.frame (ap (sound_frame_at file) (sym starts) ∙ r.sound)
      ∙ kept _ _ _ (block_in file c.frame)
      (both _ _ (eq-eqb c.frame.size n.size sized) (both _ _ (le-leb n.least c.frame.level low) (le-leb c.frame.level n.most high)))
      ∙ r.inside

  module _ (root : ℕ) (t : Tree bs root) where
    -- the block that an entry names is found
    pub named_child : (b : Block) → Memᴰ b bs → (level : ℕ) → b.frame.level ≡ suc level → (e : Entry) → Memᴰ e b.entries
        → (c : Block) × Memᴰ c bs × (c.frame.start ≡ e.offset) × (c.frame.level ≡ level) × (named_block file from (child_named b.frame.start level e.offset e.size) ≡ answer c)
    unfolding child_named
    named_child b m level p e i =
        let c = child bs root t b m level p e (subst (Memᴰ e) (sym (entries_at bs root t b m)) i) in
        let leveled = c.leveled in
        (c.block, c.member, c.starts, c.leveled, named_block_lem (child_named b.frame.start level e.offset e.size) c.block c.member c.starts c.sized (omega arith) (omega arith))

    -- so is the root
    pub named_root : (size : ℕ) (b : Block) → Memᴰ b bs → b.frame.start ≡ root → b.frame.size ≡ size → 1 ≤ b.frame.level → b.frame.level ≤ 63 → named_block file from (root_named root size) ≡ answer b
    unfolding root_named
    named_root size b m starts sized low high = named_block_lem (root_named root size) b m starts sized low high

    -- ---- the walk

    module _ (q : Query) (places room : ℕ) where
      pub walk_events : (level : ℕ) (b : Block) → Memᴰ b bs → b.frame.level ≡ level → (upper : Option (List ℕ)) (s : Walked)
          → walk_of file q places room from level b upper s ≡ run places room (events_of bs q level b.frame.start upper) s
      unfolding walk_of events_of open_block run
      walk_events zero b m p upper s =
          matches_events q places room (matching q b.records) s ∙ ap (λ (rs : List Text). run places room (map finds (matching q rs)) s) (sym (records_at_lem bs root t b m))
      walk_events (suc level) b m p upper s =
          entries_events q places room _ (λ e bound. opens e.offset ∷ events_of bs q level e.offset bound) upper b.entries
          (visited (λ (c : Block) (i : Memᴰ c bs). walk_events level c i)) s
          ∙ ap (λ (es : List Entry). run places room (events_over q (λ e bound. opens e.offset ∷ events_of bs q level e.offset bound) upper es) s) (sym (entries_at bs root t b m))
        where
          visited : ((c : Block) → Memᴰ c bs → c.frame.level ≡ level → (bound : Option (List ℕ)) (u : Walked) → walk_of file q places room from level c bound u ≡ run places room (events_of bs q level c.frame.start bound) u)
              → (e : Entry) → Memᴰ e b.entries → (bound : Option (List ℕ)) (u : Walked)
              → (open_block file places from (child_named b.frame.start level e.offset e.size) u >>= λ c. walk_of file q places room from level c bound (with_opened e.offset u))
              ≡ run places room (opens e.offset ∷ events_of bs q level e.offset bound) u
          visited ih e i bound u =
              let n = named_child b m level p e i in
              after_bind (must (ltb (length u.opened) places) 26 0) (named_block file from (child_named b.frame.start level e.offset e.size)) _
              ∙ ap (λ (o : Outcome Walked). must (ltb (length u.opened) places) 26 0 >> o)
              (bind_answer (named_block file from (child_named b.frame.start level e.offset e.size)) _ n.0 n.4
              ∙ ih n.0 n.1 n.3 bound (with_opened e.offset u)
              ∙ ap (λ (o : ℕ). run places room (events_of bs q level o bound) (with_opened e.offset u)) n.2)

      -- the root is found, and the walk goes down from there
      pub walk_root : (size : ℕ) (b : Block) → Memᴰ b bs → b.frame.start ≡ root → b.frame.size ≡ size → 1 ≤ b.frame.level → b.frame.level ≤ 63
          → walk_from file q places room from root size ≡ run places room (search_events bs root q) nothing
      unfolding walk_from open_block search_events run
      walk_root size b m starts sized low high =
          after_bind (must (ltb (length nothing.opened) places) 26 0) (named_block file from (root_named root size)) _
          ∙ ap (λ (o : Outcome Walked). must (ltb (length nothing.opened) places) 26 0 >> o)
          (bind_answer (named_block file from (root_named root size)) _ b (named_root size b m starts sized low high)
          ∙ walk_events b.frame.level b m refl none (with_opened root nothing)
          ∙ ap (λ (o : ℕ). run places room (events_of bs q b.frame.level o none) (with_opened root nothing)) starts
          ∙ ap (λ (n : ℕ). run places room (events_of bs q n root none) (with_opened root nothing)) (sym (level_at bs root t b m) ∙ ap (block_level bs) starts))

-- ---- the search

-- the blocks of an accepted file form a tree
pub accepted⇒Tree : (file : List ℕ) (bs : List Block) → accept_of file ≡ answer bs → Tree bs (field_at file 16)
accepted⇒Tree file bs e =
    let a = accepted⇒Accepted file bs e in
    rules⇒Tree file (blocks_from (header_numbers file)) bs a.blocks (blocks_within file (header_numbers file) a.header) (Accepted⇒Rules file bs a).tree

-- its search is the run of its events
pub search_events_lem : (file : List ℕ) (bs : List Block) → accept_of file ≡ answer bs → (q : Query) (places room : ℕ)
    → search_of file q places room ≡ run places room (search_events bs (field_at file 16) q) nothing
unfolding search_of header_numbers
search_events_lem file bs e q places room =
    let a = accepted⇒Accepted file bs e in
    let r = (Accepted⇒Rules file bs a).tree in
    let t = accepted⇒Tree file bs e in
    let top = r.rooted in
    bind_answer (header_of file) _ (header_numbers file) a.header
    ∙ walk_root file (blocks_from (header_numbers file)) bs a.blocks
    (field_at file 16) t q places room (field_at file 24) top.0 top.1 top.2 top.3 top.4 top.5
