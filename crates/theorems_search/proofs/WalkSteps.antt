-- The walk of the search step by step, on any bytes: it opens blocks that can be read, each with a place on the opened list, and finds
-- records, each with room on the result list. What every step keeps, the walk keeps.
-- Assumes nothing.
use mathlib.Core.Path.{◌≡◌, ◌∙◌, subst}
use mathlib.Core.Bool.{Bool, true, false, ◌&&◌, cond}
use mathlib.Core.List.{List, [], ◌∷◌}
use mathlib.Core.Option.{Option, none}
use Prim.Native.Nat.{ℕ, zero, suc, ◌+◌, ◌≤◌, ◌<◌}
use lib.Dec.{leb, ltb, eqb}
use lib.ListN.{length}
use borrow.Author.Tests.{leb-true, ltb-true}
use Rattle.outcome.specs.Outcome.{Outcome, answer, ◌>>=◌}
use Rattle.outcome.proofs.OutcomeLaws.{answer_injective, bind_answer, bind⁻¹, kept⁻¹}
use Rattle.header.specs.Header.{header_of, blocks_from}
use Rattle.framing.specs.declared.Frame.{Frame}
use Rattle.framing.specs.Frame.{sound_frame_at}
use Rattle.payload.specs.Payload.{Text, Entry}
use Rattle.block.specs.Block.{Block, block_in, block_at}
use Rattle.query.specs.Query.{Query}
use Rattle.query.specs.Opening.{may_match}
use Rattle.matching.specs.Matching.{matching}
use Rattle.matching.specs.ResultList.{room_for}
use Rattle.search.specs.declared.opening.Named.{Named}
use Rattle.search.specs.Search.{Walked, nothing, with_opened, with_match, next_key, root_named, child_named, fitting_block, named_block, open_block, add_matches, walk_over, walk_of, walk_from, search_of}

-- ---- a block that is opened

-- a block as it was named: its offset lies among the blocks, its frame is sound and has the size and the level asked for
pub record IsNamed (file : List ℕ) (from : ℕ) (n : Named) (c : Block) : Type 0 where
  pub frame : Frame
  pub placed : (leb from n.offset && ltb n.offset (length file)) ≡ true
  pub sound : sound_frame_at file n.offset ≡ answer frame
  pub fitting : (eqb frame.size n.size && (leb n.least frame.level && leb frame.level n.most)) ≡ true
  pub inside : block_in file frame ≡ answer c

pub named⁻¹ : (file : List ℕ) (from : ℕ) (n : Named) (c : Block) → named_block file from n ≡ answer c → IsNamed file from n c
unfolding named_block fitting_block
named⁻¹ file from n c e =
    let first = kept⁻¹ _ _ _ _ c e in
    let second = bind⁻¹ (sound_frame_at file n.offset) (fitting_block file n) c first.1 in
    let third = kept⁻¹ _ _ _ (block_in file second.0) c second.2 in
    record { frame = second.0; placed = first.0; sound = second.1; fitting = third.0; inside = third.1 }

-- it is the block at its offset
pub named_block_lem : (file : List ℕ) (from : ℕ) (n : Named) (c : Block) → IsNamed file from n c → block_at file n.offset ≡ answer c
unfolding block_at
named_block_lem file from n c is = bind_answer (sound_frame_at file n.offset) (block_in file) is.frame is.sound ∙ is.inside

-- a block that was opened had a place on the opened list
pub open⁻¹ : (file : List ℕ) (places from : ℕ) (n : Named) (s : Walked) (c : Block) → open_block file places from n s ≡ answer c
    → (ltb (length s.opened) places ≡ true) × (named_block file from n ≡ answer c)
unfolding open_block
open⁻¹ file places from n s c e = kept⁻¹ (ltb (length s.opened) places) 26 0 (named_block file from n) c e

-- ---- what every step keeps

module _ (R : Walked → Walked → Type 0) (still : (s : Walked) → R s s) (further : (s t u : Walked) → R s t → R t u → R s u) where
  -- through the entries, where each visit keeps it
  pub over_keeps : (q : Query) (visit : Entry → Option (List ℕ) → Walked → Outcome Walked) (above : Option (List ℕ))
      → ((e : Entry) (bound : Option (List ℕ)) (s t : Walked) → visit e bound s ≡ answer t → R s t)
      → (es : List Entry) (s t : Walked) → walk_over q visit above es s ≡ answer t → R s t
  unfolding walk_over
  over_keeps q visit above keeps [] s t a = subst (R s) (answer_injective s t a) (still s)
  over_keeps q visit above keeps (e ∷ es) s t a =
      let bound = next_key es above in
      let first = bind⁻¹ (cond (may_match e.key.bytes bound q) (visit e bound s) (answer s)) (walk_over q visit above es) t a in
      further s first.0 t (one (may_match e.key.bytes bound q) first.0 first.1) (over_keeps q visit above keeps es first.0 t first.2)
    where
      one : (b : Bool) (u : Walked) → cond b (visit e (next_key es above) s) (answer s) ≡ answer u → R s u
      one true u p = keeps e (next_key es above) s u p
      one false u p = subst (R s) (answer_injective s u p) (still s)

  module _ (room : ℕ) (finding : (r : Text) (s : Walked) → room_for (length s.matches + 1) ≤ room → R s (with_match r s)) where
    pub matches_keep : (rs : List Text) (s t : Walked) → add_matches room rs s ≡ answer t → R s t
    unfolding add_matches
    matches_keep [] s t a = subst (R s) (answer_injective s t a) (still s)
    matches_keep (r ∷ rs) s t a =
        let first = kept⁻¹ (leb (room_for (length s.matches + 1)) room) 27 0 (add_matches room rs (with_match r s)) t a in
        further s (with_match r s) t (finding r s (leb-true _ room first.0)) (matches_keep rs (with_match r s) t first.1)

  module _ (file : List ℕ) (places : ℕ)
      (opening : (offset : ℕ) (c : Block) (s : Walked) → length s.opened < places → block_at file offset ≡ answer c → R s (with_opened offset s)) where
    -- one block is opened, and what goes on from it keeps it
    pub opens_keep : (from : ℕ) (n : Named) (next : Block → Walked → Outcome Walked)
        → ((c : Block) (s t : Walked) → next c s ≡ answer t → R s t)
        → (s t : Walked) → (open_block file places from n s >>= λ c. next c (with_opened n.offset s)) ≡ answer t → R s t
    opens_keep from n next keeps s t a =
        let first = bind⁻¹ (open_block file places from n s) (λ c. next c (with_opened n.offset s)) t a in
        let second = open⁻¹ file places from n s first.0 first.1 in
        let read = named_block_lem file from n first.0 (named⁻¹ file from n first.0 second.1) in
        further s (with_opened n.offset s) t (opening n.offset first.0 s (ltb-true _ places second.0) read) (keeps first.0 (with_opened n.offset s) t first.2)

    module _ (room : ℕ) (finding : (r : Text) (s : Walked) → room_for (length s.matches + 1) ≤ room → R s (with_match r s)) (q : Query) (from : ℕ) where
      pub walk_keeps : (level : ℕ) (b : Block) (upper : Option (List ℕ)) (s t : Walked) → walk_of file q places room from level b upper s ≡ answer t → R s t
      unfolding walk_of child_named
      walk_keeps zero b upper s t a = matches_keep room finding (matching q b.records) s t a
      walk_keeps (suc level) b upper s t a =
          over_keeps q _ upper
          (λ e bound. opens_keep from (child_named b.frame.start level e.offset e.size) (λ c. walk_of file q places room from level c bound) (λ c. walk_keeps level c bound))
          b.entries s t a

      pub walk_from_keeps : (root rootsize : ℕ) (t : Walked) → walk_from file q places room from root rootsize ≡ answer t → R nothing t
      unfolding walk_from root_named
      walk_from_keeps root rootsize t a =
          opens_keep from (root_named root rootsize) (λ b. walk_of file q places room from b.frame.level b none) (λ c. walk_keeps c.frame.level c none) nothing t a

-- the whole search
pub search_keeps : (R : Walked → Walked → Type 0) → ((s : Walked) → R s s) → ((s t u : Walked) → R s t → R t u → R s u)
    → (file : List ℕ) (q : Query) (places room : ℕ)
    → ((offset : ℕ) (c : Block) (s : Walked) → length s.opened < places → block_at file offset ≡ answer c → R s (with_opened offset s))
    → ((r : Text) (s : Walked) → room_for (length s.matches + 1) ≤ room → R s (with_match r s))
    → (t : Walked) → search_of file q places room ≡ answer t → R nothing t
unfolding search_of
search_keeps R still further file q places room opening finding t a =
    let first = bind⁻¹ (header_of file) (λ h. walk_from file q places room (blocks_from h) h.root h.rootsize) t a in
    walk_from_keeps R still further file places opening room finding q (blocks_from first.0) first.0.root first.0.rootsize t first.2
