-- The walk of 22 goes through the data blocks that the tree has, in walk order.
-- Assumes nothing.
use mathlib.Core.Path.{◌≡◌, refl, sym, ap, ◌∙◌, subst}
use mathlib.Core.Bool.{Bool, true, false, ◌&&◌}
use mathlib.Core.List.{List, [], ◌∷◌, ◌++◌, flat_map, Memᴰ}
use Prim.Native.Nat.{ℕ, zero, suc, ◌+◌, ◌-◌, ◌≤◌, ◌<◌}
use native.Mathlib.Numerals.{add-one}
use native.Mathlib.Omega.{arith}
use lib.Dec.{leb, ltb}
use lib.ListN.{length, take}
use borrow.Author.Tests.{le-leb, lt-leb, lt-ltb, le-ltb}
use Rattle.outcome.specs.Outcome.{Outcome, answer, refused, ◌>>=◌, ◌>>◌, must}
use Rattle.outcome.proofs.OutcomeLaws.{bind_answer, bind_refused, bind_same, kept, broken}
use Rattle.payload.specs.Payload.{Entry, entry_at}
use Rattle.block.specs.Block.{Block, blocks_at}
use Rattle.framing.specs.Frame.{frame_at}
use Rattle.framing.proofs.FrameLaws.{frame⇒Framed}
use Rattle.block.proofs.HeldLaws.{block_frame}
use Rattle.block.proofs.TileLaws.{blocks_read}
use Rattle.part.specs.declared.Part.{Part}
use Rattle.tree.specs.Tree.{block_entries, leaves}
use Rattle.tree.specs.Stages.{ascending}
use Rattle.tree.proofs.TreeLaws.{Tree, entries_at, Child, child}
use Rattle.check_walk.specs.Lookup.{payload_part, entries_in}
use Rattle.check_walk.specs.Ascent.{ascent_over, leaf_of, ascent_of}
use Rattle.items.proofs.GoingLaws.{Going, going_start}
use Rattle.check_walk.proofs.LookupLaws.{end_of, items_read, entries_again}

-- ---- a data block

pub leaf_low : (long at least : ℕ) → at < least → leaf_of long at least ≡ refused 22 at
unfolding leaf_of
leaf_low long at least h = broken (leb least at && ltb at long) 22 at (answer (at + 1)) (ap (λ (b : Bool). b && ltb at long) (lt-leb least at h))

pub leaf_past : (long at least : ℕ) → least ≤ at → long ≤ at → leaf_of long at least ≡ refused 22 at
unfolding leaf_of
leaf_past long at least h k = broken (leb least at && ltb at long) 22 at (answer (at + 1)) (ap (λ (b : Bool). b && ltb at long) (le-leb least at h) ∙ le-ltb at long k)

pub leaf_risen : (long at least : ℕ) → least ≤ at → at < long → leaf_of long at least ≡ answer (at + 1)
unfolding leaf_of
leaf_risen long at least h k = kept (leb least at && ltb at long) 22 at (answer (at + 1)) (ap (λ (b : Bool). b && ltb at long) (le-leb least at h) ∙ lt-ltb at long k)

-- ---- the loop over the entries

pub ascent_leaf : (file : List ℕ) (level at least : ℕ) → level ≡ 0 → leaf_of (length file) at least ≡ ascent_of file level at least
unfolding ascent_of
ascent_leaf file level at least e = ap (λ (l : ℕ). ascent_of file l at least) (sym e)

pub ascent_index : (file : List ℕ) (level at least : ℕ) → (level ≡ 0 → ⊥)
    → ascent_of file level at least ≡ ascent_over (ascent_of file (level - 1)) (entries_in file at) least
unfolding ascent_of
ascent_index file zero at least h = absurd (h refl)
ascent_index file (suc level) at least h = let one : level ≡ suc level - 1 = omega arith in ap (λ (l : ℕ). ascent_over (ascent_of file l) (entries_in file at) least) one

pub ascent_start : (file : List ℕ) (level at least : ℕ) → (level ≡ 0 → ⊥) → (p : Part) → p ≡ payload_part (frame_at file at) → (s : List ℕ)
    → s ≡ take (end_of p) file → Going (ascent_over (ascent_of file (level - 1))) (entry_at at s) (length s) (ascent_of file level at least) p.offset least
unfolding entries_in
ascent_start file level at least h p e s is =
    going_start _ _ (length s) _ p.offset least
    (ascent_index file level at least h ∙ ap (λ (es : List Entry). ascent_over (ascent_of file (level - 1)) es least) (items_read file at entry_at p e s is))

pub over_end : (child : ℕ → ℕ → Outcome ℕ) (least : ℕ) → ascent_over child [] least ≡ answer least
unfolding ascent_over
over_end child least = refl

pub over_risen : (child : ℕ → ℕ → Outcome ℕ) (e : Entry) (least next : ℕ) → child e.offset least ≡ answer next → (more : List Entry)
    → ascent_over child (e ∷ more) least ≡ ascent_over child more next
unfolding ascent_over
over_risen child e least next h more = bind_answer (child e.offset least) (ascent_over child more) next h

pub over_fallen : (child : ℕ → ℕ → Outcome ℕ) (e : Entry) (least number place : ℕ) → child e.offset least ≡ refused number place
    → (more : List Entry) → ascent_over child (e ∷ more) least ≡ refused number place
unfolding ascent_over
over_fallen child e least number place h more = bind_refused (child e.offset least) (ascent_over child more) number place h

-- ---- offsets that ascend, with the least that is handed on

unfoldable pub ascending_to : (least : ℕ) → List ℕ → Outcome ℕ
ascending_to least [] = answer least
ascending_to least (at ∷ rest) = must (leb least at) 22 at >> ascending_to (suc at) rest

pub ascending_to_done : (least : ℕ) (xs : List ℕ) → (ascending_to least xs >> answer tt) ≡ ascending least xs
unfolding ascending_to ascending ◌>>◌ must
ascending_to_done least [] = refl
ascending_to_done least (at ∷ rest) = go (leb least at) (ascending_to_done (suc at) rest)
  where
    go : (b : Bool) → (ascending_to (suc at) rest >> answer tt) ≡ ascending (suc at) rest
        → ((must b 22 at >> ascending_to (suc at) rest) >> answer tt) ≡ (must b 22 at >> ascending (suc at) rest)
    go true ih = ih
    go false ih = refl

pub ascending_to_append : (least : ℕ) (xs ys : List ℕ) → ascending_to least (xs ++ ys) ≡ (ascending_to least xs >>= λ n. ascending_to n ys)
unfolding ascending_to ◌>>=◌ ◌>>◌ must
ascending_to_append least [] ys = refl
ascending_to_append least (at ∷ rest) ys = go (leb least at) (ascending_to_append (suc at) rest ys)
  where
    go : (b : Bool) → ascending_to (suc at) (rest ++ ys) ≡ (ascending_to (suc at) rest >>= λ n. ascending_to n ys)
        → (must b 22 at >> ascending_to (suc at) (rest ++ ys)) ≡ ((must b 22 at >> ascending_to (suc at) rest) >>= λ n. ascending_to n ys)
    go true ih = ih
    go false ih = refl

ascending_to_one : (long least at : ℕ) → at < long → leaf_of long at least ≡ ascending_to least (at ∷ [])
unfolding ascending_to leaf_of ◌>>◌ must
ascending_to_one long least at h = go (leb least at)
  where
    go : (b : Bool) → (must (b && ltb at long) 22 at >> answer (at + 1)) ≡ (must b 22 at >> answer (suc at))
    go true = kept (ltb at long) 22 at (answer (at + 1)) (lt-ltb at long h) ∙ ap answer (add-one at)
    go false = refl

-- ---- the walk is the tree's

-- through entries whose blocks are walked as the tree says
over-leaves : (bs : List Block) (level : ℕ) (child : ℕ → ℕ → Outcome ℕ) (es : List Entry)
    → ((e : Entry) → Memᴰ e es → (least : ℕ) → child e.offset least ≡ ascending_to least (leaves bs level e.offset))
    → (least : ℕ) → ascent_over child es least ≡ ascending_to least (flat_map (λ e. leaves bs level e.offset) es)
unfolding ascent_over ascending_to flat_map
over-leaves bs level child [] h least = refl
over-leaves bs level child (e ∷ es) h least =
    bind_same (child e.offset least) (ascending_to least (leaves bs level e.offset)) (ascent_over child es) (λ n. ascending_to n (flat_map (λ x. leaves bs level x.offset) es))
    (h e (Memᴰ.head refl) least) (λ n p. over-leaves bs level child es (λ x m. h x (Memᴰ.tail m)) n)
    ∙ sym (ascending_to_append least (leaves bs level e.offset) (flat_map (λ x. leaves bs level x.offset) es))

module _ (file : List ℕ) (from : ℕ) (bs : List Block) (read : blocks_at file from ≡ answer bs) (root : ℕ) (t : Tree bs root) where
  -- the entries that the walk reads are the tree's
  pub walk_entries : (b : Block) → Memᴰ b bs → 1 ≤ b.frame.level → b.frame.level ≤ 63
      → entries_in file b.frame.start ≡ block_entries bs b.frame.start
  walk_entries b m some few = entries_again file b.frame.start b (blocks_read file from bs read b m).read some few ∙ sym (entries_at bs root t b m)

  ascent_to_leaves : (level : ℕ) (b : Block) → Memᴰ b bs → b.frame.level ≡ level → level ≤ 63 → (least : ℕ)
      → ascent_of file level b.frame.start least ≡ ascending_to least (leaves bs level b.frame.start)
  unfolding ascent_of leaves
  ascent_to_leaves zero b m here low least =
      let r = blocks_read file from bs read b m in
      let f = frame⇒Framed file b.frame.start b.frame (block_frame file b.frame.start b r.read) in
      let number = f.number in
      let some = f.some in
      let sized = f.sized in
      let within = f.within in
      ascending_to_one (length file) least b.frame.start (omega arith)
  ascent_to_leaves (suc level) b m here low least =
      ap (λ (es : List Entry). ascent_over (ascent_of file level) es least) (walk_entries b m (omega arith) (omega arith))
      ∙ over-leaves bs level (ascent_of file level) (block_entries bs b.frame.start) (λ e i. below e (child bs root t b m level here e i) (ascent_to_leaves level)) least
    where
      below : (e : Entry) → Child bs root t level e
          → ((c : Block) → Memᴰ c bs → c.frame.level ≡ level → level ≤ 63 → (n : ℕ) → ascent_of file level c.frame.start n ≡ ascending_to n (leaves bs level c.frame.start))
          → (n : ℕ) → ascent_of file level e.offset n ≡ ascending_to n (leaves bs level e.offset)
      below e c ih n = subst (λ (o : ℕ). ascent_of file level o n ≡ ascending_to n (leaves bs level o)) c.starts (ih c.block c.member c.leveled (omega arith) n)

  -- 22 as the rule states it
  pub ascent_leaves : (b : Block) → Memᴰ b bs → b.frame.level ≤ 63 → (least : ℕ)
      → (ascent_of file b.frame.level b.frame.start least >> answer tt) ≡ ascending least (leaves bs b.frame.level b.frame.start)
  ascent_leaves b m low least =
      ap (λ (o : Outcome ℕ). o >> answer tt) (ascent_to_leaves b.frame.level b m refl low least)
      ∙ ascending_to_done least (leaves bs b.frame.level b.frame.start)
