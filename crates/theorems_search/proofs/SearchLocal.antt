-- A search that is answered depends only on the file's length, its header and the blocks on the opened list.
-- Assumes nothing.
use mathlib.Core.Path.{◌≡◌, refl, sym, ap, ◌∙◌, subst}
use mathlib.Core.Bool.{Bool, ◌&&◌}
use mathlib.Core.List.Memᴰ
use mathlib.Core.List.{List, Memᴰ}
use mathlib.Core.Option.{Option, none}
use Prim.Native.Nat.{ℕ, zero, suc, ◌+◌}
use native.Mathlib.Omega.{arith}
use lib.Dec.{leb, ltb, eqb}
use lib.ListN.{length, take}
use Rattle.output_list.proofs.OutputListLaws.{take-padded}
use Rattle.outcome.specs.Outcome.{Outcome, answer, ◌>>=◌}
use Rattle.part.specs.Part.{part}
use Rattle.outcome.proofs.OutcomeLaws.{answer_injective, bind_answer, bind⁻¹, kept}
use Rattle.header.specs.declared.Header.{Header}
use Rattle.header.specs.Header.{header_of, blocks_from, H}
use Rattle.header.proofs.HeaderLaws.{header_local}
use Rattle.framing.specs.declared.Frame.{Frame}
use Rattle.framing.specs.Frame.{sound_frame_at}
use Rattle.block.specs.Block.{Block, block_in, block_at}
use Rattle.block.proofs.BlockLaws.{block⇒BlockRead}
use Rattle.block.proofs.LocalLaws.{block_local}
use Rattle.query.specs.Query.{Query}
use Rattle.search.specs.declared.Found.{Found}
use Rattle.search.specs.declared.opening.Named.{Named}
use Rattle.search.specs.Search.{Walked, nothing, with_opened, root_named, child_named, fitting_block, named_block, open_block, walk_of}
use Rattle.search.specs.Search.{walk_from, search_of, search_answer, opened_list, result_list}
use Rattle.theorems_search.specs.Locality.{header_end, SameWhereOpened, SearchedLocally}
use Rattle.theorems_search.proofs.SearchTheorems.{search_answer_lem}
use Rattle.theorems_search.proofs.SearchNumbers.{number_0⇒answered}
use Rattle.theorems_search.proofs.WalkSteps.{named⁻¹, named_block_lem, open⁻¹}
use Rattle.theorems_search.proofs.WalkGrows.{Grown, grown_member, opens_grow, walk_grows, over-same}

module _ (file other : List ℕ) (long : length other ≡ length file) where
  -- the same bytes in the block at an offset, and in every block opened so far
  abbrev Alike : ℕ → Type 0
  Alike offset = (b : Block) → block_at file offset ≡ answer b → part other offset b.frame.size ≡ part file offset b.frame.size

  abbrev AllAlike : Walked → Type 0
  AllAlike s = (offset : ℕ) → Memᴰ offset s.opened → Alike offset

  alike_before : (s t : Walked) → Grown s t → AllAlike t → AllAlike s
  alike_before s t g alike offset m = alike offset (grown_member s t g offset m)

  -- ---- one block

  pub named_local : (from : ℕ) (n : Named) (c : Block) → named_block file from n ≡ answer c → Alike n.offset → named_block other from n ≡ answer c
  unfolding named_block fitting_block
  named_local from n c e alike =
      let is = named⁻¹ file from n c e in
      let here = named_block_lem file from n c is in
      let there = block⇒BlockRead other n.offset c (block_local file other n.offset c here long (alike c here)) in
      let frame = answer_injective is.frame c.frame (sym is.sound ∙ (block⇒BlockRead file n.offset c here).sound) in
      kept _ _ _ _ (ap (λ (k : ℕ). leb from n.offset && ltb n.offset k) long ∙ is.placed)
      ∙ bind_answer (sound_frame_at other n.offset) (fitting_block other n) c.frame there.sound
      ∙ kept (fits c.frame) _ _ (block_in other c.frame) (ap fits (sym frame) ∙ is.fitting)
      ∙ there.inside
    where
      fits : Frame → Bool
      fits f = eqb f.size n.size && (leb n.least f.level && leb f.level n.most)

  pub open_local : (places from : ℕ) (n : Named) (s : Walked) (c : Block) → open_block file places from n s ≡ answer c → Alike n.offset → open_block other places from n s ≡ answer c
  unfolding open_block
  open_local places from n s c e alike =
      let o = open⁻¹ file places from n s c e in
      kept (ltb (length s.opened) places) 26 0 (named_block other from n) o.0 ∙ named_local from n c o.1 alike

  -- a block is opened, and the walk goes on from it
  opens_local : (places from : ℕ) (n : Named) (here there : Block → Walked → Outcome Walked)
      → ((c : Block) (s t : Walked) → here c s ≡ answer t → Grown s t)
      → ((c : Block) (s t : Walked) → here c s ≡ answer t → AllAlike t → there c s ≡ answer t)
      → (s t : Walked) → (open_block file places from n s >>= λ c. here c (with_opened n.offset s)) ≡ answer t → AllAlike t
      → (open_block other places from n s >>= λ c. there c (with_opened n.offset s)) ≡ answer t
  unfolding with_opened
  opens_local places from n here there grows same s t e alike =
      let offset = n.offset in
      let first = bind⁻¹ (open_block file places from n s) (λ c. here c (with_opened offset s)) t e in
      let now = grown_member (with_opened offset s) t (grows first.0 (with_opened offset s) t first.2) offset (Memᴰ.append_right s.opened (Memᴰ.head refl)) in
      bind_answer (open_block other places from n s) (λ c. there c (with_opened offset s)) first.0
      (open_local places from n s first.0 first.1 (alike offset now))
      ∙ same first.0 (with_opened offset s) t first.2 alike

  -- ---- the walk

  module _ (q : Query) (places room from : ℕ) where
    pub walk_local : (level : ℕ) (b : Block) (upper : Option (List ℕ)) (s t : Walked)
        → walk_of file q places room from level b upper s ≡ answer t → AllAlike t → walk_of other q places room from level b upper s ≡ answer t
    unfolding walk_of child_named
    walk_local zero b upper s t e alike = e
    walk_local (suc level) b upper s t e alike =
        over-same AllAlike alike_before q _ _ upper
        (λ x bound. opens_grow file places from (child_named b.frame.start level x.offset x.size) (λ c. walk_of file q places room from level c bound) (λ c. walk_grows file q places room from level c bound))
        (λ x bound. opens_local places from (child_named b.frame.start level x.offset x.size) (λ c. walk_of file q places room from level c bound) (λ c. walk_of other q places room from level c bound)
        (λ c. walk_grows file q places room from level c bound) (λ c. walk_local level c bound))
        b.entries s t e alike

    pub walk_from_local : (root rootsize : ℕ) (t : Walked) → walk_from file q places room from root rootsize ≡ answer t → AllAlike t → walk_from other q places room from root rootsize ≡ answer t
    unfolding walk_from root_named
    walk_from_local root rootsize t e alike =
        opens_local places from (root_named root rootsize) (λ b. walk_of file q places room from b.frame.level b none) (λ b. walk_of other q places room from b.frame.level b none)
        (λ c. walk_grows file q places room from c.frame.level c none) (λ c. walk_local c.frame.level c none) nothing t e alike

-- ---- the search

module _ (file other : List ℕ) (q : Query) (places room : ℕ) (s : Walked) (found : search_of file q places room ≡ answer s) (same : SameWhereOpened file other s.opened) where
  same_header : take (24 + H file) other ≡ take (24 + H file) file
  unfolding header_end
  same_header = let here : header_end file ≡ 24 + H file = omega arith in subst (λ (n : ℕ). take n other ≡ take n file) here same.header

  -- Locality: such a file gets the same answer.
  pub search_local : search_of other q places room ≡ answer s
  unfolding search_of
  search_local = let read = bind⁻¹ (header_of file) (walk file) s found in go read.0 read.1 read.2
    where
      walk : List ℕ → Header → Outcome Walked
      walk f h = walk_from f q places room (blocks_from h) h.root h.rootsize

      go : (h : Header) → header_of file ≡ answer h → walk file h ≡ answer s → (header_of other >>= walk other) ≡ answer s
      go h has-header walked =
          bind_answer (header_of other) (walk other) h (header_local file other h has-header same.long same_header)
          ∙ walk_from_local file other same.long q places room (blocks_from h) h.root h.rootsize s walked same.blocks

-- The same of the answer and the lists at exit: where the number is 0, they are the same for every file that is the same in the blocks
-- listed.
module _ (file : List ℕ) (q : Query) (places room : ℕ) (r : Found) (list results : List ℕ) where
  pub search_locally : r ≡ search_answer (search_of file q places room) → list ≡ opened_list places (search_of file q places room)
      → results ≡ result_list room (search_of file q places room) → SearchedLocally file q places room r list results
  unfolding SearchedLocally
  search_locally told opened-list result-list z other same =
      let (s, e) = number_0⇒answered file q places room (ap (λ (a : Found). a.number) (sym told) ∙ z) in
      let answered = search_answer_lem file q places room s e in
      let count = ap (λ (a : Found). a.opened) (told ∙ answered.0) in
      let listed = ap (λ (n : ℕ). take n list) count ∙ ap (take (length s.opened)) (opened-list ∙ answered.1) ∙ take-padded places s.opened in
      let equal = search_local file other q places room s e (subst (SameWhereOpened file other) listed same) ∙ sym e in
      (ap search_answer equal ∙ sym told, ap (opened_list places) equal ∙ sym opened-list, ap (result_list room) equal ∙ sym result-list)
