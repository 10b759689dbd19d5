-- A search that is answered is answered the same with any other room for its matches. On any bytes.
-- Assumes nothing.
use mathlib.Core.Path.{◌≡◌, ap, ◌∙◌, subst}
use mathlib.Core.List.{List, [], ◌∷◌}
use mathlib.Core.Option.{Option, none}
use Prim.Native.Nat.{ℕ, zero, suc, ◌+◌, ◌≤◌}
use native.Mathlib.Omega.{arith}
use lib.Dec.{leb}
use lib.ListN.{length, length-append}
use borrow.Author.Tests.{le-leb}
use Rattle.outcome.specs.Outcome.{Outcome, answer, ◌>>=◌}
use Rattle.outcome.proofs.OutcomeLaws.{bind_answer, bind⁻¹, kept, kept⁻¹}
use Rattle.header.specs.Header.{header_of, blocks_from}
use Rattle.payload.specs.Payload.{Text}
use Rattle.block.specs.Block.{Block}
use Rattle.query.specs.Query.{Query}
use Rattle.matching.specs.Matching.{matching}
use Rattle.matching.specs.ResultList.{room_for}
use Rattle.matching.proofs.ResultListLaws.{room_for_mono}
use Rattle.search.specs.declared.opening.Named.{Named}
use Rattle.search.specs.Search.{Walked, nothing, with_opened, with_match, root_named, child_named, open_block, add_matches, walk_of, walk_from, search_of}
use Rattle.theorems_search.proofs.WalkGrows.{Grown, matches_grow, opens_grow, walk_grows, over-same}

module _ (room other : ℕ) where
  -- there is room for these matches
  abbrev pub FitsIn : Walked → Type 0
  FitsIn s = room_for (length s.matches) ≤ other

  fits_before : (s t : Walked) → Grown s t → FitsIn t → FitsIn s
  fits_before s t g fits =
      let many = ap length g.matches_are ∙ length-append s.matches g.more_matches in
      let few = room_for_mono (length s.matches) (length t.matches) (omega arith) in
      omega arith

  pub matches_other : (rs : List Text) (s t : Walked) → add_matches room rs s ≡ answer t → FitsIn t → add_matches other rs s ≡ answer t
  unfolding add_matches with_match
  matches_other [] s t a fits = a
  matches_other (r ∷ rs) s t a fits =
      let first = kept⁻¹ (leb (room_for (length s.matches + 1)) room) 27 0 (add_matches room rs (with_match r s)) t a in
      kept (leb (room_for (length s.matches + 1)) other) 27 0 (add_matches other rs (with_match r s)) (le-leb _ other (one first.1))
      ∙ matches_other rs (with_match r s) t first.1 fits
    where
      more : length (with_match r s).matches ≡ length s.matches + 1
      more = length-append s.matches (r ∷ [])

      one : add_matches room rs (with_match r s) ≡ answer t → room_for (length s.matches + 1) ≤ other
      one e = subst (λ (n : ℕ). room_for n ≤ other) more (fits_before (with_match r s) t (matches_grow room rs (with_match r s) t e) fits)

  -- a block is opened, and the walk goes on from it
  pub opens_other : (file : List ℕ) (places from : ℕ) (n : Named) (here there : Block → Walked → Outcome Walked)
      → ((c : Block) (s t : Walked) → here c s ≡ answer t → FitsIn t → there c s ≡ answer t)
      → (s t : Walked) → (open_block file places from n s >>= λ c. here c (with_opened n.offset s)) ≡ answer t → FitsIn t
      → (open_block file places from n s >>= λ c. there c (with_opened n.offset s)) ≡ answer t
  opens_other file places from n here there same s t e fits =
      let first = bind⁻¹ (open_block file places from n s) (λ c. here c (with_opened n.offset s)) t e in
      bind_answer (open_block file places from n s) (λ c. there c (with_opened n.offset s)) first.0 first.1
      ∙ same first.0 (with_opened n.offset s) t first.2 fits

  module _ (file : List ℕ) (q : Query) (places from : ℕ) where
    pub walk_other : (level : ℕ) (b : Block) (upper : Option (List ℕ)) (s t : Walked)
        → walk_of file q places room from level b upper s ≡ answer t → FitsIn t → walk_of file q places other from level b upper s ≡ answer t
    unfolding walk_of child_named
    walk_other zero b upper s t e fits = matches_other (matching q b.records) s t e fits
    walk_other (suc level) b upper s t e fits =
        over-same FitsIn fits_before q _ _ upper
        (λ x bound. opens_grow file places from (child_named b.frame.start level x.offset x.size)
        (λ c. walk_of file q places room from level c bound) (λ c. walk_grows file q places room from level c bound))
        (λ x bound. opens_other file places from (child_named b.frame.start level x.offset x.size)
        (λ c. walk_of file q places room from level c bound) (λ c. walk_of file q places other from level c bound) (λ c. walk_other level c bound))
        b.entries s t e fits

    -- down from the root
    walk_from_other : (root rootsize : ℕ) (t : Walked) → walk_from file q places room from root rootsize ≡ answer t → FitsIn t
        → walk_from file q places other from root rootsize ≡ answer t
    unfolding walk_from root_named
    walk_from_other root rootsize t e fits =
        opens_other file places from (root_named root rootsize) (λ b. walk_of file q places room from b.frame.level b none)
        (λ b. walk_of file q places other from b.frame.level b none) (λ c. walk_other c.frame.level c none) nothing t e fits

  -- the whole search
  pub search_other_room : (file : List ℕ) (q : Query) (places : ℕ) (s : Walked) → search_of file q places room ≡ answer s
      → room_for (length s.matches) ≤ other → search_of file q places other ≡ answer s
  unfolding search_of
  search_other_room file q places s e fits =
      let first = bind⁻¹ (header_of file) (λ h. walk_from file q places room (blocks_from h) h.root h.rootsize) s e in
      bind_answer (header_of file) (λ h. walk_from file q places other (blocks_from h) h.root h.rootsize) first.0 first.1
      ∙ walk_from_other file q places (blocks_from first.0) first.0.root first.0.rootsize s first.2 fits
