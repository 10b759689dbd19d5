-- Where the matches of a search lie, on any bytes: after the file's first byte, and within it. So their numbers can be unpacked.
-- Assumes nothing.
use mathlib.Core.Path.{◌≡◌, refl, sym, ap, ap₂, ◌∙◌, subst}
use mathlib.Core.List.{List, [], ◌∷◌, ◌++◌}
use mathlib.Core.List.Memᴰ
use mathlib.Core.List.{Memᴰ}
use mathlib.Core.Logic.{◌⊎◌, inl, inr}
use mathlib.Core.Option.{Option, none}
use Prim.Native.Nat.{ℕ, zero, suc, ◌+◌, ◌^◌, ◌≤◌}
use native.Mathlib.Omega.{arith}
use lib.Dec.{leb}
use lib.ListN.{length, get_or}
use Rattle.output_list.specs.OutputList.{padded}
use Rattle.outcome.specs.Outcome.{Outcome, answer, ◌>>=◌}
use Rattle.outcome.proofs.OutcomeLaws.{answer_injective, bind⁻¹, kept⁻¹}
use Rattle.header.specs.Header.{header_of, blocks_from}
use Rattle.header.proofs.HeaderLaws.{is_header}
use Rattle.payload.specs.Payload.{Text}
use Rattle.block.specs.Block.{Block, block_at}
use Rattle.query.specs.Query.{Query}
use Rattle.matching.specs.Matching.{matching}
use Rattle.matching.specs.ResultList.{room_for, match_number, numbers_of}
use Rattle.matching.proofs.MatchLaws.{matching_member}
use Rattle.matching.proofs.ResultListLaws.{room_for_is, number_padded}
use Rattle.reader.proofs.PlaceLaws.{block_laid, laid_member, laid_after}
use Rattle.search.specs.declared.opening.Named.{Named}
use Rattle.search.specs.Search.{Walked, nothing, with_opened, with_match, root_named, child_named, open_block, add_matches, walk_of, walk_from, search_of, result_list}
use Rattle.theorems_read.specs.ReadByRules.{Unpacks}
use Rattle.theorems_read.proofs.PairLaws.{Placed, placed⇒unpacks}
use Rattle.theorems_search.proofs.SearchTheorems.{search_answer_lem}
use Rattle.theorems_search.proofs.WalkSteps.{named⁻¹, named_block_lem, open⁻¹, over_keeps}

module _ (file : List ℕ) (small : length file ≤ 2 ^ 30) where
  abbrev AllPlaced : List Text → Type 0
  AllPlaced ms = (m : Text) → Memᴰ m ms → Placed m

  -- the records of a block that can be read
  block_placed : (at : ℕ) (b : Block) → block_at file at ≡ answer b → AllPlaced b.records
  block_placed at b e m i =
      let laid = block_laid file at b e in
      let after = laid_after file m b.records at _ laid.0 i in
      let within = (laid_member file m b.records at _ laid.0 i).0 in
      let end = laid.1 in
      record { after = omega arith; within = omega arith }

  -- one match more
  one_placed : (ms : List Text) (r : Text) → AllPlaced ms → Placed r → AllPlaced (ms ++ (r ∷ []))
  one_placed ms r all p m i = go (Memᴰ.append_cases ms i)
    where
      last : (m ≡ r) ⊎ Memᴰ m [] → Placed m
      last (inl same) = subst Placed (sym same) p
      last (inr nowhere) = absurd (Memᴰ.not-nil nowhere)

      go : Memᴰ m ms ⊎ Memᴰ m (r ∷ []) → Placed m
      go (inl before) = all m before
      go (inr here) = last (Memᴰ.cases_cons here)

  matches_placed : (room : ℕ) (rs : List Text) (s t : Walked) → AllPlaced rs → add_matches room rs s ≡ answer t → AllPlaced s.matches → AllPlaced t.matches
  unfolding add_matches with_match
  matches_placed room [] s t all a before = subst (λ (u : Walked). AllPlaced u.matches) (answer_injective s t a) before
  matches_placed room (r ∷ rs) s t all a before =
      let first = kept⁻¹ (leb (room_for (length s.matches + 1)) room) 27 0 (add_matches room rs (with_match r s)) t a in
      matches_placed room rs (with_match r s) t (λ m i. all m (Memᴰ.tail i)) first.1
      (one_placed s.matches r before (all r (Memᴰ.head refl)))

  -- a block is opened, and what goes on from it keeps it
  opens_placed : (places from : ℕ) (n : Named) (next : Block → Walked → Outcome Walked)
      → ((at : ℕ) (c : Block) (s t : Walked) → block_at file at ≡ answer c → next c s ≡ answer t → AllPlaced s.matches → AllPlaced t.matches)
      → (s t : Walked) → (open_block file places from n s >>= λ c. next c (with_opened n.offset s)) ≡ answer t
      → AllPlaced s.matches → AllPlaced t.matches
  unfolding with_opened
  opens_placed places from n next keeps s t a before =
      let first = bind⁻¹ (open_block file places from n s) (λ c. next c (with_opened n.offset s)) t a in
      let second = open⁻¹ file places from n s first.0 first.1 in
      let read = named_block_lem file from n first.0 (named⁻¹ file from n first.0 second.1) in
      keeps n.offset first.0 (with_opened n.offset s) t read first.2 before

  module _ (q : Query) (places room from : ℕ) where
    walk_placed : (level : ℕ) (upper : Option (List ℕ)) (at : ℕ) (b : Block) (s t : Walked) → block_at file at ≡ answer b
        → walk_of file q places room from level b upper s ≡ answer t → AllPlaced s.matches → AllPlaced t.matches
    unfolding walk_of child_named
    walk_placed zero upper at b s t read a =
        matches_placed room (matching q b.records) s t (λ m i. block_placed at b read m (matching_member q m b.records i).0) a
    walk_placed (suc level) upper at b s t read a =
        over_keeps (λ s t. AllPlaced s.matches → AllPlaced t.matches) (λ s f. f) (λ s t u f g h. g (f h)) q _ upper
        (λ e bound. opens_placed places from (child_named b.frame.start level e.offset e.size) (λ c. walk_of file q places room from level c bound)
        (walk_placed level bound))
        b.entries s t a

    walk_from_placed : (root rootsize : ℕ) (t : Walked) → walk_from file q places room from root rootsize ≡ answer t → AllPlaced t.matches
    unfolding walk_from root_named nothing
    walk_from_placed root rootsize t a =
        opens_placed places from (root_named root rootsize) (λ b. walk_of file q places room from b.frame.level b none)
        (λ at c. walk_placed c.frame.level none at c) nothing t a (λ m i. absurd (Memᴰ.not-nil i))

-- the matches of a search lie after the first byte of a file of at most 2^30 bytes
pub search_placed : (file : List ℕ) (q : Query) (places room : ℕ) (s : Walked) → search_of file q places room ≡ answer s
    → (m : Text) → Memᴰ m s.matches → Placed m
unfolding search_of
search_placed file q places room s e =
    let first = bind⁻¹ (header_of file) (λ h. walk_from file q places room (blocks_from h) h.root h.rootsize) s e in
    walk_from_placed file (is_header file first.0 first.1).small q places room (blocks_from first.0) first.0.root first.0.rootsize s first.2

-- the number of each match unpacks to the offset of its first byte and its length, and isn't 0
pub search_number : (file : List ℕ) (q : Query) (places room : ℕ) (s : Walked) → search_of file q places room ≡ answer s
    → (xs : List Text) (m : Text) (ys : List Text) → s.matches ≡ xs ++ m ∷ ys
    → (get_or (result_list room (search_of file q places room)) (length xs) 0 ≡ match_number m) × Unpacks m
search_number file q places room s e xs m ys split =
    let list = (search_answer_lem file q places room s e).2 ∙ ap (λ (l : List Text). padded room (numbers_of l)) split in
    let found = subst (Memᴰ m) (sym split) (Memᴰ.append_right xs (Memᴰ.head refl)) in (
      ap₂ (λ (l : List ℕ) (i : ℕ). get_or l i 0) list (sym (room_for_is (length xs))) ∙ number_padded room xs m ys,
      placed⇒unpacks m (search_placed file q places room s e m found),
    )
