-- A search that is answered is refused with 27 exactly where its matches exceed the places. On any bytes.
-- Assumes nothing.
use mathlib.Core.Path.{◌≡◌, refl, ap, ◌∙◌}
use mathlib.Core.Bool.{Bool, true, false, cond}
use mathlib.Core.List.{List, [], ◌∷◌}
use mathlib.Core.Logic.{◌↔◌}
use mathlib.Core.Option.{Option, none}
use Prim.Native.Nat.{ℕ, zero, suc, ◌+◌, ◌<◌}
use native.Mathlib.Omega.{arith}
use lib.Dec.{leb, ltb}
use lib.ListN.{length, length-append}
use borrow.Author.Tests.{leb-true, leb-false, ltb-true, ltb-false}
use Rattle.outcome.specs.Outcome.{Outcome, answer, refused, ◌>>=◌}
use Rattle.outcome.proofs.OutcomeLaws.{answer_injective, bind_answer, bind_refused, bind⁻¹, kept, broken, kept⁻¹}
use Rattle.header.specs.Header.{header_of, blocks_from}
use Rattle.payload.specs.Payload.{Text, Entry}
use Rattle.block.specs.Block.{Block}
use Rattle.query.specs.Query.{Query}
use Rattle.query.specs.Opening.{may_match}
use Rattle.matching.specs.Matching.{matching}
use Rattle.matching.specs.ResultList.{room_for}
use Rattle.matching.proofs.ResultListLaws.{room_for_is, room_for_none}
use Rattle.search.specs.declared.Found.{Found}
use Rattle.search.specs.declared.opening.Named.{Named}
use Rattle.search.specs.Search.{Walked, nothing, with_opened, with_match, next_key, root_named, child_named, open_block, add_matches}
use Rattle.search.specs.Search.{walk_over, walk_of, walk_from, search_of, search_answer}
use Rattle.theorems_search.proofs.SearchTheorems.{search_refusal, search_answer_lem}
use Rattle.theorems_search.proofs.OtherRoom.{FitsIn, opens_other, walk_other, search_other_room}

-- With `room` places there was an answer. With `other` places there is room for what was found before, and not for what is found then.
module _ (room other : ℕ) where
  abbrev Few : Walked → Type 0
  Few = FitsIn room other

  abbrev Many : Walked → Type 0
  Many s = other < room_for (length s.matches)

  matches_27 : (rs : List Text) (s t : Walked) → add_matches room rs s ≡ answer t → Few s → Many t → add_matches other rs s ≡ refused 27 0
  unfolding add_matches with_match
  matches_27 [] s t a few many = let same = ap (λ (u : Walked). room_for (length u.matches)) (answer_injective s t a) in absurd (omega arith)
  matches_27 (r ∷ rs) s t a few many =
      let first = kept⁻¹ (leb (room_for (length s.matches + 1)) room) 27 0 (add_matches room rs (with_match r s)) t a in
      go (leb (room_for (length s.matches + 1)) other) refl (λ fits. matches_27 rs (with_match r s) t first.1 fits many)
    where
      more : room_for (length (with_match r s).matches) ≡ room_for (length s.matches + 1)
      more = ap room_for (length-append s.matches (r ∷ []))

      go : (b : Bool) → leb (room_for (length s.matches + 1)) other ≡ b → (Few (with_match r s) → add_matches other rs (with_match r s) ≡ refused 27 0)
          → add_matches other (r ∷ rs) s ≡ refused 27 0
      go true e rest =
          let fits = leb-true _ other e in
          kept (leb (room_for (length s.matches + 1)) other) 27 0 (add_matches other rs (with_match r s)) e ∙ rest (omega (arith, more))
      go false e rest = broken (leb (room_for (length s.matches + 1)) other) 27 0 (add_matches other rs (with_match r s)) e

  -- two parts of a walk: the first has room, and then it is the second that hasn't, or the first hasn't
  two_parts : (here there : Outcome Walked) (after later : Walked → Outcome Walked) (t : Walked)
      → ((u : Walked) → here ≡ answer u → Few u → there ≡ answer u) → ((u : Walked) → here ≡ answer u → Many u → there ≡ refused 27 0)
      → ((u : Walked) → after u ≡ answer t → Few u → later u ≡ refused 27 0)
      → (here >>= after) ≡ answer t → (there >>= later) ≡ refused 27 0
  two_parts here there after later t same short rest e =
      let first = bind⁻¹ here after t e in
      go first.0 first.1 first.2 (leb (room_for (length first.0.matches)) other) refl
    where
      go : (u : Walked) → here ≡ answer u → after u ≡ answer t → (b : Bool) → leb (room_for (length u.matches)) other ≡ b → (there >>= later) ≡ refused 27 0
      go u reached on true p = let fits = leb-true _ other p in bind_answer there later u (same u reached fits) ∙ rest u on fits
      go u reached on false p = bind_refused there later 27 0 (short u reached (leb-false _ other p))

  over_27 : (q : Query) (here there : Entry → Option (List ℕ) → Walked → Outcome Walked) (above : Option (List ℕ))
      → ((e : Entry) (bound : Option (List ℕ)) (s t : Walked) → here e bound s ≡ answer t → Few t → there e bound s ≡ answer t)
      → ((e : Entry) (bound : Option (List ℕ)) (s t : Walked) → here e bound s ≡ answer t → Few s → Many t → there e bound s ≡ refused 27 0)
      → (es : List Entry) (s t : Walked) → walk_over q here above es s ≡ answer t → Few s → Many t → walk_over q there above es s ≡ refused 27 0
  unfolding walk_over
  over_27 q here there above same short [] s t a few many =
      let equal = ap (λ (u : Walked). room_for (length u.matches)) (answer_injective s t a) in absurd (omega arith)
  over_27 q here there above same short (e ∷ es) s t a few many =
      two_parts (cond (may_match e.key.bytes (next_key es above) q) (here e (next_key es above) s) (answer s))
      (cond (may_match e.key.bytes (next_key es above) q) (there e (next_key es above) s) (answer s)) (walk_over q here above es) (walk_over q there above es) t
      (one (may_match e.key.bytes (next_key es above) q)) (none_left (may_match e.key.bytes (next_key es above) q))
      (λ u on fits. over_27 q here there above same short es u t on fits many) a
    where
      one : (b : Bool) (u : Walked) → cond b (here e (next_key es above) s) (answer s) ≡ answer u → Few u
          → cond b (there e (next_key es above) s) (answer s) ≡ answer u
      one true u p fits = same e (next_key es above) s u p fits
      one false u p fits = p

      none_left : (b : Bool) (u : Walked) → cond b (here e (next_key es above) s) (answer s) ≡ answer u → Many u
          → cond b (there e (next_key es above) s) (answer s) ≡ refused 27 0
      none_left true u p over = short e (next_key es above) s u p few over
      none_left false u p over = let equal = ap (λ (v : Walked). room_for (length v.matches)) (answer_injective s u p) in absurd (omega arith)

  opens_27 : (file : List ℕ) (places from : ℕ) (n : Named) (here there : Block → Walked → Outcome Walked)
      → ((c : Block) (s t : Walked) → here c s ≡ answer t → Few s → Many t → there c s ≡ refused 27 0)
      → (s t : Walked) → (open_block file places from n s >>= λ c. here c (with_opened n.offset s)) ≡ answer t → Few s → Many t
      → (open_block file places from n s >>= λ c. there c (with_opened n.offset s)) ≡ refused 27 0
  unfolding with_opened
  opens_27 file places from n here there short s t e few many =
      let first = bind⁻¹ (open_block file places from n s) (λ c. here c (with_opened n.offset s)) t e in
      bind_answer (open_block file places from n s) (λ c. there c (with_opened n.offset s)) first.0 first.1
      ∙ short first.0 (with_opened n.offset s) t first.2 few many

  module _ (file : List ℕ) (q : Query) (places from : ℕ) where
    walk_27 : (level : ℕ) (b : Block) (upper : Option (List ℕ)) (s t : Walked)
        → walk_of file q places room from level b upper s ≡ answer t → Few s → Many t → walk_of file q places other from level b upper s ≡ refused 27 0
    unfolding walk_of child_named
    walk_27 zero b upper s t e few many = matches_27 (matching q b.records) s t e few many
    walk_27 (suc level) b upper s t e few many =
        over_27 q _ _ upper
        (λ x bound. opens_other room other file places from (child_named b.frame.start level x.offset x.size)
        (λ c. walk_of file q places room from level c bound) (λ c. walk_of file q places other from level c bound)
        (λ c. walk_other room other file q places from level c bound))
        (λ x bound. opens_27 file places from (child_named b.frame.start level x.offset x.size)
        (λ c. walk_of file q places room from level c bound) (λ c. walk_of file q places other from level c bound) (λ c. walk_27 level c bound))
        b.entries s t e few many

    walk_from_27 : (root rootsize : ℕ) (t : Walked) → walk_from file q places room from root rootsize ≡ answer t → Many t
        → walk_from file q places other from root rootsize ≡ refused 27 0
    unfolding walk_from root_named nothing
    walk_from_27 root rootsize t e many =
        opens_27 file places from (root_named root rootsize) (λ b. walk_of file q places room from b.frame.level b none)
        (λ b. walk_of file q places other from b.frame.level b none) (λ c. walk_27 c.frame.level c none) nothing t e (omega (arith, room_for_none)) many

  pub search_short : (file : List ℕ) (q : Query) (places : ℕ) (s : Walked) → search_of file q places room ≡ answer s
      → other < room_for (length s.matches) → search_of file q places other ≡ refused 27 0
  unfolding search_of
  search_short file q places s e many =
      let first = bind⁻¹ (header_of file) (λ h. walk_from file q places room (blocks_from h) h.root h.rootsize) s e in
      bind_answer (header_of file) (λ h. walk_from file q places other (blocks_from h) h.root h.rootsize) first.0 first.1
      ∙ walk_from_27 file q places (blocks_from first.0) first.0.root first.0.rootsize s first.2 many

-- A search that is answered with some room found these matches. With another number of places it is refused with 27 exactly if they exceed the places;
-- otherwise its answer is the same.
pub search_27_exactly : (file : List ℕ) (q : Query) (places room : ℕ) (s : Walked) → search_of file q places room ≡ answer s
    → (other : ℕ) → ((search_answer (search_of file q places other)).number ≡ 27) ↔ (other < length s.matches)
search_27_exactly file q places room s e other = (λ z. go z (ltb other (length s.matches)) refl, short)
  where
    same : room_for (length s.matches) ≡ length s.matches
    same = room_for_is (length s.matches)

    short : other < length s.matches → (search_answer (search_of file q places other)).number ≡ 27
    short many = ap (λ (r : Found). r.number) (search_refusal file q places other 27 0 (search_short room other file q places s e (omega (arith, same)))).0

    go : (search_answer (search_of file q places other)).number ≡ 27 → (b : Bool) → ltb other (length s.matches) ≡ b → other < length s.matches
    go z true p = ltb-true other (length s.matches) p
    go z false p =
        let few = ltb-false other (length s.matches) p in
        let answered = (search_answer_lem file q places other s (search_other_room room other file q places s e (omega (arith, same)))).0 in
        let number = ap (λ (r : Found). r.number) answered in
        absurd (omega arith)
