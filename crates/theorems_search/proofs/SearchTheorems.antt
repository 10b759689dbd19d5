-- Theorems about the search on any bytes, over the definitions that its contract cites: the answer, and the two lists at exit.
-- Assumes nothing.
use mathlib.Core.Path.{◌≡◌, refl, sym, ap, ◌∙◌, subst}
use mathlib.Core.List.Memᴰ
use mathlib.Core.List.{List, [], ◌∷◌, ◌++◌, Memᴰ}
use mathlib.Core.Logic.{◌⊎◌, inl, inr}
use Prim.Native.Nat.{ℕ, ◌+◌, ◌≤◌, ◌<◌}
use native.Mathlib.Omega.{arith}
use lib.ListN.{length, length-append}
use Rattle.output_list.specs.OutputList.{padded, zeros}
use Rattle.output_list.proofs.OutputListLaws.{length-zeros, length-padded}
use Rattle.outcome.specs.Outcome.{Outcome, answer, refused, number_of, place_of, count_of, list_of}
use Rattle.payload.specs.Payload.{Text}
use Rattle.block.specs.Block.{Block, block_at}
use Rattle.query.specs.Query.{Query}
use Rattle.matching.specs.ResultList.{room_for, numbers_of}
use Rattle.matching.proofs.ResultListLaws.{room_for_none, length_numbers}
use Rattle.search.specs.Search.{Walked, nothing, with_opened, with_match, search_of, search_answer, opened_list, result_list}
use Rattle.theorems_search.proofs.WalkSteps.{search_keeps}

-- what is listed has its places
pub record Fits (places room : ℕ) (s : Walked) : Type 0 where
  pub opened_fit : length s.opened ≤ places
  pub matches_fit : room_for (length s.matches) ≤ room

-- each of these is the offset of a block that can be read
abbrev pub AllRead : List ℕ → List ℕ → Type 0
AllRead file offsets = (offset : ℕ) → Memᴰ offset offsets → (b : Block) × (block_at file offset ≡ answer b)

module _ (file : List ℕ) (q : Query) (places room : ℕ) where
  -- an answer has at most as many numbers as there are places
  pub walk_fits : (s : Walked) → search_of file q places room ≡ answer s → Fits places room s
  unfolding nothing with_opened with_match
  walk_fits s e =
      search_keeps (λ s t. Fits places room s → Fits places room t) (λ s f. f) (λ s t u f g h. g (f h)) file q places room opening finding s e
      (record { opened_fit = omega arith; matches_fit = omega (arith, room_for_none) })
    where
      opening : (offset : ℕ) (c : Block) (t : Walked) → length t.opened < places → block_at file offset ≡ answer c → Fits places room t → Fits places room (with_opened offset t)
      opening offset c t free read f = let more = length-append t.opened (offset ∷ []) in record { opened_fit = omega arith; matches_fit = f.matches_fit }

      finding : (r : Text) (t : Walked) → room_for (length t.matches + 1) ≤ room → Fits places room t → Fits places room (with_match r t)
      finding r t free f =
          let more : length (t.matches ++ (r ∷ [])) ≡ length t.matches + 1 = omega (arith, length-append t.matches (r ∷ [])) in
          record { opened_fit = f.opened_fit; matches_fit = subst (λ (n : ℕ). room_for n ≤ room) (sym more) free }

  -- every offset on the opened list is that of a block that can be read
  pub opened_read : (s : Walked) → search_of file q places room ≡ answer s → AllRead file s.opened
  unfolding nothing with_opened with_match
  opened_read s e =
      search_keeps (λ s t. AllRead file s.opened → AllRead file t.opened) (λ s f. f) (λ s t u f g h. g (f h)) file q places room
      (λ offset c t free read f. one_more offset c t read f) (λ r t free f. f) s e
      (λ offset m. absurd (Memᴰ.not-nil m))
    where
      last : (offset : ℕ) (c : Block) → block_at file offset ≡ answer c → (o : ℕ) → (o ≡ offset) ⊎ Memᴰ o [] → (b : Block) × (block_at file o ≡ answer b)
      last offset c read o (inl same) = (c, ap (block_at file) same ∙ read)
      last offset c read o (inr m) = absurd (Memᴰ.not-nil m)

      one_more : (offset : ℕ) (c : Block) (t : Walked) → block_at file offset ≡ answer c → AllRead file t.opened → AllRead file (t.opened ++ (offset ∷ []))
      one_more offset c t read f o m = go (Memᴰ.append_cases t.opened m)
        where
          go : Memᴰ o t.opened ⊎ Memᴰ o (offset ∷ []) → (b : Block) × (block_at file o ≡ answer b)
          go (inl before) = f o before
          go (inr now) = last offset c read o (Memᴰ.cases_cons now)

  -- ---- demand 1: the answer, and the lists at exit, for all inputs

  -- after a refusal its number and place are reported, both counts are 0, and both lists are all zeros
  pub search_refusal : (number place : ℕ) → search_of file q places room ≡ refused number place
      → (search_answer (search_of file q places room) ≡ record { number = number; place = place; matches = 0; opened = 0 })
      × (opened_list places (search_of file q places room) ≡ zeros places)
      × (result_list room (search_of file q places room) ≡ zeros room)
  unfolding search_answer opened_list result_list number_of place_of count_of list_of
  search_refusal number place e = (rw e, rw e, rw e)

  -- without one number and place are 0, blocks and matches are counted, and the lists are the offsets opened and the numbers of the matches,
  -- and then zeros
  pub search_answer_lem : (s : Walked) → search_of file q places room ≡ answer s
      → (search_answer (search_of file q places room) ≡ record { number = 0; place = 0; matches = length s.matches; opened = length s.opened })
      × (opened_list places (search_of file q places room) ≡ padded places s.opened)
      × (result_list room (search_of file q places room) ≡ padded room (numbers_of s.matches))
  unfolding search_answer opened_list result_list number_of place_of count_of list_of
  search_answer_lem s e = (rw e, rw e, rw e)

  -- the lists keep their lengths
  pub search_length : (length (opened_list places (search_of file q places room)) ≡ places) × (length (result_list room (search_of file q places room)) ≡ room)
  search_length = go (search_of file q places room) refl
    where
      go : (o : Outcome Walked) → search_of file q places room ≡ o
          → (length (opened_list places (search_of file q places room)) ≡ places) × (length (result_list room (search_of file q places room)) ≡ room)
      go (answer s) e =
          let fits = walk_fits s e in
          let numbers = length_numbers s.matches in
          let held = search_answer_lem s e in
          (ap length held.1 ∙ length-padded places s.opened fits.opened_fit, ap length held.2 ∙ length-padded room (numbers_of s.matches) (omega arith))
      go (refused number place) e =
          let clear = search_refusal number place e in
          (ap length clear.1 ∙ length-zeros places, ap length clear.2 ∙ length-zeros room)
