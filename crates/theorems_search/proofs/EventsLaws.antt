-- Laws of events that run on lists with so many places: with room for all of them they are answered, else 26 or 27.
-- Assumes nothing.
use mathlib.Core.Path.{◌≡◌, refl, sym, ap, ◌∙◌, subst}
use mathlib.Core.Bool.{Bool, true, false}
use mathlib.Core.List.{List, [], ◌∷◌, ◌++◌, map, append-nil}
use Prim.Native.Nat.{ℕ, suc, ◌+◌, ◌≤◌, ◌<◌}
use native.Mathlib.Omega.{arith}
use lib.Dec.{leb, ltb}
use lib.ListN.{length, length-append}
use lib.Seq.{append_snoc}
use borrow.Author.Tests.{lt-ltb, le-ltb, ltb-true, ltb-false, le-leb, lt-leb, leb-true, leb-false}
use Rattle.outcome.specs.Outcome.{Outcome, answer, refused, ◌>>=◌, ◌>>◌, must}
use Rattle.outcome.proofs.OutcomeLaws.{after_bind, kept, broken}
use Rattle.payload.specs.Payload.{Text}
use Rattle.matching.specs.ResultList.{room_for}
use Rattle.matching.proofs.ResultListLaws.{room_for_mono}
use Rattle.search.specs.Search.{Walked, with_opened, with_match}
use Rattle.theorems_search.proofs.Events.{Event, opens, finds, opens_in, finds_in, run}

-- ---- what is opened and found

pub opens_in_append : (es fs : List Event) → opens_in (es ++ fs) ≡ opens_in es ++ opens_in fs
unfolding opens_in
opens_in_append [] fs = refl
opens_in_append (opens offset ∷ es) fs = ap (λ (l : List ℕ). offset ∷ l) (opens_in_append es fs)
opens_in_append (finds r ∷ es) fs = opens_in_append es fs

pub finds_in_append : (es fs : List Event) → finds_in (es ++ fs) ≡ finds_in es ++ finds_in fs
unfolding finds_in
finds_in_append [] fs = refl
finds_in_append (opens offset ∷ es) fs = finds_in_append es fs
finds_in_append (finds r ∷ es) fs = ap (λ (l : List Text). r ∷ l) (finds_in_append es fs)

pub opens_in_finds : (rs : List Text) → opens_in (map finds rs) ≡ []
unfolding opens_in
opens_in_finds [] = refl
opens_in_finds (r ∷ rs) = opens_in_finds rs

pub finds_in_finds : (rs : List Text) → finds_in (map finds rs) ≡ rs
unfolding finds_in
finds_in_finds [] = refl
finds_in_finds (r ∷ rs) = ap (λ (l : List Text). r ∷ l) (finds_in_finds rs)

-- ---- one list of events after another

module _ (places room : ℕ) where
  pub run_append : (es fs : List Event) (s : Walked) → run places room (es ++ fs) s ≡ (run places room es s >>= run places room fs)
  unfolding run ◌>>=◌
  run_append [] fs s = refl
  run_append (opens offset ∷ es) fs s =
      ap (λ (o : Outcome Walked). must (ltb (length s.opened) places) 26 0 >> o) (run_append es fs (with_opened offset s))
      ∙ sym (after_bind (must (ltb (length s.opened) places) 26 0) (run places room es (with_opened offset s)) (run places room fs))
  run_append (finds r ∷ es) fs s =
      ap (λ (o : Outcome Walked). must (leb (room_for (length s.matches + 1)) room) 27 0 >> o) (run_append es fs (with_match r s))
      ∙ sym (after_bind (must (leb (room_for (length s.matches + 1)) room) 27 0) (run places room es (with_match r s)) (run places room fs))

  -- ---- one event

  opens_kept : (offset : ℕ) (es : List Event) (s : Walked) → length s.opened < places → run places room (opens offset ∷ es) s ≡ run places room es (with_opened offset s)
  unfolding run
  opens_kept offset es s h = kept (ltb (length s.opened) places) 26 0 (run places room es (with_opened offset s)) (lt-ltb (length s.opened) places h)

  opens_broken : (offset : ℕ) (es : List Event) (s : Walked) → places ≤ length s.opened → run places room (opens offset ∷ es) s ≡ refused 26 0
  unfolding run
  opens_broken offset es s h = broken (ltb (length s.opened) places) 26 0 (run places room es (with_opened offset s)) (le-ltb (length s.opened) places h)

  finds_kept : (r : Text) (es : List Event) (s : Walked) → room_for (length s.matches + 1) ≤ room → run places room (finds r ∷ es) s ≡ run places room es (with_match r s)
  unfolding run
  finds_kept r es s h = kept (leb (room_for (length s.matches + 1)) room) 27 0 (run places room es (with_match r s)) (le-leb (room_for (length s.matches + 1)) room h)

  finds_broken : (r : Text) (es : List Event) (s : Walked) → room < room_for (length s.matches + 1) → run places room (finds r ∷ es) s ≡ refused 27 0
  unfolding run
  finds_broken r es s h = broken (leb (room_for (length s.matches + 1)) room) 27 0 (run places room es (with_match r s)) (lt-leb (room_for (length s.matches + 1)) room h)

  -- ---- room for a match and for those after it

  one_more : (r : Text) (ms : List Text) → length (ms ++ (r ∷ [])) ≡ length ms + 1
  one_more r ms = omega (arith, length-append ms (r ∷ []))

  all_more : (r : Text) (ms ns : List Text) → length (ms ++ (r ∷ [])) + length ns ≡ length ms + suc (length ns)
  all_more r ms ns = omega (arith, length-append ms (r ∷ []))

  one_fits : (ms ns : List Text) → room_for (length ms + suc (length ns)) ≤ room → room_for (length ms + 1) ≤ room
  one_fits ms ns k = let less = room_for_mono (length ms + 1) (length ms + suc (length ns)) (omega arith) in omega arith

  rest_fits : (r : Text) (ms ns : List Text) → room_for (length ms + suc (length ns)) ≤ room → room_for (length (ms ++ (r ∷ [])) + length ns) ≤ room
  rest_fits r ms ns k = subst (λ (n : ℕ). room_for n ≤ room) (sym (all_more r ms ns)) k

  none_more : (ms : List Text) → room_for (length ms) ≤ room → room < room_for (length ms + 0) → ⊥
  none_more ms few many = let same : length ms + 0 ≡ length ms = omega arith in let more = subst (λ (n : ℕ). room < room_for n) same many in omega arith

  -- ---- room for everything

  pub run_fits : (es : List Event) (s : Walked) → length s.opened + length (opens_in es) ≤ places → room_for (length s.matches + length (finds_in es)) ≤ room
      → run places room es s ≡ answer (record { opened = s.opened ++ opens_in es; matches = s.matches ++ finds_in es })
  unfolding run opens_in finds_in with_opened with_match
  run_fits [] s h k = rw (append-nil s.opened, append-nil s.matches)
  run_fits (opens offset ∷ es) s h k =
      let long = length-append s.opened (offset ∷ []) in
      opens_kept offset es s (omega arith)
      ∙ run_fits es (with_opened offset s) (omega arith) k
      ∙ ap (λ (l : List ℕ). answer (record { opened = l; matches = s.matches ++ finds_in es })) (append_snoc s.opened offset (opens_in es))
  run_fits (finds r ∷ es) s h k =
      finds_kept r es s (one_fits s.matches (finds_in es) k)
      ∙ run_fits es (with_match r s) h (rest_fits r s.matches (finds_in es) k)
      ∙ ap (λ (l : List Text). answer (record { opened = s.opened ++ opens_in es; matches = l })) (append_snoc s.matches r (finds_in es))

  -- ---- too little room on one of the lists

  pub run_26 : (es : List Event) (s : Walked) → length s.opened ≤ places → places < length s.opened + length (opens_in es) → room_for (length s.matches + length (finds_in es)) ≤ room
      → run places room es s ≡ refused 26 0
  unfolding opens_in finds_in with_opened with_match
  run_26 [] s few many k = absurd (omega arith)
  run_26 (opens offset ∷ es) s few many k = go (ltb (length s.opened) places) refl (run_26 es (with_opened offset s))
    where
      go : (b : Bool) → ltb (length s.opened) places ≡ b
          → (length (s.opened ++ (offset ∷ [])) ≤ places → places < length (s.opened ++ (offset ∷ [])) + length (opens_in es) → room_for (length s.matches + length (finds_in es)) ≤ room
          → run places room es (with_opened offset s) ≡ refused 26 0)
          → run places room (opens offset ∷ es) s ≡ refused 26 0
      go true p ih =
          let long = length-append s.opened (offset ∷ []) in
          let less = ltb-true (length s.opened) places p in
          opens_kept offset es s less ∙ ih (omega arith) (omega arith) k
      go false p ih = opens_broken offset es s (ltb-false (length s.opened) places p)
  run_26 (finds r ∷ es) s few many k =
      finds_kept r es s (one_fits s.matches (finds_in es) k) ∙ run_26 es (with_match r s) few many (rest_fits r s.matches (finds_in es) k)

  pub run_27 : (es : List Event) (s : Walked) → length s.opened + length (opens_in es) ≤ places → room_for (length s.matches) ≤ room → room < room_for (length s.matches + length (finds_in es))
      → run places room es s ≡ refused 27 0
  unfolding opens_in finds_in with_opened with_match
  run_27 [] s h few many = absurd (none_more s.matches few many)
  run_27 (opens offset ∷ es) s h few many =
      let long = length-append s.opened (offset ∷ []) in
      opens_kept offset es s (omega arith) ∙ run_27 es (with_opened offset s) (omega arith) few many
  run_27 (finds r ∷ es) s h few many = go (leb (room_for (length s.matches + 1)) room) refl (run_27 es (with_match r s))
    where
      go : (b : Bool) → leb (room_for (length s.matches + 1)) room ≡ b
          → (length s.opened + length (opens_in es) ≤ places → room_for (length (s.matches ++ (r ∷ []))) ≤ room → room < room_for (length (s.matches ++ (r ∷ [])) + length (finds_in es))
          → run places room es (with_match r s) ≡ refused 27 0)
          → run places room (finds r ∷ es) s ≡ refused 27 0
      go true p ih =
          let more = leb-true (room_for (length s.matches + 1)) room p in
          finds_kept r es s more ∙ ih h (subst (λ (n : ℕ). room_for n ≤ room) (sym (one_more r s.matches)) more)
          (subst (λ (n : ℕ). room < room_for n) (sym (all_more r s.matches (finds_in es))) many)
      go false p ih = finds_broken r es s (leb-false (room_for (length s.matches + 1)) room p)
