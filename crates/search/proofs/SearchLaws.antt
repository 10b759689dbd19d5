-- Laws of the search: from the header to the root, from the root down, and what is answered.
-- Assumes nothing.
use Rattle.std.specs.Prelude.{Result, Ok, Err}
use Rattle.std.specs.Prelude.{Option as Given}
use Rattle.outcome.specs.Fault.{number, said}
use Rattle.part.specs.declared.Part.{Part}
use mathlib.Core.Path.{◌≡◌, refl, sym, ap, ap₂, ◌∙◌, subst}
use mathlib.Core.List.{List, [], ◌∷◌}
use mathlib.Core.Option.{Option, none}
use Prim.Native.Nat.{ℕ, ◌^◌, ◌≤◌}
use native.Mathlib.Omega.{arith}
use lib.ListN.{length}
use Rattle.output_list.specs.OutputList.{padded, zeros, with_number}
use Rattle.output_list.proofs.OutputListLaws.{length_with_number, length-zeros, with_number_padded}
use Rattle.outcome.specs.Outcome.{Outcome, answer, refused, ◌>>=◌, number_of, place_of, count_of, list_of}
use Rattle.outcome.specs.declared.Refusal.{Refusal}
use Rattle.outcome.proofs.OutcomeLaws.{bind_answer, bind_refused}
use Rattle.header.specs.declared.Header.{Header}
use Rattle.header.specs.Header.{header_of, blocks_from}
use Rattle.framing.specs.declared.Frame.{Frame}
use Rattle.block.specs.Block.{Block}
use Rattle.query.specs.Query.{Query}
use Rattle.matching.specs.ResultList.{numbers_of}
use Rattle.matching.proofs.ResultListLaws.{room_for_none, numbers_none}
use Rattle.search.specs.declared.Found.{Found}
use Rattle.search.specs.declared.opening.Named.{Named}
use Rattle.search.specs.declared.walk.Progress.{Progress}
use Rattle.search.specs.Search.{Walked, nothing, with_opened, root_named, open_block, walk_of, walk_from, search_of, search_answer, opened_list, result_list}
use Rattle.search.specs.Steps.{frame_of, BoundWithin, bound_of, WalkAsks, ListsHold, Reaches, WalkSaid, ListsClear}
use Rattle.search.proofs.OpeningLaws.{IsOpened, said⇒IsOpened, said⇒refused}

-- ---- the root

-- what is opened and found with the root
abbrev pub begun : Progress
begun = record { used = 1; found = 0 }

-- the search after the header, with these lists
module _ (file : List ℕ) (q : Query) (from root rootsize : ℕ) (openedFirst results : List ℕ) where
  abbrev walked : Outcome Walked
  walked = walk_from file q (length openedFirst) (length results) from root rootsize

  -- the walk down from the root
  abbrev Down : Block → Outcome Walked
  Down b = walk_of file q (length openedFirst) (length results) from b.frame.level b none (with_opened root nothing)

  module _ {n : Named} (names : n ≡ root_named root rootsize) where
    root_first : walked ≡ (open_block file (length openedFirst) from n nothing >>= Down)
    unfolding walk_from
    root_first = ap (λ (m : Named). open_block file (length openedFirst) from m nothing >>= Down) (sym names)

    -- what the opening of the root says
    module _ {r : Result Frame Refusal}
        (tells : (s : Walked) → 0 ≡ length s.opened → said r ≡ frame_of (open_block file (length openedFirst) from n s)) where
      pub root_refused : {u : Refusal} → r ≡ Err u → (opened_now resultsNow : List ℕ) → Reaches (Err u) opened_now resultsNow walked
      unfolding Reaches said nothing
      root_refused {u} told opened_now resultsNow =
          root_first
          ∙ bind_refused (open_block file (length openedFirst) from n nothing) Down (number u.fault) u.place
          (said⇒refused file (length openedFirst) from n (number u.fault) u.place nothing (sym (ap said told) ∙ tells nothing refl))

      -- it is opened, and its offset goes on the list
      module _ {f : Frame} (told : r ≡ Ok f) {opened_now : List ℕ} (stored : opened_now ≡ with_number openedFirst 0 n.offset) where
        is_opened_lem : IsOpened file (length openedFirst) from n 0 f
        unfolding said
        is_opened_lem = said⇒IsOpened file (length openedFirst) from n 0 f (λ s many. sym (ap said told) ∙ tells s many)

        now_long : length opened_now ≡ length openedFirst
        now_long = ap length stored ∙ length_with_number openedFirst 0 n.offset

        root_holds : ListsClear openedFirst results → ListsHold opened_now results begun (with_opened root nothing)
        unfolding with_opened nothing zeros root_named
        root_holds clear =
            let fits = is_opened_lem.fits in
            record {
              opens =
                  stored
                  ∙ ap (λ (m : Named). with_number openedFirst 0 m.offset) names
                  ∙ ap (λ (l : List ℕ). with_number l 0 root) clear.opens
                  ∙ with_number_padded (length openedFirst) [] 0 root refl (omega arith)
                  ∙ ap (λ (k : ℕ). padded k (root ∷ [])) (sym now_long);
              finds = clear.finds ∙ ap (padded (length results)) (sym numbers_none);
              many = refl;
              matched = refl;
            }

        -- what the walk down from it asks
        module _ {bound : Given Part} (unbounded : BoundWithin file bound × (bound_of file bound ≡ none)) where
          pub root_asks : length file ≤ 2 ^ 30 → WalkAsks file f bound begun (length opened_now) (length results)
          unfolding root_named
          root_asks small =
              let fits = is_opened_lem.fits in
              let same = now_long in
              let none = room_for_none in
              record {
                small = small;
                frame = is_opened_lem.within;
                ordinary = subst (λ (m : Named). f.level ≤ m.most) names is_opened_lem.most_level;
                bound = unbounded.0;
                fits = record { opened = omega arith; found = omega arith };
              }

          -- what it says
          pub root_walked : ListsClear openedFirst results → {w : Result Progress Refusal} {openedThen resultsThen : List ℕ}
              → WalkSaid file q from f bound begun opened_now results w openedThen resultsThen → Reaches w openedThen resultsThen walked
          unfolding nothing
          root_walked clear {w} {openedThen} {resultsThen} down =
              let x = is_opened_lem in
              let s = with_opened root nothing in
              let places = length openedFirst in
              let room = length results in
              subst (Reaches w openedThen resultsThen)
              (ap (λ (k : ℕ). walk_of file q k room from f.level x.block (bound_of file bound) s) now_long
              ∙ ap (λ (g : Frame). walk_of file q places room from g.level x.block (bound_of file bound) s) (sym x.frame)
              ∙ ap (λ (u : Option (List ℕ)). walk_of file q places room from x.block.frame.level x.block u s) unbounded.1
              ∙ sym (root_first ∙ bind_answer (open_block file places from n nothing) Down x.block (x.again nothing refl)))
              (down.reaches x.block s x.inside (root_holds clear))

-- ---- the header

module _ (file : List ℕ) (q : Query) (places room : ℕ) (opened_now results : List ℕ) where
  pub header_refuses : (u : Refusal) → header_of file ≡ refused (number u.fault) u.place → Reaches (Err u) opened_now results (search_of file q places room)
  unfolding search_of Reaches
  header_refuses u e = bind_refused (header_of file) _ (number u.fault) u.place e

  pub header_accepts : {h : Header} → header_of file ≡ answer h
      → (r : Result Progress Refusal) → Reaches r opened_now results (walk_from file q places room (blocks_from h) h.root h.rootsize)
      → Reaches r opened_now results (search_of file q places room)
  unfolding search_of
  header_accepts {h} e r walked = subst (Reaches r opened_now results) (sym (bind_answer (header_of file) _ h e)) walked

-- ---- what is answered

-- the search with these lists
module _ (file : List ℕ) (q : Query) (opened₀ results₀ : List ℕ) where
  abbrev searched : Outcome Walked
  searched = search_of file q (length opened₀) (length results₀)

  -- what `search` answers, and what its lists hold
  abbrev Answered : Found → (opened_now results : List ℕ) → Type 0
  Answered r opened_now results =
      (r ≡ search_answer searched) × ((opened_now ≡ opened_list (length opened₀) searched) × (results ≡ result_list (length results₀) searched))

  answered_found : (p : Progress) (opened_now results : List ℕ) → length opened_now ≡ length opened₀ → length results ≡ length results₀
      → (s : Walked) → searched ≡ answer s → ListsHold opened_now results p s
      → Answered (record { number = 0; place = 0; matches = p.found; opened = p.used }) opened_now results
  unfolding search_answer opened_list result_list number_of place_of count_of list_of
  answered_found p opened_now results long wide s e h = (
    ap₂ (λ (m o : ℕ). record { number = 0; place = 0; matches = m; opened = o }) h.matched h.many ∙ sym (ap search_answer e),
    (
      h.opens ∙ ap (λ (k : ℕ). padded k s.opened) long ∙ sym (ap (opened_list (length opened₀)) e),
      h.finds ∙ ap (λ (k : ℕ). padded k (numbers_of s.matches)) wide ∙ sym (ap (result_list (length results₀)) e),
    ),
  )

  answered_refused : (u : Refusal) (opened_now results : List ℕ) → opened_now ≡ zeros (length opened₀) → results ≡ zeros (length results₀)
      → searched ≡ refused (number u.fault) u.place → Answered (record { number = (number u.fault); place = u.place; matches = 0; opened = 0 }) opened_now results
  unfolding search_answer opened_list result_list number_of place_of count_of list_of
  answered_refused u opened_now results clear clean e =
      (sym (ap search_answer e), (clear ∙ sym (ap (opened_list (length opened₀)) e), clean ∙ sym (ap (result_list (length results₀)) e)))

  -- the lists were cleared before the walk
  module _ {openedFirst resultsFirst : List ℕ} (clear : (openedFirst ≡ zeros (length opened₀)) × (resultsFirst ≡ zeros (length results₀))) where
    first_long : length openedFirst ≡ length opened₀
    first_long = ap length clear.0 ∙ length-zeros (length opened₀)

    first_wide : length resultsFirst ≡ length results₀
    first_wide = ap length clear.1 ∙ length-zeros (length results₀)

    pub lists_clear : ListsClear openedFirst resultsFirst
    lists_clear = record { opens = clear.0 ∙ ap zeros (sym first_long); finds = clear.1 ∙ ap zeros (sym first_wide) }

    -- and are as long after it
    module _ {r : Result Progress Refusal} (openedThen resultsThen : List ℕ)
        (reached : Reaches r openedThen resultsThen (search_of file q (length openedFirst) (length resultsFirst)))
        (long : length openedThen ≡ length openedFirst) (wide : length resultsThen ≡ length resultsFirst) where
      told : (k : Result Progress Refusal) → r ≡ k → Reaches k openedThen resultsThen searched
      told k is =
          subst (λ (o : Result Progress Refusal). Reaches o openedThen resultsThen searched) is
          (subst (λ (n : ℕ). Reaches r openedThen resultsThen (search_of file q (length opened₀) n)) first_wide
          (subst (λ (n : ℕ). Reaches r openedThen resultsThen (search_of file q n (length resultsFirst))) first_long reached))

      pub search_went : {p : Progress} → r ≡ Ok p
          → Answered (record { number = 0; place = 0; matches = p.found; opened = p.used }) openedThen resultsThen
      unfolding Reaches
      search_went {p} is = go (told (Ok p) is)
        where
          go : (s : Walked) × (searched ≡ answer s) × ListsHold openedThen resultsThen p s
              → Answered (record { number = 0; place = 0; matches = p.found; opened = p.used }) openedThen resultsThen
          go (s, e, h) = answered_found p openedThen resultsThen (long ∙ first_long) (wide ∙ first_wide) s e h

      -- after a refusal they are cleared again
      pub search_stopped : {u : Refusal} → r ≡ Err u
          → {openedLast resultsLast : List ℕ} → (openedLast ≡ zeros (length openedThen)) × (resultsLast ≡ zeros (length resultsThen))
          → Answered (record { number = (number u.fault); place = u.place; matches = 0; opened = 0 }) openedLast resultsLast
      unfolding Reaches
      search_stopped {u} is {openedLast} {resultsLast} cleared =
          answered_refused u openedLast resultsLast (cleared.0 ∙ ap zeros (long ∙ first_long)) (cleared.1 ∙ ap zeros (wide ∙ first_wide))
          (told (Err u) is)
