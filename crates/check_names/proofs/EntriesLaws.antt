-- Laws of the loop over the entries of one block.
-- Assumes nothing.
use mathlib.Core.Path.{◌≡◌, refl, sym, ap, ◌∙◌, subst}
use mathlib.Core.Bool.{Bool, true, false, ◌&&◌}
use mathlib.Core.List.{List, [], ◌∷◌, ◌++◌, append-nil, append_assoc}
use Prim.Native.Nat.{ℕ, ◌-◌, ◌≤◌, ◌<◌}
use native.Mathlib.Omega.{arith}
use lib.Dec.{leb}
use lib.ListN.{length, get_or, set, take, length-set, length-take}
use borrow.Author.Tests.{leb-true, leb-false}
use Rattle.outcome.specs.Outcome.{Outcome, answer, refused}
use Rattle.items.specs.declared.Step.{Step}
use Rattle.items.specs.Items.{sound_from}
use Rattle.items.proofs.GoingLaws.{SoundProgress, sound_progress_start, sound_progress_more, sound_progress_next, sound_progress_end, sound_progress_refused}
use Rattle.lists.specs.Lists.{all}
use Rattle.lists.proofs.ListsLaws.{all_append}
use Rattle.payload.specs.Payload.{Entry, entry_at}
use Rattle.payload.proofs.PayloadLaws.{entry⇒Entered}
use Rattle.payload.proofs.ReadLaws.{entry_forward}
use Rattle.block.specs.Laid.{laid_from}
use Rattle.tree.specs.Tree.{names}
use Rattle.check_names.specs.Names.{marked, WordsKept, Leads, EntriesSeen}
use Rattle.check_names.proofs.WordLaws.{kept_mark}

-- no entries, nothing seen
pub none_seen : (file : List ℕ) (from level : ℕ) (seen es : List Entry) (work : List ℕ) → WordsKept file from seen work → es ≡ []
    → EntriesSeen file from level seen es work true
unfolding all
none_seen file from level seen es work k none =
    subst (λ (l : List Entry). EntriesSeen file from level seen l work true) (sym none)
    (record { fit = refl; kept = λ t. subst (λ (l : List Entry). WordsKept file from l work) (sym (append-nil seen)) k })

-- ---- the loop

module _ (file : List ℕ) (place level from end : ℕ) (work₀ : List ℕ) where
  -- the entries of the payload, where a refusal has this place
  abbrev step : ℕ → Outcome (Step Entry)
  step = entry_at place (take end file)

  abbrev entries : List Entry
  entries = sound_from step end (end - from) from

  -- some of the entries are done: each names a fitting block and is seen
  pub record Marking (first : ℕ) (seen : List Entry) (work : List ℕ) (at : ℕ) : Type 0 where
    pub done : List Entry
    pub progress : SoundProgress step end from at done
    pub fit : all (names (laid_from file first) level) done ≡ true
    pub kept : WordsKept file first (seen ++ done) work

  abbrev pub Marked : (work : List ℕ) (at : ℕ) → Type 0
  Marked work at = (first : ℕ) (seen : List Entry) → WordsKept file first seen work₀ → Marking first seen work at

  pub marked_start : Marked work₀ from
  unfolding all
  marked_start first seen k =
      record {
        done = [];
        progress = sound_progress_start step end from;
        fit = refl;
        kept = subst (λ (l : List Entry). WordsKept file first l work₀) (sym (append-nil seen)) k;
      }

  module _ (work : List ℕ) (at : ℕ) (p : Marked work at) where
    -- all entries are done
    marked_all : (first : ℕ) (seen : List Entry) (m : Marking first seen work at) → entries ≡ m.done → EntriesSeen file first level seen entries work true
    marked_all first seen m whole =
        subst (λ (l : List Entry). EntriesSeen file first level seen l work true) (sym whole) (record { fit = sym m.fit; kept = λ t. m.kept })

    pub marked_end : end ≤ at → (first : ℕ) (seen : List Entry) → WordsKept file first seen work₀ → EntriesSeen file first level seen entries work true
    marked_end past first seen k =
        let m = p first seen k in
        marked_all first seen m (sound_progress_end step end from at m.done m.progress past)

    pub marked_refused : at < end → (number q : ℕ) → step at ≡ refused number q
        → (first : ℕ) (seen : List Entry) → WordsKept file first seen work₀ → EntriesSeen file first level seen entries work true
    marked_refused inside number q refuses first seen k =
        let m = p first seen k in
        marked_all first seen m (sound_progress_refused step end from at m.done m.progress inside number q refuses)

    -- where no entry can be read, all are done
    pub marked_over : (number q : ℕ) → step at ≡ refused number q
        → (first : ℕ) (seen : List Entry) → WordsKept file first seen work₀ → EntriesSeen file first level seen entries work true
    marked_over number q refuses = go (leb end at) refl
      where
        go : (b : Bool) → leb end at ≡ b → (first : ℕ) (seen : List Entry) → WordsKept file first seen work₀
            → EntriesSeen file first level seen entries work true
        go true e = marked_end (leb-true _ _ e)
        go false e = marked_refused (leb-false _ _ e) number q refuses

    module _ (s : Step Entry) (reads : step at ≡ answer s) where
      pub forward : at < s.next
      forward = entry_forward place (take end file) at s reads

      pub inside : at < end
      inside =
          let e = entry⇒Entered place (take end file) at s reads in
          let cut = length-take end file in
          omega (arith, forward, e.within)

      -- the entry names no fitting block
      pub marked_unfit : ((first : ℕ) (seen : List Entry) → WordsKept file first seen work → names (laid_from file first) level s.item ≡ false)
          → (first : ℕ) (seen : List Entry) → WordsKept file first seen work₀ → EntriesSeen file first level seen entries work false
      unfolding all
      marked_unfit unfit first seen k = go (p first seen k)
        where
          test : Entry → Bool
          test = names (laid_from file first) level

          go : Marking first seen work at → EntriesSeen file first level seen entries work false
          go m =
              let next = sound_progress_next step end from at m.done m.progress s inside reads forward in
              let bad = unfit first (seen ++ m.done) m.kept in
              let parts = ap (all test) next.1 ∙ all_append test m.done (s.item ∷ next.0) in
              let wrong : (all test m.done && (test s.item && all test next.0)) ≡ false =
              ap (λ (b : Bool). b && (test s.item && all test next.0)) m.fit ∙ ap (λ (b : Bool). b && all test next.0) bad in
              record { fit = sym (parts ∙ wrong); kept = λ t. absurd (let z : ◌≡◌ {A = ℕ} 0 1 = cc in omega arith) }

      -- the entry names a fitting block, which is marked in a list that is as long as before
      pub marked_more : (i : ℕ) → i < length work → ((first : ℕ) (seen : List Entry) → WordsKept file first seen work → Leads (laid_from file first) level s.item i)
          → (later : List ℕ) → later ≡ set work i (marked (get_or work i 0)) → (length later ≡ length work) × Marked later s.next
      unfolding all
      marked_more i low leads later is =
          (ap length is ∙ length-set work i (marked (get_or work i 0)), λ first seen k. go first seen (p first seen k))
        where
          go : (first : ℕ) (seen : List Entry) → Marking first seen work at → Marking first seen later s.next
          go first seen m =
              let test = names (laid_from file first) level in
              let good = leads first (seen ++ m.done) m.kept in
              let right : (all test m.done && (test s.item && true)) ≡ true =
              ap (λ (b : Bool). b && (test s.item && true)) m.fit ∙ ap (λ (b : Bool). b && true) good.fits in
              record {
                done = m.done ++ (s.item ∷ []);
                progress = sound_progress_more step end from at m.done m.progress s inside reads forward;
                fit = all_append test m.done (s.item ∷ []) ∙ right;
                kept =
                    subst (λ (l : List Entry). WordsKept file first l later) (append_assoc seen m.done (s.item ∷ []))
                    (kept_mark file first (seen ++ m.done) work m.kept s.item i low good.placed later is);
              }
