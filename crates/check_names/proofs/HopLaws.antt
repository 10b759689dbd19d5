-- Laws of the loop that goes over the frames of a file and stores the starts of the ordinary blocks.
-- Assumes nothing.
use mathlib.Core.Path.{◌≡◌, refl, sym, ap, ◌∙◌, subst}
use mathlib.Core.Bool.{Bool, true, false}
use mathlib.Core.List.{List, [], ◌∷◌, ◌++◌, append-nil}
use Prim.Native.Nat.{ℕ, ◌+◌, ◌≤◌, ◌<◌}
use native.Mathlib.Omega.{arith}
use lib.Dec.{ltb, leb}
use lib.ListN.{length, get_or, set, length-append, get_or-append}
use lib.Seq.{get_or-set_same, get_or-set_other, get_or-append_seam}
use borrow.Author.Tests.{ltb-true, ltb-false, leb-true, leb-false}
use Rattle.lists.specs.Lists.{keep}
use Rattle.output_list.specs.OutputList.{with_number}
use Rattle.output_list.proofs.OutputListLaws.{place_some, length_with_number}
use Rattle.outcome.specs.Outcome.{answer, refused}
use Rattle.items.proofs.GoingLaws.{SoundProgress, sound_progress_start, sound_progress_more, sound_progress_end, sound_progress_refused}
use Rattle.framing.specs.declared.Frame.{Frame}
use Rattle.framing.specs.Frame.{frame_at}
use Rattle.framing.proofs.FrameLaws.{frame⇒Framed}
use Rattle.block.specs.Block.{Block}
use Rattle.block.specs.Survey.{ordinary}
use Rattle.block.specs.Laid.{laid_in, laid_at, laid_from}
use Rattle.block.proofs.LaidLaws.{laid_found, laid_refused, laid_forward}
use Rattle.check_names.specs.Starts.{starts_of, Begins}
use Rattle.check_names.proofs.StartsLaws.{starts_ordinary, starts_reserved, length_starts}

-- a store after the numbers puts one number more
begins_more : (list numbers : List ℕ) (value : ℕ) → length numbers < length list → Begins list numbers
    → Begins (with_number list (length numbers) value) (numbers ++ (value ∷ []))
unfolding Begins
begins_more list numbers value room begun i h =
    ap (λ (l : List ℕ). get_or l i 0) (sym (place_some list (length numbers) value room).1) ∙ go (ltb i (length numbers)) refl
  where
    go : (b : Bool) → ltb i (length numbers) ≡ b → get_or (set list (length numbers) value) i 0 ≡ get_or (numbers ++ (value ∷ [])) i 0
    go true e =
        let before = ltb-true i (length numbers) e in
        get_or-set_other list (length numbers) i value 0 (λ same. omega arith) ∙ begun i before ∙ sym (get_or-append numbers (value ∷ []) 0 i before)
    go false e =
        let past = ltb-false i (length numbers) e in
        let long = length-append numbers (value ∷ []) in
        let last : i ≡ length numbers = omega arith in
        subst (λ (j : ℕ). get_or (set list (length numbers) value) j 0 ≡ get_or (numbers ++ (value ∷ [])) j 0) (sym last)
        (get_or-set_same list (length numbers) value 0 room ∙ sym (get_or-append_seam numbers value [] 0))

-- ---- the loop

module _ (file : List ℕ) (from : ℕ) (work₀ : List ℕ) where
  -- some of the blocks are passed: their starts are counted, and stored where there is room for them
  pub record Hopped (work : List ℕ) (at count : ℕ) : Type 0 where
    pub passed : List Block
    pub progress : SoundProgress (laid_at file) (length file) from at passed
    pub counted : length (starts_of passed) ≡ count
    pub few : count ≤ at
    pub long : length work ≡ length work₀
    pub begun : count ≤ length work₀ → Begins work (starts_of passed)

  pub hopped_start : Hopped work₀ from 0
  unfolding starts_of ordinary keep Begins
  hopped_start =
      record {
        passed = [];
        progress = sound_progress_start (laid_at file) (length file) from;
        counted = refl;
        few = omega arith;
        long = refl;
        begun = λ room i h. absurd (omega arith);
      }

  module _ (work : List ℕ) (at count : ℕ) (p : Hopped work at count) where
    -- all blocks are passed
    hopped_all : laid_from file from ≡ p.passed
        → (count ≡ length (ordinary (laid_from file from))) × (count ≤ length work₀ → Begins work (starts_of (laid_from file from)))
    hopped_all all = (
      sym p.counted ∙ length_starts p.passed ∙ ap (λ (bs : List Block). length (ordinary bs)) (sym all),
      λ room. subst (λ (bs : List Block). Begins work (starts_of bs)) (sym all) (p.begun room),
    )

    pub hopped_end : length file ≤ at
        → (count ≡ length (ordinary (laid_from file from))) × (count ≤ length work₀ → Begins work (starts_of (laid_from file from)))
    unfolding laid_from
    hopped_end past = hopped_all (sound_progress_end (laid_at file) (length file) from at p.passed p.progress past)

    pub hopped_refused : at < length file → (number place : ℕ) → frame_at file at ≡ refused number place
        → (count ≡ length (ordinary (laid_from file from))) × (count ≤ length work₀ → Begins work (starts_of (laid_from file from)))
    unfolding laid_from
    hopped_refused inside number place e =
        let refuses = laid_refused file at number place e in
        hopped_all (sound_progress_refused (laid_at file) (length file) from at p.passed p.progress inside number place refuses)

    -- where no frame can be read, all blocks are passed
    pub hopped_over : (number place : ℕ) → frame_at file at ≡ refused number place
        → (count ≡ length (ordinary (laid_from file from))) × (count ≤ length work₀ → Begins work (starts_of (laid_from file from)))
    hopped_over number place e = go (leb (length file) at) refl
      where
        go : (b : Bool) → leb (length file) at ≡ b
            → (count ≡ length (ordinary (laid_from file from))) × (count ≤ length work₀ → Begins work (starts_of (laid_from file from)))
        go true q = hopped_end (leb-true _ _ q)
        go false q = hopped_refused (leb-false _ _ q) number place e

    -- the block whose frame was read is passed too
    module _ (f : Frame) (e : frame_at file at ≡ answer f) where
      abbrev more : List Block
      more = p.passed ++ (laid_in file f ∷ [])

      progress_more : SoundProgress (laid_at file) (length file) from (at + f.size) more
      progress_more =
          let found = laid_found file at f e in
          let l = frame⇒Framed file at f e in
          let inside : at < length file = omega (arith, l.number, l.some, l.sized, l.within) in
          sound_progress_more (laid_at file) (length file) from at p.passed p.progress _ inside found (laid_forward file at _ found)

      starts_more : f.level ≤ 63 → starts_of more ≡ starts_of p.passed ++ (at ∷ [])
      unfolding laid_in
      starts_more level =
          starts_ordinary p.passed (laid_in file f) level
          ∙ ap (λ (n : ℕ). starts_of p.passed ++ (n ∷ [])) (frame⇒Framed file at f e).starts

      starts_same : 63 < f.level → starts_of more ≡ starts_of p.passed
      unfolding laid_in
      starts_same level = starts_reserved p.passed (laid_in file f) level ∙ append-nil (starts_of p.passed)

      pub hopped_ordinary : f.level ≤ 63 → (later : List ℕ) → later ≡ with_number work count at → Hopped later (at + f.size) (count + 1)
      hopped_ordinary level later is =
          let l = frame⇒Framed file at f e in
          let number = l.number in
          let some = l.some in
          let sized = l.sized in
          let few = p.few in
          let long = p.long in
          let counted = p.counted in
          let starts = starts_more level in
          let stored : later ≡ with_number work (length (starts_of p.passed)) at = is ∙ ap (λ (n : ℕ). with_number work n at) (sym counted) in
          record {
            passed = more;
            progress = progress_more;
            counted = ap length starts ∙ length-append (starts_of p.passed) (at ∷ []) ∙ ap (λ (n : ℕ). n + 1) counted;
            few = omega arith;
            long = ap length is ∙ length_with_number work count at ∙ long;
            begun = λ room. rw (starts, stored) (begins_more work (starts_of p.passed) at (omega arith) (p.begun (omega arith)));
          }

      pub hopped_reserved : 63 < f.level → Hopped work (at + f.size) count
      hopped_reserved level =
          let few = p.few in
          let starts = starts_same level in
          record {
            passed = more;
            progress = progress_more;
            counted = ap length starts ∙ p.counted;
            few = omega arith;
            long = p.long;
            begun = λ room. rw starts (p.begun room);
          }
