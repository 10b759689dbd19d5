-- Laws of the words on the work list: start and count of a word, one more naming, and what is kept as entries are seen.
-- Assumes nothing.
use mathlib.Core.Path.{◌≡◌, refl, sym, ap, ◌∙◌, subst}
use mathlib.Core.Bool.{Bool, true, false, cond}
use mathlib.Core.List.{List, [], ◌∷◌, ◌++◌}
use Prim.Native.Nat.{ℕ, zero, suc, ◌+◌, ◌*◌, ◌/◌, ◌%◌, ◌^◌, ◌≤◌, ◌<◌}
use native.Mathlib.Omega.{arith}
use lib.Dec.{ltb, eqb}
use lib.ListN.{length, get_or, set, length-append, length-set, take}
use lib.Seq.{length-take-le, get_or-take, get_or-set_same, get_or-set_other, set-get_or}
use borrow.Author.Tests.{ltb-true, ltb-false, lt-ltb, le-ltb, eq-eqb, ne_eqb, eqb-true, eqb-false}
use Rattle.lists.specs.Lists.{keep}
use Rattle.lists.proofs.ListsLaws.{keep_append, ascending_at}
use Rattle.payload.specs.Payload.{Entry}
use Rattle.block.specs.Survey.{ordinary}
use Rattle.block.specs.Laid.{laid_from}
use Rattle.check_names.specs.Starts.{starts_of, Begins, start_at, StartsRise}
use Rattle.check_names.specs.Names.{times_named, up_to_two, word_of, marked, WordsKept}
use Rattle.check_names.proofs.StartsLaws.{AtIndex, at_index, length_starts, starts_ascend, ordinary_laid}

-- ---- one word

pub mark_more : (work : List ℕ) (i : ℕ) → get_or work i 0 / 2 ^ 30 < 2 → set work i (get_or work i 0 + 2 ^ 30) ≡ set work i (marked (get_or work i 0))
unfolding marked
mark_more work i h = rw (lt-ltb (get_or work i 0 / 2 ^ 30) 2 h)

pub mark_same : (work : List ℕ) (i : ℕ) → 2 ≤ get_or work i 0 / 2 ^ 30 → work ≡ set work i (marked (get_or work i 0))
unfolding marked
mark_same work i h = rw (le-ltb (get_or work i 0 / 2 ^ 30) 2 h) (sym (set-get_or work i 0))

two_at_most : (n : ℕ) → up_to_two n ≤ 2
unfolding up_to_two
two_at_most zero = omega arith
two_at_most (suc zero) = omega arith
two_at_most (suc (suc n)) = omega arith

-- the start and the count of a word
pub word_start : (seen : List Entry) (at : ℕ) → at < 2 ^ 30 → word_of seen at % 2 ^ 30 ≡ at
unfolding word_of
word_start seen at h = omega arith

pub word_count : (seen : List Entry) (at : ℕ) → at < 2 ^ 30 → word_of seen at / 2 ^ 30 ≡ up_to_two (times_named seen at)
unfolding word_of
word_count seen at h = omega arith

-- one more naming
times_same : (seen : List Entry) (e : Entry) (at : ℕ) → e.offset ≡ at → times_named (seen ++ (e ∷ [])) at ≡ suc (times_named seen at)
unfolding times_named keep
times_same seen e at same =
    ap length (keep_append (λ x. eqb x.offset at) seen (e ∷ []))
    ∙ ap (λ (b : Bool). length (keep (λ x. eqb x.offset at) seen ++ cond b (e ∷ []) [])) (eq-eqb e.offset at same)
    ∙ length-append (keep (λ x. eqb x.offset at) seen) (e ∷ [])
    ∙ omega arith

times_other : (seen : List Entry) (e : Entry) (at : ℕ) → (e.offset ≡ at → ⊥) → times_named (seen ++ (e ∷ [])) at ≡ times_named seen at
unfolding times_named keep
times_other seen e at other =
    ap length (keep_append (λ x. eqb x.offset at) seen (e ∷ []))
    ∙ ap (λ (b : Bool). length (keep (λ x. eqb x.offset at) seen ++ cond b (e ∷ []) [])) (ne_eqb e.offset at other)
    ∙ length-append (keep (λ x. eqb x.offset at) seen) []
    ∙ omega arith

up_one : (at n : ℕ) → at < 2 ^ 30 → marked (at + 2 ^ 30 * up_to_two n) ≡ at + 2 ^ 30 * up_to_two (suc n)
unfolding up_to_two marked
up_one at zero h = rw (lt-ltb ((at + 2 ^ 30 * 0) / 2 ^ 30) 2 (omega arith)) (omega arith)
up_one at (suc zero) h = rw (lt-ltb ((at + 2 ^ 30 * 1) / 2 ^ 30) 2 (omega arith)) (omega arith)
up_one at (suc (suc n)) h = rw (le-ltb ((at + 2 ^ 30 * 2) / 2 ^ 30) 2 (omega arith))

pub word_marked : (seen : List Entry) (e : Entry) (at : ℕ) → at < 2 ^ 30 → e.offset ≡ at → marked (word_of seen at) ≡ word_of (seen ++ (e ∷ [])) at
unfolding word_of
word_marked seen e at h same = up_one at (times_named seen at) h ∙ ap (λ (n : ℕ). at + 2 ^ 30 * up_to_two n) (sym (times_same seen e at same))

pub word_unmarked : (seen : List Entry) (e : Entry) (at : ℕ) → (e.offset ≡ at → ⊥) → word_of seen at ≡ word_of (seen ++ (e ∷ [])) at
unfolding word_of
word_unmarked seen e at other = ap (λ (n : ℕ). at + 2 ^ 30 * up_to_two n) (sym (times_other seen e at other))

-- ---- the words of a file

module _ (file : List ℕ) (from : ℕ) where
  abbrev starts : List ℕ
  starts = starts_of (laid_from file from)

  -- at first no entry was seen
  pub kept_start : (work : List ℕ) → length file ≤ 2 ^ 30 → length work ≡ length (ordinary (laid_from file from)) → Begins work starts → WordsKept file from [] work
  unfolding Begins word_of times_named keep up_to_two
  kept_start work short many begun =
      let long : length starts ≡ length work = length_starts (laid_from file from) ∙ sym many in
      record { short = short; many = long; words = λ i h. begun i (omega arith) ∙ omega arith }

  -- likewise of the front of a list, where the starts stand
  pub kept_front : (list : List ℕ) (n : ℕ) → length file ≤ 2 ^ 30 → n ≡ length (ordinary (laid_from file from)) → n ≤ length list → Begins list starts
      → WordsKept file from [] (take n list)
  unfolding Begins
  kept_front list n short many room begun =
      let long : length starts ≡ n = length_starts (laid_from file from) ∙ sym many in
      kept_start (take n list) short (length-take-le n list room ∙ many)
      (λ i h. let low : i < n = omega arith in get_or-take n list i 0 low ∙ begun i h)

  module _ (seen : List Entry) (work : List ℕ) (k : WordsKept file from seen work) where
    -- the block at an index
    pub kept_block : (i : ℕ) → i < length work → AtIndex (ordinary (laid_from file from)) i
    kept_block i h = let many = k.many in let long = length_starts (laid_from file from) in at_index (ordinary (laid_from file from)) i (omega arith)

    pub kept_small : (i : ℕ) → i < length work → get_or starts i 0 < 2 ^ 30
    unfolding starts_of
    kept_small i h =
        let b = kept_block i h in
        let within = (ordinary_laid file from b.block b.member).within in
        let short = k.short in
        let its = b.starts in
        omega arith

    pub kept_start_at : (i : ℕ) → i < length work → start_at work i ≡ get_or starts i 0
    unfolding start_at
    kept_start_at i h = ap (λ (w : ℕ). w % 2 ^ 30) (k.words i h) ∙ word_start seen (get_or starts i 0) (kept_small i h)

    pub kept_count : (i : ℕ) → i < length work → get_or work i 0 / 2 ^ 30 ≡ up_to_two (times_named seen (get_or starts i 0))
    kept_count i h = ap (λ (w : ℕ). w / 2 ^ 30) (k.words i h) ∙ word_count seen (get_or starts i 0) (kept_small i h)

    starts_rise : (p q : ℕ) → p < q → q < length work → get_or starts p 0 < get_or starts q 0
    starts_rise p q less h = let many = k.many in ascending_at starts p q (starts_ascend file from) less (omega arith)

    pub kept_rise : StartsRise work
    unfolding StartsRise
    kept_rise p q less h =
        let first = kept_start_at p (omega arith) in
        let second = kept_start_at q h in
        let rising = starts_rise p q less h in
        omega arith

    starts_apart : (i j : ℕ) → i < length work → j < length work → (j ≡ i → ⊥) → get_or starts i 0 ≡ get_or starts j 0 → ⊥
    starts_apart i j h l different equal = by (ltb i j) refl
      where
        by : (b : Bool) → ltb i j ≡ b → ⊥
        by true x = let less = ltb-true i j x in let r = starts_rise i j less l in omega arith
        by false x = let more = ltb-false i j x in let r = starts_rise j i (omega arith) h in omega arith

    -- one entry more: the word of the block it names is marked
    pub kept_mark : (e : Entry) (i : ℕ) → i < length work → get_or starts i 0 ≡ e.offset
        → (later : List ℕ) → later ≡ set work i (marked (get_or work i 0)) → WordsKept file from (seen ++ (e ∷ [])) later
    kept_mark e i h named later is =
        subst (λ (l : List ℕ). WordsKept file from (seen ++ (e ∷ [])) l) (sym is)
        (record { short = k.short; many = k.many ∙ sym long; words = λ j l. go j (omega (arith, long)) (eqb j i) refl })
      where
        long : length (set work i (marked (get_or work i 0))) ≡ length work
        long = length-set work i (marked (get_or work i 0))

        go : (j : ℕ) → j < length work → (b : Bool) → eqb j i ≡ b → get_or (set work i (marked (get_or work i 0))) j 0 ≡ word_of (seen ++ (e ∷ [])) (get_or starts j 0)
        go j l true same =
            subst (λ (m : ℕ). get_or (set work i (marked (get_or work i 0))) m 0 ≡ word_of (seen ++ (e ∷ [])) (get_or starts m 0)) (sym (eqb-true j i same))
            (get_or-set_same work i (marked (get_or work i 0)) 0 h
            ∙ ap marked (k.words i h)
            ∙ word_marked seen e (get_or starts i 0) (kept_small i h) (sym named))
        go j l false other =
            get_or-set_other work i j (marked (get_or work i 0)) 0 (eqb-false j i other)
            ∙ k.words j l
            ∙ word_unmarked seen e (get_or starts j 0) (λ same. starts_apart i j h l (eqb-false j i other) (named ∙ same))
