-- Laws of one block and of a run of blocks: what a turn of each loop adds, and the hash value of joined byte strings.
-- Assumes nothing.
use Rattle.std.proofs.Common.{◌≡◌, ℕ, zero, suc, ◌+◌, ◌-◌, ◌*◌, ◌/◌, ◌<◌, ◌≤◌, List, [], ◌∷◌, ◌++◌, length, get_or, take, drop, set, sym, refl, ap, ◌∙◌, suc-add, zero-add, add-one, arith, length-append, length-drop, length-set, length-take, take_all, drop-cons, get_or-take, drop-drop, take-suc-set}
use native.Mathlib.Nat.{div-eq_of_lt}
use lib.ListN.{get_or-append}
use lib.Seq.{take-append_seam, drop-append_seam, take-append-le, drop-append-le}
use Rattle.endian.specs.FixedWidth.{big_endian}
use Rattle.sha256_block.specs.declared.Words.{Words}
use Rattle.sha256_block.specs.Compression.{K, words_of, next_word, extended, rounds, round, compress, compress_blocks, over, add, σ₀, σ₁}

-- The words of a block

-- the word after the first t
pub words_of_more : (t : ℕ) (s : List ℕ) → words_of (t + 1) s ≡ words_of t s ++ (big_endian (take 4 (drop (4 * t) s)) ∷ [])
unfolding words_of
words_of_more zero s = refl
words_of_more (suc t) s =
    let places : 4 + 4 * t ≡ 4 * suc t = omega arith in
    let later = rw (add-one t, drop-drop (4 * t) 4 s, places) at (words_of_more t (drop 4 s)) in
    rw (add-one (suc t)) (ap (λ (l : List ℕ). big_endian (take 4 s) ∷ l) later)

-- storing it after them
pub words_of_set : (w s : List ℕ) (t x : ℕ) → t < length w → take t w ≡ words_of t s
    → x ≡ big_endian (take 4 (drop (4 * t) s)) → take (t + 1) (set w t x) ≡ words_of (t + 1) s
words_of_set w s t x h before word = rw (words_of_more, ← before, ← word, add-one) (take-suc-set w t x h)

-- The message schedule

-- the word after n more
pub extended_more : (n : ℕ) (ws : List ℕ) → extended (n + 1) ws ≡ extended n ws ++ (next_word (extended n ws) ∷ [])
unfolding extended
extended_more zero ws = refl
extended_more (suc n) ws = rw (add-one (suc n)) (rw (add-one n) at (extended_more n (ws ++ (next_word ws ∷ []))))

-- the word after the first t of an array that holds at least 16
pub next_word-take : (w : List ℕ) (t : ℕ) → 16 ≤ t → t ≤ length w
    → next_word (take t w) ≡ add (add (add (σ₁ (get_or w (t - 2) 0)) (get_or w (t - 7) 0)) (σ₀ (get_or w (t - 15) 0))) (get_or w (t - 16) 0)
unfolding next_word
next_word-take w t h k =
    let long : length (take t w) ≡ t = length-take t w ∙ (omega arith) in
    let t2 = get_or-take t w (t - 2) 0 (omega arith) in
    let t7 = get_or-take t w (t - 7) 0 (omega arith) in
    let t15 = get_or-take t w (t - 15) 0 (omega arith) in
    let t16 = get_or-take t w (t - 16) 0 (omega arith) in
    rw (long, t2, t7, t15, t16)

-- n words more are there
extended-length : (n : ℕ) (ws : List ℕ) → length (extended n ws) ≡ n + length ws
unfolding extended
extended-length zero ws = sym (zero-add (length ws))
extended-length (suc n) ws = rw (extended-length n (ws ++ (next_word ws ∷ [])), length-append) (omega arith)

-- they come after the earlier ones
extended-get_or : (n : ℕ) (ws : List ℕ) (i : ℕ) → i < length ws → get_or (extended n ws) i 0 ≡ get_or ws i 0
unfolding extended
extended-get_or zero ws i h = refl
extended-get_or (suc n) ws i h =
    let all = length-append ws (next_word ws ∷ []) in
    extended-get_or n (ws ++ (next_word ws ∷ [])) i (omega arith) ∙ get_or-append ws (next_word ws ∷ []) 0 i h

-- some more, and then the others
extended-extended : (n m : ℕ) (ws : List ℕ) → extended (n + m) ws ≡ extended m (extended n ws)
unfolding extended
extended-extended zero m ws = rw (zero-add m)
extended-extended (suc n) m ws = rw (suc-add n m) (extended-extended n m (ws ++ (next_word ws ∷ [])))

-- of the sixteen words and 48 more, the word at t is there as soon as t more are
extended_early : (ws : List ℕ) (t : ℕ) → length ws ≡ 16 → t < 48 → get_or (extended 48 ws) t 0 ≡ get_or (extended t ws) t 0
extended_early ws t long few =
    let both : t + (48 - t) ≡ 48 = omega arith in
    let early = extended-length t ws in
    ap (λ (n : ℕ). get_or (extended n ws) t 0) (sym both)
    ∙ ap (λ (l : List ℕ). get_or l t 0) (extended-extended t (48 - t) ws)
    ∙ extended-get_or (48 - t) (extended t ws) t (omega arith)

-- The steps

-- step t, and then the others
pub rounds-drop : (ks ws : List ℕ) (v : Words) (t : ℕ) → t < length ks → t < length ws
    → rounds (drop t ks) (drop t ws) v ≡ rounds (drop (t + 1) ks) (drop (t + 1) ws) (round v (get_or ks t 0) (get_or ws t 0))
unfolding rounds
rounds-drop ks ws v t h k = rw (add-one, drop-cons ks t 0, drop-cons ws t 0)

-- a step, to a position that is named otherwise
rounds_to : (ks ws : List ℕ) (v v' : Words) (t u : ℕ) → u ≡ t + 1 → t < length ks → t < length ws → v' ≡ round v (get_or ks t 0) (get_or ws t 0)
    → rounds (drop t ks) (drop t ws) v ≡ rounds (drop u ks) (drop u ws) v'
rounds_to ks ws v v' t u e h k r = rw (e, r) (rounds-drop ks ws v t h k)

-- no constant is left, or no word
pub rounds_no_constant : (ks ws : List ℕ) (v : Words) → length ks ≡ 0 → rounds ks ws v ≡ v
unfolding rounds
rounds_no_constant [] ws v h = refl
rounds_no_constant (k ∷ ks) ws v h = absurd (omega arith)

pub rounds_no_word : (ks ws : List ℕ) (v : Words) → length ws ≡ 0 → rounds ks ws v ≡ v
unfolding rounds
rounds_no_word [] ws v h = refl
rounds_no_word (k ∷ ks) [] v h = refl
rounds_no_word (k ∷ ks) (w ∷ ws) v h = absurd (omega arith)

-- The steps with the schedule

-- before step t: sixteen words of the schedule more than steps are there, and the other steps give what all of them give
pub record Mixed (ws : List ℕ) (hash : Words) (w : List ℕ) (v : Words) (t : ℕ) : Type 0 where
  pub long : length w ≡ 64
  pub words : take (t + 16) w ≡ extended t ws
  pub steps : rounds (drop t K) (drop t (extended 48 ws)) v ≡ rounds K (extended 48 ws) hash

pub Mixed_start : (ws : List ℕ) (hash : Words) (w : List ℕ) → length w ≡ 64 → take 16 w ≡ ws → Mixed ws hash w hash 0
unfolding extended
Mixed_start ws hash w long words = record { long = long; words = words; steps = refl }

-- a step and a word
Mixed_step : (ws : List ℕ) (hash : Words) (w : List ℕ) (v v' : Words) (x t u at : ℕ) → length ws ≡ 16 → t < 48 → u ≡ t + 1 → at ≡ t + 16
    → Mixed ws hash w v t → v' ≡ round v (get_or K t 0) (get_or w t 0) → (at ≤ length w → x ≡ next_word (take at w)) → Mixed ws hash (set w at x) v' u
unfolding K
Mixed_step ws hash w v v' x t u at sixteen few next place m step word =
    let full = m.long in
    let count = extended-length 48 ws in
    let early : get_or w t 0 ≡ get_or (extended 48 ws) t 0 =
    sym (get_or-take (t + 16) w t 0 (omega arith)) ∙ ap (λ (l : List ℕ). get_or l t 0) m.words ∙ sym (extended_early ws t sixteen few) in
    let one_more : t + 1 + 16 ≡ suc (t + 16) = omega arith in
    record {
      long = length-set w at x ∙ full;
      words = rw (next, place, one_more, take-suc-set w (t + 16) x (omega arith), m.words, extended_more, word (omega arith), place, m.words);
      steps =
          sym (rounds_to K (extended 48 ws) v v' t u next (omega arith) (omega arith) (step ∙ ap (round v (get_or K t 0)) early))
          ∙ m.steps;
    }

-- four of both
pub Mixed_four : (ws : List ℕ) (hash : Words) (w : List ℕ) (v v₁ v₂ v₃ v₄ : Words) (x₁ x₂ x₃ x₄ t : ℕ) → length ws ≡ 16 → t + 3 < 48 → Mixed ws hash w v t
    → v₁ ≡ round v (get_or K t 0) (get_or w t 0) → (t + 16 ≤ length w → x₁ ≡ next_word (take (t + 16) w))
    → v₂ ≡ round v₁ (get_or K (t + 1) 0) (get_or (set w (t + 16) x₁) (t + 1) 0) → (t + 17 ≤ length (set w (t + 16) x₁) → x₂ ≡ next_word (take (t + 17) (set w (t + 16) x₁)))
    → v₃ ≡ round v₂ (get_or K (t + 2) 0) (get_or (set (set w (t + 16) x₁) (t + 17) x₂) (t + 2) 0) → (t + 18 ≤ length (set (set w (t + 16) x₁) (t + 17) x₂) → x₃ ≡ next_word (take (t + 18) (set (set w (t + 16) x₁) (t + 17) x₂)))
    → v₄ ≡ round v₃ (get_or K (t + 3) 0) (get_or (set (set (set w (t + 16) x₁) (t + 17) x₂) (t + 18) x₃) (t + 3) 0) → (t + 19 ≤ length (set (set (set w (t + 16) x₁) (t + 17) x₂) (t + 18) x₃) → x₄ ≡ next_word (take (t + 19) (set (set (set w (t + 16) x₁) (t + 17) x₂) (t + 18) x₃)))
    → Mixed ws hash (set (set (set (set w (t + 16) x₁) (t + 17) x₂) (t + 18) x₃) (t + 19) x₄) v₄ (t + 4)
Mixed_four ws hash w v v₁ v₂ v₃ v₄ x₁ x₂ x₃ x₄ t sixteen few m e₁ f₁ e₂ f₂ e₃ f₃ e₄ f₄ =
    let m₁ = Mixed_step ws hash w v v₁ x₁ t (t + 1) (t + 16) sixteen (omega arith) (omega arith) (omega arith) m e₁ f₁ in
    let m₂ = Mixed_step ws hash (set w (t + 16) x₁) v₁ v₂ x₂ (t + 1) (t + 2) (t + 17) sixteen (omega arith) (omega arith) (omega arith) m₁ e₂ f₂ in
    let m₃ = Mixed_step ws hash (set (set w (t + 16) x₁) (t + 17) x₂) v₂ v₃ x₃ (t + 2) (t + 3) (t + 18) sixteen (omega arith) (omega arith) (omega arith) m₂ e₃ f₃ in
    Mixed_step ws hash (set (set (set w (t + 16) x₁) (t + 17) x₂) (t + 18) x₃) v₃ v₄ x₄ (t + 3) (t + 4) (t + 19) sixteen (omega arith) (omega arith) (omega arith) m₃ e₄ f₄

-- the last word is there
pub Mixed_last : (ws : List ℕ) (hash : Words) (w : List ℕ) (v : Words) → Mixed ws hash w v 48
    → rounds (drop 48 K) (drop 48 w) v ≡ rounds K (extended 48 ws) hash
Mixed_last ws hash w v m =
    let full = m.long in
    let all : w ≡ extended 48 ws = sym (take_all 64 w (omega arith)) ∙ m.words in
    ap (λ (l : List ℕ). rounds (drop 48 K) (drop 48 l) v) all ∙ m.steps

pub words_of_length : (n : ℕ) (s : List ℕ) → length (words_of n s) ≡ n
unfolding words_of
words_of_length zero s = refl
words_of_length (suc n) s = ap suc (words_of_length n (drop 4 s))

-- A run of blocks

-- less than a block changes nothing
pub over_short : (hash : Words) (s : List ℕ) → length s < 64 → over hash s ≡ hash
unfolding over compress_blocks
over_short hash s h = rw (div-eq_of_lt h)

-- the first block, and then the others
pub over_block : (hash : Words) (s : List ℕ) → 64 ≤ length s → over hash s ≡ over (compress hash (take 64 s)) (drop 64 s)
unfolding over compress_blocks
over_block hash s h =
    let fewer : length s / 64 ≡ suc ((length s - 64) / 64) = omega arith in
    rw (fewer, length-drop)

-- a block, and then the others
pub over_front : (hash : Words) (block s : List ℕ) → length block ≡ 64 → over hash (block ++ s) ≡ over (compress hash block) s
over_front hash block s e =
    let all = length-append block s in
    let front : take 64 (block ++ s) ≡ block = ap (λ (n : ℕ). take n (block ++ s)) (sym e) ∙ take-append_seam block s in
    let rest : drop 64 (block ++ s) ≡ s = ap (λ (n : ℕ). drop n (block ++ s)) (sym e) ∙ drop-append_seam block s in
    over_block hash (block ++ s) (omega arith) ∙ rw (front, rest) refl

-- the first n blocks of s, and then the rest of it with what follows
over_blocks : (n : ℕ) (hash : Words) (s t : List ℕ) → n * 64 ≤ length s
    → over hash (s ++ t) ≡ over (compress_blocks n hash s) (drop (n * 64) s ++ t)
unfolding compress_blocks
over_blocks zero hash s t h = refl
over_blocks (suc n) hash s t h =
    let all = length-append s t in
    let rest = length-drop 64 s in
    let places : 64 + n * 64 ≡ suc n * 64 = omega arith in
    over_block hash (s ++ t) (omega arith)
    ∙ rw (take-append-le 64 s t (omega arith), drop-append-le 64 s t (omega arith), ← places, ← drop-drop)
    (over_blocks n (compress hash (take 64 s)) (drop 64 s) t (omega arith))

-- what follows s is taken together with what is left of s after its whole blocks
pub over-append : (hash : Words) (s t : List ℕ) → over hash (s ++ t) ≡ over (over hash s) (drop (length s / 64 * 64) s ++ t)
unfolding over
over-append hash s t = over_blocks (length s / 64) hash s t (omega arith)
