-- Laws of numbers: where a number ends, its value, and that it depends only on its own bytes.
-- Assumes nothing.
use mathlib.Core.Path.{◌≡◌, refl, sym, ap, ◌∙◌}
use mathlib.Core.Bool.{Bool, true, false, ◌&&◌, cond}
use mathlib.Core.List.{List, [], ◌∷◌, ◌++◌}
use Prim.Native.Nat.{ℕ, zero, suc, ◌+◌, ◌*◌, ◌%◌, ◌^◌, ◌≤◌, ◌<◌}
use native.Mathlib.Nat.{pow-zero, pow-succ', pow-le-pow_right, mul-add, mul_comm, mul_assoc}
use native.Mathlib.Numerals.{add-one}
use native.Mathlib.Omega.{arith}
use lib.Dec.{leb, ltb, eqb}
use lib.ListN.{length, take, drop, get_or, drop_of_length-le, length-take}
use lib.Seq.{drop-cons, take-suc, get_or-take, length-take-le}
use borrow.Author.Tests.{le-leb, lt-leb, lt-ltb, leb-false}
use Rattle.std.proofs.lemmas.Grind.{common_steps}
use Rattle.uleb128.specs.Number.{Reading, number, cut_off, refused, reading, continuing, sevens}

-- ---- how far the bytes from 80 hex up go

pub passed_none : (s : List ℕ) → continuing s ≡ 0 + continuing (drop 0 s)
passed_none s = omega arith

pub continuing_low : (b : ℕ) (s : List ℕ) → b < 128 → continuing (b ∷ s) ≡ 0
unfolding continuing
continuing_low b s h = rw (lt-leb 128 b h)

pub continuing_high : (b : ℕ) (s : List ℕ) → 128 ≤ b → continuing (b ∷ s) ≡ suc (continuing s)
unfolding continuing
continuing_high b s h = rw (le-leb 128 b h)

pub passed_more : (s : List ℕ) (n : ℕ) → n < length s → 128 ≤ get_or s n 0 → continuing s ≡ n + continuing (drop n s)
    → continuing s ≡ n + 1 + continuing (drop (n + 1) s)
passed_more s n h high p =
    let here : continuing (drop n s) ≡ suc (continuing (drop (suc n) s)) = rw (drop-cons s n 0) (continuing_high _ _ high) in
    rw (add-one n) (omega arith)

pub passed_ends : (s : List ℕ) (n : ℕ) → n < length s → get_or s n 0 < 128 → continuing s ≡ n + continuing (drop n s) → continuing s ≡ n
passed_ends s n h low p =
    let here : continuing (drop n s) ≡ 0 = rw (drop-cons s n 0) (continuing_low _ _ low) in
    omega arith

pub passed_all : (s : List ℕ) (n : ℕ) → length s ≤ n → continuing s ≡ n + continuing (drop n s) → continuing s ≡ n
unfolding continuing
passed_all s n h p = let here : continuing (drop n s) ≡ 0 = rw (drop_of_length-le s h) in omega arith

-- ---- the value

pub sevens_snoc : (s : List ℕ) (b : ℕ) → sevens (s ++ (b ∷ [])) ≡ sevens s + b % 128 * 128 ^ length s
unfolding sevens
sevens_snoc [] b = rw (pow-zero 128) (omega arith)
sevens_snoc (a ∷ s) b =
    rw (sevens_snoc s b, pow-succ' 128 (length s), mul-add 128 (sevens s) (b % 128 * 128 ^ length s))
    (omega (arith, digit (b % 128) (128 ^ length s)))
  where
    digit : (d p : ℕ) → 128 * (d * p) ≡ d * (128 * p)
    digit d p = sym (mul_assoc 128 d p) ∙ ap (λ (k : ℕ). k * p) (mul_comm 128 d) ∙ mul_assoc d 128 p

-- one byte more
pub sevens_more : (s : List ℕ) (n : ℕ) → n < length s → sevens (take (n + 1) s) ≡ sevens (take n s) + get_or s n 0 % 128 * 128 ^ n
sevens_more s n h =
    rw (add-one n, take-suc s n 0 h, sevens_snoc (take n s) (get_or s n 0), length-take-le n s (le_of h))
  where
    le_of : n < length s → n ≤ length s
    le_of l = omega arith

pub sevens_lt : (s : List ℕ) → sevens s < 128 ^ length s
unfolding sevens
sevens_lt [] = rw (pow-zero 128) (omega arith)
sevens_lt (b ∷ s) = let ih = sevens_lt s in rw (pow-succ' 128 (length s)) (omega arith)

-- ---- the four answers, from what is known at a byte

pub reading_wide : (s : List ℕ) (n : ℕ) → 9 ≤ n → continuing s ≡ n → reading s ≡ refused 11
unfolding reading
reading_wide s n h e = rw (e, le-leb 9 n h)

pub reading-cut : (s : List ℕ) (n : ℕ) → n < 9 → length s ≤ n → continuing s ≡ n → reading s ≡ cut_off
unfolding reading
reading-cut s n few h e = rw (e, lt-leb 9 n few, le-leb (length s) n h)

pub reading_long : (s : List ℕ) (n : ℕ) → n < 9 → n < length s → 0 < n → get_or s n 0 ≡ 0 → continuing s ≡ n → reading s ≡ refused 12
unfolding reading
reading_long s n few h more zero-last e =
    rw (e, lt-leb 9 n few, lt-leb (length s) n h, lt-ltb 0 n more, zero-last)

-- a number is shortest unless it has another byte before a last byte 00
pub shortest : (s : List ℕ) (n : ℕ) → (0 < n → get_or s n 0 ≡ 0 → ⊥) → (ltb 0 n && eqb (get_or s n 0) 0) ≡ false
shortest s n h = grind (arith, common_steps)

pub reading_number : (s : List ℕ) (n : ℕ) → n < 9 → n < length s → (ltb 0 n && eqb (get_or s n 0) 0) ≡ false → continuing s ≡ n
    → reading s ≡ number (sevens (take (n + 1) s)) (n + 1)
unfolding reading
reading_number s n few h shortest e = rw (e, lt-leb 9 n few, lt-leb (length s) n h, shortest)

-- a first byte below 80 hex is the number
pub reading-first : (s : List ℕ) → 0 < length s → get_or s 0 0 < 128 → reading s ≡ number (get_or s 0 0) 1
unfolding sevens
reading-first s h low =
    let value : sevens (take 1 s) ≡ get_or s 0 0 = sevens_more s 0 h ∙ sum (get_or s 0 0) low in
    reading_number s 0 (omega arith) h (shortest s 0 (λ more zero. omega arith)) (passed_ends s 0 h low (passed_none s)) ∙ ap (λ (v : ℕ). number v 1) value
  where
    sum : (b : ℕ) → b < 128 → 0 + b % 128 * 1 ≡ b
    sum b l = omega arith

-- ---- what a number that was read says

-- the number at the front of s has the value v and takes u bytes
pub record IsNumber (s : List ℕ) (v u : ℕ) : Type 0 where
  pub few : continuing s < 9
  pub within : continuing s < length s
  pub shortest : (ltb 0 (continuing s) && eqb (get_or s (continuing s) 0) 0) ≡ false
  pub used : u ≡ continuing s + 1
  pub value : v ≡ sevens (take (continuing s + 1) s)

pub reading⇒IsNumber : (s : List ℕ) (v u : ℕ) → reading s ≡ number v u → IsNumber s v u
unfolding reading
reading⇒IsNumber s v u h = wide (leb 9 (continuing s)) refl h
  where
    n : ℕ
    n = continuing s

    rest : Reading
    rest = number (sevens (take (n + 1) s)) (n + 1)

    long : (c : Bool) → leb 9 n ≡ false → leb (length s) n ≡ false → (ltb 0 n && eqb (get_or s n 0) 0) ≡ c → cond c (refused 12) rest ≡ number v u
        → IsNumber s v u
    long true p q r e = absurd (let z : ◌≡◌ {A = ℕ} 0 1 = cc in omega arith)
    long false p q r e =
        record {
          few = leb-false 9 n p;
          within = leb-false (length s) n q;
          shortest = r;
          used = cc;
          value = cc;
        }

    cut : (c : Bool) → leb 9 n ≡ false → leb (length s) n ≡ c → cond c cut_off (cond (ltb 0 n && eqb (get_or s n 0) 0) (refused 12) rest) ≡ number v u
        → IsNumber s v u
    cut true p q e = absurd (let z : ◌≡◌ {A = ℕ} 0 1 = cc in omega arith)
    cut false p q e = long (ltb 0 n && eqb (get_or s n 0) 0) p q refl e

    wide : (c : Bool) → leb 9 n ≡ c
        → cond c (refused 11) (cond (leb (length s) n) cut_off (cond (ltb 0 n && eqb (get_or s n 0) 0) (refused 12) rest)) ≡ number v u → IsNumber s v u
    wide true p e = absurd (let z : ◌≡◌ {A = ℕ} 0 1 = cc in omega arith)
    wide false p e = cut (leb (length s) n) p refl e

-- a number takes at least one byte and at most nine, all within the part
pub number_used : (s : List ℕ) (v u : ℕ) → reading s ≡ number v u → (0 < u) × (u ≤ 9) × (u ≤ length s)
number_used s v u h = let r = reading⇒IsNumber s v u h in (omega (arith, r), omega (arith, r), omega (arith, r))

-- a value is below 2 ^ 63
pub number_lt : (s : List ℕ) (v u : ℕ) → reading s ≡ number v u → v < 2 ^ 63
number_lt s v u h =
    let r = reading⇒IsNumber s v u h in
    let n = continuing s in
    let bound = sevens_lt (take (n + 1) s) in
    let len : length (take (n + 1) s) ≡ n + 1 = length-take-le (n + 1) s (omega (arith, r)) in
    let top : 128 ^ (n + 1) ≤ 128 ^ 9 = pow-le-pow_right {n = 128} (omega arith) {i = n + 1} {j = 9} (omega (arith, r)) in
    let below : sevens (take (n + 1) s) < 128 ^ (n + 1) = rw len at bound in
    omega (arith, r.value)

-- ---- a number depends only on the bytes that it takes

cond_zero : (c : Bool) (x : ℕ) → cond c (suc x) 0 ≡ 0 → c ≡ false
cond_zero true x e = absurd (omega arith)
cond_zero false x e = refl

cond_suc : (c : Bool) (x n : ℕ) → cond c (suc x) 0 ≡ suc n → (c ≡ true) × (x ≡ n)
cond_suc true x n e = (refl, omega arith)
cond_suc false x n e = absurd (omega arith)

continuing-same : (n : ℕ) (s t : List ℕ) → n < length s → continuing s ≡ n → take (suc n) t ≡ take (suc n) s → continuing t ≡ n
unfolding continuing
continuing-same n [] t h e same = absurd (omega arith)
continuing-same n (a ∷ s) [] h e same = absurd (let z : ◌≡◌ {A = ℕ} 0 1 = cc in omega arith)
continuing-same zero (a ∷ s) (b ∷ t) h e same =
    let b≡a : b ≡ a = cc in
    rw (b≡a, cond_zero (leb 128 a) (continuing s) e)
continuing-same (suc n) (a ∷ s) (b ∷ t) h e same =
    let b≡a : b ≡ a = cc in
    let tails : take (suc n) t ≡ take (suc n) s = cc in
    let high = cond_suc (leb 128 a) (continuing s) n e in
    let ih = continuing-same n s t (omega arith) high.1 tails in
    rw (b≡a, high.0, ih)

-- the bytes that a number takes decide it
pub number_local : (s t : List ℕ) (v u : ℕ) → reading s ≡ number v u → take u t ≡ take u s → reading t ≡ number v u
number_local s t v u h same = go (reading⇒IsNumber s v u h)
  where
    n : ℕ
    n = continuing s

    go : IsNumber s v u → reading t ≡ number v u
    go r =
        let front : take (n + 1) t ≡ take (n + 1) s = rw r.used at same in
        let front' : take (suc n) t ≡ take (suc n) s = rw (add-one n) at front in
        let e : continuing t ≡ n = continuing-same n s t r.within refl front' in
        let lengths : length (take (n + 1) t) ≡ length (take (n + 1) s) = ap length front in
        let long : length (take (n + 1) s) ≡ n + 1 = length-take-le (n + 1) s (omega (arith, r)) in
        let within : n < length t = omega (arith, length-take (n + 1) t) in
        let last : get_or t n 0 ≡ get_or s n 0 =
        sym (get_or-take (n + 1) t n 0 (omega arith)) ∙ ap (λ (l : List ℕ). get_or l n 0) front ∙ get_or-take (n + 1) s n 0 (omega arith) in
        let shortest : (ltb 0 n && eqb (get_or t n 0) 0) ≡ false = rw last r.shortest in
        let answer = reading_number t n r.few within shortest e in
        answer ∙ ap (λ (l : List ℕ). number (sevens l) (n + 1)) front ∙ cc (r.used, r.value)
