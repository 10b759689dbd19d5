-- Laws of the shortest form: what is written is read back, and it is the only form that is read so.
-- Assumes nothing.
use mathlib.Core.Path.{◌≡◌, refl, sym, ◌∙◌}
use mathlib.Core.Bool.{Bool, true, false, ◌&&◌, cond, false≢true}
use mathlib.Core.List.{List, [], ◌∷◌, ◌++◌}
use Prim.Native.Nat.{ℕ, zero, suc, ◌+◌, ◌*◌, ◌/◌, ◌%◌, ◌^◌, ◌≤◌, ◌<◌, max}
use native.Mathlib.Nat.{pow-zero, pow-succ', one-le-pow}
use native.Mathlib.Numerals.{add-one}
use native.Mathlib.Omega.{arith}
use lib.Pow.{pow-add, pow_mono}
use lib.Dec.{ltb, eqb}
use lib.ListN.{length, take, get_or, length-append}
use lib.Seq.{take-append_seam}
use borrow.Author.Tests.{lt-ltb, le-ltb, ltb-true, ltb-false}
use Rattle.byte_string.specs.Order.{AreBytes}
use Rattle.uleb128.specs.Number.{number, reading, continuing, sevens}
use Rattle.uleb128.specs.Encoding.{encoding_with, encoding}
use Rattle.uleb128.proofs.NumberLaws.{continuing_low, continuing_high, reading_number, shortest, IsNumber, reading⇒IsNumber}

-- ---- the two cases

pub encoding_with_low : (more n : ℕ) → n < 128 → encoding_with more n ≡ n ∷ []
unfolding encoding_with
encoding_with_low zero n h = refl
encoding_with_low (suc more) n h = rw (lt-ltb n 128 h)

pub encoding_with_high : (more n : ℕ) → 128 ≤ n → encoding_with (suc more) n ≡ (128 + n % 128) ∷ encoding_with more (n / 128)
unfolding encoding_with
encoding_with_high more n h = rw (le-ltb n 128 h)

one_byte : (n : ℕ) → encoding_with zero n ≡ n ∷ []
unfolding encoding_with
one_byte n = refl

-- a number with k + 1 digits of seven bits has k of them after the first
pub digits : (k n : ℕ) → n < 128 ^ suc k → n / 128 < 128 ^ k
digits k n h = let split = pow-succ' 128 k in omega arith

-- induction over the bytes of a number: a single byte below 80 hex, or a byte from 80 hex up and the rest
module _ (P : ℕ → ℕ → Type 0) (low : (more n : ℕ) → n < 128 → P more n)
    (high : (more n : ℕ) → 128 ≤ n → n / 128 < 128 ^ suc more → P more (n / 128) → P (suc more) n) where
  by_digits : (more n : ℕ) → n < 128 ^ suc more → P more n
  by_digits zero n h = low zero n (let one = pow-succ' 128 0 in let none = pow-zero 128 in omega arith)
  by_digits (suc more) n h = go (ltb n 128) refl (λ (l : 128 ≤ n). by_digits more (n / 128) (digits (suc more) n h))
    where
      go : (b : Bool) → ltb n 128 ≡ b → (128 ≤ n → P more (n / 128)) → P (suc more) n
      go true e ih = low (suc more) n (ltb-true n 128 e)
      go false e ih = high more n (ltb-false n 128 e) (digits (suc more) n h) (ih (ltb-false n 128 e))

-- ---- reading what is written

-- the bytes of a number: the last is the first below 80 hex, the value is the number, and a last byte 00 stands alone
record ReadsBack (more n : ℕ) : Type 0 where
  ends : (t : List ℕ) → continuing (encoding_with more n ++ t) + 1 ≡ length (encoding_with more n)
  value : sevens (encoding_with more n) ≡ n
  last : 0 < n → (t : List ℕ) → get_or (encoding_with more n ++ t) (continuing (encoding_with more n ++ t)) 0 ≡ 0 → ⊥

reads_back : (more n : ℕ) → n < 128 ^ suc more → ReadsBack more n
unfolding sevens
reads_back = by_digits ReadsBack
    (λ more n l. record {
      ends = λ t. rw (encoding_with_low more n l, continuing_low n t l);
      value = rw (encoding_with_low more n l) (omega arith);
      last = λ p t. rw (encoding_with_low more n l, continuing_low n t l) (λ z. omega arith);
    })
    (λ more n l h ih. record {
      ends = λ t. rw (encoding_with_high more n l, continuing_high (128 + n % 128) (encoding_with more (n / 128) ++ t) (omega arith))
          (let e = ih.ends t in omega arith);
      value = rw (encoding_with_high more n l, ih.value) (omega arith);
      last = λ p t. rw (encoding_with_high more n l, continuing_high (128 + n % 128) (encoding_with more (n / 128) ++ t) (omega arith))
          (ih.last (omega arith) t);
    })

-- a number takes at least a byte, and at most as many as its digits
pub encoding_with_some : (more n : ℕ) → 0 < length (encoding_with more n)
unfolding encoding_with
encoding_with_some zero n = omega arith
encoding_with_some (suc more) n = go (ltb n 128)
  where
    go : (b : Bool) → 0 < length (cond b (n ∷ []) ((128 + n % 128) ∷ encoding_with more (n / 128)))
    go true = omega arith
    go false = omega arith

pub encoding_some : (n : ℕ) → 0 < length (encoding n)
unfolding encoding
encoding_some n = encoding_with_some 9 n

encoding_with-length : (k more n : ℕ) → n < 128 ^ suc k → length (encoding_with more n) ≤ suc k
encoding_with-length k zero n h = rw (one_byte n) (omega arith)
encoding_with-length zero (suc more) n h =
    rw (encoding_with_low (suc more) n (let one = pow-succ' 128 0 in let none = pow-zero 128 in omega arith)) (omega arith)
encoding_with-length (suc k) (suc more) n h =
    go (ltb n 128) refl (encoding_with-length k more (n / 128) (digits (suc k) n h))
  where
    go : (b : Bool) → ltb n 128 ≡ b → length (encoding_with more (n / 128)) ≤ suc k → length (encoding_with (suc more) n) ≤ suc (suc k)
    go true e ih = rw (encoding_with_low (suc more) n (ltb-true n 128 e)) (omega arith)
    go false e ih = rw (encoding_with_high more n (ltb-false n 128 e)) (omega arith)

pub encoding-length : (k n : ℕ) → n < 128 ^ suc k → length (encoding n) ≤ suc k
unfolding encoding
encoding-length k n h = encoding_with-length k 9 n h

-- a larger number takes no fewer bytes
encoding_with_grows : (more m n : ℕ) → m ≤ n → length (encoding_with more m) ≤ length (encoding_with more n)
encoding_with_grows zero m n h = rw (one_byte m, one_byte n) (omega arith)
encoding_with_grows (suc more) m n h = go (ltb m 128) refl (encoding_with_grows more (m / 128) (n / 128) (omega arith))
  where
    go : (b : Bool) → ltb m 128 ≡ b → length (encoding_with more (m / 128)) ≤ length (encoding_with more (n / 128))
        → length (encoding_with (suc more) m) ≤ length (encoding_with (suc more) n)
    go true e ih = rw (encoding_with_low (suc more) m (ltb-true m 128 e)) (encoding_with_some (suc more) n)
    go false e ih =
        let l = ltb-false m 128 e in
        rw (encoding_with_high more m l, encoding_with_high more n (omega arith)) (omega arith)

pub encoding_grows : (m n : ℕ) → m ≤ n → length (encoding m) ≤ length (encoding n)
unfolding encoding
encoding_grows m n h = encoding_with_grows 9 m n h

-- what is written is read back, whatever follows
pub encoding_reads : (n : ℕ) (t : List ℕ) → n < 2 ^ 63 → reading (encoding n ++ t) ≡ number n (length (encoding n))
unfolding encoding
encoding_reads n t h = read (reads_back 9 n (omega arith)) (encoding-length 8 n (omega arith))
  where
    bytes : List ℕ
    bytes = encoding_with 9 n

    read : ReadsBack 9 n → length bytes ≤ 9 → reading (bytes ++ t) ≡ number n (length bytes)
    read w few =
        let ends = w.ends t in
        rw (
          reading_number (bytes ++ t) (continuing (bytes ++ t)) (omega arith) (rw (length-append bytes t) (omega arith)) (shortest _ _ (last (ltb 0 n) refl)) refl,
          ends,
          take-append_seam bytes t,
          w.value,
        )
      where
        last : (b : Bool) → ltb 0 n ≡ b → 0 < continuing (bytes ++ t) → get_or (bytes ++ t) (continuing (bytes ++ t)) 0 ≡ 0 → ⊥
        last true e more ended = w.last (ltb-true 0 n e) t ended
        last false e more ended =
            let ends = w.ends t in let one = encoding_with-length 0 9 n (let none = ltb-false 0 n e in omega arith) in omega arith

-- ---- the only shortest form

-- a number whose last byte isn't 00 is at least 1
sevens_some : (s : List ℕ) → continuing s < length s → (get_or s (continuing s) 0 ≡ 0 → ⊥) → 0 < sevens (take (suc (continuing s)) s)
unfolding sevens
sevens_some [] h last = absurd (omega arith)
sevens_some (b ∷ s) h last = go (ltb b 128) refl (sevens_some s)
  where
    go : (c : Bool) → ltb b 128 ≡ c → (continuing s < length s → (get_or s (continuing s) 0 ≡ 0 → ⊥) → 0 < sevens (take (suc (continuing s)) s))
        → 0 < sevens (take (suc (continuing (b ∷ s))) (b ∷ s))
    go true e ih =
        let low = ltb-true b 128 e in
        let some : b ≡ 0 → ⊥ = λ z. last (rw (continuing_low b s low) z) in
        rw (continuing_low b s low) (positive b low some)
      where
        positive : (b : ℕ) → b < 128 → (b ≡ 0 → ⊥) → 0 < b % 128 + 128 * 0
        positive zero l n = absurd (n refl)
        positive (suc b) l n = omega arith
    go false e ih =
        let high = continuing_high b s (ltb-false b 128 e) in
        let rest = ih (let l : continuing (b ∷ s) < length (b ∷ s) = h in omega arith) (λ z. last (rw high z)) in
        rw high (omega arith)

encoding_with_unique : (more : ℕ) (s : List ℕ) → AreBytes s → continuing s ≤ more → continuing s < length s
    → (0 < continuing s → get_or s (continuing s) 0 ≡ 0 → ⊥) → encoding_with more (sevens (take (suc (continuing s)) s)) ≡ take (suc (continuing s)) s
unfolding sevens AreBytes
encoding_with_unique more [] bytes few within last = absurd (omega arith)
encoding_with_unique more (b ∷ s) bytes few within last = go more (ltb b 128) refl few (λ (m : ℕ). encoding_with_unique m s bytes.1)
  where
    go : (more : ℕ) (c : Bool) → ltb b 128 ≡ c → continuing (b ∷ s) ≤ more
        → ((m : ℕ) → continuing s ≤ m → continuing s < length s → (0 < continuing s → get_or s (continuing s) 0 ≡ 0 → ⊥)
        → encoding_with m (sevens (take (suc (continuing s)) s)) ≡ take (suc (continuing s)) s)
        → encoding_with more (sevens (take (suc (continuing (b ∷ s))) (b ∷ s))) ≡ take (suc (continuing (b ∷ s))) (b ∷ s)
    go more true e few ih =
        let low = ltb-true b 128 e in
        rw (continuing_low b s low, one b low) (encoding_with_low more b low)
      where
        one : (b : ℕ) → b < 128 → b % 128 + 128 * 0 ≡ b
        one b l = omega arith
    go zero false e few ih = absurd (let high = continuing_high b s (ltb-false b 128 e) in omega arith)
    go (suc m) false e few ih =
        let high = continuing_high b s (ltb-false b 128 e) in
        let w : continuing s < length s = within_rest high in
        let l : get_or s (continuing s) 0 ≡ 0 → ⊥ = λ z. last (rw high (omega arith)) (rw high z) in
        rw high
        (longer (sevens (take (suc (continuing s)) s)) (sevens_some s w l) (ih m (omega arith) w (λ p. l)))
      where
        within_rest : continuing (b ∷ s) ≡ suc (continuing s) → continuing s < length s
        within_rest high = let l : continuing (b ∷ s) < suc (length s) = within in omega arith

        longer : (v : ℕ) → 0 < v → encoding_with m v ≡ take (suc (continuing s)) s → encoding_with (suc m) (b % 128 + 128 * v) ≡ b ∷ take (suc (continuing s)) s
        longer v p ih =
            let byte : b < 256 = bytes.0 in
            let up = ltb-false b 128 e in
            rw (encoding_with_high m (b % 128 + 128 * v) (omega arith), first byte up, rest, ih)
          where
            first : b < 256 → 128 ≤ b → 128 + (b % 128 + 128 * v) % 128 ≡ b
            first byte up = omega arith

            rest : (b % 128 + 128 * v) / 128 ≡ v
            rest = omega arith

-- bytes that are read as a number are that number's shortest form
pub reading⇒encoding : (s : List ℕ) (v u : ℕ) → AreBytes s → reading s ≡ number v u → take u s ≡ encoding v
unfolding encoding
reading⇒encoding s v u bytes h = known (reading⇒IsNumber s v u h)
  where
    known : IsNumber s v u → take u s ≡ encoding_with 9 v
    known n =
        rw (n.used, n.value, add-one (continuing s))
        (sym (encoding_with_unique 9 s bytes (let few = n.few in omega arith) n.within (λ p z. last p z n.shortest)))
      where
        last : 0 < continuing s → get_or s (continuing s) 0 ≡ 0 → (ltb 0 (continuing s) && eqb (get_or s (continuing s) 0) 0) ≡ false → ⊥
        last p z e = false≢true (sym e ∙ rw (lt-ltb 0 (continuing s) p, z))

-- the bytes of a 64-bit number are bytes
pub encoding_bytes : (n : ℕ) → n < 2 ^ 64 → AreBytes (encoding n)
unfolding encoding AreBytes
encoding_bytes n h = by_digits (λ more n. AreBytes (encoding_with more n))
    (λ more n l. rw (encoding_with_low more n l) (omega arith, tt))
    (λ more n l h ih. rw (encoding_with_high more n l) (omega arith, ih))
    9 n (omega arith)

-- ---- how many bytes a number takes

-- a power of 128 as one of 2
sevens_of_bits : (k : ℕ) → 128 ^ k ≡ 2 ^ (7 * k)
sevens_of_bits zero = pow-zero 128
sevens_of_bits (suc k) =
    let more : 7 * suc k ≡ 7 + 7 * k = omega arith in
    rw (pow-succ' 128 k, more, pow-add 2 7 (7 * k), sevens_of_bits k)

-- a byte for each seven bits
encoding_with_sized : (k more n : ℕ) → k ≤ more → (0 < k → 128 ^ k ≤ n) → n < 128 ^ suc k → length (encoding_with more n) ≡ suc k
encoding_with_sized zero more n few low high =
    rw (encoding_with_low more n (let one = pow-succ' 128 0 in let none = pow-zero 128 in omega arith))
encoding_with_sized (suc k) zero n few low high = absurd (omega arith)
encoding_with_sized (suc k) (suc more) n few low high =
    let some : 128 ^ suc k ≤ n = low (omega arith) in
    let split = pow-succ' 128 k in
    let one = one-le-pow k 128 (omega arith) in
    rw (encoding_with_high more n (omega arith), encoding_with_sized k more (n / 128) (omega arith) (λ p. omega arith) (digits (suc k) n high))

-- where the highest bit is known, and 0 counts as 1
pub encoding_sized : (n top : ℕ) → 2 ^ top ≤ max n 1 → max n 1 < 2 * 2 ^ top → top < 64 → top / 7 + 1 ≡ length (encoding n)
unfolding encoding
encoding_sized n top low high few =
    let k = top / 7 in
    let below : 128 ^ k ≤ 2 ^ top = rw (sevens_of_bits k) (pow_mono (omega arith)) in
    let above : 2 ^ suc top ≤ 128 ^ suc k = rw (sevens_of_bits (suc k)) (pow_mono (omega arith)) in
    let doubled = pow-succ' 2 top in
    sym (encoding_with_sized k 9 n (omega arith) (λ p. let big : 2 ^ 7 ≤ 2 ^ top = pow_mono {i = 7} {j = top} (omega arith) in omega arith) (omega arith) ∙ sym (add-one k))
