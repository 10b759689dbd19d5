-- What std's methods say of the bytes of a number, and what the definitions here say, is one: at any width, in either order of the bytes.
-- Assumes nothing.
use Rattle.std.proofs.Common.{◌≡◌, ℕ, zero, suc, ◌+◌, ◌-◌, ◌*◌, ◌/◌, ◌%◌, ◌^◌, ◌≤◌, List, [], ◌∷◌, ◌++◌, length, take, get_or, replicate, refl, sym, ap, ◌∙◌, arith, add-one, one-add, append-nil, take_all}
use Rattle.std.proofs.Math.Nat.{div-div-eq-div-mul, div-one, pow-suc}
use Rattle.std.proofs.lemmas.List.{drop-replicate, take-replicate, drop_all, length-replicate, length-append}
use Rattle.std.specs.Int.{byte_at, byte_worth, bytes_low_first, bytes_high_first, sum_through}
use borrow.Rule.Slice.PartMut.{put_mid}
use Rattle.endian.specs.FixedWidth.{little_endian, big_endian, little_bytes, big_bytes}
use Rattle.endian.proofs.FixedWidthLaws.{little_endian-append, big_endian-append, big_endian-take_more, big_bytes-add}

-- The bytes of a number

byte_at-pow : (i x : ℕ) → byte_at i x ≡ x / 256 ^ i % 256
byte_at-pow zero x = ap (λ (y : ℕ). y % 256) (sym (div-one x))
byte_at-pow (suc i) x = refl

low_first_from : (i n x : ℕ) → bytes_low_first i n x ≡ little_bytes n (x / 256 ^ i)
unfolding little_bytes
low_first_from i zero x = refl
low_first_from i (suc n) x =
    let up : x / 256 ^ suc i ≡ x / 256 ^ i / 256 = ap (λ (p : ℕ). x / p) (pow-suc 256 i) ∙ sym (div-div-eq-div-mul x (256 ^ i) 256) in
    rw (byte_at-pow i x, low_first_from (suc i) n x, up)

-- `to_le_bytes`
pub bytes_low_first-little : (n x : ℕ) → bytes_low_first 0 n x ≡ little_bytes n x
bytes_low_first-little n x = low_first_from 0 n x ∙ ap (little_bytes n) (div-one x)

-- `to_be_bytes`
pub bytes_high_first-big : (n x : ℕ) → bytes_high_first n x ≡ big_bytes n x
unfolding big_bytes little_bytes
bytes_high_first-big zero x = refl
bytes_high_first-big (suc n) x =
    rw (byte_at-pow n x, bytes_high_first-big n x) (sym (big_bytes-add 1 n x) ∙ ap (λ (k : ℕ). big_bytes k x) (one-add n))

-- The number of some bytes

byte_worth-pow : (i b : ℕ) → byte_worth i b ≡ b * 256 ^ i
byte_worth-pow zero b = omega arith
byte_worth-pow (suc i) b = refl

little_endian-take_more : (n : ℕ) (l : List ℕ) → little_endian (take (suc n) l) ≡ little_endian (take n l) + get_or l n 0 * 256 ^ n
unfolding little_endian
little_endian-take_more zero [] = refl
little_endian-take_more zero (b ∷ bs) = omega arith
little_endian-take_more (suc n) [] = omega arith
little_endian-take_more (suc n) (b ∷ bs) = rw (little_endian-take_more n bs, pow-suc) (omega arith)

-- `from_le_bytes`
pub sum_through-little : (n : ℕ) (l : List ℕ) → sum_through (λ i. byte_worth i (get_or l i 0)) n ≡ little_endian (take (suc n) l)
unfolding little_endian
sum_through-little zero l = sym (little_endian-take_more 0 l ∙ omega arith)
sum_through-little (suc n) l = rw (sum_through-little n l) (sym (little_endian-take_more (suc n) l))

-- `from_be_bytes`, with m bytes after the first
big_through : (m n : ℕ) (l : List ℕ) → n ≤ m → suc m ≤ length l
    → sum_through (λ i. byte_worth (m - i) (get_or l i 0)) n ≡ big_endian (take (suc n) l) * 256 ^ (m - n)
unfolding big_endian little_endian
big_through m zero l h k =
    let all : m - 0 ≡ m = omega arith in
    let first : big_endian (take 1 l) ≡ get_or l 0 0 = big_endian-take_more l 0 (omega arith) ∙ omega arith in
    rw (all, byte_worth-pow m (get_or l 0 0), first)
big_through m (suc n) l h k =
    let left : m - n ≡ suc (m - suc n) = omega arith in
    let more = ap (λ (j : ℕ). big_endian (take j l)) (sym (add-one (suc n))) ∙ big_endian-take_more l (suc n) (omega arith) in
    rw (big_through m n l (omega arith) k, byte_worth-pow (m - suc n) (get_or l (suc n) 0), more, left, pow-suc) (omega arith)

pub sum_through-big : (m : ℕ) (l : List ℕ) → length l ≡ suc m → sum_through (λ i. byte_worth (m - i) (get_or l i 0)) m ≡ big_endian l
sum_through-big m l e =
    let none : m - m ≡ 0 = omega arith in
    rw (big_through m m l (omega arith) (omega arith), none, take_all (suc m) l (omega arith)) (omega arith)

-- Fewer bytes than the width, with zeros to it

little_endian-zeros : (n : ℕ) → little_endian (replicate n 0) ≡ 0
unfolding little_endian
little_endian-zeros zero = refl
little_endian-zeros (suc n) = rw (little_endian-zeros n)

big_endian-zeros : (n : ℕ) → big_endian (replicate n 0) ≡ 0
unfolding big_endian little_endian
big_endian-zeros zero = refl
big_endian-zeros (suc n) = big_endian-append (0 ∷ []) (replicate n 0) ∙ rw (big_endian-zeros n) (omega arith)

-- at the front of an array of zeros
pub little_front : (m : ℕ) (ys : List ℕ) (n : ℕ) → length ys ≡ n → n ≤ suc m
    → sum_through (λ i. byte_worth i (get_or (put_mid 0 n (replicate (suc m) 0) ys) i 0)) m ≡ little_endian ys
little_front m ys n e h =
    let rest : ℕ = suc m - n in
    let shape : put_mid 0 n (replicate (suc m) 0) ys ≡ ys ++ replicate rest 0 = rw (drop-replicate {X = ℕ} n (suc m) 0) refl in
    let long : length (ys ++ replicate rest 0) ≡ suc m = length-append ys (replicate rest 0) ∙ omega (arith, length-replicate {A = ℕ} rest 0) in
    sum_through-little m (put_mid 0 n (replicate (suc m) 0) ys)
    ∙ ap (λ (l : List ℕ). little_endian (take (suc m) l)) shape
    ∙ ap little_endian (take_all (suc m) (ys ++ replicate rest 0) (omega arith))
    ∙ little_endian-append ys (replicate rest 0) ∙ rw (little_endian-zeros rest) (omega arith)

-- at the end of one
pub big_back : (m : ℕ) (ys : List ℕ) (n : ℕ) → length ys ≡ n → n ≤ suc m
    → sum_through (λ i. byte_worth (m - i) (get_or (put_mid (suc m - n) (suc m - (suc m - n)) (replicate (suc m) 0) ys) i 0)) m ≡ big_endian ys
big_back m ys n e h =
    let k : ℕ = suc m - n in
    let shape : put_mid k (suc m - k) (replicate (suc m) 0) ys ≡ replicate k 0 ++ ys =
    rw (take-replicate {X = ℕ} k (suc m) 0 (omega arith), drop-replicate {X = ℕ} k (suc m) 0, drop_all {X = ℕ} (suc m - k) (replicate (suc m - k) 0) (omega (arith, length-replicate {A = ℕ} (suc m - k) 0)), append-nil) refl in
    let long : length (replicate k 0 ++ ys) ≡ suc m = length-append (replicate k 0) ys ∙ omega (arith, length-replicate {A = ℕ} k 0) in
    ap (λ (l : List ℕ). sum_through (λ i. byte_worth (m - i) (get_or l i 0)) m) shape
    ∙ sum_through-big m (replicate k 0 ++ ys) long
    ∙ big_endian-append (replicate k 0) ys ∙ rw (big_endian-zeros k) (omega arith)
