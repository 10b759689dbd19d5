-- The register in eight lanes: words put in ahead of the steps, and the registers of the lanes joined.
-- Assumes nothing.
use mathlib.Core.Path.{◌≡◌, refl, sym, ap, ap₂, ◌∙◌}
use mathlib.Core.List.{List, [], ◌∷◌, ◌++◌}
use Prim.Native.Nat.{ℕ, zero, suc, ◌+◌, ◌-◌, ◌*◌, ◌^◌, ◌≤◌, ◌<◌}
use native.Mathlib.Nat.{mul-le-mul_left, mul-one, mul-suc, mul-zero, zero-add}
use native.Mathlib.Numerals.{add-one}
use native.Mathlib.Omega.{arith}
use lib.Bits.{bit_xor, xor_comm, xor_shifted, xor_zero_r}
use lib.Dec.{lit<}
use lib.ListN.{length, get_or, take, drop, length-take}
use lib.Seq.{take_all}
use Rattle.lists.proofs.ListsLaws.{zeros_at}
use Rattle.part.specs.Bytes.{AreBytes}
use Rattle.part.proofs.BytesLaws.{bytes_take, bytes_drop}
use Rattle.endian.specs.FixedWidth.{little_endian}
use Rattle.part.specs.Part.{part}
use Rattle.part.proofs.PartLaws.{lent_drop, lent_part, length_part, part-add}
use Rattle.crc64_register.specs.Crc64.{bit_steps, byte_step, register}
use Rattle.crc64_lanes.specs.Product.{shifted, product}
use Rattle.crc64_lanes.specs.Lanes.{Eight, lane_start, lane, joined}
use Rattle.crc64_register.proofs.Crc64Laws.{register-append, register_split, register_lt}
use Rattle.crc64_register.proofs.LinearLaws.{xor_assoc, bit_steps_xor, bit_steps-add, bit_steps_low}
use Rattle.crc64_lanes.proofs.ProductLaws.{product_steps}

-- ---- a word goes in

-- all bytes may be put in ahead of the steps
pub register_word : (r : ℕ) (s : List ℕ) → AreBytes s → register r s ≡ bit_steps (8 * length s) (bit_xor r (little_endian s))
unfolding register little_endian bit_steps byte_step AreBytes
register_word r [] bytes = sym (xor_zero_r r)
register_word r (b ∷ s) bytes =
    let n : ℕ = 8 * length s in
    let e : 8 + n ≡ 8 * suc (length s) = omega arith in
    let x : ℕ = little_endian s in
    let both : bit_xor b (x * 2 ^ 8) ≡ b + 256 * x = xor_comm b (x * 2 ^ 8) ∙ xor_shifted x 8 b bytes.0 ∙ omega arith in
    register_word (bit_steps 8 (bit_xor r b)) s bytes.1
    ∙ ap (bit_steps n)
    (ap (bit_xor (bit_steps 8 (bit_xor r b))) (sym (bit_steps_low 8 x)) ∙ sym (bit_steps_xor 8 (bit_xor r b) (x * 2 ^ 8))
    ∙ ap (bit_steps 8) (xor_assoc r b (x * 2 ^ 8) ∙ ap (bit_xor r) both))
    ∙ sym (bit_steps-add 8 n (bit_xor r (b + 256 * x))) ∙ ap (λ (k : ℕ). bit_steps k (bit_xor r (b + 256 * x))) e

-- eight bytes that are lent
pub word_lent : (s : List ℕ) (from : ℕ) → take 8 (take (from + 8 - from) (drop from s)) ≡ part s from 8
unfolding part
word_lent s from = ap (take 8) (lent_part s from 8) ∙ take_all 8 (part s from 8) few
  where
    few : length (part s from 8) ≤ 8
    few = rw length-take (omega arith)

bytes_part : (s : List ℕ) (at n : ℕ) → AreBytes s → AreBytes (part s at n)
unfolding part
bytes_part s at n bytes = bytes_take n (drop at s) (bytes_drop at s bytes)

-- the word of lane j is inside the string
pub word_within : (n j at : ℕ) → j < 8 → at + 8 ≤ n → n * j + at + 8 ≤ 8 * n
word_within n j at h room =
    let most : n * suc j ≤ n * 8 = mul-le-mul_left n h in
    omega (arith, mul-suc n j, most)

-- ---- the loop over eight bytes

-- with i turns made, 8 times i bits have left each register
pub steps_none : (rs : List ℕ) → Eight (λ (j : ℕ). bit_steps (8 * 0) (get_or rs j 0)) rs
unfolding Eight bit_steps
steps_none rs j h = refl

pub steps_more : (i : ℕ) (start rs next : List ℕ) → Eight (λ (j : ℕ). bit_steps (8 * i) (get_or start j 0)) rs
    → Eight (λ (j : ℕ). bit_steps 8 (get_or rs j 0)) next → Eight (λ (j : ℕ). bit_steps (8 * (i + 1)) (get_or start j 0)) next
unfolding Eight
steps_more i start rs next done step j h =
    let bits : 8 * i + 8 ≡ 8 * (i + 1) = omega arith in
    step j h ∙ ap (bit_steps 8) (done j h) ∙ sym (bit_steps-add (8 * i) 8 (get_or start j 0)) ∙ ap (λ (k : ℕ). bit_steps k (get_or start j 0)) bits

pub steps_all : (i : ℕ) (start rs : List ℕ) → i ≤ 8 → 8 ≤ i → Eight (λ (j : ℕ). bit_steps (8 * i) (get_or start j 0)) rs
    → Eight (λ (j : ℕ). bit_steps 64 (get_or start j 0)) rs
steps_all i start rs few all done =
    let is : i ≡ 8 = omega arith in
    rw is at done

-- ---- the loop over the words of the lanes

-- at first no word has gone in
pub lanes_none : (r : ℕ) (s : List ℕ) (n : ℕ)
    → Eight (λ (j : ℕ). register (lane_start r j) (part s (n * j) (8 * 0))) (r ∷ 0 ∷ 0 ∷ 0 ∷ 0 ∷ 0 ∷ 0 ∷ 0 ∷ [])
unfolding Eight register lane_start part
lanes_none r s n zero h = refl
lanes_none r s n (suc j) h = zeros_at 7 j

-- one word more of each lane goes in
pub lanes_more : (r : ℕ) (s : List ℕ) (n i : ℕ) (rs put next : List ℕ) → AreBytes s → 8 * i + 8 ≤ n → 8 * n ≤ length s
    → Eight (λ (j : ℕ). register (lane_start r j) (part s (n * j) (8 * i))) rs
    → Eight (λ (j : ℕ). bit_xor (get_or rs j 0) (little_endian (part s (n * j + 8 * i) 8))) put
    → Eight (λ (j : ℕ). bit_steps 64 (get_or put j 0)) next
    → Eight (λ (j : ℕ). register (lane_start r j) (part s (n * j) (8 * (i + 1)))) next
unfolding Eight
lanes_more r s n i rs put next bytes inside room done words steps j h =
    let start : ℕ = lane_start r j in
    let word : List ℕ = part s (n * j + 8 * i) 8 in
    let here : List ℕ = part s (n * j) (8 * i) in
    let long : length word ≡ 8 = length_part s (n * j + 8 * i) 8 (omega (arith, word_within n j (8 * i) h inside)) in
    let bits : 64 ≡ 8 * length word = omega (arith, long) in
    let more : 8 * i + 8 ≡ 8 * (i + 1) = omega arith in
    steps j h ∙ ap (bit_steps 64) (words j h ∙ ap (λ (x : ℕ). bit_xor x (little_endian word)) (done j h))
    ∙ ap (λ (k : ℕ). bit_steps k (bit_xor (register start here) (little_endian word))) bits
    ∙ sym (register_word (register start here) word (bytes_part s (n * j + 8 * i) 8 bytes))
    ∙ sym (register-append start here word) ∙ ap (register start) (sym (part-add s (n * j) (8 * i) 8))
    ∙ ap (λ (k : ℕ). register start (part s (n * j) k)) more

-- with all words gone in, the registers are those of the lanes
pub lanes_all : (r : ℕ) (s : List ℕ) (count i : ℕ) (rs : List ℕ) → i ≤ count → count ≤ i
    → Eight (λ (j : ℕ). register (lane_start r j) (part s (8 * count * j) (8 * i))) rs
    → Eight (λ (j : ℕ). register (lane_start r j) (lane (8 * count) s j)) rs
unfolding Eight lane
lanes_all r s count i rs few all done j h =
    let is : i ≡ count = omega arith in
    done j h ∙ ap (λ (k : ℕ). register (lane_start r j) (part s (8 * count * j) (8 * k))) is

-- ---- the loop that joins

pub joined_none : (c : ℕ) (rs : List ℕ) → get_or rs 0 0 ≡ joined c rs 0
unfolding joined
joined_none c rs = refl

pub joined_next : (c : ℕ) (rs : List ℕ) (j r p : ℕ) → r ≡ joined c rs j → p ≡ product c r → bit_xor p (get_or rs (j + 1) 0) ≡ joined c rs (j + 1)
unfolding joined
joined_next c rs j r p is e = rw (add-one j, e, is)

-- ---- lanes are joined

-- the register at the start goes through as many zero bits as the string has bits
pub register_start_lem : (r : ℕ) (s : List ℕ) → register r s ≡ bit_xor (bit_steps (8 * length s) r) (register 0 s)
unfolding register bit_steps byte_step
register_start_lem r [] = sym (xor_zero_r r)
register_start_lem r (b ∷ s) =
    let n : ℕ = 8 * length s in
    let e : 8 + n ≡ 8 * suc (length s) = omega arith in
    register_start_lem (byte_step r b) s
    ∙ ap (λ (x : ℕ). bit_xor x (register 0 s)) (ap (bit_steps n) (bit_steps_xor 8 r b) ∙ bit_steps_xor n (bit_steps 8 r) (bit_steps 8 b))
    ∙ xor_assoc (bit_steps n (bit_steps 8 r)) (bit_steps n (bit_steps 8 b)) (register 0 s)
    ∙ ap₂ bit_xor (sym (bit_steps-add 8 n r) ∙ ap (λ (k : ℕ). bit_steps k r) e) (sym (register_start_lem (byte_step 0 b) s))

pub register_join : (r : ℕ) (s t : List ℕ) → register r (s ++ t) ≡ bit_xor (bit_steps (8 * length t) (register r s)) (register 0 t)
register_join r s t = register-append r s t ∙ register_start_lem (register r s) t

-- the registers of the lanes
abbrev pub AreLanes : ℕ → List ℕ → ℕ → List ℕ → Type 0
AreLanes r s n rs = Eight (λ (j : ℕ). register (lane_start r j) (lane n s j)) rs

module _ (r : ℕ) (s : List ℕ) (n : ℕ) (rs : List ℕ) (bytes : AreBytes s) (fits : r < 2 ^ 64) (room : 8 * n ≤ length s) (are : AreLanes r s n rs) where
  -- one lane more
  joined_more : (j : ℕ) → suc j < 8 → joined (shifted (8 * n)) rs j ≡ register r (take (n * suc j) s)
      → joined (shifted (8 * n)) rs (suc j) ≡ register r (take (n * suc (suc j)) s)
  unfolding joined lane_start lane part Eight
  joined_more j h e =
      let from : ℕ = n * suc j in
      let at : from + n ≡ n * suc (suc j) = omega (arith, mul-suc n (suc j)) in
      let before : List ℕ = take from s in
      let here : List ℕ = part s from n in
      let most : n * suc (suc j) ≤ n * 8 = mul-le-mul_left n h in
      let inside : from + n ≤ length s = omega (arith, at, room, most) in
      let long : length here ≡ n = length_part s from n inside in
      let split : take (from + n) s ≡ before ++ here = part-add s 0 from n ∙ ap (λ (k : ℕ). before ++ part s k n) (zero-add from) in
      ap₂ bit_xor
      (ap (product (shifted (8 * n))) e ∙ product_steps (8 * n) (register r before) (register_lt r before fits (bytes_take from s bytes)))
      (are (suc j) h)
      ∙ sym (ap (λ (k : ℕ). register r (take k s)) (sym at) ∙ ap (register r) split ∙ register_join r before here
      ∙ ap (λ (k : ℕ). bit_xor (bit_steps (8 * k) (register r before)) (register 0 here)) long)

  pub joined_is : (j : ℕ) → j < 8 → joined (shifted (8 * n)) rs j ≡ register r (take (n * suc j) s)
  unfolding joined lane_start lane part Eight
  joined_is zero h = are 0 h ∙ ap (λ (k : ℕ). register r (take n (drop k s))) (mul-zero n) ∙ ap (λ (k : ℕ). register r (take k s)) (sym (mul-one n))
  joined_is (suc j) h = joined_more j h (joined_is j (omega arith))

-- the lanes joined, and what is left behind them
pub lanes_absorbed : (r : ℕ) (s : List ℕ) (count : ℕ) (rs : List ℕ) (c one end : ℕ) → AreBytes s → r < 2 ^ 64 → 64 * count ≤ length s
    → AreLanes r s (8 * count) rs → c ≡ shifted (64 * count) → one ≡ joined c rs 7
    → end ≡ register one (take (length s - 64 * count) (drop (64 * count) s)) → end ≡ register r s
lanes_absorbed r s count rs c one end bytes fits room are shift join rest =
    let bits : 64 * count ≡ 8 * (8 * count) = omega arith in
    let all : 8 * count * 8 ≡ 64 * count = omega arith in
    let front : one ≡ register r (take (64 * count) s) =
    join ∙ ap (λ (k : ℕ). joined k rs 7) (shift ∙ ap shifted bits)
    ∙ joined_is r s (8 * count) rs bytes fits (omega arith) are 7 (lit< tt) ∙ ap (λ (k : ℕ). register r (take k s)) all in
    rest ∙ ap (register one) (lent_drop s (64 * count)) ∙ ap (λ (x : ℕ). register x (drop (64 * count) s)) front
    ∙ sym (register_split r s (64 * count))
