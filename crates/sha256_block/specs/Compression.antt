-- What SHA-256 does with a block, as FIPS 180-4 defines it, in its order and with its names. A word is a number below 2 ^ 32,
-- a block a list of 64 bytes.
-- The eight words of a hash value (FIPS: H₀ to H₇) and the eight working variables (a to h) are both a `Words`.
use Rattle.std.specs.Prelude.{ℕ, zero, suc, ◌+◌, ◌-◌, ◌*◌, ◌/◌, ◌%◌, ◌^◌, List, [], ◌∷◌, ◌++◌, length, take, drop, bit_and, bit_or, bit_xor, slice_index}
use Rattle.endian.specs.FixedWidth.{big_endian}
use Rattle.sha256_block.specs.declared.Words.{Words}

-- Operations on words (2.2.2, 3.2)

-- the sum modulo 2 ^ 32
unfoldable pub add : ℕ → ℕ → ℕ
add x y = (x + y) % 2 ^ 32

unfoldable pub complement : ℕ → ℕ
complement x = 2 ^ 32 - 1 - x

unfoldable pub rotr : ℕ → ℕ → ℕ
rotr n x = bit_or (x / 2 ^ n) (x * 2 ^ (32 - n) % 2 ^ 32)

unfoldable pub shr : ℕ → ℕ → ℕ
shr n x = x / 2 ^ n

-- Functions (4.1.2)

unfoldable pub Ch : ℕ → ℕ → ℕ → ℕ
Ch x y z = bit_xor (bit_and x y) (bit_and (complement x) z)

unfoldable pub Maj : ℕ → ℕ → ℕ → ℕ
Maj x y z = bit_xor (bit_xor (bit_and x y) (bit_and x z)) (bit_and y z)

unfoldable pub Σ₀ : ℕ → ℕ
Σ₀ x = bit_xor (bit_xor (rotr 2 x) (rotr 13 x)) (rotr 22 x)

unfoldable pub Σ₁ : ℕ → ℕ
Σ₁ x = bit_xor (bit_xor (rotr 6 x) (rotr 11 x)) (rotr 25 x)

unfoldable pub σ₀ : ℕ → ℕ
σ₀ x = bit_xor (bit_xor (rotr 7 x) (rotr 18 x)) (shr 3 x)

unfoldable pub σ₁ : ℕ → ℕ
σ₁ x = bit_xor (bit_xor (rotr 17 x) (rotr 19 x)) (shr 10 x)

-- Constants (4.2.2): K₀ to K₆₃
unfoldable pub K : List ℕ
K =
    0x428a2f98 ∷ 0x71374491 ∷ 0xb5c0fbcf ∷ 0xe9b5dba5 ∷ 0x3956c25b ∷ 0x59f111f1 ∷ 0x923f82a4 ∷ 0xab1c5ed5 ∷
    0xd807aa98 ∷ 0x12835b01 ∷ 0x243185be ∷ 0x550c7dc3 ∷ 0x72be5d74 ∷ 0x80deb1fe ∷ 0x9bdc06a7 ∷ 0xc19bf174 ∷
    0xe49b69c1 ∷ 0xefbe4786 ∷ 0x0fc19dc6 ∷ 0x240ca1cc ∷ 0x2de92c6f ∷ 0x4a7484aa ∷ 0x5cb0a9dc ∷ 0x76f988da ∷
    0x983e5152 ∷ 0xa831c66d ∷ 0xb00327c8 ∷ 0xbf597fc7 ∷ 0xc6e00bf3 ∷ 0xd5a79147 ∷ 0x06ca6351 ∷ 0x14292967 ∷
    0x27b70a85 ∷ 0x2e1b2138 ∷ 0x4d2c6dfc ∷ 0x53380d13 ∷ 0x650a7354 ∷ 0x766a0abb ∷ 0x81c2c92e ∷ 0x92722c85 ∷
    0xa2bfe8a1 ∷ 0xa81a664b ∷ 0xc24b8b70 ∷ 0xc76c51a3 ∷ 0xd192e819 ∷ 0xd6990624 ∷ 0xf40e3585 ∷ 0x106aa070 ∷
    0x19a4c116 ∷ 0x1e376c08 ∷ 0x2748774c ∷ 0x34b0bcb5 ∷ 0x391c0cb3 ∷ 0x4ed8aa4a ∷ 0x5b9cca4f ∷ 0x682e6ff3 ∷
    0x748f82ee ∷ 0x78a5636f ∷ 0x84c87814 ∷ 0x8cc70208 ∷ 0x90befffa ∷ 0xa4506ceb ∷ 0xbef9a3f7 ∷ 0xc67178f2 ∷ []

-- The message schedule (6.2.2, step 1)

-- the first n words of a block
unfoldable pub words_of : ℕ → List ℕ → List ℕ
words_of zero s = []
words_of (suc n) s = big_endian (take 4 s) ∷ words_of n (drop 4 s)

-- the word that comes after the t words ws
unfoldable pub next_word : List ℕ → ℕ
next_word ws =
    let t = length ws in
    add (add (add (σ₁ (slice_index ws (t - 2))) (slice_index ws (t - 7))) (σ₀ (slice_index ws (t - 15)))) (slice_index ws (t - 16))

-- n words more
unfoldable pub extended : ℕ → List ℕ → List ℕ
extended zero ws = ws
extended (suc n) ws = extended n (ws ++ (next_word ws ∷ []))

unfoldable pub schedule : List ℕ → List ℕ
schedule block = extended 48 (words_of 16 block)

-- The hash computation (6.2.2, steps 2 to 4)

-- one step with the constant k and the scheduled word w
unfoldable pub round : Words → ℕ → ℕ → Words
round v k w =
    let T₁ = add (add (add (add v.h (Σ₁ v.e)) (Ch v.e v.f v.g)) k) w in
    let T₂ = add (Σ₀ v.a) (Maj v.a v.b v.c) in
    record { a = add T₁ T₂; b = v.a; c = v.b; d = v.c; e = add v.d T₁; f = v.e; g = v.f; h = v.g }

-- a step for each constant and word
unfoldable pub rounds : List ℕ → List ℕ → Words → Words
rounds [] ws v = v
rounds (k ∷ ks) [] v = v
rounds (k ∷ ks) (w ∷ ws) v = rounds ks ws (round v k w)

-- word by word
unfoldable pub sums : Words → Words → Words
sums x y =
    record {
      a = add x.a y.a;
      b = add x.b y.b;
      c = add x.c y.c;
      d = add x.d y.d;
      e = add x.e y.e;
      f = add x.f y.f;
      g = add x.g y.g;
      h = add x.h y.h;
    }

-- the hash value after one more block
unfoldable pub compress : Words → List ℕ → Words
compress hash block = sums (rounds K (schedule block) hash) hash

-- the hash value after n more blocks
unfoldable pub compress_blocks : ℕ → Words → List ℕ → Words
compress_blocks zero hash s = hash
compress_blocks (suc n) hash s = compress_blocks n (compress hash (take 64 s)) (drop 64 s)

-- the hash value after the whole blocks of s
unfoldable pub over : Words → List ℕ → Words
over hash s = compress_blocks (length s / 64) hash s
