-- What std calls UTF-8, the bytes of scalar values one after the other, is what the relation describes.
-- Assumes nothing.
use Rattle.std.proofs.Common.{◌≡◌, ℕ, ◌+◌, ◌-◌, ◌*◌, ◌/◌, ◌≤◌, ◌<◌, Bool, true, false}
use Rattle.std.proofs.Common.{List, [], ◌∷◌, ◌++◌, refl, ap₂, ◌∙◌, arith, inl, inr, ◌⊎◌}
use Rattle.std.proofs.lemmas.Bool.{cases_lt, lt-ltb, le-ltb, le-leb}
use Rattle.std.specs.Str.{IsUtf8}
use mathlib.Core.Bool.{and-eq-true_iff}
use lib.Utf8.{scalar, scalars, encode, encodes, next, scalar_cases, low_scalar}
use Rattle.byte_range.specs.Range.{In}
use Rattle.utf8.specs.Utf8.{Tail, Character, UTF8_1, UTF8_2, UTF8_3_e0, UTF8_3_e1, UTF8_3_ed, UTF8_3_ee, UTF8_4_f0, UTF8_4_f1, UTF8_4_f4}
use Rattle.utf8.specs.Utf8.{Utf8, nothing, more, is_utf8}
use Rattle.utf8.proofs.Utf8Laws.{is_utf8⇒Utf8, Utf8⇒is_utf8}

-- ---- the bytes of a number

one : (c : ℕ) → c < 128 → encode c ≡ c ∷ []
unfolding encode
one c h = rw (lt-ltb c 128 h)

two : (c : ℕ) → 128 ≤ c → c < 2048 → encode c ≡ (192 + c / 64) ∷ next c ∷ []
unfolding encode
two c h k = rw (le-ltb c 128 h, lt-ltb c 2048 k)

three : (c : ℕ) → 2048 ≤ c → c < 65536 → encode c ≡ (224 + c / 4096) ∷ next (c / 64) ∷ next c ∷ []
unfolding encode
three c h k = rw (le-ltb c 128 (omega arith), le-ltb c 2048 h, lt-ltb c 65536 k)

four : (c : ℕ) → 65536 ≤ c → encode c ≡ (240 + c / 262144) ∷ next (c / 4096) ∷ next (c / 64) ∷ next c ∷ []
unfolding encode
four c h = rw (le-ltb c 128 (omega arith), le-ltb c 2048 (omega arith), le-ltb c 65536 h)

ranged : (low high b : ℕ) → low ≤ b → b ≤ high → In low high b
ranged low high b h k = record { least = h; most = k }

-- ---- each scalar value is a character

tail : (bits : ℕ) → Tail (next bits)
tail bits = ranged 0x80 0xbf (next bits) (omega arith) (omega arith)

of_three : (c : ℕ) → 2048 ≤ c → c < 65536 → (c < 55296) ⊎ ((57344 ≤ c) × (c < 1114112)) → Character ((224 + c / 4096) ∷ next (c / 64) ∷ next c ∷ [])
of_three c h k s =
    elim (cases_lt c 4096) [
      | inl e0 ↦
          let q : 224 + c / 4096 ≡ 0xe0 = omega arith in
          rw q (UTF8_3_e0 (ranged 0xa0 0xbf (next (c / 64)) (omega arith) (omega arith)) (tail c))
      | inr e ↦ elim (cases_lt c 53248) [
        | inl e1 ↦ UTF8_3_e1 (ranged 0xe1 0xec (224 + c / 4096) (omega arith) (omega arith)) (tail (c / 64)) (tail c)
        | inr e ↦ elim (cases_lt c 57344) [
          | inl ed ↦
              let q : 224 + c / 4096 ≡ 0xed = omega arith in
              rw q (UTF8_3_ed (ranged 0x80 0x9f (next (c / 64)) (omega arith) (elim s [ inl l ↦ omega arith | inr l ↦ omega arith ])) (tail c))
          | inr ee ↦ UTF8_3_ee (ranged 0xee 0xef (224 + c / 4096) (omega arith) (omega arith)) (tail (c / 64)) (tail c)
        ]
      ]
    ]

of_four : (c : ℕ) → 65536 ≤ c → c < 1114112 → Character ((240 + c / 262144) ∷ next (c / 4096) ∷ next (c / 64) ∷ next c ∷ [])
of_four c h k =
    elim (cases_lt c 262144) [
      | inl f0 ↦
          let q : 240 + c / 262144 ≡ 0xf0 = omega arith in
          rw q (UTF8_4_f0 (ranged 0x90 0xbf (next (c / 4096)) (omega arith) (omega arith)) (tail (c / 64)) (tail c))
      | inr e ↦ elim (cases_lt c 1048576) [
        | inl f1 ↦ UTF8_4_f1 (ranged 0xf1 0xf3 (240 + c / 262144) (omega arith) (omega arith)) (tail (c / 4096)) (tail (c / 64)) (tail c)
        | inr f4 ↦
            let q : 240 + c / 262144 ≡ 0xf4 = omega arith in
            rw q (UTF8_4_f4 (ranged 0x80 0x8f (next (c / 4096)) (omega arith) (omega arith)) (tail (c / 64)) (tail c))
      ]
    ]

character : (c : ℕ) → scalar c ≡ true → Character (encode c)
character c e =
    let s = scalar_cases c e in
    elim (cases_lt c 128) [
      | inl h ↦ rw (one c h) (UTF8_1 (ranged 0x00 0x7f c (omega arith) (omega arith)))
      | inr h ↦ elim (cases_lt c 2048) [
        | inl k ↦ rw (two c h k) (UTF8_2 (ranged 0xc2 0xdf (192 + c / 64) (omega arith) (omega arith)) (tail c))
        | inr k ↦ elim (cases_lt c 65536) [
          | inl l ↦ rw (three c k l) (of_three c k l s)
          | inr l ↦ rw (four c l) (of_four c l (elim s [ inl m ↦ omega arith | inr m ↦ m.1 ]))
        ]
      ]
    ]

characters : (cs : List ℕ) → scalars cs ≡ true → Utf8 (encodes cs)
characters [] e = nothing
characters (c ∷ cs) e =
    let both = (and-eq-true_iff (scalar c) (scalars cs)).0 e in
    more (character c both.0) (characters cs both.1)

-- ---- each character is a scalar value

high_scalar : (c : ℕ) → 57344 ≤ c → c < 1114112 → scalar c ≡ true
high_scalar c h k = rw (le-ltb c 55296 (omega arith), le-leb 57344 c h, lt-ltb c 1114112 k)

-- the number that the bytes of a character spell
abbrev Spelled : List ℕ → Type 0
Spelled t = (c : ℕ) × ((scalar c ≡ true) × (encode c ≡ t))

of_two_bytes : (c a b : ℕ) → c ≡ (a - 192) * 64 + (b - 128) → In 0xc2 0xdf a → Tail b → encode c ≡ a ∷ b ∷ []
of_two_bytes c a b e i j =
    let p : 192 + c / 64 ≡ a = omega arith in
    let q : next c ≡ b = omega arith in
    two c (omega arith) (omega arith) ∙ rw (p, q)

of_three_bytes : (c a b d : ℕ) → c ≡ (a - 224) * 4096 + ((b - 128) * 64 + (d - 128)) → In 0xe0 0xef a → Tail b → Tail d → 2048 ≤ c
    → encode c ≡ a ∷ b ∷ d ∷ []
of_three_bytes c a b d e i j k h =
    let p : 224 + c / 4096 ≡ a = omega arith in
    let q : next (c / 64) ≡ b = omega arith in
    let r : next c ≡ d = omega arith in
    three c h (omega arith) ∙ rw (p, q, r)

of_four_bytes : (c a b d f : ℕ) → c ≡ (a - 240) * 262144 + ((b - 128) * 4096 + ((d - 128) * 64 + (f - 128)))
    → In 0xf0 0xf4 a → Tail b → Tail d → Tail f
    → 65536 ≤ c → encode c ≡ a ∷ b ∷ d ∷ f ∷ []
of_four_bytes c a b d f e i j k l h =
    let p : 240 + c / 262144 ≡ a = omega arith in
    let q : next (c / 4096) ≡ b = omega arith in
    let r : next (c / 64) ≡ d = omega arith in
    let s : next c ≡ f = omega arith in
    four c h ∙ rw (p, q, r, s)

-- of three bytes, below the surrogates
below : (a b d : ℕ) → In 0xe0 0xef a → Tail b → Tail d → 2048 ≤ (a - 224) * 4096 + ((b - 128) * 64 + (d - 128))
    → (a - 224) * 4096 + ((b - 128) * 64 + (d - 128)) < 55296 → Spelled (a ∷ b ∷ d ∷ [])
below a b d i j k h l =
    let c = (a - 224) * 4096 + ((b - 128) * 64 + (d - 128)) in
    (c, (low_scalar c l, of_three_bytes c a b d refl i j k h))

-- of four bytes
above : (a b d f : ℕ) → In 0xf0 0xf4 a → Tail b → Tail d → Tail f
    → 65536 ≤ (a - 240) * 262144 + ((b - 128) * 4096 + ((d - 128) * 64 + (f - 128)))
    → (a - 240) * 262144 + ((b - 128) * 4096 + ((d - 128) * 64 + (f - 128))) < 1114112 → Spelled (a ∷ b ∷ d ∷ f ∷ [])
above a b d f i j k l h m =
    let c = (a - 240) * 262144 + ((b - 128) * 4096 + ((d - 128) * 64 + (f - 128))) in
    (c, (high_scalar c (omega arith) m, of_four_bytes c a b d f refl i j k l h))

spelled : (t : List ℕ) → Character t → Spelled t
spelled t (UTF8_1 {a} i) = (a, (low_scalar a (omega arith), one a (omega arith)))
spelled t (UTF8_2 {a} {b} i j) = go _ refl
  where
    go : (c : ℕ) → c ≡ (a - 192) * 64 + (b - 128) → Spelled (a ∷ b ∷ [])
    go c e = (c, (low_scalar c (omega arith), of_two_bytes c a b e i j))
spelled t (UTF8_3_e0 {b} {c = d} i j) =
    below 0xe0 b d (ranged 0xe0 0xef 0xe0 (omega arith) (omega arith)) (ranged 0x80 0xbf b (omega arith) (omega arith)) j (omega arith) (omega arith)
spelled t (UTF8_3_e1 {a} {b} {c = d} h i j) =
    below a b d (ranged 0xe0 0xef a (omega arith) (omega arith)) i j (omega arith) (omega arith)
spelled t (UTF8_3_ed {b} {c = d} i j) =
    below 0xed b d (ranged 0xe0 0xef 0xed (omega arith) (omega arith)) (ranged 0x80 0xbf b (omega arith) (omega arith)) j (omega arith) (omega arith)
spelled t (UTF8_3_ee {a} {b} {c = d} h i j) = go _ refl
  where
    go : (c : ℕ) → c ≡ (a - 224) * 4096 + ((b - 128) * 64 + (d - 128)) → Spelled (a ∷ b ∷ d ∷ [])
    go c e =
        (c, (high_scalar c (omega arith) (omega arith), of_three_bytes c a b d e (ranged 0xe0 0xef a (omega arith) (omega arith)) i j (omega arith)))
spelled t (UTF8_4_f0 {b} {c = d} {d = f} i j k) =
    above 0xf0 b d f (ranged 0xf0 0xf4 0xf0 (omega arith) (omega arith)) (ranged 0x80 0xbf b (omega arith) (omega arith)) j k (omega arith) (omega arith)
spelled t (UTF8_4_f1 {a} {b} {c = d} {d = f} h i j k) =
    above a b d f (ranged 0xf0 0xf4 a (omega arith) (omega arith)) i j k (omega arith) (omega arith)
spelled t (UTF8_4_f4 {b} {c = d} {d = f} i j k) =
    above 0xf4 b d f (ranged 0xf0 0xf4 0xf4 (omega arith) (omega arith)) (ranged 0x80 0xbf b (omega arith) (omega arith)) j k (omega arith) (omega arith)

in_std : (s : List ℕ) → Utf8 s → IsUtf8 s
in_std s nothing = ([], (refl, refl))
in_std s (more {c = t} {s = rest} x u) =
    let one = spelled t x in
    let others = in_std rest u in
    (one.0 ∷ others.0, ((and-eq-true_iff (scalar one.0) (scalars others.0)).1 (one.1.0, others.1.0), ap₂ ◌++◌ one.1.1 others.1.1))

-- ---- the two tests

pub std⇒is_utf8 : (s : List ℕ) → IsUtf8 s → is_utf8 s ≡ true
std⇒is_utf8 s u = rw (← u.1.1) (Utf8⇒is_utf8 (encodes u.0) (characters u.0 u.1.0))

pub not_std⇒not_is_utf8 : (s : List ℕ) → (IsUtf8 s → ⊥) → is_utf8 s ≡ false
not_std⇒not_is_utf8 s n = go (is_utf8 s) refl
  where
    go : (t : Bool) → is_utf8 s ≡ t → t ≡ false
    go true e = absurd (n (in_std s (is_utf8⇒Utf8 s e)))
    go false e = refl

-- for tactics
pub ruleset utf8 = (std⇒is_utf8, not_std⇒not_is_utf8)
