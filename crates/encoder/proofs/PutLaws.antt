-- Laws of putting numbers and blocks.
-- Assumes nothing.
use mathlib.Core.Path.{◌≡◌, refl, sym, ap, ◌∙◌, subst}
use mathlib.Core.Bool.{Bool, true, false}
use mathlib.Core.List.{List, [], ◌∷◌, ◌++◌, append_assoc}
use Prim.Native.Nat.{ℕ, zero, suc, ◌+◌, ◌-◌, ◌/◌, ◌%◌, ◌^◌, ◌≤◌, ◌<◌}
use native.Mathlib.Omega.{arith}
use native.Mathlib.Nat.{pow-zero, pow-succ', add-zero, add_comm}
use lib.Dec.{leb}
use Rattle.std.specs.Prelude.{Some, None}
use Rattle.std.specs.Bool.{then_some}
use Rattle.std.proofs.Common.{inl, inr}
use Rattle.std.proofs.lemmas.Bool.{cases_lt}
use borrow.Author.Tests.{lt-leb, leb-true, leb-false}
use lib.ListN.{length, drop, get_or, set, length-drop, length-append}
use lib.Seq.{get_or-drop, drop-drop}
use Rattle.endian.specs.FixedWidth.{little_bytes}
use Rattle.endian.proofs.FixedWidthLaws.{little_bytes-length}
use Rattle.crc64.specs.Crc64.{crc64}
use Rattle.layout.specs.Blocks.{block_bytes, block_size}
use Rattle.layout.proofs.ReadBackLaws.{length_block}
use Rattle.uleb128.specs.Encoding.{encoding, encoding_with}
use Rattle.uleb128.proofs.EncodingLaws.{encoding_with_low, encoding_with_high, encoding_with_some, digits}
use Rattle.output_bytes.specs.OutputBytes.{stored, stored_length, stored_size}
use Rattle.output_bytes.proofs.OutputBytesLaws.{Storing, storing_none, storing_more, storing_all, fits_some, fits_none, stored_none, stored-append}

-- ---- a number, byte by byte

-- the first i bytes of the number are stored, and `rest` holds the bits of the others
pub record Putting (old : List ℕ) (at value : ℕ) (output : List ℕ) (rest i : ℕ) : Type 0 where
  pub storing : Storing old at (encoding value) output i
  pub few : i ≤ 9
  pub small : rest < 128 ^ suc (9 - i)
  pub left : drop i (encoding value) ≡ encoding_with (9 - i) rest

pub putting_none : (old : List ℕ) (at value : ℕ) → value < 2 ^ 64 → at + length (encoding value) ≤ length old → Putting old at value old value 0
unfolding encoding
putting_none old at value h k = record { storing = storing_none old at (encoding value) k; few = omega arith; small = omega arith; left = refl }

-- what is left begins with the next byte
next_byte : (s : List ℕ) (i b : ℕ) (more : List ℕ) → drop i s ≡ b ∷ more → (i < length s) × (get_or s i 0 ≡ b) × (drop (i + 1) s ≡ more)
next_byte s i b more e = (
  (let long : length s - i ≡ suc (length more) = sym (length-drop i s) ∙ ap length e in omega arith),
  (sym (ap (λ (n : ℕ). get_or s n 0) (add-zero i)) ∙ sym (get_or-drop i s 0 0) ∙ ap (λ (l : List ℕ). get_or l 0 0) e),
  (sym (drop-drop 1 i s) ∙ ap (drop 1) e),
)

-- one byte more, with the top bit
pub putting_more : (old : List ℕ) (at value : ℕ) (output : List ℕ) (rest i : ℕ) → 128 ≤ rest → Putting old at value output rest i
    → Putting old at value (set output (at + i) (rest % 128 + 128)) (rest / 128) (i + 1)
putting_more old at value output rest i h p = go (9 - i) refl
  where
    go : (more : ℕ) → 9 - i ≡ more → Putting old at value (set output (at + i) (rest % 128 + 128)) (rest / 128) (i + 1)
    go zero e = absurd (let small : rest < 128 ^ suc zero = subst (λ m. rest < 128 ^ suc m) e p.small in
        let one = pow-succ' 128 0 in let none = pow-zero 128 in omega arith)
    go (suc more) e =
        let left : 9 - (i + 1) ≡ more = omega arith in
        let small : rest < 128 ^ suc (suc more) = subst (λ m. rest < 128 ^ suc m) e p.small in
        let byte = next_byte (encoding value) i (128 + rest % 128) (encoding_with more (rest / 128))
        (p.left ∙ ap (λ m. encoding_with m rest) e ∙ encoding_with_high more rest h) in
        record {
          storing = rw (add_comm (rest % 128) 128, ← byte.1) (storing_more old at (encoding value) output i p.storing byte.0);
          few = omega arith;
          small = rw left (digits (suc more) rest small);
          left = rw left byte.2;
        }

-- the last byte
pub putting_last : (old : List ℕ) (at value : ℕ) (output : List ℕ) (rest i : ℕ) → rest < 128 → Putting old at value output rest i
    → (length (encoding value) ≡ stored_length old at (encoding value)) × (set output (at + i) rest ≡ stored old at (encoding value))
unfolding stored_length
putting_last old at value output rest i h p =
    let byte = next_byte (encoding value) i rest [] (p.left ∙ encoding_with_low (9 - i) rest h) in (
      rw (fits_some old at (encoding value) p.storing.enough),
      storing_all old at (encoding value) (set output (at + i) rest) (i + 1)
          (rw (← byte.1) (storing_more old at (encoding value) output i p.storing byte.0)) (all byte.0 byte.2),
    )
  where
    all : i < length (encoding value) → drop (i + 1) (encoding value) ≡ [] → length (encoding value) ≤ i + 1
    all l e = let none : length (encoding value) - (i + 1) ≡ 0 = sym (length-drop (i + 1) (encoding value)) ∙ ap length e in omega arith

-- more than one byte is left: the next has the top bit
more_left : (old : List ℕ) (at value : ℕ) (output : List ℕ) (rest i : ℕ) → i + 1 < length (encoding value) → Putting old at value output rest i → 128 ≤ rest
more_left old at value output rest i h p = elim (cases_lt rest 128) [ inl l ↦ absurd (one l) | inr g ↦ g ]
  where
    one : rest < 128 → ⊥
    one l =
        let long : length (encoding value) - i ≡ 1 =
        sym (length-drop i (encoding value)) ∙ ap length (p.left ∙ encoding_with_low (9 - i) rest l) in omega arith

-- one byte is left
one_left : (old : List ℕ) (at value : ℕ) (output : List ℕ) (rest i : ℕ) → i + 1 ≡ length (encoding value) → Putting old at value output rest i → rest < 128
one_left old at value output rest i h p = elim (cases_lt rest 128) [ inl l ↦ l | inr g ↦ absurd (go (9 - i) refl g) ]
  where
    go : (more : ℕ) → 9 - i ≡ more → 128 ≤ rest → ⊥
    go zero e g =
        let small : rest < 128 ^ suc zero = subst (λ m. rest < 128 ^ suc m) e p.small in
        let one = pow-succ' 128 0 in let none = pow-zero 128 in omega arith
    go (suc more) e g =
        let long : length (encoding value) - i ≡ suc (length (encoding_with more (rest / 128))) =
        sym (length-drop i (encoding value)) ∙ ap length (p.left ∙ ap (λ m. encoding_with m rest) e ∙ encoding_with_high more rest g) in
        let some = encoding_with_some more (rest / 128) in omega arith

-- the two steps by how many bytes are left
pub putting_next : (old : List ℕ) (at value : ℕ) (output : List ℕ) (rest i : ℕ) → i + 1 < length (encoding value) → Putting old at value output rest i
    → Putting old at value (set output (at + i) (rest % 128 + 128)) (rest / 128) (i + 1)
putting_next old at value output rest i h p = putting_more old at value output rest i (more_left old at value output rest i h p) p

pub putting_end : (old : List ℕ) (at value : ℕ) (output : List ℕ) (rest i : ℕ) → i + 1 ≡ length (encoding value) → Putting old at value output rest i
    → (rest < 256) × (length (encoding value) ≡ stored_length old at (encoding value)) × (set output (at + i) rest ≡ stored old at (encoding value))
putting_end old at value output rest i e p =
    let h = one_left old at value output rest i e p in
    let last = putting_last old at value output rest i h p in
    (omega arith, last.0, last.1)

-- the next byte lies within
pub putting_within : (old : List ℕ) (at value : ℕ) (output : List ℕ) (rest i : ℕ) → Putting old at value output rest i → at + i < length output
putting_within old at value output rest i p =
    let enough = p.storing.enough in
    let long = p.storing.long in
    let some : 0 < length (encoding value) - i = rw (← length-drop i (encoding value), p.left) (encoding_with_some (9 - i) rest) in
    omega arith

-- it doesn't fit
pub putting_full : (old : List ℕ) (at : ℕ) (s : List ℕ) → length old < at + length s → (0 ≡ stored_length old at s) × (old ≡ stored old at s)
unfolding stored_length
putting_full old at s h = (rw (fits_none old at s h), sym (stored_none old at s h))

-- ---- whether a block fits

-- the full size, with the bytes of the number counted
pub block_size_lem : (payload value counted : ℕ) → value ≡ payload + 1 → counted ≡ length (encoding value) → payload + (counted + 9) ≡ block_size payload
unfolding block_size
block_size_lem payload value counted e k = let counts : counted ≡ length (encoding (payload + 1)) = k ∙ ap (λ (n : ℕ). length (encoding n)) e in omega arith

pub block_size_some : (payload : ℕ) → payload < block_size payload
unfolding block_size
block_size_some payload = omega arith

-- where it doesn't fit, and where it does
pub size_none : (at payload room : ℕ) → room < at + block_size payload → None ≡ then_some (leb (at + block_size payload) room) (block_size payload)
size_none at payload room h = rw (lt-leb (at + block_size payload) room h)

pub size_is : (at payload room size end : ℕ) → size ≡ block_size payload → end ≡ at + size
    → then_some (leb end room) size ≡ then_some (leb (at + block_size payload) room) (block_size payload)
size_is at payload room size end e k = rw (k, e)

-- ---- a block

-- what the size says: the block doesn't fit, or it does
pub size_out : (o : List ℕ) (at level : ℕ) (payload : List ℕ) → None ≡ then_some (leb (at + block_size (length payload)) (length o)) (block_size (length payload))
    → (None ≡ stored_size o at (block_bytes level payload)) × (o ≡ stored o at (block_bytes level payload))
unfolding stored_size
size_out o at level payload e = go (leb (at + block_size (length payload)) (length o)) refl e
  where
    go : (b : Bool) → leb (at + block_size (length payload)) (length o) ≡ b → None ≡ then_some b (block_size (length payload))
        → (None ≡ stored_size o at (block_bytes level payload)) × (o ≡ stored o at (block_bytes level payload))
    go true t e = cc
    go false t e =
        let out : length o < at + length (block_bytes level payload) =
        rw (length_block level payload) (leb-false (at + block_size (length payload)) (length o) t) in (
          rw (fits_none o at (block_bytes level payload) out),
          sym (stored_none o at (block_bytes level payload) out),
        )

pub size_within : (o : List ℕ) (at : ℕ) (payload : List ℕ) (size : ℕ)
    → Some size ≡ then_some (leb (at + block_size (length payload)) (length o)) (block_size (length payload))
    → (size ≡ block_size (length payload)) × (at + block_size (length payload) ≤ length o)
size_within o at payload size e = go (leb (at + block_size (length payload)) (length o)) refl e
  where
    go : (b : Bool) → leb (at + block_size (length payload)) (length o) ≡ b → Some size ≡ then_some b (block_size (length payload))
        → (size ≡ block_size (length payload)) × (at + block_size (length payload) ≤ length o)
    go true t e = (cc, leb-true (at + block_size (length payload)) (length o) t)
    go false t e = cc

-- the bytes of its number
pub block_number : (o : List ℕ) (at : ℕ) (payload : List ℕ) → at + block_size (length payload) ≤ length o → {n : ℕ}
    → n ≡ stored_length o at (encoding (length payload + 1)) → (n ≡ length (encoding (length payload + 1))) × (at + (n + (length payload + 9)) ≤ length o)
unfolding stored_length block_size
block_number o at payload h {n} e =
    let number : n ≡ length (encoding (length payload + 1)) = rw (fits_some o at (encoding (length payload + 1)) (omega arith)) at e in
    (number, omega arith)

-- number, level byte, payload and CRC, stored one after the other
pub block_stored : (o : List ℕ) (at level : ℕ) (payload : List ℕ) → at + block_size (length payload) ≤ length o → {size n : ℕ} → size ≡ block_size (length payload)
    → n ≡ length (encoding (length payload + 1)) → {crc : List ℕ} → crc ≡ little_bytes 8 (crc64 (level ∷ payload))
    → {o1 o2 o3 o4 : List ℕ} → o1 ≡ stored o at (encoding (length payload + 1)) → o2 ≡ stored o1 (at + n) (level ∷ [])
    → o3 ≡ stored o2 (at + n + 1) payload → o4 ≡ stored o3 (at + n + 1 + length payload) crc
    → (Some size ≡ stored_size o at (block_bytes level payload)) × (o4 ≡ stored o at (block_bytes level payload))
unfolding stored_size block_bytes block_size
block_stored o at level payload h {n = n} size number {crc} sum e1 e2 e3 e4 = (
  rw (fits_some o at (block_bytes level payload) (rw (length_block level payload) h), length_block level payload, size),
  e4 ∙ ap (λ z. stored z (at + n + 1 + length payload) crc) (e3 ∙ ap (λ z. stored z (at + n + 1) payload) (e2 ∙ ap (λ z. stored z (at + n) (level ∷ [])) e1))
      ∙ rw number (chain ∙ ap (λ z. stored o at (E ++ ((level ∷ payload) ++ z))) sum),
)
  where
    E : List ℕ
    E = encoding (length payload + 1)

    eight : length crc ≡ 8
    eight = ap length sum ∙ little_bytes-length 8 (crc64 (level ∷ payload))

    third : at + length (E ++ (level ∷ [])) ≡ at + length E + 1
    third = rw (length-append E (level ∷ [])) (omega arith)

    fourth : at + length (E ++ (level ∷ []) ++ payload) ≡ at + length E + 1 + length payload
    fourth = rw (length-append (E ++ (level ∷ [])) payload, length-append E (level ∷ [])) (omega arith)

    two : stored (stored o at E) (at + length E) (level ∷ []) ≡ stored o at (E ++ (level ∷ []))
    two = stored-append o at E (level ∷ []) (omega arith)

    three : stored (stored o at (E ++ (level ∷ []))) (at + length E + 1) payload ≡ stored o at (E ++ (level ∷ []) ++ payload)
    three = ap (λ (k : ℕ). stored (stored o at (E ++ (level ∷ []))) k payload) (sym third) ∙ stored-append o at (E ++ (level ∷ [])) payload (rw third (omega arith))

    four : stored (stored o at (E ++ (level ∷ []) ++ payload)) (at + length E + 1 + length payload) crc ≡ stored o at (E ++ (level ∷ []) ++ payload ++ crc)
    four = ap (λ (k : ℕ). stored (stored o at (E ++ (level ∷ []) ++ payload)) k crc) (sym fourth)
        ∙ stored-append o at (E ++ (level ∷ []) ++ payload) crc (rw (fourth, eight) (omega arith))

    chain : stored (stored (stored (stored o at E) (at + length E) (level ∷ [])) (at + length E + 1) payload) (at + length E + 1 + length payload) crc
        ≡ stored o at (E ++ ((level ∷ payload) ++ crc))
    chain = ap (λ z. stored (stored z (at + length E + 1) payload) (at + length E + 1 + length payload) crc) two
        ∙ ap (λ z. stored z (at + length E + 1 + length payload) crc) three ∙ four
        ∙ ap (stored o at) (ap (λ z. z ++ crc) (append_assoc E (level ∷ []) payload) ∙ append_assoc E (level ∷ payload) crc)
