-- Laws of an array that is filled from an index on, byte after byte: `paste d at s n` of the library is d, with the n
-- elements from at on replaced by the first n of s; and of the padding, an array of zeros that the bits are copied into.
-- Assumes nothing.
use Rattle.std.proofs.Common.{◌≡◌, ℕ, ◌+◌, ◌-◌, ◌*◌, ◌%◌, ◌^◌, ◌<◌, ◌≤◌, List, ◌∷◌, ◌++◌, length, get_or, take, set, replicate}
use Rattle.std.proofs.Common.{sym, refl, ap, ◌∙◌, append-nil, add-sub_of_le, add-one, one-add, arith, length-append}
use Rattle.std.proofs.Common.{drop_of_length-le, get_or-append-add}
use Rattle.std.proofs.lemmas.List.{length-replicate, take-replicate}
use Rattle.std.proofs.lemmas.Slice.{take-put_mid}
use borrow.Rule.Slice.PartMut.{put_mid}
use lib.ListN.{get_or-append}
use lib.Seq.{paste, paste-suc, take-length}
use Rattle.lists.proofs.ListsLaws.{zeros_at}
use Rattle.endian.specs.FixedWidth.{big_bytes}
use Rattle.endian.proofs.FixedWidthLaws.{big_bytes-length}
use Rattle.sha256.specs.Sha256.{padding}

-- A turn and the end of a loop that fills

-- one element more
pub paste_more : (d : List ℕ) (at : ℕ) (s : List ℕ) (i x : ℕ) (l : List ℕ) → l ≡ paste d at s i
    → at + i < length d → i < length s → x ≡ get_or s i 0 → set l (at + i) x ≡ paste d at s (i + 1)
paste_more d at s i x l before hd hs e = rw (before, e, add-one) (paste-suc d at s i 0 hd hs)

-- all of s, up to the end of d
paste_all : (d : List ℕ) (at : ℕ) (s : List ℕ) (n : ℕ) → length s ≡ n → length d ≤ at + n → paste d at s n ≡ take at d ++ s
paste_all d at s n e h = rw (drop_of_length-le d h, ← e, take-length) (append-nil (take at d ++ s))

-- Bytes with zeros after

-- a piece that goes after `fill` bytes of a block, and zeros to the block's end
abbrev pub zeroed : ℕ → List ℕ → List ℕ
zeroed fill piece = piece ++ replicate (64 - (fill + length piece)) 0

zeroed_length : (fill : ℕ) (piece : List ℕ) → fill + length piece ≤ 64 → length (zeroed fill piece) ≡ 64 - fill
zeroed_length fill piece h = rw (length-append, length-replicate) (omega arith)

zeroed_after : (fill : ℕ) (piece : List ℕ) (i : ℕ) → length piece ≤ i → get_or (zeroed fill piece) i 0 ≡ 0
zeroed_after fill piece i h =
    rw (← add-sub_of_le h, get_or-append-add) (zeros_at (64 - (fill + length piece)) (i - length piece))

module _ (kept : List ℕ) (fill : ℕ) (piece : List ℕ) (room : length kept ≡ 64) (fits : fill + length piece ≤ 64) where
  -- one byte more: of the piece
  pub zeroed_byte : (i : ℕ) (l : List ℕ) → i < 64 - fill → l ≡ paste kept fill (zeroed fill piece) i
      → i < length piece → set l (fill + i) (get_or piece i 0) ≡ paste kept fill (zeroed fill piece) (i + 1)
  zeroed_byte i l inside before h =
      let long = zeroed_length fill piece fits in
      let byte = get_or-append piece (replicate (64 - (fill + length piece)) 0) 0 i h in
      paste_more kept fill (zeroed fill piece) i (get_or piece i 0) l before (omega arith) (omega arith) (sym byte)

  -- or a zero
  pub zeroed_zero : (i : ℕ) (l : List ℕ) → i < 64 - fill → l ≡ paste kept fill (zeroed fill piece) i
      → length piece ≤ i → set l (fill + i) 0 ≡ paste kept fill (zeroed fill piece) (i + 1)
  zeroed_zero i l inside before h =
      let long = zeroed_length fill piece fits in
      paste_more kept fill (zeroed fill piece) i 0 l before (omega arith) (omega arith) (sym (zeroed_after fill piece i h))

  -- up to the block's end
  pub zeroed_all : (i : ℕ) (l : List ℕ) → i ≡ 64 - fill → l ≡ paste kept fill (zeroed fill piece) i → l ≡ take fill kept ++ zeroed fill piece
  zeroed_all i l end before =
      let long = zeroed_length fill piece fits in
      before ∙ paste_all kept fill (zeroed fill piece) i (omega arith) (omega arith)

-- The padding

-- the byte 0x80, z zeros and the bits, in an array of zeros
pub padding_parts : (n z : ℕ) (bits : List ℕ) → z ≡ (119 - n % 64) % 64 → bits ≡ big_bytes 8 (n * 8 % 2 ^ 64)
    → take (9 + z) (put_mid (1 + z) (9 + z - (1 + z)) (0x80 ∷ replicate 71 0) bits) ≡ padding n
unfolding padding
padding_parts n z bits zeros e =
    let start : List ℕ = 0x80 ∷ replicate 71 0 in
    let long : length bits ≡ 8 = ap length e ∙ big_bytes-length 8 _ in
    let front : take (1 + z) start ≡ 0x80 ∷ replicate z 0 =
    rw (one-add z) (ap (λ (l : List ℕ). 0x80 ∷ l) (take-replicate {X = ℕ} z 71 0 (omega arith))) in
    take-put_mid (1 + z) (9 + z - (1 + z)) start bits (9 + z) (omega arith) (omega (arith, length-replicate {A = ℕ} 71 0)) ∙ rw (front, zeros, e) refl
