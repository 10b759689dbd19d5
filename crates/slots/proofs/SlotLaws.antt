-- The laws of `slots`: a load is `get_or` and a store is `set`, so that what holds of lists of numbers holds of slots.
-- Assumes nothing.
use Prim.Native.Nat.{ℕ, zero, suc, ◌+◌, ◌*◌, ◌/◌, ◌^◌, ◌≤◌, ◌<◌}
use native.Mathlib.Nat.{not-suc-le-zero, le_of_suc-le-suc, mod-eq_of_lt, zero-add, mul-zero, mul-suc, mul-le-mul_left, mul-div-le}
use native.Mathlib.Omega.{arith}
use mathlib.Core.Path.{◌≡◌, refl, sym, ap, ◌∙◌}
use mathlib.Core.List.{List, ◌∷◌, ◌++◌, append_assoc}
use lib.ListN.{length, get_or, set, take, drop, length-drop, get_or-eq_default}
use lib.Seq.{take_at, drop_at, take-add, drop-drop, length-take-le, set_out}
use Rattle.endian.specs.FixedWidth.{little_endian, little_bytes}
use Rattle.endian.proofs.FixedWidthLaws.{little_endian-little_bytes, little_bytes-length}
use Rattle.output_bytes.specs.OutputBytes.{stored}
use Rattle.output_bytes.proofs.OutputBytesLaws.{stored_some, length-stored}
use Rattle.slots.specs.Slots.{numbers, slots}

module _ (w : ℕ) where
  length_numbers : (m : ℕ) (b : List ℕ) → length (numbers w m b) ≡ m
  unfolding numbers
  length_numbers zero b = refl
  length_numbers (suc m) b = ap suc (length_numbers m (drop w b))

  pub length_slots : (b : List ℕ) → length (slots w b) ≡ length b / w
  unfolding slots
  length_slots b = length_numbers (length b / w) b

  -- a slot lies within
  pub slot_within : (b : List ℕ) (k : ℕ) → k < length b / w → w * k + w ≤ length b
  slot_within b k h =
      let up_to : w * suc k ≤ w * (length b / w) = mul-le-mul_left w h in
      let whole : w * (length b / w) ≤ length b = mul-div-le (length b) w in
      rw (← mul-suc w k) (omega arith)

  -- ---- a load

  get_or_numbers : (m k : ℕ) (b : List ℕ) → k < m → little_endian (take w (drop (w * k) b)) ≡ get_or (numbers w m b) k 0
  unfolding numbers
  get_or_numbers zero k b h = absurd (not-suc-le-zero h)
  get_or_numbers (suc m) zero b h = rw (mul-zero w)
  get_or_numbers (suc m) (suc k) b h =
      let e : w * suc k ≡ w + w * k = omega arith in
      rw (e, ← drop-drop (w * k) w b) (get_or_numbers m k (drop w b) (le_of_suc-le-suc h))

  pub get_or_slots : (b : List ℕ) (k : ℕ) → k < length b / w → little_endian (take w (drop (w * k) b)) ≡ get_or (slots w b) k 0
  unfolding slots
  get_or_slots b k h = get_or_numbers (length b / w) k b h

  -- behind the last slot
  pub get_or_slots_none : (b : List ℕ) (k : ℕ) → length b / w ≤ k → 0 ≡ get_or (slots w b) k 0
  get_or_slots_none b k h = sym (get_or-eq_default (slots w b) 0 (rw (length_slots b) h))

  -- ---- a store

  numbers_stored : (m k : ℕ) (b p : List ℕ) → k < m → w * m ≤ length b → length p ≡ w
      → numbers w m (take (w * k) b ++ (p ++ drop (w * k + w) b)) ≡ set (numbers w m b) k (little_endian p)
  unfolding numbers
  numbers_stored zero k b p h l e = absurd (not-suc-le-zero h)
  numbers_stored (suc m) zero b p h l e = rw (mul-zero w, zero-add w, take_at p (drop w b) w e, drop_at p (drop w b) w e)
  numbers_stored (suc m) (suc k) b p h l e =
      let inner : List ℕ = take (w * k) (drop w b) ++ (p ++ drop (w * k + w) (drop w b)) in
      let l : w * m + w ≤ length b = rw (mul-suc w m) at l in
      let head : length (take w b) ≡ w = length-take-le w b (omega arith) in
      let rest : w * m ≤ length (drop w b) = simp length-drop (omega arith) in
      let a : w * suc k ≡ w + w * k = omega arith in
      let z : w * suc k + w ≡ w + (w * k + w) = omega arith in
      let split : take (w * suc k) b ++ (p ++ drop (w * suc k + w) b) ≡ take w b ++ inner =
      rw (z, a, take-add w (w * k) b, ← drop-drop (w * k + w) w b) (simp append_assoc) in
      ap (numbers w (suc m)) split
      ∙ rw (take_at (take w b) inner w head, drop_at (take w b) inner w head)
      (ap (λ (l : List ℕ). little_endian (take w b) ∷ l) (numbers_stored m k (drop w b) p (le_of_suc-le-suc h) rest e))

  -- w bytes in place of those that stood in slot k
  pub slots_stored : (b p : List ℕ) (k : ℕ) → k < length b / w → length p ≡ w → slots w (stored b (w * k) p) ≡ set (slots w b) k (little_endian p)
  unfolding slots
  slots_stored b p k h e =
      let within : w * k + length p ≤ length b = rw e (slot_within b k h) in
      rw (length-stored b (w * k) p, stored_some b (w * k) p within, e) (numbers_stored (length b / w) k b p h (mul-div-le (length b) w) e)

  -- the bytes of a number, put where a slot begins
  pub slots_store : (b p after : List ℕ) (k at v : ℕ) → k < length b / w → at ≡ w * k → v < 256 ^ w → p ≡ little_bytes w v → after ≡ stored b at p
      → slots w after ≡ set (slots w b) k v
  slots_store b p after k at v h a f e s =
      let value : little_endian p ≡ v = rw e (little_endian-little_bytes w v ∙ mod-eq_of_lt f) in
      rw (s, a, slots_stored b p k h (rw e (little_bytes-length w v)), value)

  -- behind the last slot
  pub slots_store_none : (b : List ℕ) (k v : ℕ) → length b / w ≤ k → slots w b ≡ set (slots w b) k v
  slots_store_none b k v h = sym (set_out (slots w b) k v (rw (length_slots b) h))
