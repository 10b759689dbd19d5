-- Laws of what is stored in a lent output.
-- Assumes nothing.
use mathlib.Core.Path.{◌≡◌, refl, sym, ap, ◌∙◌}
use mathlib.Core.Bool.{Bool, true, false, cond}
use mathlib.Core.List.{List, ◌++◌, append_assoc}
use Rattle.std.specs.Prelude.{Some, None}
use Rattle.std.specs.Bool.{then_some}
use Prim.Native.Nat.{ℕ, zero, suc, ◌+◌, ◌-◌, ◌≤◌, ◌<◌}
use native.Mathlib.Nat.{add_assoc, sub-zero, zero-sub, suc-sub-suc}
use native.Mathlib.Numerals.{add-one}
use native.Mathlib.Omega.{arith}
use lib.Dec.{leb}
use lib.ListN.{length, replicate, take, drop, get_or, set, length-append, length-drop, length-set}
use lib.Seq.{length-take-le, take-append-le, take-take, take_at, drop_at, drop-drop, paste-zero, paste-suc, take-length}
use borrow.Author.Tests.{le-leb, lt-leb, leb-true, leb-false}
use Rattle.output_list.specs.OutputList.{padded, zeros}
use Rattle.output_list.proofs.OutputListLaws.{zeros-replicate, padded-append, length-padded, take-padded, drop-padded}
use Rattle.output_bytes.specs.OutputBytes.{bytes_fit, stored, stored_length, stored_size}

pub fits_some : (o : List ℕ) (at : ℕ) (s : List ℕ) → at + length s ≤ length o → bytes_fit o at s ≡ true
unfolding bytes_fit
fits_some o at s h = le-leb (at + length s) (length o) h

pub fits_none : (o : List ℕ) (at : ℕ) (s : List ℕ) → length o < at + length s → bytes_fit o at s ≡ false
unfolding bytes_fit
fits_none o at s h = lt-leb (at + length s) (length o) h

pub stored_some : (o : List ℕ) (at : ℕ) (s : List ℕ) → at + length s ≤ length o → stored o at s ≡ take at o ++ (s ++ drop (at + length s) o)
unfolding stored
stored_some o at s h = rw (fits_some o at s h)

pub stored_none : (o : List ℕ) (at : ℕ) (s : List ℕ) → length o < at + length s → stored o at s ≡ o
unfolding stored
stored_none o at s h = rw (fits_none o at s h)

pub length-stored : (o : List ℕ) (at : ℕ) (s : List ℕ) → length (stored o at s) ≡ length o
unfolding stored bytes_fit
length-stored o at s = go (leb (at + length s) (length o)) refl
  where
    go : (b : Bool) → leb (at + length s) (length o) ≡ b → length (cond b (take at o ++ (s ++ drop (at + length s) o)) o) ≡ length o
    go true e =
        let h = leb-true (at + length s) (length o) e in
        rw (length-append, length-append, length-take-le at o (omega arith), length-drop) (omega arith)
    go false e = refl

-- what stands before it stays
pub take-stored : (o : List ℕ) (at : ℕ) (s : List ℕ) (n : ℕ) → n ≤ at → take n (stored o at s) ≡ take n o
unfolding stored bytes_fit
take-stored o at s n l = go (leb (at + length s) (length o)) refl
  where
    go : (b : Bool) → leb (at + length s) (length o) ≡ b → take n (cond b (take at o ++ (s ++ drop (at + length s) o)) o) ≡ take n o
    go true e =
        let h = leb-true (at + length s) (length o) e in
        rw (take-append-le n (take at o) (s ++ drop (at + length s) o) (rw (length-take-le at o (omega arith)) l)) (take-take n at o l)
    go false e = refl

-- one byte string after another
pub stored-append : (o : List ℕ) (at : ℕ) (s t : List ℕ) → at + length s + length t ≤ length o
    → stored (stored o at s) (at + length s) t ≡ stored o at (s ++ t)
stored-append o at s t h =
    rw (
      stored_some (stored o at s) (at + length s) t (rw (length-stored o at s) h),
      stored_some o at (s ++ t) (rw (length-append s t) (omega arith)),
      stored_some o at s (omega arith),
      ← append_assoc (take at o) s (drop (at + length s) o),
      take_at (take at o ++ s) (drop (at + length s) o) (at + length s) (rw (length-append, length-take-le at o (omega arith))),
      ← drop-drop (length t) (at + length s) (take at o ++ s ++ drop (at + length s) o),
      drop_at (take at o ++ s) (drop (at + length s) o) (at + length s) (rw (length-append, length-take-le at o (omega arith))),
      drop-drop (length t) (at + length s) o,
      length-append s t,
      ← add_assoc at (length s) (length t),
      append_assoc (take at o) s (t ++ drop (at + length s + length t) o),
      append_assoc s t (drop (at + length s + length t) o),
    )

-- a byte string stored after another
pub stored-after : (o : List ℕ) (at : ℕ) (s t : List ℕ) → at + length s + length t ≤ length o → {o1 o2 : List ℕ} {next : ℕ}
    → o1 ≡ stored o at s → next ≡ at + length s → o2 ≡ stored o1 next t → o2 ≡ stored o at (s ++ t)
stored-after o at s t h {next = next} e1 n e2 = e2 ∙ ap (λ z. stored z next t) e1 ∙ ap (λ p. stored (stored o at s) p t) n ∙ stored-append o at s t h

-- a byte string stored before another
pub stored_prepend : (o : List ℕ) (at : ℕ) (s t : List ℕ) → at + length s + length t ≤ length o
    → stored (stored o (at + length s) t) at s ≡ stored o at (s ++ t)
stored_prepend o at s t h =
    rw (
      stored_some (stored o (at + length s) t) at s (rw (length-stored o (at + length s) t) (omega arith)),
      take-stored o (at + length s) t at (omega arith),
      stored_some o at (s ++ t) (rw (length-append s t) (omega arith)),
      stored_some o (at + length s) t h,
      drop_at (take (at + length s) o) (t ++ drop (at + length s + length t) o) (at + length s) (length-take-le (at + length s) o (omega arith)),
      length-append s t,
      ← add_assoc at (length s) (length t),
      append_assoc s t (drop (at + length s + length t) o),
    )

-- what was stored is read back
pub part-stored : (o : List ℕ) (at : ℕ) (s : List ℕ) → at + length s ≤ length o → take (length s) (drop at (stored o at s)) ≡ s
part-stored o at s h =
    ap (λ l. take (length s) (drop at l)) (stored_some o at s h)
    ∙ ap (take (length s)) (drop_at (take at o) (s ++ drop (at + length s) o) at (length-take-le at o (omega arith)))
    ∙ take_at s (drop (at + length s) o) (length s) refl

pub drop-zeros : (n room : ℕ) → drop n (zeros room) ≡ zeros (room - n)
drop-zeros n room = rw (zeros-replicate room, zeros-replicate (room - n)) (go n room)
  where
    go : (n room : ℕ) → drop {A = ℕ} n (replicate room 0) ≡ replicate (room - n) 0
    go zero room = rw (sub-zero room)
    go (suc n) zero = rw (zero-sub (suc n))
    go (suc n) (suc room) = rw (suc-sub-suc room n) (go n room)

-- a byte string stored after what stands, with zeros after it
pub stored-padded : (room : ℕ) (x s : List ℕ) → length x + length s ≤ room → stored (padded room x) (length x) s ≡ padded room (x ++ s)
stored-padded room x s h =
    rw (
      stored_some (padded room x) (length x) s (rw (length-padded room x (omega arith)) h),
      take-padded room x,
      ← drop-drop (length s) (length x) (padded room x),
      drop-padded room x,
      drop-zeros (length s) (room - length x),
      padded-append room (x ++ s),
      length-append x s,
      sub_sub room (length x) (length s),
      append_assoc x s (zeros (room - (length x + length s))),
    )
  where
    sub_sub : (a b c : ℕ) → a - b - c ≡ a - (b + c)
    sub_sub a b c = omega arith

-- a byte string stored over another of its length
pub stored-over : (a b c d : List ℕ) (at : ℕ) → length a ≡ at → length b ≡ length d → stored (a ++ (b ++ c)) at d ≡ a ++ (d ++ c)
stored-over a b c d at e l =
    rw (
      stored_some (a ++ (b ++ c)) at d (rw (length-append a (b ++ c), length-append b c) (omega arith)),
      take_at a (b ++ c) at e,
      ← drop-drop (length d) at (a ++ (b ++ c)),
      drop_at a (b ++ c) at e,
      drop_at b c (length d) l,
    )

-- ---- storing byte by byte

-- `output` is what `old` has become with the first i bytes of s stored from `at` on
pub record Storing (old : List ℕ) (at : ℕ) (s output : List ℕ) (i : ℕ) : Type 0 where
  pub enough : at + length s ≤ length old
  pub within : i ≤ length s
  pub long : length output ≡ length old
  pub holds : output ≡ take at old ++ take i s ++ drop (at + i) old

pub storing_none : (old : List ℕ) (at : ℕ) (s : List ℕ) → at + length s ≤ length old → Storing old at s old 0
storing_none old at s h = record { enough = h; within = omega arith; long = refl; holds = paste-zero old at s }

pub storing_more : (old : List ℕ) (at : ℕ) (s output : List ℕ) (i : ℕ) → Storing old at s output i → i < length s
    → Storing old at s (set output (at + i) (get_or s i 0)) (i + 1)
storing_more old at s output i st l =
    let enough = st.enough in
    record {
      enough = enough;
      within = omega arith;
      long = simp length-set st.long;
      holds = rw (st.holds, paste-suc old at s i 0 (omega arith) l, add-one i);
    }

pub storing_all : (old : List ℕ) (at : ℕ) (s output : List ℕ) (i : ℕ) → Storing old at s output i → length s ≤ i → output ≡ stored old at s
storing_all old at s output i st l =
    let all : i ≡ length s = omega (arith, st.within) in
    rw (st.holds, stored_some old at s st.enough, all, take-length s, append_assoc (take at old) s (drop (at + length s) old))

-- ---- what `put` answers

pub put_none : (o : List ℕ) (at : ℕ) (s : List ℕ) → length o < at + length s → (false ≡ bytes_fit o at s) × (o ≡ stored o at s)
put_none o at s h = (sym (fits_none o at s h), sym (stored_none o at s h))

pub put_all : (o : List ℕ) (at : ℕ) (s output : List ℕ) (i : ℕ) → Storing o at s output i → length s ≤ i → (true ≡ bytes_fit o at s) × (output ≡ stored o at s)
put_all o at s output i st l = (sym (fits_some o at s st.enough), storing_all o at s output i st l)

-- ---- how many bytes were stored

-- where a byte string fits, all its bytes are stored
pub stored_whole : (o : List ℕ) (at : ℕ) (s : List ℕ) → at + length s ≤ length o → {n : ℕ} → n ≡ stored_length o at s → n ≡ length s
unfolding stored_length
stored_whole o at s h e = rw (fits_some o at s h) at e

pub stored_length_some : (o : List ℕ) (at : ℕ) (s : List ℕ) {n : ℕ} → n ≡ stored_length o at s → (n ≡ 0 → ⊥) → (n ≡ length s) × (at + length s ≤ length o)
unfolding stored_length bytes_fit
stored_length_some o at s {n} e some = go (leb (at + length s) (length o)) refl e
  where
    go : (b : Bool) → leb (at + length s) (length o) ≡ b → n ≡ cond b (length s) 0 → (n ≡ length s) × (at + length s ≤ length o)
    go true t f = (f, leb-true (at + length s) (length o) t)
    go false t f = absurd (some f)

pub stored_length_none : (o : List ℕ) (at : ℕ) (s : List ℕ) {n : ℕ} → n ≡ stored_length o at s → n ≡ 0 → 0 < length s → length o < at + length s
unfolding stored_length bytes_fit
stored_length_none o at s {n} e none some = go (leb (at + length s) (length o)) refl e
  where
    go : (b : Bool) → leb (at + length s) (length o) ≡ b → n ≡ cond b (length s) 0 → length o < at + length s
    go true t f = absurd (omega arith)
    go false t f = leb-false (at + length s) (length o) t

pub stored_size_some : (o : List ℕ) (at : ℕ) (s : List ℕ) {n : ℕ} → Some n ≡ stored_size o at s → (n ≡ length s) × (at + length s ≤ length o)
unfolding stored_size bytes_fit
stored_size_some o at s {n} e = go (leb (at + length s) (length o)) refl e
  where
    go : (b : Bool) → leb (at + length s) (length o) ≡ b → Some n ≡ then_some b (length s) → (n ≡ length s) × (at + length s ≤ length o)
    go true t f = (cc, leb-true (at + length s) (length o) t)
    go false t f = cc

pub stored_size_none : (o : List ℕ) (at : ℕ) (s : List ℕ) → None ≡ stored_size o at s → length o < at + length s
unfolding stored_size bytes_fit
stored_size_none o at s e = go (leb (at + length s) (length o)) refl e
  where
    go : (b : Bool) → leb (at + length s) (length o) ≡ b → None ≡ then_some b (length s) → length o < at + length s
    go true t f = cc
    go false t f = leb-false (at + length s) (length o) t
