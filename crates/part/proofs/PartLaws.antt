-- Laws of a part of a byte string.
-- Assumes nothing.
use mathlib.Core.Path.{◌≡◌, refl, sym, ap, ◌∙◌, subst}
use mathlib.Core.List.{List, [], ◌∷◌, ◌++◌}
use Prim.Native.Nat.{ℕ, zero, suc, ◌+◌, ◌-◌, ◌≤◌, ◌<◌}
use native.Mathlib.Nat.{sub-zero, zero-sub, suc-sub-suc, add-sub_cancel_left}
use native.Mathlib.Omega.{arith}
use lib.ListN.{length, take, drop, get_or, length-take, length-drop, drop_of_length-le}
use lib.Seq.{drop-drop, take-take, get_or-take, get_or-drop, take_all, take-add, take-nil}
use Rattle.part.specs.Part.{part}

-- a part has the length that is asked where it lies within
pub length_part : (s : List ℕ) (at n : ℕ) → at + n ≤ length s → length (part s at n) ≡ n
unfolding part
length_part s at n h = simp (length-take, length-drop) (omega arith)

pub part_empty : (s : List ℕ) (at : ℕ) → part s at 0 ≡ []
unfolding part
part_empty s at = refl

-- from the end on nothing is there
pub part_past : (s : List ℕ) (at n : ℕ) → length s ≤ at → part s at n ≡ []
unfolding part
part_past s at n h = ap (take n) (drop_of_length-le s h) ∙ take-nil n

-- the element at an index of a part
pub get_d_part : (s : List ℕ) (at n i : ℕ) → i < n → get_or (part s at n) i 0 ≡ get_or s (at + i) 0
unfolding part
get_d_part s at n i h = get_or-take n (drop at s) i 0 h ∙ get_or-drop at s i 0

-- dropping from what comes before an end
pub drop-take : (a e : ℕ) (l : List ℕ) → drop a (take e l) ≡ take (e - a) (drop a l)
drop-take zero e l = rw (sub-zero e)
drop-take (suc a) zero l = rw (zero-sub (suc a))
drop-take (suc a) (suc e) [] = sym (take-nil (suc e - suc a))
drop-take (suc a) (suc e) (x ∷ l) = rw (suc-sub-suc e a) (drop-take a e l)

-- a part of what comes before an end
pub part-take : (s : List ℕ) (end at n : ℕ) → at + n ≤ end → part (take end s) at n ≡ part s at n
unfolding part
part-take s end at n h = ap (take n) (drop-take at end s) ∙ take-take n (end - at) (drop at s) (omega arith)

-- byte strings that agree up to an end agree on the parts before it
pub part_front : (s t : List ℕ) (end : ℕ) → take end s ≡ take end t → (at n : ℕ) → at + n ≤ end → part s at n ≡ part t at n
part_front s t end same at n h = sym (part-take s end at n h) ∙ ap (λ (l : List ℕ). part l at n) same ∙ part-take t end at n h

-- a part that runs to the end is what is left
pub part_rest : (s : List ℕ) (at n : ℕ) → length s ≤ at + n → part s at n ≡ drop at s
unfolding part
part_rest s at n h = take_all n (drop at s) (simp length-drop (omega arith))

-- a part of a part
pub part-part : (s : List ℕ) (at n i m : ℕ) → i + m ≤ n → part (part s at n) i m ≡ part s (at + i) m
unfolding part
part-part s at n i m h = ap (take m) (drop-take i n (drop at s)) ∙ take-take m (n - i) (drop i (drop at s)) (omega arith) ∙ ap (take m) (drop-drop i at s)

-- two parts side by side
pub part-add : (s : List ℕ) (at n m : ℕ) → part s at (n + m) ≡ part s at n ++ part s (at + n) m
unfolding part
part-add s at n m = take-add n m (drop at s) ∙ ap (λ (l : List ℕ). take n (drop at s) ++ take m l) (drop-drop n at s)

-- byte strings that agree on a part agree on the parts within it
pub part-within : (s t : List ℕ) (at n i m : ℕ) → i + m ≤ n → part s at n ≡ part t at n → part s (at + i) m ≡ part t (at + i) m
part-within s t at n i m h e = sym (part-part s at n i m h) ∙ ap (λ (l : List ℕ). part l i m) e ∙ part-part t at n i m h

-- and on each byte of it
pub get_or-within : (s t : List ℕ) (at n i : ℕ) → i < n → part s at n ≡ part t at n → get_or s (at + i) 0 ≡ get_or t (at + i) 0
get_or-within s t at n i h e = sym (get_d_part s at n i h) ∙ ap (λ (l : List ℕ). get_or l i 0) e ∙ get_d_part t at n i h

-- the whole
pub part_whole : (s : List ℕ) → part s 0 (length s) ≡ s
unfolding part
part_whole s = take_all (length s) s (omega arith)

-- byte strings that agree from an offset on agree from every later one on
pub drop_later : (s t : List ℕ) (at later : ℕ) → at ≤ later → drop at s ≡ drop at t → drop later s ≡ drop later t
drop_later s t at later h e = twice s ∙ ap (drop (later - at)) e ∙ sym (twice t)
  where
    sum : later ≡ at + (later - at)
    sum = omega arith

    twice : (l : List ℕ) → drop later l ≡ drop (later - at) (drop at l)
    twice l = ap (λ (k : ℕ). drop k l) sum ∙ sym (drop-drop (later - at) at l)

pub part_later : (s t : List ℕ) (at later n : ℕ) → at ≤ later → drop at s ≡ drop at t → part s later n ≡ part t later n
unfolding part
part_later s t at later n h e = ap (take n) (drop_later s t at later h e)

-- agreement on a part gives agreement at any offsets inside it
module _ (s t : List ℕ) (at n : ℕ) (e : part s at n ≡ part t at n) where
  pub part_inside : (a m : ℕ) → at ≤ a → a + m ≤ at + n → part s a m ≡ part t a m
  part_inside a m h k = subst (λ (b : ℕ). part s b m ≡ part t b m) sum (part-within s t at n (a - at) m (omega arith) e)
    where
      sum : at + (a - at) ≡ a
      sum = omega arith

  pub get_or_inside : (a : ℕ) → at ≤ a → a < at + n → get_or s a 0 ≡ get_or t a 0
  get_or_inside a h k = subst (λ (b : ℕ). get_or s b 0 ≡ get_or t b 0) sum (get_or-within s t at n (a - at) (omega arith) e)
    where
      sum : at + (a - at) ≡ a
      sum = omega arith

-- ---- a part as code lends it

-- from a start to an end
pub lent_part : (s : List ℕ) (at n : ℕ) → take (at + n - at) (drop at s) ≡ part s at n
unfolding part
lent_part s at n = ap (λ (k : ℕ). take k (drop at s)) (add-sub_cancel_left at n)

-- to the end of the byte string
pub lent_drop : (s : List ℕ) (at : ℕ) → take (length s - at) (drop at s) ≡ drop at s
lent_drop s at = take_all (length s - at) (drop at s) (simp length-drop (omega arith))

pub lent_rest : (s : List ℕ) (at n : ℕ) → length s ≤ at + n → take (length s - at) (drop at s) ≡ part s at n
lent_rest s at n h = lent_drop s at ∙ sym (part_rest s at n h)
