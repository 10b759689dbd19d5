-- The laws of the loops that sift down, build a heap and take it down, over the numbers in the slots and any byte strings that they stand for.
-- Assumes nothing.
use Prim.Native.Nat.{ℕ, suc, ◌+◌, ◌-◌, ◌/◌, ◌≤◌, ◌<◌}
use native.Mathlib.Omega.{arith}
use mathlib.Core.Path.{◌≡◌, refl, sym, ◌∙◌}
use mathlib.Core.Bool.{Bool, true, false}
use mathlib.Core.List.{List, map}
use lib.ListN.{length, get_or, set}
use Rattle.byte_string.specs.Order.{at_most}
use Rattle.byte_string.specs.Rising.{rising}
use Rattle.sorting.specs.Sorting.{Permutation, trans, Sorted}
use Rattle.sorting.specs.Heap.{keys, Below, Heap, Larger, swapped, Swaps, still, exchange, Sifted}
use Rattle.sorting.proofs.PermutationLaws.{permutation_refl, permutation_swapped, permutation_map}
use Rattle.sorting.proofs.SortedLaws.{sorted_unique, rising_of, turned}
use Rattle.sorting.proofs.HeapLaws.{Exchanged, length-swapped, exchanged, Holed, holed_start, holed_last, holed_stop, holed_step}
use Rattle.sorting.proofs.HeapLaws.{Tail, tail_more, heap_exchanged, swaps_length, swaps_permutation, swaps_trans, swaps_tail}

-- two loads and two stores are an exchange
pub swapped_of : (xs ys zs : List ℕ) (i j x y : ℕ) → x ≡ get_or xs i 0 → y ≡ get_or xs j 0 → ys ≡ set xs i y → zs ≡ set ys j x
    → zs ≡ swapped i j xs
unfolding swapped
swapped_of xs ys zs i j x y p q r s = s ∙ rw (r, p, q)

-- two loads and a comparison
pub at_most_of : (key : ℕ → List ℕ) (xs : List ℕ) (a b x y : ℕ) (test : Bool) → x ≡ get_or xs a 0 → y ≡ get_or xs b 0
    → test ≡ at_most (key x) (key y) → test ≡ at_most (keys key xs a) (keys key xs b)
unfolding keys
at_most_of key xs a b x y test p q e = e ∙ rw (p, q)

-- The loop that sifts down.

pub record Sifting (key : ℕ → List ℕ) (start end : ℕ) (before after : List ℕ) (hole : ℕ) : Type 0 where
  pub swaps : Swaps end before after
  pub size : length after ≡ length before
  pub within : end ≤ length before
  pub holed : Holed (keys key after) start end hole

pub sifting_start : (key : ℕ → List ℕ) (start end : ℕ) (xs : List ℕ) → end ≤ length xs → Heap (keys key xs) (start + 1) end
    → Sifting key start end xs xs start
sifting_start key start end xs l h = record { swaps = still; size = refl; within = l; holed = holed_start (keys key xs) start end h }

module _ (key : ℕ → List ℕ) (start end : ℕ) (xs ys : List ℕ) (hole : ℕ) (s : Sifting key start end xs ys hole) where
  pub sifting_last : end / 2 ≤ hole → Sifted key start end xs ys
  sifting_last l = record { swaps = s.swaps; heap = holed_last (keys key ys) start end hole (omega arith) s.holed }

  pub sifting_stop : (m : ℕ) (test : Bool) → Larger (keys key ys) hole end m → test ≡ at_most (keys key ys m) (keys key ys hole) → test ≡ true
      → Sifted key start end xs ys
  sifting_stop m test l u v = record { swaps = s.swaps; heap = holed_stop (keys key ys) start end hole m l (sym u ∙ v) s.holed }

  pub sifting_more : (m : ℕ) (test : Bool) (zs : List ℕ) → Larger (keys key ys) hole end m
      → test ≡ at_most (keys key ys m) (keys key ys hole) → test ≡ false → zs ≡ swapped hole m ys → Sifting key start end xs zs m
  sifting_more m test zs l u v e =
      let down : Below hole m = l.below in
      let a : hole < end = omega (arith, l.within) in
      let long : end ≤ length ys = omega (arith, s.size, s.within) in
      rw e (record {
        swaps = exchange hole m a l.within long s.swaps;
        size = length-swapped hole m ys ∙ s.size;
        within = s.within;
        holed =
            holed_step (keys key ys) (keys key (swapped hole m ys)) start end hole m
            (exchanged hole m ys (omega arith) (omega (arith, l.within)) key) l
            (turned (keys key ys m) (keys key ys hole) (sym u ∙ v)) s.holed;
      })

-- The loop that builds a heap, of n slots.

pub record Building (key : ℕ → List ℕ) (n : ℕ) (before after : List ℕ) (start : ℕ) : Type 0 where
  pub count : n ≡ length before
  pub size : length after ≡ length before
  pub swaps : Swaps n before after
  pub heap : Heap (keys key after) start n

pub building_start : (key : ℕ → List ℕ) (n : ℕ) (xs : List ℕ) → n ≡ length xs → Building key n xs xs (n / 2)
building_start key n xs e = record { count = e; size = refl; swaps = still; heap = λ p c a b k. absurd (omega arith) }

module _ (key : ℕ → List ℕ) (n : ℕ) (xs ys : List ℕ) (start : ℕ) (b : Building key n xs ys start) where
  pub building_heap : 0 < start → Heap (keys key ys) (start - 1 + 1) n
  building_heap l = let e : start - 1 + 1 ≡ start = omega arith in rw e b.heap

  pub building_more : (zs : List ℕ) → Sifted key (start - 1) n ys zs → Building key n xs zs (start - 1)
  building_more zs s = record {
    count = b.count;
    size = swaps_length s.swaps ∙ b.size;
    swaps = swaps_trans b.swaps s.swaps;
    heap = s.heap;
  }

  pub building_last : start ≤ 0 → Sifted key 0 (length xs) xs ys
  building_last l =
      let e : start ≡ 0 = omega arith in
      let sifted : Sifted key start n xs ys = record { swaps = b.swaps; heap = b.heap } in
      rw (e, b.count) at sifted

-- The loop that takes the heap down.

pub record Taking (key : ℕ → List ℕ) (before after : List ℕ) (end : ℕ) : Type 0 where
  pub same : Permutation after before
  pub size : length after ≡ length before
  pub within : end ≤ length after
  pub heap : Heap (keys key after) 0 end
  pub tail : Tail (keys key after) end (length after)

pub taking_start : (key : ℕ → List ℕ) (n : ℕ) (xs ys : List ℕ) → n ≡ length ys → Sifted key 0 (length xs) xs ys → Taking key ys ys n
taking_start key n xs ys e s =
    let long : n ≡ length xs = e ∙ swaps_length s.swaps in
    let heap : Heap (keys key ys) 0 n = rw long s.heap in
    record { same = permutation_refl ys; size = refl; within = omega arith; heap = heap; tail = λ i k l m v. absurd (omega arith) }

module _ (key : ℕ → List ℕ) (xs ys : List ℕ) (end : ℕ) (l : 1 < end) (t : Taking key xs ys end) where
  last : end - 1 < length ys
  last = omega (arith, t.within)

  out : Exchanged (keys key ys) (keys key (swapped 0 (end - 1) ys)) 0 (end - 1)
  out = exchanged 0 (end - 1) ys (omega (arith, last)) last key

  whole : Heap (keys key ys) 0 (end - 1 + 1)
  whole = let e : end - 1 + 1 ≡ end = omega arith in rw e t.heap

  rest : Tail (keys key ys) (end - 1 + 1) (length ys)
  rest = let e : end - 1 + 1 ≡ end = omega arith in rw e t.tail

  pub taking_within : (zs : List ℕ) → zs ≡ swapped 0 (end - 1) ys → end - 1 ≤ length zs
  taking_within zs e = rw (e, length-swapped 0 (end - 1) ys) (omega (arith, last))

  pub taking_heap : (zs : List ℕ) → zs ≡ swapped 0 (end - 1) ys → Heap (keys key zs) (0 + 1) (end - 1)
  taking_heap zs e = rw e (heap_exchanged (keys key ys) (keys key (swapped 0 (end - 1) ys)) (end - 1) out whole)

  pub taking_more : (zs us : List ℕ) → zs ≡ swapped 0 (end - 1) ys → Sifted key 0 (end - 1) zs us → Taking key xs us (end - 1)
  taking_more zs us e s =
      let long-zs : length zs ≡ length ys = rw e (length-swapped 0 (end - 1) ys) in
      let long-us : length us ≡ length ys = swaps_length s.swaps ∙ long-zs in
      let same-zs : Permutation zs ys = rw e (permutation_swapped 0 (end - 1) ys (omega (arith, last)) last) in
      let tail-zs : Tail (keys key zs) (end - 1) (length ys) =
      rw e (tail_more (keys key ys) (keys key (swapped 0 (end - 1) ys)) (end - 1) (length ys) out whole rest) in
      record {
        same = trans (swaps_permutation s.swaps) (trans same-zs t.same);
        size = long-us ∙ t.size;
        within = omega (arith, last);
        heap = s.heap;
        tail = rw long-us (swaps_tail key (length ys) s.swaps tail-zs);
      }

pub taking_last : (key : ℕ → List ℕ) (xs ys zs : List ℕ) (end : ℕ) → end ≤ 1 → Sifted key 0 (length xs) xs ys → Taking key ys zs end
    → Sorted key xs zs
unfolding keys
taking_last key xs ys zs end l s t =
    let rises : rising (map key zs) ≡ true = rising_of key zs (λ k v. t.tail k (suc k) (omega arith) (omega arith) v) in
    let same : Permutation zs xs = trans t.same (swaps_permutation s.swaps) in
    record { same = same; strings = sorted_unique (map key xs) (map key zs) (permutation_map key same) rises }
