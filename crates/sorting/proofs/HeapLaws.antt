-- The laws of heaps, over the byte string `f k` of each slot k.
-- Assumes nothing.
use Prim.Native.Nat.{ℕ, zero, suc, ◌+◌, ◌*◌, ◌-◌, ◌/◌, ◌≤◌, ◌<◌}
use native.Mathlib.Omega.{arith}
use mathlib.Core.Path.{◌≡◌, refl, sym, ap, ◌∙◌}
use mathlib.Core.Logic.{◌⊎◌, inl, inr}
use mathlib.Core.Bool.{Bool, true, false}
use mathlib.Core.List.{List}
use lib.ListN.{length, get_or, set, length-set}
use lib.Seq.{get_or-set_same, get_or-set_other}
use Rattle.byte_string.specs.Order.{at_most}
use Rattle.byte_string.proofs.OrderLaws.{Ways, ways, at_most_refl, at_most_trans}
use Rattle.sorting.specs.Sorting.{Permutation, trans}
use Rattle.sorting.specs.Heap.{keys, Below, Le, Heap, Larger, swapped, Swaps, still, exchange}
use Rattle.sorting.proofs.PermutationLaws.{permutation_refl, permutation_swapped}
use Rattle.sorting.proofs.SortedLaws.{turned}

-- the same or not
abbrev Either : ℕ → ℕ → Type 0
Either a b = (a ≡ b) ⊎ (a ≡ b → ⊥)

either : (a b : ℕ) → Either a b
either a b = go (ways a b)
  where
    go : Ways a b → Either a b
    go (inl h) = inr (λ e. omega arith)
    go (inr (inl e)) = inl e
    go (inr (inr h)) = inr (λ e. omega arith)

-- Two slots exchanged.

pub record Exchanged (f g : ℕ → List ℕ) (i j : ℕ) : Type 0 where
  pub left : g i ≡ f j
  pub right : g j ≡ f i
  pub other : (k : ℕ) → (k ≡ i → ⊥) → (k ≡ j → ⊥) → g k ≡ f k

pub length-swapped : (i j : ℕ) (xs : List ℕ) → length (swapped i j xs) ≡ length xs
unfolding swapped
length-swapped i j xs = simp length-set

module _ (i j : ℕ) (xs : List ℕ) (h : i < length xs) (k : j < length xs) where
  swapped_right : get_or (swapped i j xs) j 0 ≡ get_or xs i 0
  unfolding swapped
  swapped_right = get_or-set_same (set xs i (get_or xs j 0)) j (get_or xs i 0) 0 (simp length-set k)

  swapped_left : get_or (swapped i j xs) i 0 ≡ get_or xs j 0
  unfolding swapped
  swapped_left = go (either i j)
    where
      go : Either i j → get_or (set (set xs i (get_or xs j 0)) j (get_or xs i 0)) i 0 ≡ get_or xs j 0
      go (inl e) = rw e (get_or-set_same (set xs j (get_or xs j 0)) j (get_or xs j 0) 0 (simp length-set k))
      go (inr n) = get_or-set_other (set xs i (get_or xs j 0)) j i (get_or xs i 0) 0 n ∙ get_or-set_same xs i (get_or xs j 0) 0 h

  swapped_other : (n : ℕ) → (n ≡ i → ⊥) → (n ≡ j → ⊥) → get_or (swapped i j xs) n 0 ≡ get_or xs n 0
  unfolding swapped
  swapped_other n p q = get_or-set_other (set xs i (get_or xs j 0)) j n (get_or xs i 0) 0 q ∙ get_or-set_other xs i n (get_or xs j 0) 0 p

  pub exchanged : (key : ℕ → List ℕ) → Exchanged (keys key xs) (keys key (swapped i j xs)) i j
  unfolding keys
  exchanged key = record {
    left = ap key swapped_left;
    right = ap key swapped_right;
    other = λ n p q. ap key (swapped_other n p q);
  }

-- Sifting down: a heap but for slot h, above which all is at least what stands below h.

pub record Holed (f : ℕ → List ℕ) (s e h : ℕ) : Type 0 where
  pub from : s ≤ h
  pub most : (p c : ℕ) → s ≤ p → (p ≡ h → ⊥) → Below p c → c < e → Le f c p
  pub over : (p c : ℕ) → s ≤ p → Below p h → Below h c → c < e → Le f c p

pub holed_start : (f : ℕ → List ℕ) (s e : ℕ) → Heap f (s + 1) e → Holed f s e s
holed_start f s e h = record {
  from = omega arith;
  most = λ p c a n b k. h p c (go p a n (ways p s)) b k;
  over = λ p c a b d k. absurd (omega arith);
}
  where
    go : (p : ℕ) → s ≤ p → (p ≡ s → ⊥) → Ways p s → s + 1 ≤ p
    go p a n (inl w) = absurd (omega arith)
    go p a n (inr (inl w)) = absurd (n w)
    go p a n (inr (inr w)) = omega arith

-- no slot is below h, or none is larger
pub holed_last : (f : ℕ → List ℕ) (s e h : ℕ) → e ≤ 2 * h + 1 → Holed f s e h → Heap f s e
holed_last f s e h l o p c a b k = go (either p h)
  where
    go : Either p h → Le f c p
    go (inl e) = absurd (omega arith)
    go (inr n) = o.most p c a n b k

pub holed_stop : (f : ℕ → List ℕ) (s e h m : ℕ) → Larger f h e m → Le f m h → Holed f s e h → Heap f s e
holed_stop f s e h m l u o p c a b k = go (either p h)
  where
    go : Either p h → Le f c p
    go (inl q) = rw q (at_most_trans (f c) (f m) (f h) (l.most c (rw q at b) k) u)
    go (inr n) = o.most p c a n b k

module _ (f g : ℕ → List ℕ) (s e h m : ℕ) (x : Exchanged f g h m) (l : Larger f h e m) (u : Le f h m) (o : Holed f s e h) where
  step_most : (p c : ℕ) → s ≤ p → (p ≡ m → ⊥) → Below p c → c < e → Le g c p
  step_most p c a n b k = go (either p h) (either c m) (either c h)
    where
      down : Below h m
      down = l.below

      go : Either p h → Either c m → Either c h → Le g c p
      go (inl q) (inl r) v = rw (q, r, x.right, x.left) u
      go (inl q) (inr r) v =
          let b : Below h c = rw q at b in
          rw (q, x.left, x.other c (λ z. omega arith) r) (l.most c b k)
      go (inr q) (inl r) v = absurd (q (omega arith))
      go (inr q) (inr r) (inl v) = rw (v, x.left, x.other p q n) (o.over p m a (rw v at b) l.below l.within)
      go (inr q) (inr r) (inr v) = rw (x.other c v r, x.other p q n) (o.most p c a q b k)

  step_over : (p c : ℕ) → s ≤ p → Below p m → Below m c → c < e → Le g c p
  step_over p c a b d k =
      let down : Below h m = l.below in
      let q : p ≡ h = omega arith in
      let s-m : s ≤ m = omega (arith, o.from) in
      rw (q, x.left, x.other c (λ z. omega arith) (λ z. omega arith)) (o.most m c s-m (λ z. omega arith) d k)

  pub holed_step : Holed g s e m
  holed_step =
      let down : Below h m = l.below in
      record { from = omega (arith, o.from); most = step_most; over = step_over }

-- The top of a heap is the most.

root_by : (f : ℕ → List ℕ) (e : ℕ) → Heap f 0 e → (n i : ℕ) → i ≤ n → i < e → Le f i 0
root_by f e h zero i l k = let z : i ≡ 0 = omega arith in rw z (at_most_refl (f 0))
root_by f e h (suc n) i l k = go (ways i 0) (root_by f e h n)
  where
    go : Ways i 0 → ((i : ℕ) → i ≤ n → i < e → Le f i 0) → Le f i 0
    go (inl w) ih = absurd (omega arith)
    go (inr (inl w)) ih = rw w (at_most_refl (f 0))
    go (inr (inr w)) ih =
        at_most_trans (f i) (f ((i - 1) / 2)) (f 0)
        (h ((i - 1) / 2) i (omega arith) (record { low = omega arith; high = omega arith }) k)
        (ih ((i - 1) / 2) (omega arith) (omega arith))

root_most : (f : ℕ → List ℕ) (e : ℕ) → Heap f 0 e → (i : ℕ) → i < e → Le f i 0
root_most f e h i k = root_by f e h i i (omega arith) k

-- Taking the heap down: each slot from e on is at least all before it.

abbrev pub Tail : (ℕ → List ℕ) → ℕ → ℕ → Type 0
Tail f e n = (i k : ℕ) → i ≤ k → e ≤ k → k < n → Le f i k

tail_exchanged : (f g : ℕ → List ℕ) (i j e n : ℕ) → Exchanged f g i j → i < e → j < e → Tail f e n → Tail g e n
tail_exchanged f g i j e n x a b t u k l m v = rw (x.other k (λ z. omega arith) (λ z. omega arith)) (go (either u i) (either u j))
  where
    go : Either u i → Either u j → at_most (g u) (f k) ≡ true
    go (inl q) r = rw (q, x.left) (t j k (omega arith) m v)
    go (inr q) (inl r) = rw (r, x.right) (t i k (omega arith) m v)
    go (inr q) (inr r) = rw (x.other u q r) (t u k l m v)

pub tail_more : (f g : ℕ → List ℕ) (e n : ℕ) → Exchanged f g 0 e → Heap f 0 (e + 1) → Tail f (e + 1) n → Tail g e n
tail_more f g e n x h t u k l m v = go (either k e)
  where
    top : Either u 0 → Either u e → u ≤ e → at_most (g u) (f 0) ≡ true
    top (inl q) r z = rw (q, x.left) (root_most f (e + 1) h e (omega arith))
    top (inr q) (inl r) z = rw (r, x.right) (at_most_refl (f 0))
    top (inr q) (inr r) z = rw (x.other u q r) (root_most f (e + 1) h u (omega arith))

    go : Either k e → Le g u k
    go (inl q) = rw (q, x.right) (top (either u 0) (either u e) (omega arith))
    go (inr q) = tail_exchanged f g 0 e (e + 1) n x (omega arith) (omega arith) t u k l (past (ways k e)) v
      where
        past : Ways k e → e + 1 ≤ k
        past (inl w) = absurd (omega arith)
        past (inr (inl w)) = absurd (q w)
        past (inr (inr w)) = omega arith

-- the slots between the top and the last are as they were
pub heap_exchanged : (f g : ℕ → List ℕ) (e : ℕ) → Exchanged f g 0 e → Heap f 0 (e + 1) → Heap g 1 e
heap_exchanged f g e x h p c a b k =
    rw (x.other c (λ z. omega arith) (λ z. omega arith), x.other p (λ z. omega arith) (λ z. omega arith))
    (h p c (omega arith) b (omega arith))

-- Exchanges.

module _ {n : ℕ} where
  pub swaps_length : {xs ys : List ℕ} → Swaps n xs ys → length ys ≡ length xs
  swaps_length still = refl
  swaps_length (exchange {xs} {ys} i j a b l s) = length-swapped i j ys ∙ swaps_length s

  pub swaps_permutation : {xs ys : List ℕ} → Swaps n xs ys → Permutation ys xs
  swaps_permutation {xs} still = permutation_refl xs
  swaps_permutation (exchange {xs} {ys} i j a b l s) = trans (permutation_swapped i j ys (omega arith) (omega arith)) (swaps_permutation s)

  pub swaps_trans : {xs ys zs : List ℕ} → Swaps n xs ys → Swaps n ys zs → Swaps n xs zs
  swaps_trans s still = s
  swaps_trans s (exchange i j a b l t) = exchange i j a b l (swaps_trans s t)

  pub swaps_tail : (key : ℕ → List ℕ) (m : ℕ) {xs ys : List ℕ} → Swaps n xs ys → Tail (keys key xs) n m → Tail (keys key ys) n m
  swaps_tail key m still t = t
  swaps_tail key m (exchange {xs} {ys} i j a b l s) t =
      tail_exchanged (keys key ys) (keys key (swapped i j ys)) i j n m
      (exchanged i j ys (omega arith) (omega arith) key) a b (swaps_tail key m s t)

-- The larger slot below p: the only one, or the one that the comparison finds.

below_two : (p c : ℕ) → Below p c → (c ≡ 2 * p + 1) ⊎ (c ≡ 2 * p + 1 + 1)
below_two p c b = go (either c (2 * p + 1))
  where
    go : Either c (2 * p + 1) → (c ≡ 2 * p + 1) ⊎ (c ≡ 2 * p + 1 + 1)
    go (inl e) = inl e
    go (inr n) = inr (other (ways c (2 * p + 1)))
      where
        other : Ways c (2 * p + 1) → c ≡ 2 * p + 1 + 1
        other (inl w) = absurd (omega arith)
        other (inr (inl w)) = absurd (n w)
        other (inr (inr w)) = omega arith

module _ (f : ℕ → List ℕ) (p end : ℕ) (h : 2 * p + 1 < end) where
  pub larger_only : end ≤ 2 * p + 1 + 1 → Larger f p end (2 * p + 1)
  larger_only l = record {
    below = record { low = omega arith; high = omega arith };
    within = h;
    most = λ c b k. let q : c ≡ 2 * p + 1 = omega arith in rw q (at_most_refl (f (2 * p + 1)));
  }

  pub larger_right : (test : Bool) → 2 * p + 1 + 1 < end → test ≡ at_most (f (2 * p + 1)) (f (2 * p + 1 + 1)) → test ≡ true
      → Larger f p end (2 * p + 1 + 1)
  larger_right test l u v = record {
    below = record { low = omega arith; high = omega arith };
    within = l;
    most = λ c b k. go c (below_two p c b);
  }
    where
      go : (c : ℕ) → (c ≡ 2 * p + 1) ⊎ (c ≡ 2 * p + 1 + 1) → Le f c (2 * p + 1 + 1)
      go c (inl q) = rw q (sym u ∙ v)
      go c (inr q) = rw q (at_most_refl (f (2 * p + 1 + 1)))

  pub larger_left : (test : Bool) → test ≡ at_most (f (2 * p + 1)) (f (2 * p + 1 + 1)) → test ≡ false → Larger f p end (2 * p + 1)
  larger_left test u v = record {
    below = record { low = omega arith; high = omega arith };
    within = h;
    most = λ c b k. go c (below_two p c b);
  }
    where
      go : (c : ℕ) → (c ≡ 2 * p + 1) ⊎ (c ≡ 2 * p + 1 + 1) → Le f c (2 * p + 1)
      go c (inl q) = rw q (at_most_refl (f (2 * p + 1)))
      go c (inr q) = rw q (turned (f (2 * p + 1)) (f (2 * p + 1 + 1)) (sym u ∙ v))
