-- The laws of `agreeing`: where two lists part, and what the answers are by what stands there.
-- Assumes nothing.
use Prim.Native.Nat.{ℕ, zero, suc, min, ◌+◌, ◌-◌, ◌≤◌, ◌<◌, zero-le, suc-le-suc}
use native.Mathlib.Nat.{zero-add, not-suc-le-zero}
use native.Mathlib.Numerals.{add-one}
use native.Mathlib.Omega.{arith}
use mathlib.Core.Path.{◌≡◌, refl, sym, ap, ◌∙◌}
use mathlib.Core.Logic.{◌⊎◌, inl, inr}
use mathlib.Core.Bool.{◌&&◌}
use mathlib.Core.List.{List, [], ◌∷◌, ◌++◌}
use lib.Dec.{eqb, ltb, leb, leb-zero, leb-suc-zero, leb-suc-suc}
use lib.ListN.{length, length-append, length-drop, get_or, take, drop, drop_of_length-le}
use lib.Seq.{take_all, take-append_seam, drop-append_seam, drop-cons, drop-drop, get_or-take}
use borrow.Author.Tests.{eq-eqb, ne_eqb}
use Rattle.std.proofs.Common.{Less, Equal, Greater, Option, Some, None}
use Rattle.std.specs.Option.{is_some, unwrap_or, option_map, option_cmp}
use Rattle.std.specs.Borrow.{Bor}
use Rattle.std.proofs.Common.{Bool, true, false, cond, take_while, zip, ◌==◌}
use Rattle.std.specs.List.{prefix_len}
use Rattle.std.proofs.lemmas.List.Folds.{length-prefix_len}
use Rattle.std.specs.Ordering.{nat_cmp}
use Rattle.std.proofs.lemmas.Bool.Decides.{nat_tests}
use Rattle.byte_string.specs.Order.{order, begins, agreeing}
use Rattle.byte_string.proofs.OrderLaws.{cmp_lt, cmp_gt, Ways, ways, order_below, order_same, order_above}

-- A first element on both sides, and on one.

pub agreeing-same : (a b : ℕ) (x y : List ℕ) → a ≡ b → agreeing (a ∷ x) (b ∷ y) ≡ suc (agreeing x y)
unfolding agreeing
agreeing-same a b x y e = rw (eq-eqb a b e)

pub agreeing_differ : (a b : ℕ) (x y : List ℕ) → (a ≡ b → ⊥) → agreeing (a ∷ x) (b ∷ y) ≡ 0
unfolding agreeing
agreeing_differ a b x y n = rw (ne_eqb a b n)

pub agreeing_nil_left : (y : List ℕ) → agreeing [] y ≡ 0
unfolding agreeing
agreeing_nil_left y = refl

pub agreeing_nil_right : (x : List ℕ) → agreeing x [] ≡ 0
unfolding agreeing
agreeing_nil_right [] = refl
agreeing_nil_right (a ∷ x) = refl

-- the same or not
pub same_or_not : (a b : ℕ) → (a ≡ b) ⊎ (a ≡ b → ⊥)
same_or_not a b = go (ways a b)
  where
    go : Ways a b → (a ≡ b) ⊎ (a ≡ b → ⊥)
    go (inl h) = inr (λ e. omega arith)
    go (inr (inl e)) = inl e
    go (inr (inr h)) = inr (λ e. omega arith)

-- The place at which two lists part.

pub agreeing_comm : (x y : List ℕ) → agreeing x y ≡ agreeing y x
agreeing_comm [] y = agreeing_nil_left y ∙ sym (agreeing_nil_right y)
agreeing_comm (a ∷ x) [] = agreeing_nil_right (a ∷ x) ∙ sym (agreeing_nil_left (a ∷ x))
agreeing_comm (a ∷ x) (b ∷ y) = go (agreeing_comm x y) (same_or_not a b)
  where
    go : agreeing x y ≡ agreeing y x → (a ≡ b) ⊎ (a ≡ b → ⊥) → agreeing (a ∷ x) (b ∷ y) ≡ agreeing (b ∷ y) (a ∷ x)
    go ih (inl e) = agreeing-same a b x y e ∙ ap suc ih ∙ sym (agreeing-same b a y x (sym e))
    go ih (inr n) = agreeing_differ a b x y n ∙ sym (agreeing_differ b a y x (λ e. n (sym e)))

pub agreeing-length_left : (x y : List ℕ) → agreeing x y ≤ length x
agreeing-length_left [] y = rw (agreeing_nil_left y) zero-le
agreeing-length_left (a ∷ x) [] = rw (agreeing_nil_right (a ∷ x)) zero-le
agreeing-length_left (a ∷ x) (b ∷ y) = go (agreeing-length_left x y) (same_or_not a b)
  where
    go : agreeing x y ≤ length x → (a ≡ b) ⊎ (a ≡ b → ⊥) → agreeing (a ∷ x) (b ∷ y) ≤ suc (length x)
    go ih (inl e) = rw (agreeing-same a b x y e) (suc-le-suc ih)
    go ih (inr n) = rw (agreeing_differ a b x y n) zero-le

pub agreeing-length_right : (x y : List ℕ) → agreeing x y ≤ length y
agreeing-length_right x y = rw (agreeing_comm x y) (agreeing-length_left y x)

-- up to there they agree
pub agreeing-take : (x y : List ℕ) → take (agreeing x y) x ≡ take (agreeing x y) y
agreeing-take [] y = rw (agreeing_nil_left y)
agreeing-take (a ∷ x) [] = rw (agreeing_nil_right (a ∷ x))
agreeing-take (a ∷ x) (b ∷ y) = go (agreeing-take x y) (same_or_not a b)
  where
    go : take (agreeing x y) x ≡ take (agreeing x y) y → (a ≡ b) ⊎ (a ≡ b → ⊥)
        → take (agreeing (a ∷ x) (b ∷ y)) (a ∷ x) ≡ take (agreeing (a ∷ x) (b ∷ y)) (b ∷ y)
    go ih (inl e) = rw (agreeing-same a b x y e) (cc)
    go ih (inr n) = rw (agreeing_differ a b x y n)

pub agreeing_at : (x y : List ℕ) (k : ℕ) → k < agreeing x y → get_or x k 0 ≡ get_or y k 0
agreeing_at x y k h =
    sym (get_or-take (agreeing x y) x k 0 h) ∙ ap (λ (l : List ℕ). get_or l k 0) (agreeing-take x y) ∙ get_or-take (agreeing x y) y k 0 h

-- from there on they agree in nothing
pub agreeing-drop : (x y : List ℕ) → agreeing (drop (agreeing x y) x) (drop (agreeing x y) y) ≡ 0
agreeing-drop [] y = rw (agreeing_nil_left y) (agreeing_nil_left y)
agreeing-drop (a ∷ x) [] = rw (agreeing_nil_right (a ∷ x)) (agreeing_nil_right (a ∷ x))
agreeing-drop (a ∷ x) (b ∷ y) = go (agreeing-drop x y) (same_or_not a b)
  where
    go : agreeing (drop (agreeing x y) x) (drop (agreeing x y) y) ≡ 0 → (a ≡ b) ⊎ (a ≡ b → ⊥)
        → agreeing (drop (agreeing (a ∷ x) (b ∷ y)) (a ∷ x)) (drop (agreeing (a ∷ x) (b ∷ y)) (b ∷ y)) ≡ 0
    go ih (inl e) = rw (agreeing-same a b x y e) ih
    go ih (inr n) = rw (agreeing_differ a b x y n) (agreeing_differ a b x y n)

-- only what stands from there on counts in the order
pub order-drop : (x y : List ℕ) → order x y ≡ order (drop (agreeing x y) x) (drop (agreeing x y) y)
order-drop [] y = rw (agreeing_nil_left y)
order-drop (a ∷ x) [] = rw (agreeing_nil_right (a ∷ x))
order-drop (a ∷ x) (b ∷ y) = go (order-drop x y) (same_or_not a b)
  where
    go : order x y ≡ order (drop (agreeing x y) x) (drop (agreeing x y) y) → (a ≡ b) ⊎ (a ≡ b → ⊥)
        → order (a ∷ x) (b ∷ y) ≡ order (drop (agreeing (a ∷ x) (b ∷ y)) (a ∷ x)) (drop (agreeing (a ∷ x) (b ∷ y)) (b ∷ y))
    go ih (inl e) = rw (agreeing-same a b x y e) (order_same a b x y e ∙ ih)
    go ih (inr n) = rw (agreeing_differ a b x y n)

-- one more that agrees
agreeing_step : (x y : List ℕ) (n : ℕ) → n < length x → n < length y → get_or x n 0 ≡ get_or y n 0
    → agreeing (drop n x) (drop n y) ≡ suc (agreeing (drop (suc n) x) (drop (suc n) y))
agreeing_step x y n h k s = rw (drop-cons x n 0 h, drop-cons y n 0 k) (agreeing-same _ _ _ _ s)

-- whether a list has ended, by a test
pub ended : (x : List ℕ) (n : ℕ) → false ≡ ltb n (length x) → length x ≤ n
ended x n e = grind (arith, nat_tests)

pub not_ended : (x : List ℕ) (n : ℕ) → true ≡ ltb n (length x) → n < length x
not_ended x n e = grind (arith, nat_tests)

-- The answers, with n the place at which x and y part.

module _ (x y : List ℕ) (n : ℕ) (e : n ≡ agreeing x y) where
  order_from : order x y ≡ order (drop n x) (drop n y)
  order_from = rw e (order-drop x y)

  -- where neither has ended, the elements differ
  pub parted : n < length x → n < length y → get_or x n 0 ≡ get_or y n 0 → ⊥
  parted h k s =
      let none : agreeing (drop n x) (drop n y) ≡ 0 = rw e (agreeing-drop x y) in
      omega (arith, agreeing_step x y n h k s)

  pub order_both_ended : length x ≤ n → length y ≤ n → order x y ≡ Equal
  unfolding order
  order_both_ended h k = order_from ∙ rw (drop_of_length-le x h, drop_of_length-le y k)

  pub order_left_ended : length x ≤ n → n < length y → order x y ≡ Less
  unfolding order
  order_left_ended h k = order_from ∙ rw (drop_of_length-le x h, drop-cons y n 0 k)

  pub order_right_ended : n < length x → length y ≤ n → order x y ≡ Greater
  unfolding order
  order_right_ended h k = order_from ∙ rw (drop-cons x n 0 h, drop_of_length-le y k)

  -- where neither has ended, the elements decide
  pub order_parted : n < length x → n < length y → order x y ≡ nat_cmp (get_or x n 0) (get_or y n 0)
  order_parted h k = order_from ∙ rw (drop-cons x n 0 h, drop-cons y n 0 k) (go (ways (get_or x n 0) (get_or y n 0)))
    where
      go : Ways (get_or x n 0) (get_or y n 0) → order (get_or x n 0 ∷ drop (suc n) x) (get_or y n 0 ∷ drop (suc n) y) ≡ nat_cmp (get_or x n 0) (get_or y n 0)
      go (inl w) = order_below _ _ _ _ w ∙ sym (cmp_lt _ _ w)
      go (inr (inl w)) = absurd (parted h k w)
      go (inr (inr w)) = order_above _ _ _ _ w ∙ sym (cmp_gt _ _ w)

  pub order_parted_below : n < length x → n < length y → get_or x n 0 < get_or y n 0 → order x y ≡ Less
  order_parted_below h k s = order_parted h k ∙ cmp_lt _ _ s

  pub order_parted_above : n < length x → n < length y → get_or y n 0 ≤ get_or x n 0 → order x y ≡ Greater
  order_parted_above h k s = go (ways (get_or x n 0) (get_or y n 0))
    where
      go : Ways (get_or x n 0) (get_or y n 0) → order x y ≡ Greater
      go (inl w) = absurd (omega arith)
      go (inr (inl w)) = absurd (parted h k w)
      go (inr (inr w)) = order_parted h k ∙ cmp_gt _ _ w

  -- what stands there in each, or nothing where it has ended
  pub order_there : (r s : Option (Bor ℕ)) → is_some r ≡ ltb n (length x) → is_some s ≡ ltb n (length y)
      → unwrap_or (option_map (λ b. b.now) r) 0 ≡ get_or x n 0 → unwrap_or (option_map (λ b. b.now) s) 0 ≡ get_or y n 0
      → option_cmp (λ a b. nat_cmp a.now b.now) r s ≡ order x y
  order_there None None p q e f = sym (order_both_ended (grind (arith, nat_tests)) (grind (arith, nat_tests)))
  order_there None (Some b) p q e f = sym (order_left_ended (grind (arith, nat_tests)) (grind (arith, nat_tests)))
  order_there (Some a) None p q e f = sym (order_right_ended (grind (arith, nat_tests)) (grind (arith, nat_tests)))
  order_there (Some a) (Some b) p q e f = rw (e, f) (sym (order_parted (grind (arith, nat_tests)) (grind (arith, nat_tests))))

-- x begins with p where they agree in all of p
pub begins-agreeing : (p x : List ℕ) → begins p x ≡ leb (length p) (agreeing p x)
unfolding begins
begins-agreeing [] x = sym (leb-zero (agreeing [] x))
begins-agreeing (a ∷ p) [] = rw (agreeing_nil_right (a ∷ p)) (sym (leb-suc-zero (length p)))
begins-agreeing (a ∷ p) (b ∷ x) = go (begins-agreeing p x) (same_or_not a b)
  where
    go : begins p x ≡ leb (length p) (agreeing p x) → (a ≡ b) ⊎ (a ≡ b → ⊥) → (eqb a b && begins p x) ≡ leb (suc (length p)) (agreeing (a ∷ p) (b ∷ x))
    go ih (inl e) = rw (eq-eqb a b e, agreeing-same a b p x e) (ih ∙ sym (leb-suc-suc (length p) (agreeing p x)))
    go ih (inr n) = rw (ne_eqb a b n, agreeing_differ a b p x n) (sym (leb-suc-zero (length p)))

-- The loop that finds the place: the first n elements agree.

abbrev pub Agreed : List ℕ → List ℕ → ℕ → Type 0
Agreed x y n = agreeing x y ≡ n + agreeing (drop n x) (drop n y)

pub agreed_none : (x y : List ℕ) → Agreed x y 0
agreed_none x y = sym (zero-add (agreeing x y))

-- so many, by another formula
pub agreed_at : (x y : List ℕ) (n m : ℕ) → n ≡ m → Agreed x y n → Agreed x y m
agreed_at x y n m s i = rw s at i

pub agreed_more : (x y : List ℕ) (n : ℕ) → n < length x → n < length y → get_or x n 0 ≡ get_or y n 0 → Agreed x y n → Agreed x y (n + 1)
agreed_more x y n h k s i = rw (add-one n) (omega (arith, agreeing_step x y n h k s))

agreed_end : (x y : List ℕ) (n : ℕ) → agreeing (drop n x) (drop n y) ≡ 0 → Agreed x y n → n ≡ agreeing x y
agreed_end x y n z i = omega arith

-- it ends where a list ends, or two elements differ
pub agreed_left_ended : (x y : List ℕ) (n : ℕ) → length x ≤ n → Agreed x y n → n ≡ agreeing x y
agreed_left_ended x y n h = agreed_end x y n (rw (drop_of_length-le x h) (agreeing_nil_left (drop n y)))

pub agreed_right_ended : (x y : List ℕ) (n : ℕ) → length y ≤ n → Agreed x y n → n ≡ agreeing x y
agreed_right_ended x y n h = agreed_end x y n (rw (drop_of_length-le y h) (agreeing_nil_right (drop n x)))

pub agreed_differ : (x y : List ℕ) (n : ℕ) → n < length x → n < length y → (get_or x n 0 ≡ get_or y n 0 → ⊥) → Agreed x y n → n ≡ agreeing x y
agreed_differ x y n h k d = agreed_end x y n (rw (drop-cons x n 0 h, drop-cons y n 0 k) (agreeing_differ _ _ _ _ d))

-- or with the shorter
pub agreed_both : (x y : List ℕ) (both n : ℕ) → both ≡ min (length x) (length y) → both ≤ n → Agreed x y n → both ≡ agreeing x y
agreed_both x y both n e h i = omega (arith, agreeing-length_left x y, agreeing-length_right x y)

-- A front of each: where the fronts part, the lists do; where the fronts agree throughout, so far the lists do.

front_parted : (m : ℕ) (x y : List ℕ) → agreeing (take m x) (take m y) < m → agreeing x y ≡ agreeing (take m x) (take m y)
front_parted zero x y h = absurd (not-suc-le-zero h)
front_parted (suc m) [] y h = agreeing_nil_left y ∙ sym (agreeing_nil_left (take (suc m) y))
front_parted (suc m) (a ∷ x) [] h = agreeing_nil_right (a ∷ x) ∙ sym (agreeing_nil_right (take (suc m) (a ∷ x)))
front_parted (suc m) (a ∷ x) (b ∷ y) h = go (front_parted m x y) (same_or_not a b)
  where
    go : (agreeing (take m x) (take m y) < m → agreeing x y ≡ agreeing (take m x) (take m y)) → (a ≡ b) ⊎ (a ≡ b → ⊥)
        → agreeing (a ∷ x) (b ∷ y) ≡ agreeing (a ∷ take m x) (b ∷ take m y)
    go ih (inl e) =
        let front = agreeing-same a b (take m x) (take m y) e in
        agreeing-same a b x y e ∙ ap suc (ih (omega arith)) ∙ sym front
    go ih (inr n) = agreeing_differ a b x y n ∙ sym (agreeing_differ a b (take m x) (take m y) n)

front_agreed : (m : ℕ) (x y : List ℕ) → m ≤ agreeing (take m x) (take m y) → agreeing x y ≡ m + agreeing (drop m x) (drop m y)
front_agreed zero x y h = sym (zero-add (agreeing x y))
front_agreed (suc m) [] y h = absurd (omega (arith, agreeing_nil_left (take (suc m) y)))
front_agreed (suc m) (a ∷ x) [] h = absurd (omega (arith, agreeing_nil_right (take (suc m) (a ∷ x))))
front_agreed (suc m) (a ∷ x) (b ∷ y) h = go (front_agreed m x y) (same_or_not a b)
  where
    go : (m ≤ agreeing (take m x) (take m y) → agreeing x y ≡ m + agreeing (drop m x) (drop m y)) → (a ≡ b) ⊎ (a ≡ b → ⊥)
        → agreeing (a ∷ x) (b ∷ y) ≡ suc m + agreeing (drop m x) (drop m y)
    go ih (inl e) =
        let front = agreeing-same a b (take m x) (take m y) e in
        let rest = ih (omega arith) in
        omega (arith, agreeing-same a b x y e)
    go ih (inr n) = absurd (omega (arith, agreeing_differ a b (take m x) (take m y) n))

-- The loop that finds the place m elements at a time: k is how many of the m from n on agree.

pub agreed_parted : (x y : List ℕ) (n m k : ℕ) → k ≡ agreeing (take m (drop n x)) (take m (drop n y)) → k < m → Agreed x y n → n + k ≡ agreeing x y
agreed_parted x y n m k e h i = omega (arith, front_parted m (drop n x) (drop n y) (rw e at h))

pub agreed_front : (x y : List ℕ) (n m k : ℕ) → k ≡ agreeing (take m (drop n x)) (take m (drop n y)) → m ≤ k → Agreed x y n
    → (next : ℕ) → next ≡ n + m → Agreed x y next
agreed_front x y n m k e h i next s = rw (s, ← drop-drop m n x, ← drop-drop m n y) (omega (arith, front_agreed m (drop n x) (drop n y) (rw e at h)))

-- The loop by eights: the next ones are slices, of which the first k agree.

module _ (x y : List ℕ) (n k : ℕ) (e : k ≡ agreeing (take (n + 8 - n) (drop n x)) (take (n + 8 - n) (drop n y))) (i : Agreed x y n) where
  pub eight_parted : k < 8 → n + k ≡ agreeing x y
  eight_parted h = agreed_parted x y n (n + 8 - n) k e (omega arith) i

  pub eight_agreed : 8 ≤ k → (next : ℕ) → next ≡ n + 8 → Agreed x y next
  eight_agreed h next s = agreed_front x y n (n + 8 - n) k e (omega arith) i next (omega arith)

-- The loop by chunks of eight: the next ones are a and b, of which the first k agree.

-- a chunk is a front of what it comes from
front_chunk : (a p z : List ℕ) → z ≡ a ++ p → length a ≡ 8 → take 8 z ≡ a
front_chunk a p z e l = rw (e, ← l) (take-append_seam a p)

-- it lies within
pub chunk_within : (x a p : List ℕ) (n : ℕ) → n ≤ length x → drop n x ≡ a ++ p → length a ≡ 8 → n + 8 ≤ length x
chunk_within x a p n h e l = omega (arith, ap length e, length-drop n x, length-append a p)

-- what comes behind it
pub behind_chunk : (x a p : List ℕ) (n : ℕ) → drop n x ≡ a ++ p → length a ≡ 8 → p ≡ drop (n + 8) x
behind_chunk x a p n e l = sym (drop-append_seam a p) ∙ rw (l, ← e) (drop-drop 8 n x)

module _ (x y : List ℕ) (n : ℕ) (a b p q : List ℕ) (ex : drop n x ≡ a ++ p) (ey : drop n y ≡ b ++ q) (la : length a ≡ 8) (lb : length b ≡ 8) where
  chunks_agreeing : agreeing a b ≡ agreeing (take 8 (drop n x)) (take 8 (drop n y))
  chunks_agreeing = rw (front_chunk a p (drop n x) ex la, front_chunk b q (drop n y) ey lb)

  module _ (k : ℕ) (e : k ≡ agreeing a b) (i : Agreed x y n) where
    pub chunk_parted : k < 8 → n + k ≡ agreeing x y
    chunk_parted h = agreed_parted x y n 8 k (e ∙ chunks_agreeing) h i

    pub chunk_agreed : 8 ≤ k → Agreed x y (n + 8)
    chunk_agreed h = agreed_front x y n 8 k (e ∙ chunks_agreeing) h i (n + 8) refl

-- The pairs at the front whose parts are the same, counted.

agreeing_pairs : (x y : List ℕ) → prefix_len (λ p. p.0 == p.1) (zip x y) ≡ agreeing x y
unfolding agreeing
agreeing_pairs [] y = refl
agreeing_pairs (a ∷ x) [] = refl
agreeing_pairs (a ∷ x) (b ∷ y) = rw (agreeing_pairs x y) (go (a == b))
  where
    go : (t : Bool) → cond t (1 + agreeing x y) 0 ≡ cond t (suc (agreeing x y)) 0
    go true = omega arith
    go false = refl

pub agreeing_counted : (x y : List ℕ) → length (take_while (λ p. p.0 == p.1) (zip x y)) ≡ agreeing x y
agreeing_counted x y = length-prefix_len (λ p. p.0 == p.1) (zip x y) ∙ agreeing_pairs x y

-- the rests of both behind n elements that agree, as slices
pub agreed_rest : (x y : List ℕ) (n k : ℕ) → k ≡ agreeing (take (length x - n) (drop n x)) (take (length y - n) (drop n y))
    → Agreed x y n → n + k ≡ agreeing x y
agreed_rest x y n k e i =
    let rest-x : take (length x - n) (drop n x) ≡ drop n x = take_all _ _ (simp length-drop (omega arith)) in
    let rest-y : take (length y - n) (drop n y) ≡ drop n y = take_all _ _ (simp length-drop (omega arith)) in
    let whole : k ≡ agreeing (drop n x) (drop n y) = e ∙ rw (rest-x, rest-y) refl in
    omega arith

pub agreeing_rest : (x y : List ℕ) (n k : ℕ)
    → k ≡ length (take_while (λ p. p.0 == p.1) (zip (take (length x - n) (drop n x)) (take (length y - n) (drop n y)))) → Agreed x y n → n + k ≡ agreeing x y
agreeing_rest x y n k e i = agreed_rest x y n k (e ∙ agreeing_counted _ _) i
