-- The key of an entry over a data block: it is cut from the block's first record, keeps the key rule, and no shorter one does.
-- Assumes nothing.
use Prim.Native.Nat.{ℕ, suc, ◌≤◌, ◌<◌, zero-le, suc-le-suc}
use native.Mathlib.Omega.{arith}
use mathlib.Core.Path.{◌≡◌, refl, ap, ◌∙◌}
use mathlib.Core.Logic.{◌⊎◌, inl, inr}
use mathlib.Core.Bool.{Bool, true, false}
use mathlib.Core.Option.{Option, none, some}
use mathlib.Core.List.{List, [], ◌∷◌}
use lib.Dec.{eqb, eqb-zero-suc, eqb-suc-suc}
use lib.ListN.{length, take, length-take}
use Rattle.byte_string.specs.Order.{AreBytes, at_most, begins, agreeing}
use Rattle.byte_string.proofs.BytesLaws.{bytes_take}
use Rattle.byte_string.proofs.OrderLaws.{order_below, order_same, nil_at_most, at_most_nil, at_most_cons}
use Rattle.byte_string.proofs.AgreeingLaws.{agreeing-same, agreeing_differ, agreeing_nil_left}
use Rattle.byte_string.proofs.PrefixLaws.{begins_nil, begins-take, begins-at_most}
use Rattle.layout.specs.File.{key_length, key_for}

-- ---- its length, by first bytes

key_length_nil : (y : List ℕ) → key_length [] y ≡ 0
unfolding key_length
key_length_nil y = rw (agreeing_nil_left y)

key_length-same : (a b : ℕ) (x y : List ℕ) → a ≡ b → key_length (a ∷ x) (b ∷ y) ≡ suc (key_length x y)
unfolding key_length
key_length-same a b x y e = go (eqb (agreeing x y) (length x)) refl
  where
    go : (t : Bool) → eqb (agreeing x y) (length x) ≡ t → key_length (a ∷ x) (b ∷ y) ≡ suc (key_length x y)
    go true p = rw (agreeing-same a b x y e, eqb-suc-suc (agreeing x y) (length x), p) (omega arith)
    go false p = rw (agreeing-same a b x y e, eqb-suc-suc (agreeing x y) (length x), p) (omega arith)

key_length_differ : (a b : ℕ) (x y : List ℕ) → (a ≡ b → ⊥) → key_length (a ∷ x) (b ∷ y) ≡ 1
unfolding key_length
key_length_differ a b x y n = rw (agreeing_differ a b x y n, eqb-zero-suc (length x))

-- ---- the key

-- nothing before is as an empty record before
pub key_nothing_before : (first : List ℕ) → key_for none first ≡ key_for (some []) first
unfolding key_for
key_nothing_before first = rw (key_length_nil first)

-- the block's first record begins with it
pub key_begins : (before : Option (List ℕ)) (first : List ℕ) → begins (key_for before first) first ≡ true
unfolding key_for
key_begins none first = begins_nil first
key_begins (some before) first = begins-take (key_length before first) first

-- so it is at most that record
pub key_at_most_first : (before : Option (List ℕ)) (first : List ℕ) → at_most (key_for before first) first ≡ true
key_at_most_first before first = begins-at_most (key_for before first) first (key_begins before first)

-- the record before is at most the key
pub before-at_most_key : (before first : List ℕ) → at_most before first ≡ true → at_most before (key_for (some before) first) ≡ true
unfolding key_for at_most
before-at_most_key [] y h = nil_at_most (key_for (some []) y)
before-at_most_key (a ∷ x) [] h = cc (at_most_nil (a ∷ x) h)
before-at_most_key (a ∷ x) (b ∷ y) h = go (before-at_most_key x y) (at_most_cons a b x y h)
  where
    go : (at_most x y ≡ true → at_most x (take (key_length x y) y) ≡ true) → (a < b) ⊎ ((a ≡ b) × (at_most x y ≡ true))
        → at_most (a ∷ x) (take (key_length (a ∷ x) (b ∷ y)) (b ∷ y)) ≡ true
    go ih (inl less) = rw (key_length_differ a b x y (λ e. omega arith), order_below a b x [] less)
    go ih (inr s) = rw (key_length-same a b x y s.0, order_same a b x (take (key_length x y) y) s.0) (ih s.1)

-- its bytes are bytes
pub key_bytes : (before : Option (List ℕ)) (first : List ℕ) → AreBytes first → AreBytes (key_for before first)
unfolding key_for AreBytes
key_bytes none first h = tt
key_bytes (some before) first h = bytes_take (key_length before first) first h

-- ---- the shortest

key_length_shortest : (before first key : List ℕ) → at_most before key ≡ true → at_most key first ≡ true → key_length before first ≤ length key
key_length_shortest [] y key h k = rw (key_length_nil y) zero-le
key_length_shortest (a ∷ x) y [] h k = absurd (let empty = ap length (at_most_nil (a ∷ x) h) in omega arith)
key_length_shortest (a ∷ x) [] (c ∷ z) h k = absurd (let empty = ap length (at_most_nil (c ∷ z) k) in omega arith)
key_length_shortest (a ∷ x) (b ∷ y) (c ∷ z) h k = go (key_length_shortest x y z) (at_most_cons a c x z h) (at_most_cons c b z y k)
  where
    go : (at_most x z ≡ true → at_most z y ≡ true → key_length x y ≤ length z) → (a < c) ⊎ ((a ≡ c) × (at_most x z ≡ true))
        → (c < b) ⊎ ((c ≡ b) × (at_most z y ≡ true)) → key_length (a ∷ x) (b ∷ y) ≤ suc (length z)
    go ih (inl p) (inl q) = rw (key_length_differ a b x y (λ e. omega arith)) (suc-le-suc zero-le)
    go ih (inl p) (inr q) = rw (key_length_differ a b x y (λ e. let s = q.0 in omega arith)) (suc-le-suc zero-le)
    go ih (inr p) (inl q) = rw (key_length_differ a b x y (λ e. let s = p.0 in omega arith)) (suc-le-suc zero-le)
    go ih (inr p) (inr q) = rw (key_length-same a b x y (p.0 ∙ q.0)) (suc-le-suc (ih p.1 q.1))

-- no byte string is shorter that is at least the record before and at most the block's first
pub key_shortest : (before first key : List ℕ) → at_most before key ≡ true → at_most key first ≡ true
    → length (key_for (some before) first) ≤ length key
unfolding key_for
key_shortest before first key h k =
    let cut = length-take (key_length before first) first in
    let least = key_length_shortest before first key h k in
    omega arith
