-- The laws of `matches`: its three tests, where it holds, and what has no influence on it.
-- Assumes nothing.
use Prim.Native.Nat.{ℕ}
use mathlib.Core.Path.{◌≡◌, refl, sym, ◌∙◌}
use mathlib.Core.Bool.{Bool, true, false, and-false, and-eq-true_iff}
use mathlib.Core.List.{List, []}
use mathlib.Core.Option.{Option, none, some}
use Rattle.byte_string.specs.Order.{at_most, less, begins}
use Rattle.byte_string.proofs.OrderLaws.{less_not_at_most, not_less_of_at_most, nil_at_most, at_most-less_trans, at_most_trans}
use Rattle.byte_string.proofs.PrefixLaws.{begins_nil, begins-at_most, begins_between}
use Rattle.query.specs.Query.{Query, given, query_of, before, matches}

-- The stop.

-- x is before a stop that comes after it
pub before_some : (x s : List ℕ) → before x (some s) ≡ less x s
unfolding before
before_some x s = simp less_not_at_most

-- a stop that is given is compared with
pub before-given : (x s : List ℕ) (g : Bool) → g ≡ true → before x (given g s) ≡ less x s
unfolding given
before-given x s g e = rw e (before_some x s)

-- where no stop is given, every list is before it
pub before_absent : (x s : List ℕ) (g : Bool) → g ≡ false → before x (given g s) ≡ true
unfolding before given
before_absent x s g e = rw e

-- nothing is before an empty stop
pub before_empty : (x : List ℕ) → before x (given true []) ≡ false
before_empty x = before-given x [] true refl ∙ not_less_of_at_most [] x (nil_at_most x)

-- what is at most something before the stop is before the stop
pub before_down : (y x : List ℕ) (stop : Option (List ℕ)) → at_most y x ≡ true → before x stop ≡ true → before y stop ≡ true
unfolding before
before_down y x none l b = refl
before_down y x (some s) l b = before_some y s ∙ at_most-less_trans y x s l (sym (before_some x s) ∙ b)

-- The three tests: one that fails decides, and after two that hold the prefix decides.

pub not_matches_below : (q : Query) (x : List ℕ) → at_most q.start x ≡ false → matches q x ≡ false
unfolding matches
not_matches_below q x s = rw s

pub not_matches_stopped : (q : Query) (x : List ℕ) → before x q.stop ≡ false → matches q x ≡ false
unfolding matches
not_matches_stopped q x b = rw b (and-false (at_most q.start x))

pub matches_last : (q : Query) (x : List ℕ) → at_most q.start x ≡ true → before x q.stop ≡ true → matches q x ≡ begins q.prefix x
unfolding matches
matches_last q x s b = rw (s, b)

-- Taken apart into its tests, and put together.

pub matches_parts : (q : Query) (x : List ℕ) → matches q x ≡ true → (at_most q.start x ≡ true) × (before x q.stop ≡ true) × (begins q.prefix x ≡ true)
unfolding matches
matches_parts q x m =
    let h = (and-eq-true_iff _ _).0 m in
    let k = (and-eq-true_iff _ _).0 h.1 in
    (h.0, k.0, k.1)

pub matches_of_parts : (q : Query) (x : List ℕ) → at_most q.start x ≡ true → before x q.stop ≡ true → begins q.prefix x ≡ true → matches q x ≡ true
matches_of_parts q x s b p = matches_last q x s b ∙ p

-- What matches stands together.

-- what lies between two matches matches
pub matches_convex : (q : Query) (x y z : List ℕ) → at_most x y ≡ true → at_most y z ≡ true → matches q x ≡ true → matches q z ≡ true → matches q y ≡ true
matches_convex q x y z l m hx hz =
    let f = matches_parts q x hx in
    let t = matches_parts q z hz in
    matches_of_parts q y (at_most_trans q.start x y f.0 l) (before_down y z q.stop m t.1)
    (begins_between q.prefix y z (at_most_trans q.prefix x y (begins-at_most q.prefix x f.2) l) m t.2)

-- A stop that is empty, one that is not given, and the query that asks for everything.

-- a stop that is given and empty matches nothing
pub matches_empty_stop : (start prefix x : List ℕ) → matches (query_of start true [] prefix) x ≡ false
unfolding query_of
matches_empty_stop start prefix x = not_matches_stopped (query_of start true [] prefix) x (before_empty x)

-- the bytes of a stop that is not given have no influence
pub matches_no_stop : (start s t prefix x : List ℕ) → matches (query_of start false s prefix) x ≡ matches (query_of start false t prefix) x
unfolding query_of given
matches_no_stop start s t prefix x = refl

-- with no start, no stop and no prefix, everything matches
pub matches_unbounded : (s x : List ℕ) → matches (query_of [] false s []) x ≡ true
unfolding query_of
matches_unbounded s x = matches_of_parts (query_of [] false s []) x (nil_at_most x) (before_absent x s false refl) (begins_nil x)
