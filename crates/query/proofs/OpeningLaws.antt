-- The laws of `may_match`: it says yes exactly where some byte string between the bounds matches.
-- Assumes nothing.
use Prim.Native.Nat.{ℕ}
use mathlib.Core.Path.{◌≡◌, refl, sym, ◌∙◌}
use mathlib.Core.Logic.{◌⊎◌, inl, inr}
use mathlib.Core.Bool.{Bool, true, false, and-false, or-true, or-false, and-eq-true_iff}
use mathlib.Core.List.{List, []}
use mathlib.Core.Option.{Option, none, some}
use Rattle.byte_string.specs.Order.{AreBytes, at_most, begins}
use Rattle.byte_string.proofs.OrderLaws.{at_most_not_less, at_most_refl, at_most_total, at_most_trans, at_most_antisym}
use Rattle.byte_string.proofs.PrefixLaws.{begins_refl, begins-at_most, begins_between}
use Rattle.query.specs.Query.{Query, given, query_of, before, matches}
use Rattle.query.specs.Opening.{up_to, CanMatch, reaches, admits_prefix, may_match}
use Rattle.query.proofs.QueryLaws.{before_empty, before_down, matches_parts, matches_of_parts}

-- The upper bound.

-- x is up to a bound that it is at most
pub up_to_some : (x s : List ℕ) → up_to x (some s) ≡ at_most x s
unfolding up_to
up_to_some x s = simp at_most_not_less

-- an upper bound that is given is compared with
pub up_to_given : (x s : List ℕ) (g : Bool) → g ≡ true → up_to x (given g s) ≡ at_most x s
unfolding given
up_to_given x s g e = rw e (up_to_some x s)

-- where no upper bound is given, every list is up to it
pub up_to_absent : (x s : List ℕ) (g : Bool) → g ≡ false → up_to x (given g s) ≡ true
unfolding up_to given
up_to_absent x s g e = rw e

-- what is at most something up to the bound is up to the bound
pub up_to_down : (y x : List ℕ) (upper : Option (List ℕ)) → at_most y x ≡ true → up_to x upper ≡ true → up_to y upper ≡ true
unfolding up_to
up_to_down y x none l u = refl
up_to_down y x (some s) l u = up_to_some y s ∙ at_most_trans y x s l (sym (up_to_some x s) ∙ u)

-- The upper bound and the stop together.

pub not_reaches_past : (x : List ℕ) (upper stop : Option (List ℕ)) → up_to x upper ≡ false → reaches x upper stop ≡ false
unfolding reaches
not_reaches_past x upper stop u = rw u

pub not_reaches_stopped : (x : List ℕ) (upper stop : Option (List ℕ)) → before x stop ≡ false → reaches x upper stop ≡ false
unfolding reaches
not_reaches_stopped x upper stop b = rw b (and-false (up_to x upper))

pub reaches_last : (x : List ℕ) (upper stop : Option (List ℕ)) → up_to x upper ≡ true → reaches x upper stop ≡ before x stop
unfolding reaches
reaches_last x upper stop u = rw u

pub reaches_both : (x : List ℕ) (upper stop : Option (List ℕ)) → up_to x upper ≡ true → before x stop ≡ true → reaches x upper stop ≡ true
reaches_both x upper stop u b = reaches_last x upper stop u ∙ b

pub reaches_parts : (x : List ℕ) (upper stop : Option (List ℕ)) → reaches x upper stop ≡ true → (up_to x upper ≡ true) × (before x stop ≡ true)
unfolding reaches
reaches_parts x upper stop r = (and-eq-true_iff (up_to x upper) (before x stop)).0 r

-- what is at most something that reaches, reaches
pub reaches_down : (y x : List ℕ) (upper stop : Option (List ℕ)) → at_most y x ≡ true → up_to x upper ≡ true → before x stop ≡ true → reaches y upper stop ≡ true
reaches_down y x upper stop l u b = reaches_last y upper stop (up_to_down y x upper l u) ∙ before_down y x stop l b

-- What leads to a prefix.

pub admits_prefix_below : (x prefix : List ℕ) → at_most x prefix ≡ true → admits_prefix x prefix ≡ true
unfolding admits_prefix
admits_prefix_below x prefix l = simp (l, or-true)

pub admits_prefix-begins : (x prefix : List ℕ) → begins prefix x ≡ true → admits_prefix x prefix ≡ true
unfolding admits_prefix
admits_prefix-begins x prefix p = simp (p, or-true)

pub admits_prefix_last : (x prefix : List ℕ) → at_most x prefix ≡ false → admits_prefix x prefix ≡ begins prefix x
unfolding admits_prefix
admits_prefix_last x prefix l = simp (l, or-false)

-- x leads to the prefix where something from x on begins with it
pub admits_prefix_of : (x y prefix : List ℕ) → at_most x y ≡ true → begins prefix y ≡ true → admits_prefix x prefix ≡ true
admits_prefix_of x y prefix l p = go (at_most_total x prefix)
  where
    go : (at_most x prefix ≡ true) ⊎ (at_most prefix x ≡ true) → admits_prefix x prefix ≡ true
    go (inl h) = admits_prefix_below x prefix h
    go (inr h) = admits_prefix-begins x prefix (begins_between prefix x y h l p)

-- and only there: that is the prefix itself, or x
pub admits_prefix_found : (x prefix : List ℕ) → admits_prefix x prefix ≡ true → (y : List ℕ) × (at_most x y ≡ true) × (begins prefix y ≡ true)
admits_prefix_found x prefix t = go (at_most x prefix) refl
  where
    go : (b : Bool) → at_most x prefix ≡ b → (y : List ℕ) × (at_most x y ≡ true) × (begins prefix y ≡ true)
    go true e = (prefix, e, begins_refl prefix)
    go false e = (x, at_most_refl x, sym (admits_prefix_last x prefix e) ∙ t)

-- from the prefix on, what leads to it begins with it
pub begins_of_admits_prefix : (x prefix : List ℕ) → at_most prefix x ≡ true → admits_prefix x prefix ≡ true → begins prefix x ≡ true
begins_of_admits_prefix x prefix h t = go (at_most x prefix) refl
  where
    go : (b : Bool) → at_most x prefix ≡ b → begins prefix x ≡ true
    go true e = rw (at_most_antisym x prefix e h) (begins_refl prefix)
    go false e = sym (admits_prefix_last x prefix e) ∙ t

-- The five tests: one that fails decides, and after four that hold the fifth decides.

module _ (lower : List ℕ) (upper : Option (List ℕ)) (q : Query) where
  pub not_may_match_lower : reaches lower upper q.stop ≡ false → may_match lower upper q ≡ false
  unfolding may_match
  not_may_match_lower e = rw e

  pub not_may_match_start : reaches q.start upper q.stop ≡ false → may_match lower upper q ≡ false
  unfolding may_match
  not_may_match_start e = simp (e, and-false)

  pub not_may_match_prefix : reaches q.prefix upper q.stop ≡ false → may_match lower upper q ≡ false
  unfolding may_match
  not_may_match_prefix e = simp (e, and-false)

  pub not_may_match_leads : admits_prefix lower q.prefix ≡ false → may_match lower upper q ≡ false
  unfolding may_match
  not_may_match_leads e = simp (e, and-false)

  pub may_match_last : reaches lower upper q.stop ≡ true → reaches q.start upper q.stop ≡ true → reaches q.prefix upper q.stop ≡ true
      → admits_prefix lower q.prefix ≡ true → may_match lower upper q ≡ admits_prefix q.start q.prefix
  unfolding may_match
  may_match_last a b c d = rw (a, b, c, d)

  -- Taken apart into its tests, and put together.

  pub record Opens : Type 0 where
    pub lower_reaches : reaches lower upper q.stop ≡ true
    pub start_reaches : reaches q.start upper q.stop ≡ true
    pub prefix_reaches : reaches q.prefix upper q.stop ≡ true
    pub lower_leads : admits_prefix lower q.prefix ≡ true
    pub start_leads : admits_prefix q.start q.prefix ≡ true

  pub may_match_parts : may_match lower upper q ≡ true → Opens
  unfolding may_match
  may_match_parts m =
      let a = (and-eq-true_iff _ _).0 m in
      let b = (and-eq-true_iff _ _).0 a.1 in
      let c = (and-eq-true_iff _ _).0 b.1 in
      let d = (and-eq-true_iff _ _).0 c.1 in
      record { lower_reaches = a.0; start_reaches = b.0; prefix_reaches = c.0; lower_leads = d.0; start_leads = d.1 }

  pub may_match_of_parts : Opens → may_match lower upper q ≡ true
  may_match_of_parts o = may_match_last o.lower_reaches o.start_reaches o.prefix_reaches o.lower_leads ∙ o.start_leads

-- The test says yes exactly where something matches.

-- something that holds of both a and b holds of a list that is at least both: the greater of the two
record Above (P : List ℕ → Type 0) (a b : List ℕ) : Type 0 where
  pub top : List ℕ
  pub has : P top
  pub first : at_most a top ≡ true
  pub second : at_most b top ≡ true

above : (P : List ℕ → Type 0) (a b : List ℕ) → P a → P b → Above P a b
above P a b p q = go (at_most_total a b)
  where
    go : (at_most a b ≡ true) ⊎ (at_most b a ≡ true) → Above P a b
    go (inl l) = record { top = b; has = q; first = l; second = at_most_refl b }
    go (inr l) = record { top = a; has = p; first = at_most_refl a; second = l }

-- what the greatest of lower bound, start and prefix has in common with each of them
record Candidate (upper : Option (List ℕ)) (q : Query) (x : List ℕ) : Type 0 where
  pub bytes : AreBytes x
  pub inside : reaches x upper q.stop ≡ true
  pub leads : admits_prefix x q.prefix ≡ true

-- a candidate that is at least all three matches
found : (lower : List ℕ) (upper : Option (List ℕ)) (q : Query) (x : List ℕ) → Candidate upper q x
    → at_most lower x ≡ true → at_most q.start x ≡ true → at_most q.prefix x ≡ true → CanMatch lower upper q
found lower upper q x k l s p =
    let r = reaches_parts x upper q.stop k.inside in
    record {
      witness = x;
      bytes = k.bytes;
      above = l;
      below = r.0;
      fits = matches_of_parts q x s r.1 (begins_of_admits_prefix x q.prefix p k.leads);
    }

-- where the test says yes, some byte string between the bounds matches
pub may_match⇒CanMatch : (lower : List ℕ) (upper : Option (List ℕ)) (q : Query) → AreBytes lower → AreBytes q.start → AreBytes q.prefix
    → may_match lower upper q ≡ true → CanMatch lower upper q
may_match⇒CanMatch lower upper q bl bs bp m =
    let o = may_match_parts lower upper q m in
    let t =
    above (Candidate upper q) lower q.start
    (record { bytes = bl; inside = o.lower_reaches; leads = o.lower_leads })
    (record { bytes = bs; inside = o.start_reaches; leads = o.start_leads }) in
    let u =
    above (Candidate upper q) t.top q.prefix t.has
    (record { bytes = bp; inside = o.prefix_reaches; leads = admits_prefix_below q.prefix q.prefix (at_most_refl q.prefix) }) in
    found lower upper q u.top u.has (at_most_trans lower t.top u.top t.first u.first)
    (at_most_trans q.start t.top u.top t.second u.first) u.second

-- where a list between the bounds matches, the test says yes
pub may_match_of_match : (lower : List ℕ) (upper : Option (List ℕ)) (q : Query) (x : List ℕ) → at_most lower x ≡ true → up_to x upper ≡ true
    → matches q x ≡ true → may_match lower upper q ≡ true
may_match_of_match lower upper q x l u m =
    let h = matches_parts q x m in
    may_match_of_parts lower upper q
    (record {
      lower_reaches = reaches_down lower x upper q.stop l u h.1;
      start_reaches = reaches_down q.start x upper q.stop h.0 u h.1;
      prefix_reaches = reaches_down q.prefix x upper q.stop (begins-at_most q.prefix x h.2) u h.1;
      lower_leads = admits_prefix_of lower x q.prefix l h.2;
      start_leads = admits_prefix_of q.start x q.prefix h.0 h.2;
    })

-- in particular where some byte string between the bounds matches
pub CanMatch⇒may_match : (lower : List ℕ) (upper : Option (List ℕ)) (q : Query) → CanMatch lower upper q → may_match lower upper q ≡ true
CanMatch⇒may_match lower upper q k = may_match_of_match lower upper q k.witness k.above k.below k.fits

-- where the test says no, no list between the bounds matches
pub no_match_unopened : (lower : List ℕ) (upper : Option (List ℕ)) (q : Query) (x : List ℕ) → may_match lower upper q ≡ false
    → at_most lower x ≡ true → up_to x upper ≡ true → matches q x ≡ false
no_match_unopened lower upper q x n l u = go (matches q x) refl
  where
    go : (b : Bool) → matches q x ≡ b → matches q x ≡ false
    go true e = cc (may_match_of_match lower upper q x l u e)
    go false e = e

-- A stop that is empty, and bounds that are not given.

-- a stop that is given and empty opens nothing
pub may_match_empty_stop : (lower : List ℕ) (upper : Option (List ℕ)) (start prefix : List ℕ) → may_match lower upper (query_of start true [] prefix) ≡ false
unfolding query_of
may_match_empty_stop lower upper start prefix =
    not_may_match_lower lower upper (query_of start true [] prefix)
    (not_reaches_stopped lower upper (given true []) (before_empty lower))

-- the bytes of a stop that is not given have no influence
pub may_match_no_stop : (lower : List ℕ) (upper : Option (List ℕ)) (start s t prefix : List ℕ)
    → may_match lower upper (query_of start false s prefix) ≡ may_match lower upper (query_of start false t prefix)
unfolding query_of given
may_match_no_stop lower upper start s t prefix = refl

-- nor have those of an upper bound that is not given
pub may_match_no_upper : (lower s t : List ℕ) (q : Query) → may_match lower (given false s) q ≡ may_match lower (given false t) q
unfolding given
may_match_no_upper lower s t q = refl
