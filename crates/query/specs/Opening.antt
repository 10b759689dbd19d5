-- The opening test: whether any byte string between a block's bounds matches a query.
use Rattle.std.specs.Prelude.{ℕ, Bool, true, ◌&&◌, ◌||◌, List, ◌≡◌}
use Rattle.std.proofs.Math.Option.{Option, none, some}
use Rattle.byte_string.specs.Order.{AreBytes, at_most, begins}
use Rattle.query.specs.Query.{Query, before, matches}

-- x is at most the upper bound, where there is one
unfoldable pub up_to : List ℕ → Option (List ℕ) → Bool
up_to x none = true
up_to x (some upper) = at_most x upper

-- some byte string, of any length, lies between the bounds, both included, and matches
pub record CanMatch (lower : List ℕ) (upper : Option (List ℕ)) (q : Query) : Type 0 where
  pub witness : List ℕ
  pub bytes : AreBytes witness
  pub above : at_most lower witness ≡ true
  pub below : up_to witness upper ≡ true
  pub fits : matches q witness ≡ true

-- x is neither past the upper bound nor at or past the stop
unfoldable pub reaches : List ℕ → Option (List ℕ) → Option (List ℕ) → Bool
reaches x upper stop = up_to x upper && before x stop

-- some byte string from x on begins with the prefix: x is at most the prefix or begins with it
unfoldable pub admits_prefix : List ℕ → List ℕ → Bool
admits_prefix x prefix = at_most x prefix || begins prefix x

-- The test. The greatest of lower bound, start and prefix is the least candidate: it must begin with the prefix, be at most the
-- upper bound and be less than the stop. This is said of each of the three, so that none need be chosen. No end of a prefix is computed.
unfoldable pub may_match : List ℕ → Option (List ℕ) → Query → Bool
may_match lower upper q =
    reaches lower upper q.stop
    && (reaches q.start upper q.stop
    && (reaches q.prefix upper q.stop && (admits_prefix lower q.prefix && admits_prefix q.start q.prefix)))
