-- A query, and the byte strings that match it.
use Rattle.std.specs.Prelude.{ℕ, Bool, true, false, ◌&&◌, List}
use Rattle.std.proofs.Math.Option.{Option, none, some}
use Rattle.byte_string.specs.Order.{at_most, less, begins}

-- a start, a stop that is given or not, and a prefix; start and prefix may be empty
pub record Query : Type 0 where
  pub start : List ℕ
  pub stop : Option (List ℕ)
  pub prefix : List ℕ

-- a byte string that is given or not: where it isn't, its bytes have no influence
unfoldable pub given : Bool → List ℕ → Option (List ℕ)
given true s = some s
given false s = none

-- the query that a call's arguments describe
unfoldable pub query_of : (start : List ℕ) (stopGiven : Bool) (stop prefix : List ℕ) → Query
query_of start stopGiven stop prefix = record { start = start; stop = given stopGiven stop; prefix = prefix }

-- x is less than the stop, where there is one
unfoldable pub before : List ℕ → Option (List ℕ) → Bool
before x none = true
before x (some stop) = less x stop

-- a record matches: at least start, less than stop where given, and beginning with prefix
unfoldable pub matches : Query → List ℕ → Bool
matches q x = at_most q.start x && (before x q.stop && begins q.prefix x)
