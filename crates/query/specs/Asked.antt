-- The query that the code is asked.
use Rattle.std.specs.Prelude.{ℕ, List, Some, None}
use Rattle.std.specs.Prelude.{Option as Given}
use Rattle.std.specs.Borrow.{Bor}
use Rattle.std.proofs.Math.Option.{Option, none, some}
use Rattle.query.specs.declared.Query.{Query as Asked}
use Rattle.query.specs.Query.{Query}

-- a byte string that is lent or not
unfoldable pub lent : Given (Bor (List ℕ)) → Option (List ℕ)
lent None = none
lent (Some s) = some s.now

unfoldable pub asked : Asked → Query
asked q = record { start = q.start.now; stop = lent q.stop; prefix = q.prefix.now }
