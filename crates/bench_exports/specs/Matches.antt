-- What the benchmark takes of a search: the records of one payload that match.
use Rattle.std.specs.Prelude.{ℕ, ◌^◌, cond, List, [], leb, length}
use Rattle.payload.specs.Payload.{Text}
use Rattle.query.specs.Query.{Query}
use Rattle.matching.specs.Matching.{matching, records_from}

-- none in more than 2^30 bytes, which no archive has
unfoldable pub matches_in : Query → List ℕ → List Text
matches_in q s = cond (leb (length s) (2 ^ 30)) (matching q (records_from 0 s 0)) []
