-- Laws of the matches that the benchmark takes: none of a payload that is too long, all of any other.
-- Assumes nothing.
use mathlib.Core.Path.{◌≡◌, sym, ap}
use mathlib.Core.Bool.{cond}
use mathlib.Core.List.{List, []}
use Prim.Native.Nat.{ℕ, ◌^◌, ◌≤◌, ◌<◌}
use lib.ListN.{length}
use borrow.Author.Tests.{le-leb, lt-leb}
use Rattle.query.specs.Query.{Query}
use Rattle.matching.specs.Matching.{matching, records_from}
use Rattle.matching.specs.ResultList.{Stored, put_all}
use Rattle.bench_exports.specs.Matches.{matches_in}

module _ (q : Query) (s : List ℕ) where
  pub matches_long : 2 ^ 30 < length s → (stored : Stored) → stored ≡ put_all stored (matches_in q s)
  unfolding matches_in put_all
  matches_long h stored = sym (ap (λ b. put_all stored (cond b (matching q (records_from 0 s 0)) [])) (lt-leb (length s) (2 ^ 30) h))

  pub matches_short : length s ≤ 2 ^ 30 → (stored : Stored) → put_all stored (matching q (records_from 0 s 0)) ≡ put_all stored (matches_in q s)
  unfolding matches_in
  matches_short h stored = sym (ap (λ b. put_all stored (cond b (matching q (records_from 0 s 0)) [])) (le-leb (length s) (2 ^ 30) h))
