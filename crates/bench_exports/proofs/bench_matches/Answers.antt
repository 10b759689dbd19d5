-- `bench_matches` meets its contract: all records of the payload, from an empty count. Assumes nothing.
use mathlib.Core.Path.{ap, ◌∙◌}
use native.Mathlib.Omega.{arith}
use Rattle.query.specs.Query.{Query, query_of}
use Rattle.matching.specs.Matching.{matching, records_from}
use Rattle.matching.specs.ResultList.{put_all}
use Rattle.bench_exports.proofs.MatchesLaws.{matches_long, matches_short}
use Rattle.bench_exports.proofs.bench_matches.Goals as goal

pub returns-then-bytes-gt-LONGEST : goal.returns-then-bytes-gt-LONGEST
returns-then-bytes-gt-LONGEST c =
    matches_long (query_of c.args.start.now c.args.stop_given c.args.stop.now c.args.prefix.now) c.args.bytes.now (omega arith)
    _

pub collect_records-requires : goal.collect_records-requires
collect_records-requires c =
    (omega (arith, c.well_formed), omega arith)

pub returns : goal.returns
returns c =
    c.collect_records.ensures 0
    ∙ ap (λ (q : Query). put_all (record { count = 0; list = c.args.results.now }) (matching q (records_from 0 c.args.bytes.now 0))) c.new-query.ensures
    ∙ matches_short (query_of c.args.start.now c.args.stop_given c.args.stop.now c.args.prefix.now) c.args.bytes.now (omega arith) _
