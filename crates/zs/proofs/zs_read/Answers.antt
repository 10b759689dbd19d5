-- `zs_read` meets its contract: that of `read`, and what the theorems say of its answer and list. Assumes nothing.
use mathlib.Core.Path.{ap, ◌∙◌}
use lib.ListN.{length}
use Rattle.query.specs.Query.{Query, query_of}
use Rattle.reader.specs.Read.{read_of, read_answer, read_list}
use Rattle.theorems_read.proofs.ReadAccepted.{read_by_rules}
use Rattle.theorems_read.proofs.ReadPairs.{read_unpacks}
use Rattle.zs.proofs.zs_read.Goals as goal

pub returns : goal.returns
returns c =
    let file = c.args.file.now in
    let room = length c.args.results.now in
    let q = query_of c.args.start.now c.args.stop_given c.args.stop.now c.args.prefix.now in
    let value = c.read.ensures.value ∙ ap (λ (p : Query). read_answer (read_of file p room)) c.new-query.ensures in
    let list = c.read.ensures.results_after ∙ ap (λ (p : Query). read_list room (read_of file p room)) c.new-query.ensures in
    record {
      value = value;
      results_after = list;
      read_by_rules = read_by_rules file q room _ _ value list;
      read_unpacks = read_unpacks file q room _ _ value list;
    }
