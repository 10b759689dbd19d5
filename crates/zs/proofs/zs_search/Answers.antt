-- `zs_search` meets its contract: that of `search`, and what the theorems say of its answer and lists. File, start and prefix are slices
-- of u8, so they are bytes. Assumes nothing.
use mathlib.Core.Path.{ap, ◌∙◌}
use native.Mathlib.Omega.{arith}
use lib.ListN.{length}
use Rattle.byte_string.proofs.BytesLaws.{bytes_of_below}
use Rattle.query.specs.Query.{Query, query_of}
use Rattle.search.specs.Search.{search_of, search_answer, opened_list, result_list}
use Rattle.theorems_search.specs.SearchedByRules.{QueryBytes}
use Rattle.theorems_search.proofs.SearchAccepted.{search_by_rules}
use Rattle.theorems_search.proofs.SearchLocal.{search_locally}
use Rattle.theorems_search.proofs.SearchPairs.{search_unpacks}
use Rattle.zs.proofs.zs_search.Goals as goal

pub returns : goal.returns
unfolding query_of
returns c =
    let file = c.args.file.now in
    let q = query_of c.args.start.now c.args.stop_given c.args.stop.now c.args.prefix.now in
    let places = length c.args.opened.now in
    let room = length c.args.results.now in
    let file_bytes = bytes_of_below c.args.file.now (λ k l. omega (arith, c.type_inv.file k)) in
    let start_bytes = bytes_of_below c.args.start.now (λ k l. omega (arith, c.type_inv.start k)) in
    let prefix_bytes = bytes_of_below c.args.prefix.now (λ k l. omega (arith, c.type_inv.prefix k)) in
    let asked : QueryBytes q = record { start = start_bytes; prefix = prefix_bytes } in
    let value = c.search.ensures.value ∙ ap (λ (p : Query). search_answer (search_of file p places room)) c.new-query.ensures in
    let opened = c.search.ensures.opened_after ∙ ap (λ (p : Query). opened_list places (search_of file p places room)) c.new-query.ensures in
    let list = c.search.ensures.results_after ∙ ap (λ (p : Query). result_list room (search_of file p places room)) c.new-query.ensures in
    record {
      value = value;
      opened_after = opened;
      results_after = list;
      searched_by_rules = search_by_rules file file_bytes q asked places room _ _ _ value opened list;
      searched_locally = search_locally file q places room _ _ _ value opened list;
      search_unpacks = search_unpacks file q places room _ _ _ value opened list;
    }
