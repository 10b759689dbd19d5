-- `search` meets its contract: over lists that were cleared, and that are cleared again after a refusal.
-- Assumes nothing.
use mathlib.Core.Path.{◌∙◌}
use Rattle.query.specs.Asked.{asked}
use Rattle.search.specs.Search.{refused_answer}
use Rattle.search.proofs.SearchLaws.{lists_clear, search_went, search_stopped}
use Rattle.search.proofs.search.Goals as goal

pub search_file-requires : goal.search_file-requires
search_file-requires c =
    lists_clear c.args.file.now (asked c.args.query) c.args.opened.now c.args.results.now c.clear_both.ensures

pub returns-in-Ok : goal.returns-in-Ok
returns-in-Ok c = let both = (search_went c.args.file.now (asked c.args.query) c.args.opened.now c.args.results.now c.clear_both.ensures _ _
    c.search_file.ensures c.search_file.auto.opened c.search_file.auto.results c.in-Ok.is) in
    record { value = both.0; opened_after = both.1.0; results_after = both.1.1 }

pub returns-in-Err : goal.returns-in-Err
unfolding refused_answer
returns-in-Err c = let both = (search_stopped c.args.file.now (asked c.args.query) c.args.opened.now c.args.results.now c.clear_both.ensures _ _
    c.search_file.ensures c.search_file.auto.opened c.search_file.auto.results c.in-Err.is c.clear_both-in-Err.ensures) in
    record { value = c.into.ensures ∙ both.0; opened_after = both.1.0; results_after = both.1.1 }
