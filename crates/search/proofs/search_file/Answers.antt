-- `search_file` meets its contract: the header, then the walk from the root that it names.
-- Assumes nothing.
use mathlib.Core.Path.{refl, sym}
use lib.ListN.{length}
use Rattle.outcome.specs.Fault.{said_at, at_front}
use Rattle.outcome.proofs.ResultLaws.{err_on}
use Rattle.header.specs.Header.{blocks_from}
use Rattle.header.proofs.HeaderLaws.{is_header}
use Rattle.query.specs.Asked.{asked}
use Rattle.search.specs.Steps.{BoundWithin, bound_of}
use Rattle.search.proofs.SearchLaws.{header_refuses, header_accepts, root_refused, root_asks, root_walked}
use Rattle.search.proofs.search_file.Goals as goal

pub returns-in_err-header : goal.returns-in_err-header
unfolding said_at at_front
returns-in_err-header c =
    rw (err_on _ _ c.from_residual.ensures.1)
    (header_refuses c.args.file.now (asked c.args.query) (length c.args.opened.now) (length c.args.results.now) _ _ _ (sym c.in_err-header.ensures))

pub returns-in_err-root : goal.returns-in_err-root
unfolding said_at blocks_from
returns-in_err-root c =
    rw (err_on _ _ c.from_residual-in_err-root.ensures.1)
    (header_accepts c.args.file.now (asked c.args.query) (length c.args.opened.now) (length c.args.results.now) _ _ (sym c.in_ok-header.ensures) _
    (root_refused c.args.file.now (asked c.args.query) _ c.in_ok-header.header.root c.in_ok-header.header.rootsize c.args.opened.now
    c.args.results.now c.root_named-named.ensures c.open_block.ensures.result_value c.in_err-root.was _ _))

pub walk-requires : goal.walk-requires
unfolding said_at BoundWithin bound_of
walk-requires c =
    root_asks c.args.file.now (asked c.args.query) _ c.in_ok-header.header.root c.in_ok-header.header.rootsize c.args.opened.now
    c.args.results.now c.root_named-named.ensures c.open_block.ensures.result_value c.in_ok-root.was c.open_block.ensures.opened_after
    (tt, refl) (is_header c.args.file.now _ (sym c.in_ok-header.ensures)).small

pub returns : goal.returns
unfolding said_at blocks_from BoundWithin bound_of
returns c =
    header_accepts c.args.file.now (asked c.args.query) (length c.args.opened.now) (length c.args.results.now) _ _ (sym c.in_ok-header.ensures) _
    (root_walked c.args.file.now (asked c.args.query) _ c.in_ok-header.header.root c.in_ok-header.header.rootsize c.args.opened.now
    c.args.results.now c.root_named-named.ensures c.open_block.ensures.result_value c.in_ok-root.was c.open_block.ensures.opened_after
    (tt, refl) c.requires c.walk.ensures)
