-- `admits` meets its contract: the opening test on the parts that it lends.
-- Assumes nothing.
use Rattle.query.specs.Asked.{asked}
use Rattle.search.specs.Steps.{PartWithin}
use Rattle.search.proofs.ChildLaws.{admits_lent}
use Rattle.search.proofs.child.admits.Goals as goal

pub of-requires : goal.of-requires
unfolding PartWithin
of-requires c = c.requires.0

pub bound-requires : goal.bound-requires
bound-requires c = c.requires.1

pub returns : goal.returns
returns c =
    admits_lent c.args.file.now (asked c.args.query) c.args.child _ c.bound.ensures _ c.of.ensures.result_value _ c.may_match.ensures
