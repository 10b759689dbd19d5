use Rattle.std.proofs.Common.{rules, leb, length, ap, ◌∙◌}
use borrow.Author.Tests.{tests}
use Rattle.std.specs.Option.{unwrap_or}
use Rattle.std.proofs.lemmas.Iterator.{YieldsList-from_slice}
use Rattle.std.proofs.lemmas.Iterator.Search.{position_from_yields_List}
use Rattle.sim.proofs.AdnLaws.{first_place, plain_position}
use Rattle.sim.proofs.plain_length.Goals as goal

pub returns : goal.returns
returns c =
    c.unwrap_or.ensures
    ∙ ap (λ o. unwrap_or o (length c.args.s.now))
    (position_from_yields_List (λ x. leb 128 x) _ _ _ c.position.ensures.ran (YieldsList-from_slice c.args.s.now cc) (λ x b q k. search (rules, tests)))
    ∙ first_place (λ b. leb 128 b) c.args.s.now ∙ plain_position c.args.s.now
