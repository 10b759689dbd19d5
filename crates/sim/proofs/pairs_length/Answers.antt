use Rattle.std.proofs.Common.{rules, length, ap, ◌∙◌, ◌*◌}
use borrow.Author.Tests.{tests}
use Rattle.std.specs.Option.{unwrap_or}
use Rattle.std.proofs.lemmas.Iterator.{YieldsList-from_slice}
use Rattle.std.proofs.lemmas.Iterator.Search.{position_from_yields_List}
use Rattle.sim.proofs.AdnLaws.{last, first_place, pairs_position}
use Rattle.sim.proofs.pairs_length.Goals as goal

pub returns : goal.returns
returns c =
    let found =
    position_from_yields_List last _ _ c.position.result c.position.ensures.ran (YieldsList-from_slice c.as_chunks.result.0.now cc)
    (λ x b q k. search (rules, tests)) in
    ap (λ n. 2 * n)
    (c.unwrap_or.ensures ∙ ap (λ o. unwrap_or o (length c.as_chunks.result.0.now)) found ∙ first_place last c.as_chunks.result.0.now)
    ∙ rw c.as_chunks.ensures.front (pairs_position c.args.s.now)
