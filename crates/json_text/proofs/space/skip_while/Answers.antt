-- Each byte that is passed, or at which it stops, is one case of the definition. Assumes nothing.
use Rattle.std.proofs.Common.{◌∙◌}
use Rattle.json_text.proofs.FrontLaws.{skip_none, skip_stop, skip_more}
use Rattle.json_text.proofs.space.skip_while.Goals as goal

pub returns-then-not-test : goal.returns-then-not-test
returns-then-not-test g c = λ p said.
    skip_stop p _ c.in-len1-up.len_at_least (said _ _ c.if-not-test.ensures) ∙ c.loop-rest.invariant p said

pub loop-rest-preserved : goal.loop-rest-preserved
loop-rest-preserved g c = λ p said.
    skip_more p _ c.in-len1-up.len_at_least (said _ _ c.if-not-test.ensures) ∙ c.loop-rest.invariant p said

pub returns : goal.returns
returns g c = λ p said. skip_none p _ c.in_default.len_below ∙ c.loop-rest.invariant p said
