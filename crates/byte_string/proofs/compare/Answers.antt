-- `compare` meets its contract. Each answer is one law of the place at which x and y part: both end there, one ends, or the bytes there decide.
-- Assumes nothing.
use Rattle.byte_string.specs.Order.{signed}
use Rattle.byte_string.proofs.AgreeingLaws.{ended, not_ended, order_both_ended, order_left_ended, order_right_ended}
use Rattle.byte_string.proofs.ComparisonLaws.{comparison_of_lem}
use Rattle.byte_string.proofs.compare.Goals as goal

pub returns-in-None-None : goal.returns-in-None-None
unfolding signed
returns-in-None-None c =
    let e = c.agreement-agreeing.ensures in
    let x = ended _ _ c.in-None-None.ensures.lookup.0 in
    let y = ended _ _ c.in-None-None.ensures'.lookup.0 in
    comparison_of_lem _ _ _ _ e (order_both_ended _ _ _ e x y)

pub returns-in-None-Some : goal.returns-in-None-Some
unfolding signed
returns-in-None-Some c =
    let e = c.agreement-agreeing.ensures in
    let x = ended _ _ c.in-None-Some.ensures.lookup.0 in
    let y = not_ended _ _ c.in-None-Some.ensures'.lookup.0 in
    comparison_of_lem _ _ _ _ e (order_left_ended _ _ _ e x y)

pub returns-in-Some-None : goal.returns-in-Some-None
unfolding signed
returns-in-Some-None c =
    let e = c.agreement-agreeing.ensures in
    let x = not_ended _ _ c.in-Some-None.ensures.lookup.0 in
    let y = ended _ _ c.in-Some-None.ensures'.lookup.0 in
    comparison_of_lem _ _ _ _ e (order_right_ended _ _ _ e x y)
