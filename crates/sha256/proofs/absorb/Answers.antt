-- The two ways of a piece more are the laws `absorbed_short` and `absorbed_long`; here they meet what the calls ensure.
use Rattle.std.proofs.Common.{◌≡◌, ℕ, ◌-◌, ◌*◌, ◌/◌, ◌%◌, List, ◌++◌, length, take, drop, refl, ap, ◌∙◌, arith, rules}
use Rattle.sha256.proofs.AbsorbLaws.{absorbed_short, absorbed_long}
use Rattle.sha256.proofs.FillLaws.{zeroed}
use Rattle.sha256.proofs.absorb.Goals.{Start}
use Rattle.sha256.proofs.absorb.Goals as goal

-- an array has its length by its type
full : (c : Start) → length c.args.state.partial ≡ 64
full c = search rules

pub returns-in-None : goal.returns-in-None
returns-in-None c =
    absorbed_short c.args.state c.args.piece.now c.filled.result _ (full ((goal.at.returns-in-None c).Start)) c.in-None.ensures.cases c.filled.ensures refl

pub returns-in-Some : goal.returns-in-Some
returns-in-Some c =
    let fill = c.args.state.count % 64 in
    let parts = c.in-Some.ensures.cases in
    let rest = c.in-Some.rest.now in
    let block = c.filled-block.ensures ∙ ap (λ (l : List ℕ). take fill c.args.state.partial ++ zeroed fill l) parts.1 in
    let whole : length rest - length rest % 64 ≡ length rest / 64 * 64 = omega arith in
    let kept = c.remainder-kept.ensures ∙ c.chunks_exact.ensures.remainder ∙ ap (λ (n : ℕ). drop n rest) whole in
    absorbed_long c.args.state c.args.piece.now c.filled-block.result rest c.remainder-kept.result.now c.filled-in-Some.result c.over.result
    c.over-in-Some.result _ (full ((goal.at.returns-in-Some c).Start)) parts.0 block parts.2 kept c.over.ensures c.over-in-Some.ensures
    c.filled-in-Some.ensures refl
