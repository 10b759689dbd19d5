-- `collect_records` meets its contract: each way on is one law of `RecordsLaws`. Assumes nothing.
use mathlib.Core.Path.{sym, ap, ◌∙◌}
use Prim.Native.Nat.{◌+◌, ◌<◌, ◌≤◌}
use native.Mathlib.Omega.{arith}
use lib.ListN.{length}
use Rattle.payload.specs.Answers.{text_said}
use Rattle.query.specs.Asked.{asked}
use Rattle.query.specs.Query.{matches}
use Rattle.matching.proofs.CollectLaws.{collected_start}
use Rattle.matching.proofs.RecordsLaws.{text_bounds, records_kept, records_passed, records_end}
use Rattle.matching.proofs.collect_records.Goals as goal
use Rattle.matching.proofs.collect_records.Goals.{In-Ok}

pub loop-text-init : goal.loop-text-init
loop-text-init c = collected_start _ _ _ _ _ _

-- where the record that was read lies
placed : (c : In-Ok) → (c.loop-text.at < c.in-Ok.text.offset) × (c.in-Ok.text.offset + c.in-Ok.text.length ≤ length c.args.s.now)
unfolding text_said
placed c = text_bounds 0 c.args.s.now c.loop-text.at _ _ (sym (c.in-Ok.ensures 0))

pub end-at-requires : goal.end-at-requires
end-at-requires c = let b = placed (goal.at.end-at-requires c).In-Ok in omega (arith, c.well_formed)

pub of-requires : goal.of-requires
of-requires c = (placed (goal.at.of-requires c).In-Ok).1

pub put_match-requires : goal.put_match-requires
put_match-requires c = let b = placed (goal.at.put_match-requires c).In-Ok in (omega arith, omega arith)

pub overflow_add-found : goal.overflow_add-found
overflow_add-found c = let b = placed (goal.at.overflow_add-found c).In-Ok in let few = c.loop-text.invariant.few in omega arith

pub loop-text-smaller-then-matches : goal.loop-text-smaller-then-matches
loop-text-smaller-then-matches c = let b = placed (goal.at.loop-text-smaller-then-matches c).In-Ok in let is = c.end-at.ensures in omega arith

pub loop-text-preserved-then-matches : goal.loop-text-preserved-then-matches
unfolding text_said
loop-text-preserved-then-matches c =
    rw c.end-at.ensures (records_kept _ _ _ _ _ _ c.loop-text.invariant _ _ (λ place. sym (c.in-Ok.ensures place))
    (ap (matches (asked c.args.query)) (sym c.of.ensures.result_value) ∙ sym c.matches.ensures ∙ c.if-matches.true) _ c.put_match.ensures)

pub loop-text-smaller : goal.loop-text-smaller
loop-text-smaller c = let b = placed (goal.at.loop-text-smaller c).In-Ok in let is = c.end-at.ensures in omega arith

pub loop-text-preserved : goal.loop-text-preserved
unfolding text_said
loop-text-preserved c =
    rw c.end-at.ensures (records_passed _ _ _ _ _ _ c.loop-text.invariant _ _ (λ place. sym (c.in-Ok.ensures place))
    (ap (matches (asked c.args.query)) (sym c.of.ensures.result_value) ∙ sym c.matches.ensures ∙ c.if-matches.false))

pub returns : goal.returns
unfolding text_said
returns c place = records_end _ _ _ _ _ _ c.loop-text.invariant place _ (sym (c.in_default.ensures place))
