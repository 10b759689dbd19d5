-- `compare_checked` meets its contract: one law for each refusal, and for what is listed.
-- Assumes nothing.
use lib.ListN.{length}
use native.Mathlib.Omega.{arith}
use mathlib.Core.Path.{◌≡◌, ap, ◌∙◌}
use mir.Syntax.{w64}
use mir.Val.{to_z, of_z}
use borrow.Author.Rules.{rules}
use Rattle.output_list.specs.OutputList.{zeros}
use Rattle.outcome.specs.Fault.{number}
use Rattle.block.specs.Survey.{records_of}
use Rattle.cursor.specs.Cursor.{following}
use Rattle.comparer.specs.Reported.{refused_as, number_of_file, reported}
use Rattle.comparer.proofs.CompareLaws.{Checks, checks, follows, compare_few, merged_short, merged-listed, first_handed, second_handed}
use Rattle.comparer.proofs.compare_checked.Goals.{After-at_block-b}
use Rattle.comparer.proofs.compare_checked.Goals as goal

pub returns-in_err-one : goal.returns-in_err-one
returns-in_err-one c =
    let told = first_handed c.args.first.now c.args.second.now _ _ _ c.from_residual.ensures.1 c.args.list.now c.in_err-one.ensures.value in
    record { value = told.0; list_after = c.requires ∙ told.1; work_after = c.in_err-one.ensures.work_after }

pub returns-in_err-two : goal.returns-in_err-two
returns-in_err-two c =
    let told = second_handed c.args.first.now c.args.second.now (length c.args.work.now) _ _ c.from_residual-in_err-two.ensures.1 c.args.list.now _
    (checks _ _ _ _ c.in_ok-one.ensures.value) (rw c.check_one.auto.work at c.in_err-two.ensures.value) in
    record { value = told.0; list_after = c.requires ∙ told.1; work_after = c.in_err-two.ensures.work_after ∙ ap zeros c.check_one.auto.work }

-- Where the merge begins, both files have been checked, and a cursor stands in front of the records of each.
one : (c : After-at_block-b) → Checks c.args.first.now (length c.args.work.now) c.in_ok-one.one
one c = checks _ _ _ _ c.in_ok-one.ensures.value

two : (c : After-at_block-b) → Checks c.args.second.now (length c.args.work.now) c.in_ok-two.two
two c = checks _ _ _ _ (rw c.check_one.auto.work at c.in_ok-two.ensures.value)

one_follows : (c : After-at_block-b) → following c.args.first.now c.at_block-a.result ≡ records_of (one c).blocks
one_follows c = follows _ _ _ (one c) _ c.blocks_of.ensures _ c.at_block-a.ensures

two-follows : (c : After-at_block-b) → following c.args.second.now c.at_block-b.result ≡ records_of (two c).blocks
two-follows c = follows _ _ _ (two c) _ c.blocks_of-2.ensures _ c.at_block-b.ensures

pub merge-found-requires : goal.merge-found-requires
merge-found-requires c =
    let b = (goal.at.merge-found-requires c).After-at_block-b in
    compare_few _ _ _ (length c.args.list.now) _ _ (one b) (two b) _ _ (one_follows b) (two-follows b)

pub returns-then-list-found : goal.returns-then-list-found
unfolding reported refused_as number_of_file number
returns-then-list-found c =
    let b = (goal.at.returns-then-list-found c).After-at_block-b in
    let short = c.if-list-found.true in
    let same = c.merge-found.auto.list in
    let told =
    merged_short _ _ _ (length c.args.list.now) _ _ (one b) (two b) _ _ (one_follows b) (two-follows b) _ c.merge-found.ensures.value (omega arith) in
    record {
      value = rw c.number.ensures told.0;
      list_after = c.clear.ensures ∙ ap zeros same ∙ told.1;
      work_after = c.in_ok-two.ensures.work_after ∙ ap zeros c.check_one.auto.work;
    }

pub minus-requires : goal.minus-requires
minus-requires c =
    let b = (goal.at.minus-requires c).After-at_block-b in
    let counted = (one b).counted in
    let few = (one b).few in
    let counted₂ = (two b).counted in
    let few₂ = (two b).few in
    (omega arith, omega arith)

pub returns : goal.returns
unfolding reported
returns c =
    let b = (goal.at.returns c).After-at_block-b in
    let same = c.merge-found.auto.list in
    let room = c.if-list-found.false in
    let sum : to_z w64 (of_z w64 c.minus.result) ≡ c.minus.result = search rules in
    let told =
    merged-listed _ _ _ (length c.args.list.now) _ _ (one b) (two b) _ _ (one_follows b) (two-follows b) _ c.merge-found.ensures.value (omega arith)
    _ _ c.requires c.merge-found.ensures.list_after _ (sum ∙ c.minus.ensures) in
    record { value = told.0; list_after = told.1; work_after = c.in_ok-two.ensures.work_after ∙ ap zeros c.check_one.auto.work }
