use native.Mathlib.Omega.{arith}
use mathlib.Core.Path.{◌≡◌, sym, ap, ◌∙◌}
use mathlib.Core.List.{List}
use Prim.Native.Nat.{ℕ}
use lib.ListN.{length}
use Rattle.part.specs.Part.{part}
use Rattle.part.proofs.PartLaws.{length_part}
use Rattle.payload.specs.Answers.{text_in}
use Rattle.shown.specs.Which.{file_of}
use Rattle.cursor.specs.Cursor.{following}
use Rattle.differences.specs.Merge.{leading}
use Rattle.comparer.specs.Steps.{next_said, NextWithin}
use Rattle.comparer.proofs.StepLaws.{merging_start, merging_end, merging_falls, merging_same, merging_more}
use Rattle.comparer.proofs.merge.merge.Goals as goal
use Rattle.comparer.proofs.merge.merge.Goals.{After-of-bytes}

pub loop-file-init : goal.loop-file-init
loop-file-init c = merging_start _ _ _

pub of-bytes-requires : goal.of-bytes-requires
unfolding NextWithin
of-bytes-requires c = let long = ap length c.of.ensures.result_value in let within = c.in-Some.ensures.within in omega arith

-- the bytes of the record that comes next
shows : (c : After-of-bytes) → c.of-bytes.result.now ≡ (text_in (file_of c.args.first.now c.args.second.now c.in-Some.file) c.in-Some.text.offset c.in-Some.text.length).bytes
unfolding text_in
shows c = c.of-bytes.ensures.result_value ∙ ap (λ s. part s c.in-Some.text.offset c.in-Some.text.length) c.of.ensures.result_value

pub loop-file-smaller-then-one-two : goal.loop-file-smaller-then-one-two
unfolding next_said
loop-file-smaller-then-one-two c =
    let b = shows (goal.at.loop-file-smaller-then-one-two c).After-of-bytes in
    merging_falls _ _ _ _ _ _ _ c.loop-file.invariant _ _ c.in-Some.ensures.next _ _
    (c.pass_copies-one.ensures.0 ∙ ap (λ (l : List ℕ). leading l (following c.args.first.now c.loop-file.x)) b)
    (c.pass_copies-two.ensures.0 ∙ ap (λ (l : List ℕ). leading l (following c.args.second.now c.loop-file.y)) b) _ _
    c.pass_copies-one.ensures.1 c.pass_copies-two.ensures.1

pub loop-file-preserved-then-one-two : goal.loop-file-preserved-then-one-two
unfolding next_said text_in NextWithin
loop-file-preserved-then-one-two c =
    let b = shows (goal.at.loop-file-preserved-then-one-two c).After-of-bytes in
    merging_more _ _ _ _ _ _ _ c.loop-file.invariant _ _ c.in-Some.ensures.next _ _
    (c.pass_copies-one.ensures.0 ∙ ap (λ (l : List ℕ). leading l (following c.args.first.now c.loop-file.x)) b)
    (c.pass_copies-two.ensures.0 ∙ ap (λ (l : List ℕ). leading l (following c.args.second.now c.loop-file.y)) b) _ _
    c.pass_copies-one.ensures.1 c.pass_copies-two.ensures.1 c.if-one-two.true _
    (sym (length_part _ _ _ c.in-Some.ensures.within)) _ c.put_difference.ensures

pub loop-file-smaller : goal.loop-file-smaller
unfolding next_said
loop-file-smaller c =
    let b = shows (goal.at.loop-file-smaller c).After-of-bytes in
    merging_falls _ _ _ _ _ _ _ c.loop-file.invariant _ _ c.in-Some.ensures.next _ _
    (c.pass_copies-one.ensures.0 ∙ ap (λ (l : List ℕ). leading l (following c.args.first.now c.loop-file.x)) b)
    (c.pass_copies-two.ensures.0 ∙ ap (λ (l : List ℕ). leading l (following c.args.second.now c.loop-file.y)) b) _ _
    c.pass_copies-one.ensures.1 c.pass_copies-two.ensures.1

pub loop-file-preserved : goal.loop-file-preserved
unfolding next_said
loop-file-preserved c =
    let b = shows (goal.at.loop-file-preserved c).After-of-bytes in
    merging_same _ _ _ _ _ _ _ c.loop-file.invariant _ _ c.in-Some.ensures.next _ _
    (c.pass_copies-one.ensures.0 ∙ ap (λ (l : List ℕ). leading l (following c.args.first.now c.loop-file.x)) b)
    (c.pass_copies-two.ensures.0 ∙ ap (λ (l : List ℕ). leading l (following c.args.second.now c.loop-file.y)) b) _ _
    c.pass_copies-one.ensures.1 c.pass_copies-two.ensures.1 c.if-one-two.false

pub returns : goal.returns
unfolding next_said
returns c =
    let both = merging_end _ _ _ _ _ _ _ c.loop-file.invariant c.in_default.ensures.next in record { value = both.0; list_after = both.1 }
