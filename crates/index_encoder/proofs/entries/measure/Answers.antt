use mathlib.Core.Path.{sym, refl}
use native.Mathlib.Omega.{arith}
use Rattle.index_encoder.specs.Children.{child_said, ChildWithin}
use Rattle.index_encoder.proofs.EntryLaws.{measuring_none, measuring_bound, measuring_more, measured_all, measured_full}
use Rattle.index_encoder.proofs.entries.measure.Goals as goal

pub loop-init : goal.loop-init
loop-init c = record { each = refl; measuring = measuring_none _ _ _ c.requires.1 }

pub child_at-requires : goal.child_at-requires
child_at-requires c = c.loop.invariant.measuring.within

pub returns-in_default : goal.returns-in_default
unfolding child_said
returns-in_default c = measured_all _ _ _ _ _ _ c.loop.invariant.measuring _ _ (sym c.in_default.ensures.result_value)

pub overflow_add-group : goal.overflow_add-group
overflow_add-group c = let each = c.loop.invariant.each in omega arith

pub after-requires : goal.after-requires
unfolding ChildWithin
after-requires c = let within = c.in-Ok.ensures.child_within in let d = within.3 in let short = c.requires.0 in omega arith

pub entry_length-requires : goal.entry_length-requires
unfolding ChildWithin
entry_length-requires c =
    let within = c.in-Ok.ensures.child_within in let a = within.0 in let b = within.1 in let d = within.3 in let short = c.requires.0 in
    (omega arith, omega arith, omega arith)

pub overflow_add-group-in-loop : goal.overflow_add-group-in-loop
unfolding ChildWithin
overflow_add-group-in-loop c =
    let within = c.in-Ok.ensures.child_within in let b = within.1 in let d = within.3 in
    let more = measuring_bound _ _ _ _ _ _ c.loop.invariant.measuring _ c.in-Ok.ensures.result_value within c.requires.0 in
    let bounded = c.loop.invariant.measuring.bounded in let onward = c.loop.invariant.measuring.onward in
    let long = c.entry_length.ensures c.args.s.now (omega arith) in omega arith

pub loop-preserved : goal.loop-preserved
unfolding ChildWithin
loop-preserved c =
    let within = c.in-Ok.ensures.child_within in let b = within.1 in let d = within.3 in
    let each = c.loop.invariant.each in
    record {
      each = omega arith;
      measuring = rw (c.after.ensures, c.entry_length.ensures c.args.s.now (omega arith))
          (measuring_more _ _ _ _ _ _ c.loop.invariant.measuring _ c.in-Ok.ensures.result_value within c.requires.0 (omega arith));
    }

pub returns : goal.returns
returns c = let each = c.loop.invariant.each in measured_full _ _ _ _ _ _ c.loop.invariant.measuring (omega arith)
