use mathlib.Core.Path.{sym}
use Prim.Native.Nat.{◌+◌, ◌-◌}
use native.Mathlib.Nat.{sub-zero}
use native.Mathlib.Omega.{arith}
use Rattle.index_encoder.specs.Children.{child_said}
use Rattle.index_encoder.proofs.EntryLaws.{entering_none, entering_all}
use Rattle.index_encoder.proofs.EntryLaws.{entering_refused, entering_within, entering_fits, entering_more}
use Rattle.index_encoder.proofs.entries.put_entries.Goals as goal

pub loop-init : goal.loop-init
loop-init c = rw sub-zero (entering_none _ _ _ _ _ c.requires.1)

pub child_at-requires : goal.child_at-requires
child_at-requires c = entering_within _ _ _ _ _ _ _ _ _ c.loop.invariant c.requires.0

pub put_entry-end-requires : goal.put_entry-end-requires
put_entry-end-requires c =
    let fits = entering_fits _ _ _ _ _ _ _ _ _ c.loop.invariant c.requires.0 _ c.in-Ok.ensures.result_value c.in-Ok.ensures.child_within
    (c.args.count - (c.loop.counter + 1)) (omega arith) c.requires.2 in (fits.0, fits.1)

pub after-at-requires : goal.after-at-requires
after-at-requires c =
    let fits = entering_fits _ _ _ _ _ _ _ _ _ c.loop.invariant c.requires.0 _ c.in-Ok.ensures.result_value c.in-Ok.ensures.child_within
    (c.args.count - (c.loop.counter + 1)) (omega arith) c.requires.2 in omega (arith, fits.2)

pub loop-preserved : goal.loop-preserved
loop-preserved c =
    rw c.after-at.ensures (entering_more _ _ _ _ _ _ _ _ _ c.loop.invariant c.requires.0 _ c.in-Ok.ensures.result_value
    c.in-Ok.ensures.child_within _ (omega arith) c.requires.2 c.put_entry-end.ensures.value c.put_entry-end.ensures.output_after)

pub returns-in_default : goal.returns-in_default
unfolding child_said
returns-in_default c =
    let both = entering_refused _ _ _ _ _ _ _ _ _ c.loop.invariant c.requires.0 _ _ (sym c.in_default.ensures.result_value) in
    record { value = both.0; output_after = both.1 }

pub returns : goal.returns
returns c = let both = entering_all _ _ _ _ _ _ _ _ _ c.loop.invariant (omega arith) in record { value = both.0; output_after = both.1 }
