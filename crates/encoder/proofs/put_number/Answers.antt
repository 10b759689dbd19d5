use Prim.Native.Nat.{◌-◌}
use native.Mathlib.Omega.{arith}
use mathlib.Core.Path.{◌≡◌}
use Rattle.uleb128.proofs.EncodingLaws.{encoding_some}
use Rattle.encoder.proofs.PutLaws.{putting_none, putting_next, putting_end, putting_full}
use Rattle.encoder.proofs.put_number.Goals as goal

pub returns-then-output-at : goal.returns-then-output-at
returns-then-output-at c = putting_full _ _ _ (omega arith)

pub overflow_sub-last : goal.overflow_sub-last
overflow_sub-last c = omega (arith, encoding_some c.args.value)

pub loop-i-init : goal.loop-i-init
loop-i-init c = putting_none _ _ _ (omega arith) (omega arith)

pub loop-i-preserved : goal.loop-i-preserved
loop-i-preserved c = putting_next _ _ _ _ _ _ (omega arith) c.loop-i.invariant

pub overflow_cast-output-2 : goal.overflow_cast-output-2
overflow_cast-output-2 c =
    let some = encoding_some c.args.value in
    let last = putting_end _ _ _ _ _ _ (omega arith) c.loop-i.invariant in omega (arith, last.0)

pub bounds-output-at-2 : goal.bounds-output-at-2
bounds-output-at-2 c = omega (arith, encoding_some c.args.value)

pub returns : goal.returns
returns c =
    let some = encoding_some c.args.value in
    let at_last : c.number_length-length.result - 1 ≡ c.loop-i.i = omega arith in
    let last = putting_end _ _ _ _ _ _ (omega arith) c.loop-i.invariant in
    rw (at_last, c.number_length-length.ensures) (last.1, last.2)
