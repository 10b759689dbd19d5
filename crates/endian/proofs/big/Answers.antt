use mathlib.Core.Path.{ap, ◌∙◌}
use Prim.Native.Nat.{ℕ, ◌<◌, ◌^◌}
use native.Mathlib.Omega.{arith}
use borrow.Author.Rules.{rules}
use lib.Seq.{take_all}
use Rattle.part.proofs.BytesLaws.{bytes_of_below}
use Rattle.endian.specs.FixedWidth.{little_endian, big_endian}
use Rattle.endian.proofs.FixedWidthLaws.{big_endian-take_lt, big_endian-take_more}
use Rattle.endian.proofs.big.Goals.{In-loop-i}
use Rattle.endian.proofs.big.Goals as goal

pub loop-i-init : goal.loop-i-init
unfolding big_endian little_endian
loop-i-init c = search rules

-- fewer than 8 bytes leave room for one more
room : (c : In-loop-i) → c.loop-i.value < 256 ^ 7
room c =
    let bytes = bytes_of_below c.args.part.now (λ (k : ℕ) _. (c.type_inv.part k).fits) in
    rw c.loop-i.invariant.1 (big_endian-take_lt 7 c.args.part.now bytes c.loop-i.i (omega arith))

pub overflow_mul-value : goal.overflow_mul-value
overflow_mul-value c = omega (arith, room ((goal.at.overflow_mul-value c).In-loop-i))

pub overflow_add-value : goal.overflow_add-value
overflow_add-value c =
    omega (arith, room ((goal.at.overflow_add-value c).In-loop-i), c.type_inv.part c.loop-i.i)

pub loop-i-preserved : goal.loop-i-preserved
loop-i-preserved c =
    (omega arith, omega (arith, big_endian-take_more c.args.part.now c.loop-i.i c.loop-i-test.true))

pub returns : goal.returns
returns c =
    c.loop-i.invariant.1 ∙ ap big_endian (take_all c.loop-i.i c.args.part.now c.loop-i-test.false)
