use mathlib.Core.Path.{◌≡◌, ap, ◌∙◌}
use Prim.Native.Nat.{ℕ, ◌<◌, ◌-◌, ◌^◌}
use native.Mathlib.Omega.{arith}
use native.Mathlib.Nat.{le_refl}
use lib.ListN.{length, drop, drop_of_length-le}
use Rattle.part.proofs.BytesLaws.{bytes_of_below}
use Rattle.endian.specs.FixedWidth.{little_endian}
use Rattle.endian.proofs.FixedWidthLaws.{little_endian-drop_lt, little_endian-drop-less}
use Rattle.endian.proofs.little.Goals.{In-loop-i}
use Rattle.endian.proofs.little.Goals as goal

pub loop-i-init : goal.loop-i-init
unfolding little_endian
loop-i-init c =
    (omega arith, rw (drop_of_length-le c.args.part.now (le_refl (length c.args.part.now))))

-- fewer than 8 bytes leave room for one more
room : (c : In-loop-i) → c.loop-i.value < 256 ^ 7
room c =
    let bytes = bytes_of_below c.args.part.now (λ (k : ℕ) _. (c.type_inv.part k).fits) in
    rw c.loop-i.invariant.1 (little_endian-drop_lt 7 c.args.part.now bytes c.loop-i.i (omega arith))

pub overflow_mul-value : goal.overflow_mul-value
overflow_mul-value c = omega (arith, room ((goal.at.overflow_mul-value c).In-loop-i))

pub overflow_add-value : goal.overflow_add-value
overflow_add-value c =
    omega (arith, room ((goal.at.overflow_add-value c).In-loop-i), c.type_inv.part (c.loop-i.i - 1))

pub loop-i-preserved : goal.loop-i-preserved
loop-i-preserved c = (
  omega arith,
  omega (
    arith,
    little_endian-drop-less c.args.part.now c.loop-i.i (omega arith)
        c.loop-i.invariant.0,
  ),
)

pub returns : goal.returns
returns c =
    let all_read : c.loop-i.i ≡ 0 = omega arith in
    c.loop-i.invariant.1 ∙ ap (λ (i : ℕ). little_endian (drop i c.args.part.now)) all_read
