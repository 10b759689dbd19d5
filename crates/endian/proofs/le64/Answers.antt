-- Eight bytes are the first chunk; fewer are lent to `little` whole.
use Rattle.std.proofs.Common.{◌≡◌, List, ℕ, take, ap, ◌∙◌, arith, length-take, take_all}
use Rattle.endian.specs.FixedWidth.{little_endian}
use Rattle.endian.proofs.StdLaws.{sum_through-little}
use Rattle.endian.proofs.le64.Goals as goal

pub returns-in-Some : goal.returns-in-Some
returns-in-Some c =
    let s = c.args.bytes.now in
    let chunk = c.in-Some.ensures.cases in
    let eight = ap (λ (l : List ℕ). little_endian (take 8 l)) chunk.same in
    let whole = ap little_endian (take_all 8 (take 8 s) (omega (arith, length-take 8 s))) in
    let read : c.from_le_bytes.result ≡ little_endian (take 8 s) = c.from_le_bytes.ensures ∙ sum_through-little 7 c.in-Some.eight.now ∙ eight ∙ whole in
    omega arith

pub returns : goal.returns
returns c = c.little.ensures ∙ ap little_endian (grind (arith, take_all, c.in_default.ensures.cases))
