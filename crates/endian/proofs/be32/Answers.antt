-- Four bytes are the first chunk; fewer are lent to `big` whole, and are a number below 2 ^ 32.
use Rattle.std.proofs.Common.{◌≡◌, ℕ, length, take, ap, ◌∙◌, arith, length-take-le, take_all}
use Rattle.part.proofs.BytesLaws.{bytes_of_below}
use Rattle.endian.specs.FixedWidth.{big_endian}
use Rattle.endian.proofs.FixedWidthLaws.{big_endian-take_lt}
use Rattle.endian.proofs.StdLaws.{sum_through-big}
use Rattle.endian.proofs.be32.Goals as goal

pub returns-in-Some : goal.returns-in-Some
returns-in-Some c =
    let chunk = c.in-Some.ensures.cases in
    let long = ap length chunk.same ∙ length-take-le 4 c.args.bytes.now chunk.enough in
    c.from_be_bytes.ensures ∙ sum_through-big 3 c.in-Some.four.now long ∙ ap big_endian chunk.same

pub overflow_cast-result : goal.overflow_cast-result
overflow_cast-result c =
    let s = c.args.bytes.now in
    let bytes = bytes_of_below s (λ (k : ℕ) _. (c.type_inv.bytes k).fits) in
    let whole : c.big.result ≡ big_endian (take 4 s) = c.big.ensures ∙ ap big_endian (grind (arith, take_all, c.in_default.ensures.cases)) in
    omega (arith, whole, big_endian-take_lt 4 s bytes 4 (omega arith))

pub returns : goal.returns
returns c = c.big.ensures ∙ ap big_endian (grind (arith, take_all, c.in_default.ensures.cases))
