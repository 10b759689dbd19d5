-- The four bytes are all hex digits, or not. Assumes nothing.
use Rattle.std.proofs.Common.{rules, tests}
use Rattle.std.proofs.lemmas.Iterator.{YieldsList-from_slice}
use Rattle.std.proofs.lemmas.Iterator.Search.{all_from_yields_List}
use Rattle.std.specs.Char.{is_ascii_hexdigit}
use Rattle.json_text.proofs.StringLaws.{hex_after}
use Rattle.json_text.proofs.string.hex_digits.Goals as goal

pub returns-clause-goes_on : goal.returns-clause-goes_on
returns-clause-goes_on c =
    let all = all_from_yields_List is_ascii_hexdigit _ _ c.all.result c.all.ensures.ran (YieldsList-from_slice c.in_ok-digits.digits.now cc)
    (λ x b q k. search (rules, tests)) in
    hex_after c.args.s.now c.in_ok-digits.digits.now c.in_ok-digits.rest _ c.in_ok-digits.ensures.cases (cc)
