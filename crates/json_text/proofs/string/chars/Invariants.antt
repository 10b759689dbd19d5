-- The loop's invariant: going on from here gives what the whole gives. The measure is what is left.
use Rattle.std.proofs.Common.{◌≡◌, length}
use Rattle.json_grammar.specs.Recogniser.{chars_end}
use Rattle.json_text.proofs.string.chars.Given as goal

abbrev pub invariant-loop-rest : goal.invariant-loop-rest
invariant-loop-rest l = chars_end 0 l.rest ≡ chars_end 0 l.fn.s

abbrev pub decreases-loop-rest : goal.decreases-loop-rest
decreases-loop-rest l = length l.rest
