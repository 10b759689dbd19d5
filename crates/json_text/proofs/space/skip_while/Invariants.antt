-- The loop's invariant: going on from here gives what the whole gives. The measure is what is left.
use Rattle.std.proofs.Common.{◌≡◌, ℕ, Bool, length}
use Rattle.json_grammar.specs.Recogniser.{skip_while}
use Rattle.json_text.proofs.space.skip_while.Given as goal

abbrev pub invariant-loop-rest : goal.invariant-loop-rest
invariant-loop-rest g l =
    (p : ℕ → Bool) → ((b : ℕ) (r : Bool) → goal.F-post g l.test b r → r ≡ p b) → skip_while p l.rest ≡ skip_while p l.fn.s

abbrev pub decreases-loop-rest : goal.decreases-loop-rest
decreases-loop-rest g l = length l.rest
