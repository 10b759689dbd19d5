-- What the recursion goes by: twice the depth, and one more in a value. The loop's invariant: going on from here gives what the whole gives. Its
-- measure is what is left.
use Rattle.std.proofs.Common.{◌≡◌, ◌+◌, ◌-◌, ◌*◌, length}
use Rattle.json_grammar.specs.Recogniser.{items_end}
use Rattle.json_text.specs.Answers.{container_of, item_of, closing_of}
use Rattle.json_text.proofs.value.+container_value.Given as goal

abbrev pub decreases-container : goal.decreases-container
decreases-container l = 2 * l.depth

abbrev pub decreases-value : goal.decreases-value
decreases-value l = 2 * l.depth + 1

abbrev pub invariant-container-loop-after : goal.invariant-container-loop-after
invariant-container-loop-after l =
    items_end (item_of l.kind (l.depth - 1)) (closing_of l.kind) l.rest ≡ container_of l.kind l.depth l.fn.s

abbrev pub decreases-container-loop-after : goal.decreases-container-loop-after
decreases-container-loop-after l = length l.rest
