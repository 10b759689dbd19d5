use Rattle.std.proofs.Common.{◌≡◌, ◌+◌, ◌*◌, ◌∙◌, arith, rules}
use Rattle.sha256_block.specs.Compression.{K, words_of, schedule}
use Rattle.sha256_block.proofs.BlockLaws.{Mixed_start, Mixed_four, Mixed_last, words_of_length}
use Rattle.sha256_block.proofs.block.rounds.Goals as goal

pub loop-turn-init : goal.loop-turn-init
loop-turn-init c =
    Mixed_start (words_of 16 c.args.block.now) c.args.hash c.first_words-w.result (search rules) c.first_words-w.ensures

pub loop-turn-preserved : goal.loop-turn-preserved
unfolding K
loop-turn-preserved c =
    let next : 4 * c.loop-turn.turn + 4 ≡ 4 * (c.loop-turn.turn + 1) = omega arith in
    let four = Mixed_four (words_of 16 c.args.block.now) c.args.hash c.loop-turn.w c.loop-turn.v c.round-v1.result c.round-v2.result c.round-v3.result
    c.round-v.result c.next_word.result c.next_word-in-loop-turn.result c.next_word-in-loop-turn-2.result c.next_word-in-loop-turn-3.result
    (4 * c.loop-turn.turn) (words_of_length 16 c.args.block.now) (omega arith) c.loop-turn.invariant
    c.round-v1.ensures c.next_word.ensures c.round-v2.ensures c.next_word-in-loop-turn.ensures
    c.round-v3.ensures c.next_word-in-loop-turn-2.ensures c.round-v.ensures c.next_word-in-loop-turn-3.ensures in
    rw next at four

pub returns : goal.returns
unfolding K schedule
returns c =
    let done : 4 * c.loop-turn.turn ≡ 48 = omega arith in
    c.last_rounds.ensures ∙ Mixed_last (words_of 16 c.args.block.now) c.args.hash c.loop-turn.w c.loop-turn.v (rw done at c.loop-turn.invariant)
