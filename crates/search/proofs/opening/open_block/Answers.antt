-- `open_block` meets its contract: a place on the opened list, then the block's tests.
-- Assumes nothing.
use Rattle.outcome.specs.Fault.{number, said, at_front}
use Rattle.search.proofs.OpeningLaws.{open_full, open_placed}
use Rattle.search.proofs.opening.open_block.Goals as goal

pub returns-then-not-put : goal.returns-then-not-put
unfolding number said at_front
returns-then-not-put c =
    record {
      result_value = λ s many. rw c.into.ensures (open_full c.args.file.now c.args.opened.now c.args.from c.args.named c.args.used _ c.put.ensures.0 c.if-not-put.true s many);
      opened_after = c.put.ensures.1;
    }

pub returns : goal.returns
returns c =
    record {
      result_value = open_placed c.args.file.now c.args.opened.now c.args.from c.args.named c.args.used _ c.put.ensures.0
          c.if-not-put.false _ c.named_block.ensures;
      opened_after = c.put.ensures.1;
    }
