-- `add` meets its contract: its answer is that of `try_add`. Assumes nothing.
use Rattle.session.proofs.add.Goals as goal

pub returns : goal.returns
returns c =
    record {
      step_taken = λ stage held. rw c.stepped.ensures (c.try_add.ensures.step_taken stage held);
      one_of = rw c.stepped.ensures c.try_add.ensures.one_of;
    }
