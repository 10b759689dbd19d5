-- `finish` meets its contract: its answer is that of `try_finish`. Assumes nothing.
use Rattle.session.proofs.finish.Goals as goal

pub returns : goal.returns
returns c =
    record {
      step_taken = λ stage held. rw c.stepped.ensures (c.try_finish.ensures.step_taken stage held);
      one_of = rw c.stepped.ensures c.try_finish.ensures.one_of;
    }
