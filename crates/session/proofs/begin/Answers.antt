-- `begin` meets its contract: its answer is that of `try_begin`. Assumes nothing.
use Rattle.session.proofs.begin.Goals as goal

pub returns : goal.returns
returns c =
    record {
      step_taken = λ stage held. rw c.stepped.ensures (c.try_begin.ensures.step_taken stage held);
      one_of = rw c.stepped.ensures c.try_begin.ensures.one_of;
    }
