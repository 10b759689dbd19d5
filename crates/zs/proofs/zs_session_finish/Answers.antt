-- `zs_session_finish` meets its contract: that of `finish`, and what the theorems say of its session and output.
-- Assumes nothing.
use Rattle.theorems_session.proofs.SessionTheorem.{held⇒rules}
use Rattle.zs.proofs.zs_session_finish.Goals as goal

pub returns : goal.returns
returns c =
    record {
      step_taken = λ stage held. (
        c.finish.ensures.step_taken stage held,
        held⇒rules _ _ _
            (c.finish.ensures.step_taken stage held).held,
      );
      one_of = c.finish.ensures.one_of;
    }
