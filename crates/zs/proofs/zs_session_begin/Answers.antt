-- `zs_session_begin` meets its contract: that of `begin`, and what the theorems say of its session and output.
-- Assumes nothing.
use Rattle.theorems_session.proofs.SessionTheorem.{held⇒rules}
use Rattle.zs.proofs.zs_session_begin.Goals as goal

pub returns : goal.returns
returns c =
    record {
      step_taken = λ stage held. (
        c.begin.ensures.step_taken stage held,
        held⇒rules _ _ _
            (c.begin.ensures.step_taken stage held).held,
      );
      one_of = c.begin.ensures.one_of;
    }
