-- `zs_session_add` meets its contract: that of `add`, and what the theorems say of its session and output.
-- Assumes nothing.
use Rattle.theorems_session.proofs.SessionTheorem.{held⇒rules}
use Rattle.zs.proofs.zs_session_add.Goals as goal

pub returns : goal.returns
returns c =
    record {
      step_taken = λ stage held. (
        c.add.ensures.step_taken stage held,
        held⇒rules _ _ _
            (c.add.ensures.step_taken stage held).held,
      );
      one_of = c.add.ensures.one_of;
    }
