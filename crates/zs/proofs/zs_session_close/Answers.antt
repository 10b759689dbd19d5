-- `zs_session_close` meets its contract: that of `close_block`, and what the theorems say of its session and output.
-- Assumes nothing.
use Rattle.theorems_session.proofs.SessionTheorem.{held⇒rules}
use Rattle.zs.proofs.zs_session_close.Goals as goal

pub returns : goal.returns
returns c = record {
  step_taken = λ stage held. (
    c.close_block.ensures.step_taken stage held,
    held⇒rules _ _ _
        (c.close_block.ensures.step_taken stage held).held,
  );
  one_of = c.close_block.ensures.one_of;
}
