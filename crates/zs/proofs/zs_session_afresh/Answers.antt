-- `zs_session_afresh` meets its contract: that of `start_afresh`, and what the theorems say of its session and output.
-- Assumes nothing.
use Rattle.theorems_session.proofs.SessionTheorem.{held⇒rules, afresh_held}
use Rattle.zs.proofs.zs_session_afresh.Goals as goal

pub returns : goal.returns
returns c =
    let held = afresh_held _ c.start_afresh.ensures.value c.start_afresh.ensures.output_after in
    record { value = c.start_afresh.ensures.value; output_after = c.start_afresh.ensures.output_after; held = (held, held⇒rules _ _ _ held) }
