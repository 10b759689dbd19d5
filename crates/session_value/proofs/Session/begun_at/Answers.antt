-- `begun_at` meets its contract. Assumes nothing.
use Rattle.session_value.specs.Held.{session_of}
use Rattle.session_value.specs.Values.{begun_session, closed_session}
use Rattle.session_value.proofs.Session.begun_at.Goals as goal

pub returns : goal.returns
unfolding begun_session closed_session session_of
returns c = rw c.afresh.ensures at c.closed.ensures
