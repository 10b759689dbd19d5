-- `close_block` meets its contract. Assumes nothing.
use mathlib.Core.Path.{sym, ◌∙◌}
use native.Mathlib.Omega.{arith}
use Rattle.lists.specs.Lists.{any}
use Rattle.outcome.specs.Fault.{number}
use Rattle.session_value.specs.Held.{stepped, OneOf}
use Rattle.session.proofs.TakenLaws.{close_early, close_empty, close_done}
use Rattle.session.proofs.close_block.Goals.{then-not-is_begun-via-then-not-is_begun, then-not-is_begun-via-else-not-is_begun+then-session-eq0}
use Rattle.session.proofs.close_block.Goals as goal

pub returns-then-not-is_begun : goal.returns-then-not-is_begun
unfolding any OneOf stepped number
returns-then-not-is_begun c =
    record {
      step_taken = λ stage held. elim c.then-not-is_begun.branch [
        | then-not-is_begun-via-then-not-is_begun w ↦
            close_early stage c.args.session c.args.output.now held (sym c.is_begun.ensures ∙ w.if-not-is_begun.true) c.stepped.ensures
        | then-not-is_begun-via-else-not-is_begun+then-session-eq0 w ↦
            close_empty stage c.args.session c.args.output.now held (sym c.is_begun.ensures ∙ w.if-not-is_begun.false)
            (omega (arith, w.if-session-eq0.true)) c.stepped.ensures
      ];
      one_of = rw c.stepped.ensures;
    }

pub returns : goal.returns
unfolding any OneOf stepped
returns c =
    record {
      step_taken = λ stage held. close_done stage c.args.session c.args.output.now held (sym c.is_begun.ensures ∙ c.if-not-is_begun.false)
          (λ e. omega (arith, c.if-session-eq0.false)) c.closed.ensures c.stepped-2.ensures;
      one_of = rw c.stepped-2.ensures;
    }
