-- `try_finish` meets its contract. Assumes nothing.
use mathlib.Core.Path.{refl, sym, ◌∙◌}
use native.Mathlib.Omega.{arith}
use Rattle.lists.specs.Lists.{any}
use Rattle.outcome.specs.Fault.{number}
use Rattle.session_value.specs.Held.{stepped, OneOf}
use lib.Seq.{length-take-le}
use Rattle.file_encoder.proofs.FitLaws.{fits⁻¹}
use Rattle.session_value.proofs.ValueLaws.{begun⁻¹}
use Rattle.session.proofs.TakenLaws.{no_room}
use Rattle.session.proofs.FinishLaws.{finish_early, finish_empty, finish_full, finish_done}
use Rattle.session.proofs.try_finish.Goals.{then-not-is_begun-via-then-not-is_begun, then-not-is_begun-via-else-not-is_begun+then-session-eq0}
use Rattle.session.proofs.try_finish.Goals as goal

pub returns-then-not-is_begun : goal.returns-then-not-is_begun
unfolding any OneOf stepped number
returns-then-not-is_begun c =
    record {
      step_taken = λ stage held. elim c.then-not-is_begun.branch [
        | then-not-is_begun-via-then-not-is_begun w ↦
            finish_early stage c.args.session c.args.output.now held (sym c.is_begun.ensures ∙ w.if-not-is_begun.true) refl
        | then-not-is_begun-via-else-not-is_begun+then-session-eq0 w ↦
            finish_empty stage c.args.session c.args.output.now held (sym c.is_begun.ensures ∙ w.if-not-is_begun.false)
            (omega (arith, w.if-session-eq0.true)) refl
      ];
      one_of = refl;
    }

pub slice_bounds-hashed-end : goal.slice_bounds-hashed-end
slice_bounds-hashed-end c =
    let next = (fits⁻¹ _ _ (begun⁻¹ c.args.session _ (sym c.is_begun.ensures ∙ c.if-not-is_begun.false)).0).0 in omega arith

pub slice_bounds-hashed-end-2 : goal.slice_bounds-hashed-end-2
slice_bounds-hashed-end-2 c =
    let next = (fits⁻¹ _ _ (begun⁻¹ c.args.session _ (sym c.is_begun.ensures ∙ c.if-not-is_begun.false)).0).0 in
    sym (length-take-le c.args.session.next c.args.output.now (omega arith))

pub returns-in_err-ok_or : goal.returns-in_err-ok_or
unfolding any OneOf
returns-in_err-ok_or c =
    record {
      step_taken = λ stage held. finish_full stage c.args.session c.args.output.now held (sym c.is_begun.ensures ∙ c.if-not-is_begun.false) c.hashed.ensures c.finish-hash.ensures (λ e. omega (arith, c.if-session-eq0.false)) c.finish_file-total.ensures
          c.in_err-ok_or.ensures.ok_part (no_room _ _ c.in_err-ok_or.ensures.ok_part c.in_err-ok_or.ensures.value _ c.from_residual.ensures.1);
      one_of = rw (no_room _ _ c.in_err-ok_or.ensures.ok_part c.in_err-ok_or.ensures.value _ c.from_residual.ensures.1);
    }

pub returns : goal.returns
unfolding any OneOf stepped number
returns c =
    record {
      step_taken = λ stage held. finish_done stage c.args.session c.args.output.now held (sym c.is_begun.ensures ∙ c.if-not-is_begun.false) c.hashed.ensures c.finish-hash.ensures (λ e. omega (arith, c.if-session-eq0.false)) c.finish_file-total.ensures
          c.in_ok-ok_or.ensures.ok_part c.finish_file-total.auto.output c.finished.ensures refl;
      one_of = refl;
    }
