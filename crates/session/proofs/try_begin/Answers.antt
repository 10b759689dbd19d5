-- `try_begin` meets its contract. Assumes nothing.
use mathlib.Core.Path.{refl, sym, ◌∙◌}
use native.Mathlib.Omega.{arith}
use Rattle.lists.specs.Lists.{any}
use Rattle.outcome.specs.Fault.{number}
use Rattle.session_value.specs.Held.{stepped, OneOf}
use Rattle.byte_string.proofs.BytesLaws.{bytes_of_below}
use Rattle.session.proofs.TakenLaws.{no_room}
use Rattle.session.proofs.BeginLaws.{begin_counts, begin_metadata, begin_full, begin_done}
use Rattle.session.proofs.try_begin.Goals as goal

pub returns-then-not-counts_fit : goal.returns-then-not-counts_fit
unfolding any OneOf stepped number
returns-then-not-counts_fit c =
    record {
      step_taken = λ stage held. begin_counts stage c.args.session c.args.output.now held c.args.metadata.now _ _ (omega arith) (sym c.counts_fit.ensures ∙ c.if-not-counts_fit.true) refl;
      one_of = refl;
    }

pub returns-then-not-is_metadata : goal.returns-then-not-is_metadata
unfolding any OneOf stepped number
returns-then-not-is_metadata c =
    record {
      step_taken = λ stage held. begin_metadata stage c.args.session c.args.output.now held c.args.metadata.now _ _ (omega arith) (sym c.counts_fit.ensures ∙ c.if-not-counts_fit.false)
          (sym c.is_metadata.ensures ∙ c.if-not-is_metadata.true) refl;
      one_of = refl;
    }

pub returns-in_err-blocks : goal.returns-in_err-blocks
unfolding any OneOf
returns-in_err-blocks c =
    record {
      step_taken = λ stage held. begin_full stage c.args.session c.args.output.now held c.args.metadata.now _ _ (omega arith) (sym c.counts_fit.ensures ∙ c.if-not-counts_fit.false) (sym c.is_metadata.ensures ∙ c.if-not-is_metadata.false)
          c.begin_file.ensures.output_after (sym c.in_err-blocks.ensures.ok_part ∙ c.begin_file.ensures.value) (no_room _ _ c.in_err-blocks.ensures.ok_part c.in_err-blocks.ensures.value _ c.from_residual.ensures.1);
      one_of = rw (no_room _ _ c.in_err-blocks.ensures.ok_part c.in_err-blocks.ensures.value _ c.from_residual.ensures.1);
    }

pub returns : goal.returns
unfolding any OneOf stepped number
returns c =
    record {
      step_taken = λ stage held. begin_done stage c.args.session c.args.output.now held c.args.metadata.now _ _ (omega arith) (sym c.counts_fit.ensures ∙ c.if-not-counts_fit.false) (sym c.is_metadata.ensures ∙ c.if-not-is_metadata.false)
          c.begin_file.ensures.output_after (sym c.in_ok-blocks.ensures.ok_part ∙ c.begin_file.ensures.value)
          (bytes_of_below c.args.metadata.now (λ k l. omega (arith, c.type_inv.metadata k))) c.begun_at.ensures refl;
      one_of = refl;
    }
