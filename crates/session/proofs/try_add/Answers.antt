-- `try_add` meets its contract. Assumes nothing.
use mathlib.Core.Path.{refl, sym, ◌∙◌}
use native.Mathlib.Omega.{arith}
use Rattle.lists.specs.Lists.{any}
use Rattle.outcome.specs.Fault.{number}
use Rattle.session_value.specs.Held.{stepped, OneOf}
use Rattle.byte_string.proofs.BytesLaws.{bytes_of_below}
use Rattle.session.proofs.TakenLaws.{no_room}
use Rattle.session.proofs.AddLaws.{put_fits, added_fits, add_early, add_falling, add_full, add_done}
use Rattle.session.proofs.try_add.Goals as goal

pub returns-then-not-is_begun : goal.returns-then-not-is_begun
unfolding any OneOf stepped number
returns-then-not-is_begun c =
    record {
      step_taken = λ stage held. add_early stage c.args.session c.args.output.now held c.args.«record».now (sym c.is_begun.ensures ∙ c.if-not-is_begun.true) refl;
      one_of = refl;
    }

pub returns-then-not-is_next : goal.returns-then-not-is_next
unfolding any OneOf stepped number
returns-then-not-is_next c =
    record {
      step_taken = λ stage held. add_falling stage c.args.session c.args.output.now held c.args.«record».now (sym c.is_begun.ensures ∙ c.if-not-is_begun.false) _ c.is_next.ensures c.if-not-is_next.true refl;
      one_of = refl;
    }

pub returns-in_err-size : goal.returns-in_err-size
unfolding any OneOf
returns-in_err-size c =
    record {
      step_taken = λ stage held. add_full stage c.args.session c.args.output.now held c.args.«record».now (sym c.is_begun.ensures ∙ c.if-not-is_begun.false) _ c.is_next.ensures c.if-not-is_next.false c.unfull-s.ensures
          (sym c.in_err-size.ensures.ok_part ∙ c.framed_size.ensures) (no_room _ _ c.in_err-size.ensures.ok_part c.in_err-size.ensures.value _ c.from_residual.ensures.1);
      one_of = rw (no_room _ _ c.in_err-size.ensures.ok_part c.in_err-size.ensures.value _ c.from_residual.ensures.1);
    }

pub put_record-crc-requires : goal.put_record-crc-requires
put_record-crc-requires c = put_fits _ c.args.«record».now _ (sym c.in_ok-size.ensures.ok_part ∙ c.framed_size.ensures)

pub added-requires : goal.added-requires
added-requires c =
    added_fits c.args.session _ _ _ (sym c.is_begun.ensures ∙ c.if-not-is_begun.false) c.unfull-s.ensures
    (sym c.in_ok-size.ensures.ok_part ∙ c.framed_size.ensures)

pub returns : goal.returns
unfolding any OneOf stepped number
returns c =
    record {
      step_taken = λ stage held. add_done stage c.args.session c.args.output.now held c.args.«record».now (sym c.is_begun.ensures ∙ c.if-not-is_begun.false) _ c.is_next.ensures c.if-not-is_next.false c.unfull-s.ensures
          (sym c.in_ok-size.ensures.ok_part ∙ c.framed_size.ensures) (bytes_of_below c.args.«record».now (λ k l. omega (arith, c.type_inv.record k)))
          c.put_record-crc.ensures.value c.put_record-crc.ensures.by_index c.added.ensures refl;
      one_of = refl;
    }
