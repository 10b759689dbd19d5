-- `read` of a record meets its contract: it is the record's own byte string. Assumes nothing.
use mathlib.Core.Path.{refl, sym}
use native.Mathlib.Omega.{arith}
use Rattle.payload.specs.Answers.{text_said, text_in, ItemRead}
use Rattle.payload.proofs.PayloadLaws.{text⇒Placed, item_fault}
use Rattle.payload.proofs.RecordItem.read.Goals as goal

pub returns-in_err-item : goal.returns-in_err-item
unfolding text_said
returns-in_err-item c = item_fault _ _ _ _ _ _ c.from_residual.ensures.1 (λ place. sym (c.in_err-item.ensures place))

pub end-requires : goal.end-requires
unfolding text_said
end-requires c =
    let within = (text⇒Placed 0 c.args.s.now c.args.at _ (sym (c.in_ok-item.ensures 0))).within in
    omega (arith, c.well_formed)

pub returns : goal.returns
unfolding text_said text_in ItemRead
returns c =
    let t = text⇒Placed 0 c.args.s.now c.args.at _ (sym (c.in_ok-item.ensures 0)) in
    rw c.end.ensures
    (record {
      item = _;
      read = λ place. sym (c.in_ok-item.ensures place);
      text = refl;
      inside = t.within;
      forward = let forward = t.forward in omega arith;
      within = t.within;
    })
