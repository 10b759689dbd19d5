-- `read` of an entry meets its contract: it is the entry's key. Assumes nothing.
use mathlib.Core.Path.{refl, sym}
use Rattle.payload.specs.Answers.{entry_said, entry_in, text_in, KeyWithin, ItemRead}
use Rattle.payload.proofs.PayloadLaws.{entry⇒Entered, item_fault}
use Rattle.payload.proofs.EntryItem.read.Goals as goal

pub returns-in_err-entry : goal.returns-in_err-entry
unfolding entry_said
returns-in_err-entry c = item_fault _ _ _ _ _ _ c.from_residual.ensures.1 (λ place. sym (c.in_err-entry.ensures.by_index place))

pub returns : goal.returns
unfolding entry_said entry_in text_in KeyWithin ItemRead
returns c =
    let e = entry⇒Entered 0 c.args.s.now c.args.at _ (sym (c.in_ok-entry.ensures.by_index 0)) in
    record {
      item = _;
      read = λ place. sym (c.in_ok-entry.ensures.by_index place);
      text = refl;
      inside = c.in_ok-entry.ensures.key_within;
      forward = e.forward;
      within = e.within;
    }
