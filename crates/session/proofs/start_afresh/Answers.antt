-- `start_afresh` meets its contract. Assumes nothing.
use mathlib.Core.Path.{◌∙◌, sym}
use Rattle.output_list.proofs.OutputListLaws.{zeros-replicate}
use Rattle.session_value.specs.Held.{session_of}
use Rattle.session.proofs.start_afresh.Goals as goal

pub returns : goal.returns
unfolding session_of
returns c =
    record {
      value = rw c.afresh.ensures;
      output_after = c.fill.ensures.after (λ y e. e) ∙ sym (zeros-replicate _);
    }
