-- `next_key` meets its contract: an entry begins with its key.
-- Assumes nothing.
use mathlib.Core.Path.{sym}
use lib.Seq.{length-take-le}
use Rattle.payload.specs.Answers.{text_said}
use Rattle.search.specs.Steps.{BoundWithin}
use Rattle.search.proofs.ChildLaws.{next_refused, next_within, next_found}
use Rattle.search.proofs.child.next_key.Goals as goal

pub slice_bounds-text_at-end : goal.slice_bounds-text_at-end
slice_bounds-text_at-end c =
    sym (length-take-le c.args.f.end c.args.file.now c.requires.end)

pub returns-in-Err : goal.returns-in-Err
unfolding text_said
returns-in-Err c =
    record {
      bound_within = c.requires.bound;
      result_value = next_refused c.args.file.now c.args.f c.args.next c.args.above _ _ (sym (c.in-Err.ensures c.args.f.start));
    }

pub returns-in-Ok : goal.returns-in-Ok
unfolding text_said BoundWithin
returns-in-Ok c =
    let read = sym (c.in-Ok.ensures c.args.f.start) in record {
      bound_within = next_within c.args.file.now c.args.f c.args.next c.args.above _ c.requires.end read;
      result_value = next_found c.args.file.now c.args.f c.args.next c.args.above _ c.requires.end read;
    }
