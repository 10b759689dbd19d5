-- `child_at` meets its contract: the entry, the key of the next, and what names the block.
-- Assumes nothing.
use mathlib.Core.Path.{sym}
use native.Mathlib.Omega.{arith}
use lib.Seq.{length-take-le}
use Rattle.payload.specs.Answers.{entry_said, entry_in, KeyWithin}
use Rattle.search.specs.Steps.{ChildStays, ChildSaid}
use Rattle.search.proofs.ChildLaws.{entries_none, child_within, is_child}
use Rattle.search.proofs.child.child_at.Goals as goal

pub slice_bounds-entry_at-end : goal.slice_bounds-entry_at-end
slice_bounds-entry_at-end c =
    sym (length-take-le c.args.f.end c.args.file.now c.requires.end)

pub next_key-requires : goal.next_key-requires
next_key-requires c =
    c.requires

pub overflow_sub-f : goal.overflow_sub-f
overflow_sub-f c =
    let index = c.requires.index in omega arith

pub returns-in_default : goal.returns-in_default
unfolding entry_said ChildStays ChildSaid
returns-in_default c =
    record {
      child_stays = tt;
      child_said = entries_none c.args.file.now c.args.f c.args.at _ _ (sym (c.in_default.ensures.by_index c.args.f.start));
    }

pub returns : goal.returns
unfolding entry_said entry_in KeyWithin ChildStays ChildSaid
returns c =
    let read = sym (c.in-Ok.ensures.by_index c.args.f.start) in let keyed = c.in-Ok.ensures.key_within in record {
      child_stays = child_within c.args.file.now
          c.args.f c.args.at c.args.above c.requires.end _ _ _ _ read keyed _ _ c.child_named.ensures c.next_key.ensures.bound_within;
      child_said = is_child c.args.file.now c.args.f c.args.at c.args.above c.requires.end _ _ _ _ read keyed _ _ c.child_named.ensures
          c.next_key.ensures.result_value;
    }
