-- What an answered step says: from which stage it was taken, that its tests hold, and to which stage it leads.
-- Assumes nothing.
use mathlib.Core.Path.{◌≡◌, sym}
use mathlib.Core.Bool.{true}
use mathlib.Core.List.{List, []}
use Prim.Native.Nat.{ℕ, ◌≤◌}
use lib.Dec.{leb}
use lib.ListN.{length}
use borrow.Author.Tests.{leb-true}
use Rattle.outcome.specs.Outcome.{answer}
use Rattle.outcome.proofs.OutcomeLaws.{answer_injective, refused_not_answer, kept⁻¹, bind⁻¹}
use Rattle.header.specs.Metadata.{is_metadata}
use Rattle.layout.specs.File.{blocks_start, counts_fit, file_fits}
use Rattle.session_value.specs.Stage.{Draft, Stage, afresh, begun, finished, draft_records, data_end, draft_file}
use Rattle.session_value.specs.Steps.{is_afresh, draft_of, close_open, add_to, is_next, begin_of, add_of, close_of, finish_of}

-- the draft that begin makes
unfoldable pub empty_draft : (metadata : List ℕ) (per_block per_index : ℕ) → Draft
empty_draft metadata per_block per_index = record { metadata = metadata; per_block = per_block; per_index = per_index; closed = []; current = [] }

pub record BeginAnswered (metadata : List ℕ) (per_block per_index room : ℕ) (next : Stage) : Type 0 where
  pub counts : counts_fit per_block per_index ≡ true
  pub rule : is_metadata metadata ≡ true
  pub fit : file_fits room (blocks_start metadata) ≡ true
  pub leads : next ≡ begun (empty_draft metadata per_block per_index)

pub record AddAnswered (stage : Stage) (r : List ℕ) (room : ℕ) (next : Stage) : Type 0 where
  pub draft : Draft
  pub from : stage ≡ begun draft
  pub later : is_next draft r ≡ true
  pub fit : file_fits room (data_end (add_to draft r)) ≡ true
  pub leads : next ≡ begun (add_to draft r)

pub record CloseAnswered (stage next : Stage) : Type 0 where
  pub draft : Draft
  pub from : stage ≡ begun draft
  pub some : 1 ≤ length draft.current
  pub leads : next ≡ begun (close_open draft)

pub record FinishAnswered (stage : Stage) (room : ℕ) (next : Stage) : Type 0 where
  pub draft : Draft
  pub from : stage ≡ begun draft
  pub some : 1 ≤ length (draft_records draft)
  pub fit : file_fits room (length (draft_file draft)) ≡ true
  pub leads : next ≡ finished draft

-- what is being written is that of a stage between begin and finish
draft⁻¹ : (stage : Stage) (d : Draft) → draft_of stage ≡ answer d → stage ≡ begun d
unfolding draft_of
draft⁻¹ afresh d e = absurd (refused_not_answer d 28 0 e)
draft⁻¹ (begun c) d e = cc
draft⁻¹ (finished c) d e = absurd (refused_not_answer d 28 0 e)

pub begin⁻¹ : (stage : Stage) (metadata : List ℕ) (per_block per_index room : ℕ) (next : Stage)
    → begin_of stage metadata per_block per_index room ≡ answer next → BeginAnswered metadata per_block per_index room next
unfolding begin_of empty_draft
begin⁻¹ stage metadata per_block per_index room next e =
    let first = kept⁻¹ (is_afresh stage) 28 0 _ next e in
    let counts = kept⁻¹ (counts_fit per_block per_index) 30 0 _ next first.1 in
    let rule = kept⁻¹ (is_metadata metadata) 9 0 _ next counts.1 in
    let fit = kept⁻¹ (file_fits room (blocks_start metadata)) 31 0 _ next rule.1 in
    record { counts = counts.0; rule = rule.0; fit = fit.0; leads = sym (answer_injective _ next fit.1) }

pub add⁻¹ : (stage : Stage) (r : List ℕ) (room : ℕ) (next : Stage) → add_of stage r room ≡ answer next → AddAnswered stage r room next
unfolding add_of
add⁻¹ stage r room next e =
    let drawn = bind⁻¹ (draft_of stage) _ next e in
    let d = drawn.0 in
    let later = kept⁻¹ (is_next d r) 29 0 _ next drawn.2 in
    let fit = kept⁻¹ (file_fits room (data_end (add_to d r))) 31 0 _ next later.1 in
    record { draft = d; from = draft⁻¹ stage d drawn.1; later = later.0; fit = fit.0; leads = sym (answer_injective _ next fit.1) }

pub close⁻¹ : (stage next : Stage) → close_of stage ≡ answer next → CloseAnswered stage next
unfolding close_of
close⁻¹ stage next e =
    let drawn = bind⁻¹ (draft_of stage) _ next e in
    let d = drawn.0 in
    let some = kept⁻¹ (leb 1 (length d.current)) 28 0 _ next drawn.2 in
    record {
      draft = d;
      from = draft⁻¹ stage d drawn.1;
      some = leb-true 1 (length d.current) some.0;
      leads = sym (answer_injective _ next some.1);
    }

pub finish⁻¹ : (stage : Stage) (room : ℕ) (next : Stage) → finish_of stage room ≡ answer next → FinishAnswered stage room next
unfolding finish_of
finish⁻¹ stage room next e =
    let drawn = bind⁻¹ (draft_of stage) _ next e in
    let d = drawn.0 in
    let some = kept⁻¹ (leb 1 (length (draft_records d))) 28 0 _ next drawn.2 in
    let fit = kept⁻¹ (file_fits room (length (draft_file d))) 31 0 _ next some.1 in
    record {
      draft = d;
      from = draft⁻¹ stage d drawn.1;
      some = leb-true 1 (length (draft_records d)) some.0;
      fit = fit.0;
      leads = sym (answer_injective _ next fit.1);
    }
