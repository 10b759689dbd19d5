-- A finished file is as claimed: laid out by the writer's rules, accepted, with the session's records; the writer's where no block was closed early.
-- Assumes nothing.
use mathlib.Core.Path.{◌≡◌, refl, sym, ap, ◌∙◌, subst}
use mathlib.Core.Bool.{true}
use mathlib.Core.Logic.{◌≢◌}
use mathlib.Core.List.{List, [], flat_map}
use Prim.Native.Nat.{ℕ, ◌^◌, ◌≤◌}
use native.Mathlib.Omega.{arith}
use lib.ListN.{length}
use Rattle.lists.specs.Groups.{groups}
use Rattle.outcome.specs.Outcome.{answer}
use Rattle.outcome.proofs.OutcomeLaws.{kept, bind_answer}
use Rattle.byte_string.specs.Order.{AreBytes}
use Rattle.header.specs.Metadata.{is_metadata}
use Rattle.payload.specs.Payload.{rising}
use Rattle.layout.specs.Blocks.{records_bytes}
use Rattle.layout.specs.File.{blocks_start, file_of, counts_fit, file_fits}
use Rattle.layout.specs.Placed.{placed_blocks}
use Rattle.file_encoder.proofs.CountsLaws.{counts⁻¹}
use Rattle.file_encoder.proofs.FitLaws.{fits, file_long}
use Rattle.writer.specs.Write.{records_to_write, write_of}
use Rattle.writer.proofs.InputRuleLaws.{to_input}
use Rattle.theorems_check.proofs.SortedLaws.{rising⇒Sorted}
use Rattle.theorems_layout.specs.WrittenTree.{joined}
use Rattle.theorems_write.specs.WrittenByRules.{InputOf}
use Rattle.theorems_write.proofs.InputTheorems.{input_read}
use Rattle.theorems_write.proofs.FileHolds.{blocks_hold}
use Rattle.session_value.specs.Stage.{Draft, draft_blocks, draft_records, data_end, draft_file}
use Rattle.session_value.specs.Held.{SoundDraft}
use Rattle.session_value.proofs.DraftLaws.{blocks_joined, blocks_payloads, blocks_filled, blocks_no_fuller, records_within}
use Rattle.session_value.proofs.DraftFileLaws.{draft_file_fits}
use Rattle.theorems_session.specs.SessionByRules.{NoneEarly, FinishedByRules}
use Rattle.theorems_session.proofs.NoneEarlyLaws.{early_groups}

-- the writer's answer for an input of these records
write_answer : (metadata : List ℕ) (rs : List (List ℕ)) (per_block per_index room : ℕ) → counts_fit per_block per_index ≡ true → is_metadata metadata ≡ true
    → AreBytes (records_bytes rs) → InputOf (records_bytes rs) rs → rising rs ≡ true
    → file_fits room (length (file_of metadata (groups per_block rs) per_index)) ≡ true
    → write_of metadata (records_bytes rs) per_block per_index room ≡ answer (file_of metadata (groups per_block rs) per_index)
unfolding write_of
write_answer metadata rs per_block per_index room counts rule bytes form rises fit =
    let input = records_bytes rs in
    let read = to_input metadata input per_block per_index counts rule ∙ (input_read input bytes rs).1 (form, rising⇒Sorted rs rises) in
    bind_answer (records_to_write metadata input per_block per_index) _ rs read
    ∙ kept (file_fits room (length (file_of metadata (groups per_block rs) per_index))) 31 0 _ fit

-- the data blocks end within the file
end_within_file : (d : Draft) → data_end d ≤ length (draft_file d)
unfolding data_end draft_file
end_within_file d = let long = file_long d.metadata (draft_blocks d) d.per_index in omega arith

module _ (d : Draft) (s : SoundDraft d) (some : 1 ≤ length (draft_records d)) (short : length (draft_file d) ≤ 2 ^ 30) where
  blocks_some : draft_blocks d ≢ []
  unfolding flat_map
  blocks_some none = let long = ap length (sym (blocks_joined d) ∙ ap (flat_map (λ (b : List (List ℕ)). b)) none) in omega arith

  records_form : InputOf (records_bytes (draft_records d)) (draft_records d)
  records_form =
      record {
        bytes = refl;
        some = λ none. let long = ap length none in omega arith;
        short = λ r m. let inside = records_within d r m in let file = end_within_file d in omega arith;
      }

  grouped : NoneEarly d.per_block (draft_blocks d) → groups d.per_block (draft_records d) ≡ draft_blocks d
  grouped full =
      ap (groups d.per_block) (sym (blocks_joined d))
      ∙ early_groups d.per_block (counts⁻¹ d.per_block d.per_index s.counts).0 (draft_blocks d) (blocks_filled d s) (blocks_no_fuller d s) full

  writers_file : NoneEarly d.per_block (draft_blocks d) → (room : ℕ) → length (draft_file d) ≤ room
      → write_of d.metadata (records_bytes (draft_records d)) d.per_block d.per_index room ≡ answer (draft_file d)
  unfolding draft_file
  writers_file full room h =
      let same : file_of d.metadata (groups d.per_block (draft_records d)) d.per_index ≡ file_of d.metadata (draft_blocks d) d.per_index =
      ap (λ (bs : List (List (List ℕ))). file_of d.metadata bs d.per_index) (grouped full) in
      write_answer d.metadata (draft_records d) d.per_block d.per_index room s.counts s.rule
      (subst AreBytes (blocks_payloads d) s.bytes) records_form s.rises
      (ap (λ (file : List ℕ). file_fits room (length file)) same ∙ fits room (length (draft_file d)) h short)
      ∙ ap answer same

  pub finished_by_rules : FinishedByRules d (draft_file d)
  unfolding draft_file joined
  finished_by_rules =
      record {
        laid = refl;
        held = (
          placed_blocks d.per_index (blocks_start d.metadata) (draft_blocks d),
          blocks_hold d.metadata (draft_blocks d) d.per_index (draft_file_fits d s short) blocks_some (records_bytes (draft_records d)) (blocks_payloads d)
              (draft_records d) (blocks_joined d),
        );
        writers = λ full room enough. writers_file full room (omega arith);
      }
