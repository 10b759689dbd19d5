-- Laws of finishing a file in a session.
-- Assumes nothing.
use mathlib.Core.Path.{◌≡◌, sym, ap, ◌∙◌, subst}
use mathlib.Core.Bool.{true, false}
use mathlib.Core.List.{List, ◌++◌, flat_map}
use Prim.Native.Nat.{ℕ, ◌+◌, ◌^◌, ◌≤◌}
use native.Mathlib.Omega.{arith}
use lib.Dec.{leb}
use lib.ListN.{length, take}
use borrow.Author.Tests.{le-leb, lt-leb}
use Rattle.std.specs.Prelude.{Option, Some, None}
use Rattle.outcome.specs.Outcome.{Outcome, answer}
use Rattle.outcome.proofs.OutcomeLaws.{kept, broken, bind_answer, bind_refused}
use Rattle.output_list.specs.OutputList.{padded}
use Rattle.output_list.proofs.OutputListLaws.{take-padded}
use Rattle.payload.specs.Payload.{rising}
use Rattle.sha256.specs.declared.State.{State}
use Rattle.sha256.specs.Sha256.{sha256}
use Rattle.sha256.specs.State as hashing
use Rattle.sha256.proofs.StateLaws.{Holds⇒sha256}
use Rattle.block.specs.Laid.{laid_from}
use Rattle.tree.specs.Stages.{payloads}
use Rattle.layout.specs.Blocks.{records_bytes, data_bytes}
use Rattle.layout.specs.File.{blocks_start, unfinished_header, file_of, file_fits}
use Rattle.layout.proofs.FileFitLaws.{datas_fit}
use Rattle.layout.proofs.LaidBackLaws.{unfinished_payloads_laid}
use Rattle.layout.proofs.PayloadBackLaws.{payloads_shorter}
use Rattle.file_encoder.specs.Begun.{Begun, end_if_fits, FilePut}
use Rattle.file_encoder.proofs.BeginLaws.{begun_long, begun_stands}
use Rattle.file_encoder.proofs.CountsLaws.{counts⁻¹}
use Rattle.file_encoder.proofs.FitLaws.{fits⁻¹, end_some, end_none}
use Rattle.session_value.specs.declared.Session.{Session}
use Rattle.session_value.specs.declared.Stepped.{Stepped}
use Rattle.session_value.specs.Stage.{Draft, Stage, begun, finished, draft_blocks, draft_records, data_end, draft_file, output_of}
use Rattle.session_value.specs.Steps.{draft_of, finish_of}
use Rattle.session_value.specs.Held.{Sound, Held, session_of, StepTaken}
use Rattle.session_value.specs.Values.{is_begun, finished_session}
use Rattle.session_value.proofs.DraftLaws.{blocks_joined, blocks_filled}
use Rattle.session_value.proofs.SessionLaws.{finished_session_lem}
use Rattle.session.proofs.TakenLaws.{step_refused, step_answered, draft_none, draft_some, drafted, session_now, output_now, sound_now, more_than_0}

zero_first : (n : ℕ) → 0 + n ≡ n
zero_first n = omega arith

-- a file that isn't put doesn't fit
not_whole : (room : ℕ) (d : Draft) → None ≡ end_if_fits room 0 (draft_file d) → file_fits room (length (draft_file d)) ≡ false
not_whole room d e = ap (file_fits room) (sym (zero_first (length (draft_file d)))) ∙ end_none room 0 (draft_file d) e

module _ (stage : Stage) (session : Session) (output : List ℕ) (held : Held stage session output) where
  abbrev o : Outcome Stage
  o = finish_of stage (length output)

  pub finish_early : {r : Stepped} → is_begun session (length output) ≡ false → r ≡ record { number = 28; place = 0; session = session }
      → StepTaken stage (finish_of stage (length output)) (length output) r output
  unfolding finish_of
  finish_early e f = step_refused stage session output held o 28 (bind_refused (draft_of stage) _ 28 0 (draft_none stage session output held e)) f

  module _ (is : is_begun session (length output) ≡ true) where
    found : (d : Draft) × (stage ≡ begun d)
    found = draft_some stage session output held is

    abbrev d : Draft
    d = found.0

    to_draft : draft_of stage ≡ answer d
    to_draft = drafted stage session output held d found.1

    records_now : session.records ≡ length (draft_records d)
    unfolding session_of
    records_now = ap (λ (s : Session). s.records) (session_now stage session output held d found.1)

    pub finish_empty : {r : Stepped} → session.records ≡ 0 → r ≡ record { number = 28; place = 0; session = session }
        → StepTaken stage (finish_of stage (length output)) (length output) r output
    unfolding finish_of
    finish_empty z f =
        step_refused stage session output held o 28
        (bind_answer (draft_of stage) _ d to_draft
        ∙ broken (leb 1 (length (draft_records d))) 28 0 _ (lt-leb 1 (length (draft_records d)) (let n = records_now in omega arith))) f

    -- the file is begun, as `finish_file` asks for it
    starts : Begun d.metadata (draft_blocks d) output session.blocks session.next
    unfolding session_of data_end
    starts =
        let s = session_now stage session output held d found.1 in
        let k = sound_now stage session output held d found.1 in
        record {
          stands = output_now stage session output held d found.1;
          begins = ap (λ (z : Session). z.blocks) s;
          ends = ap (λ (z : Session). z.next) s;
          fits = ap (λ (z : Session). file_fits (length output) z.next) s ∙ k.1;
          filled = blocks_filled d k.0;
        }

    index_is : session.perindex ≡ d.per_index
    unfolding session_of
    index_is = ap (λ (s : Session). s.perindex) (session_now stage session output held d found.1)

    index_two : 2 ≤ session.perindex
    index_two =
        let two = (counts⁻¹ d.per_block d.per_index (sound_now stage session output held d found.1).0.counts).1 in
        let same = index_is in
        omega arith

    abbrev S : List ℕ
    S = unfinished_header d.metadata ++ flat_map data_bytes (draft_blocks d)

    front : take session.next output ≡ S
    front =
        ap (take session.next) (begun_stands d.metadata (draft_blocks d) output session.blocks session.next starts)
        ∙ ap (λ (n : ℕ). take n (padded (length output) S)) (sym (begun_long d.metadata (draft_blocks d) output session.blocks session.next starts))
        ∙ take-padded (length output) S

    short : blocks_start d.metadata + length (flat_map data_bytes (draft_blocks d)) ≤ 2 ^ 30
    short = let fit = (fits⁻¹ (length output) session.next starts.fits).1 in let ends = starts.ends in omega arith

    -- the payloads of the blocks that stand
    payloads_are : payloads (take session.next output) (laid_from (take session.next output) session.blocks) ≡ flat_map records_bytes (draft_blocks d)
    unfolding payloads
    payloads_are =
        let sound = (sound_now stage session output held d found.1).0 in
        ap (λ (s : List ℕ). payloads s (laid_from s session.blocks)) front
        ∙ ap (λ (n : ℕ). payloads S (laid_from S n)) starts.begins
        ∙ unfinished_payloads_laid d.metadata (draft_blocks d)
        (datas_fit (blocks_start d.metadata) (draft_blocks d) starts.filled (ap rising (blocks_joined d) ∙ sound.rises) sound.bytes short)

    module _ {state : State} {hash : List ℕ}
        (holds : hashing.Holds (payloads (take session.next output) (laid_from (take session.next output) session.blocks)) state)
        (digest : hash ≡ hashing.finished state) where
      hash_is : hash ≡ sha256 (flat_map records_bytes (draft_blocks d))
      hash_is =
          digest
          ∙ Holds⇒sha256 (flat_map records_bytes (draft_blocks d)) state (subst (λ (m : List ℕ). hashing.Holds m state) payloads_are holds)
          (let less = payloads_shorter (draft_blocks d) in let all = short in omega arith)

      module _ (some : session.records ≡ 0 → ⊥) {total : Option ℕ} {then : List ℕ}
          (put : (metadata : List ℕ) (blocks : List (List (List ℕ))) → 2 ≤ session.perindex → Begun metadata blocks output session.blocks session.next
          → hash ≡ sha256 (flat_map records_bytes blocks)
          → FilePut (length output) (file_of metadata blocks session.perindex) total then × (total ≡ None → then ≡ output)) where
        done : FilePut (length output) (draft_file d) total then × (total ≡ None → then ≡ output)
        unfolding draft_file
        done =
            subst (λ (i : ℕ). FilePut (length output) (file_of d.metadata (draft_blocks d) i) total then × (total ≡ None → then ≡ output)) index_is
            (put d.metadata (draft_blocks d) index_two starts hash_is)

        one : 1 ≤ length (draft_records d)
        one = more_than_0 session.records (length (draft_records d)) records_now some

        pub finish_full : {r : Stepped} → total ≡ None → r ≡ record { number = 31; place = 0; session = session }
            → StepTaken stage (finish_of stage (length output)) (length output) r then
        unfolding finish_of
        finish_full z f =
            subst (StepTaken stage o (length output) _) (sym (done.1 z))
            (step_refused stage session output held o 31
            (bind_answer (draft_of stage) _ d to_draft ∙ kept (leb 1 (length (draft_records d))) 28 0 _ (le-leb 1 (length (draft_records d)) one)
            ∙ broken (file_fits (length output) (length (draft_file d))) 31 0 _ (not_whole (length output) d (sym z ∙ done.0.ends))) f)

        pub finish_done : {r : Stepped} {end : ℕ} {after : Session} → total ≡ Some end → length then ≡ length output → after ≡ finished_session session end
            → r ≡ record { number = 0; place = 0; session = after }
            → StepTaken stage (finish_of stage (length output)) (length output) r then
        unfolding finish_of output_of Sound
        finish_done {end = end} whole long e f =
            step_answered stage (finished d) o (length output)
            (bind_answer (draft_of stage) _ d to_draft ∙ kept (leb 1 (length (draft_records d))) 28 0 _ (le-leb 1 (length (draft_records d)) one)
            ∙ kept (file_fits (length output) (length (draft_file d))) 31 0 _ fit) long
            (e ∙ ap (λ (z : Session). finished_session z end) (session_now stage session output held d found.1) ∙ finished_session_lem d ends.0)
            (done.0.stands end whole) ((sound_now stage session output held d found.1).0, one, fit) f
          where
            ends : (end ≡ length (draft_file d)) × (file_fits (length output) end ≡ true)
            ends =
                let known = end_some (length output) 0 (draft_file d) (sym whole ∙ done.0.ends) in
                (known.0 ∙ zero_first (length (draft_file d)), known.1)

            fit : file_fits (length output) (length (draft_file d)) ≡ true
            fit = ap (file_fits (length output)) (sym ends.0) ∙ ends.1
