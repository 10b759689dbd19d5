-- What is known of an input that isn't refused.
-- Assumes nothing.
use mathlib.Core.Path.{◌≡◌, sym, ap, ◌∙◌}
use mathlib.Core.Bool.{true}
use mathlib.Core.List.{List, flat_map}
use Prim.Native.Nat.{ℕ, ◌-◌, ◌≤◌, ◌<◌}
use native.Mathlib.Omega.{arith}
use lib.ListN.{length}
use Rattle.byte_string.specs.Order.{AreBytes}
use Rattle.outcome.specs.Outcome.{Outcome, answer, refused}
use Rattle.outcome.proofs.OutcomeLaws.{kept⁻¹, bind⁻¹, answer_injective, refused_not_answer}
use Rattle.lists.specs.Groups.{groups}
use Rattle.lists.proofs.GroupsLaws.{groups_join}
use Rattle.items.proofs.ItemsLaws.{Row, items⇒row}
use Rattle.header.specs.Metadata.{is_metadata}
use Rattle.payload.specs.Payload.{Text, text_at, records_at, rising}
use Rattle.payload.proofs.ReadLaws.{Filled, payload⁻¹, text_forward}
use Rattle.layout.specs.Blocks.{records_bytes}
use Rattle.layout.specs.File.{counts_fit}
use Rattle.layout.proofs.InputLaws.{row_encoded}
use Rattle.file_encoder.proofs.CountsLaws.{counts⁻¹}
use Rattle.writer.specs.Write.{input_refusal, refused_as, input_of, records_to_write}
use Rattle.writer.specs.Steps.{ValidInput}
use Rattle.writer.proofs.DataLaws.{bytes_of}

refused_as⁻¹ : {A : Type 0} (number : ℕ → ℕ) (o : Outcome A) (a : A) → refused_as number o ≡ answer a → o ≡ answer a
unfolding refused_as
refused_as⁻¹ number (answer b) a e = e
refused_as⁻¹ number (refused n place) a e = absurd (refused_not_answer a (number n) 0 e)

-- the records of the input, and that there are some
pub record Ready (metadata input : List ℕ) (b i : ℕ) (rs : List (List ℕ)) : Type 0 where
  pub block_count : 1 ≤ b
  pub index_count : 2 ≤ i
  pub rule : is_metadata metadata ≡ true
  pub texts : List Text
  pub row : Row (text_at 0 input) (length input) 0 texts
  pub some : 0 < length input
  pub same : rs ≡ bytes_of texts
  pub sorted : rising rs ≡ true

pub ready : (metadata input : List ℕ) (b i : ℕ) (rs : List (List ℕ)) → records_to_write metadata input b i ≡ answer rs → Ready metadata input b i rs
unfolding records_to_write input_of bytes_of records_at
ready metadata input b i rs e =
    let counts = kept⁻¹ (counts_fit b i) 30 0 _ rs e in
    let rule = kept⁻¹ (is_metadata metadata) 9 0 _ rs counts.1 in
    let read = bind⁻¹ (refused_as input_refusal (records_at 0 input 0)) _ rs rule.1 in
    made (counts⁻¹ b i counts.0) rule.0 read.0 (refused_as⁻¹ input_refusal (records_at 0 input 0) read.0 read.1) (sym (answer_injective _ rs read.2))
  where
    made : (1 ≤ b) × (2 ≤ i) × (b ≤ 65535) → is_metadata metadata ≡ true → (ts : List Text) → records_at 0 input 0 ≡ answer ts → rs ≡ bytes_of ts → Ready metadata input b i rs
    made counts rule ts read same =
        let filled = filled_by ts read in
        record {
          block_count = counts.0;
          index_count = counts.1;
          rule = rule;
          texts = ts;
          row = items⇒row (text_at 0 input) (length input) (text_forward 0 input) (length input - 0) 0 ts (omega arith) filled.items;
          some = filled.some;
          same = same;
          sorted = ap rising same ∙ filled.sorted;
        }
      where
        filled_by : (ts : List Text) → records_at 0 input 0 ≡ answer ts → Filled (text_at 0 input) (λ r. r) (length input) 0 ts
        filled_by ts read = payload⁻¹ (text_at 0 input) (λ r. r) 16 0 (length input) 0 ts read

pub ready⇒valid : (metadata input : List ℕ) (b i : ℕ) (rs : List (List ℕ)) → Ready metadata input b i rs → ValidInput input b
ready⇒valid metadata input b i rs r = record { records = r.texts; row = r.row; some = r.some; count = r.block_count }

-- the payloads of the blocks, joined, are the input
pub ready⇒joined : (metadata input : List ℕ) (b i : ℕ) (rs : List (List ℕ)) → AreBytes input → Ready metadata input b i rs
    → flat_map records_bytes (groups b rs) ≡ input
unfolding records_bytes bytes_of
ready⇒joined metadata input b i rs bytes r = groups_join b r.block_count _ rs ∙ ap records_bytes r.same ∙ sym (row_encoded 0 input 0 r.texts bytes r.row)
