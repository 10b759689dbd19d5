-- Laws of the records that can be read in a frame, and of those of a block that was accepted.
-- Assumes nothing.
use mathlib.Core.Path.{◌≡◌, sym, ap, ◌∙◌}
use mathlib.Core.List.{List}
use Prim.Native.Nat.{ℕ, ◌+◌, ◌-◌, ◌≤◌}
use lib.ListN.{length, take}
use lib.Seq.{length-take-le}
use Rattle.outcome.specs.Outcome.{answer}
use Rattle.items.specs.Items.{sound_from}
use Rattle.items.proofs.ItemsLaws.{items⇒sound, sound_few}
use Rattle.framing.specs.declared.Frame.{Frame}
use Rattle.payload.specs.Payload.{Text, text_at, records_at}
use Rattle.block.specs.Block.{Block, block_in}
use Rattle.block.specs.Laid.{laid_items, laid_records}
use Rattle.block.proofs.BlockLaws.{inside_data}
use Rattle.block.proofs.LaidLaws.{laid_data}
use Rattle.payload.proofs.ReadLaws.{payload⁻¹}
use Rattle.matching.specs.Matching.{records_from}

-- ---- how many

-- at most one record for each byte
pub records_few : (place : ℕ) (s : List ℕ) (from : ℕ) → length (records_from place s from) ≤ length s - from
unfolding records_from
records_few place s from = sound_few (text_at place s) (length s) (length s - from) from

-- ---- the records of a frame

-- those of a data block are what can be read in its payload
pub data_records : (file : List ℕ) (f : Frame) → f.level ≡ 0 → f.end ≤ length file
    → laid_records file f ≡ records_from f.start (take f.end file) (f.body + 1)
unfolding laid_items records_from
data_records file f level within =
    (laid_data file f level).0
    ∙ ap (λ (n : ℕ). sound_from (text_at f.start (take f.end file)) n (n - (f.body + 1)) (f.body + 1)) (sym (length-take-le f.end file within))

-- ---- the records of a block that was accepted

pub records⇒from : (place : ℕ) (s : List ℕ) (at : ℕ) (rs : List Text) → records_at place s at ≡ answer rs → records_from place s at ≡ rs
unfolding records_at records_from
records⇒from place s at rs e =
    items⇒sound (text_at place s) (length s) (length s - at) at rs (payload⁻¹ (text_at place s) (λ r. r) 16 place (length s) at rs e).items

-- reading the payload of a data block again finds its records
pub inside⇒records : (file : List ℕ) (f : Frame) (b : Block) → block_in file f ≡ answer b → f.level ≡ 0
    → records_from f.start (take f.end file) (f.body + 1) ≡ b.records
inside⇒records file f b e level = records⇒from f.start (take f.end file) (f.body + 1) b.records (inside_data file f b e level).0
