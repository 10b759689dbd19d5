-- Blocks as they lie in a file, read without their tests: frame after frame up to the first place where none can be read, each with the
-- items of its payload up to the first fault. Of an accepted file these are its blocks (`blocks⇒laid`); functions that run after the block
-- stage read blocks by this and are total.
use Rattle.std.specs.Prelude.{ℕ, ◌+◌, ◌-◌, ◌&&◌, cond, not, List, [], length, take}
use Rattle.outcome.specs.Outcome.{Outcome, answer, ◌>>=◌}
use Rattle.items.specs.Items.{sound_from}
use Rattle.items.specs.declared.Step.{Step}
use Rattle.framing.specs.declared.Frame.{Frame}
use Rattle.framing.specs.Frame.{frame_at}
use Rattle.payload.specs.Payload.{Text, Entry, text_at, entry_at}
use Rattle.block.specs.Block.{Block, is_data, is_ordinary}

module _ (file : List ℕ) where
  -- the items of a frame's payload, up to the first fault
  unfoldable pub laid_items : {A : Type 0} → (step : ℕ → List ℕ → ℕ → Outcome (Step A)) → Frame → List A
  laid_items step f = sound_from (step f.start (take f.end file)) f.end (f.end - (f.body + 1)) (f.body + 1)

  unfoldable pub laid_records : Frame → List Text
  laid_records f = cond (is_data f.level) (laid_items text_at f) []

  unfoldable pub laid_entries : Frame → List Entry
  laid_entries f = cond (not (is_data f.level) && is_ordinary f.level) (laid_items entry_at f) []

  unfoldable pub laid_in : Frame → Block
  laid_in f = record { frame = f; records = laid_records f; entries = laid_entries f }

  -- the block at an offset, and where the next one begins
  unfoldable pub laid_at : ℕ → Outcome (Step Block)
  laid_at at = frame_at file at >>= λ f. answer (record { item = laid_in f; next = at + f.size })

  -- the blocks from an offset on
  unfoldable pub laid_from : ℕ → List Block
  laid_from from = sound_from laid_at (length file) (length file - from) from
