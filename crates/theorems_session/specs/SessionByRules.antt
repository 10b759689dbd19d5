-- What is claimed of a session and its output, as the steps hand them back.
use Rattle.std.specs.Prelude.{ℕ, ◌≤◌, ◌≡◌, List, [], ◌∷◌, ◌++◌, length, take}
use Rattle.output_list.specs.OutputList.{zeros}
use Rattle.outcome.specs.Outcome.{answer}
use Rattle.block.specs.Block.{Block}
use Rattle.layout.specs.Blocks.{records_bytes}
use Rattle.layout.specs.File.{file_of}
use Rattle.writer.specs.Write.{write_of}
use Rattle.theorems_write.specs.WrittenByRules.{HoldsRecords}
use Rattle.session_value.specs.declared.Session.{Session}
use Rattle.session_value.specs.Stage.{Draft, Stage, finished, draft_blocks, draft_records}
use Rattle.session_value.specs.Held.{Held}
use Rattle.theorems_session.specs.Figures.{stored_figures, counted_figures}

-- no block was closed early: every block but the last is full
unfoldable pub NoneEarly : (per_block : ℕ) → List (List (List ℕ)) → Type 0
NoneEarly per_block [] = Unit {0}
NoneEarly per_block (b ∷ []) = Unit {0}
NoneEarly per_block (b ∷ c ∷ more) = (length b ≡ per_block) × NoneEarly per_block (c ∷ more)

-- a finished file
pub record FinishedByRules (d : Draft) (file : List ℕ) : Type 0 where
  -- it is laid out as the writer lays out files, over the session's own blocks
  pub laid : file ≡ file_of d.metadata (draft_blocks d) d.per_index
  -- it is accepted, and its records are those of the session, in order
  pub held : (bs : List Block) × HoldsRecords d.metadata (records_bytes (draft_records d)) (draft_records d) file bs
  -- it is the writer's file where no block was closed early
  pub writers : NoneEarly d.per_block (draft_blocks d) → (room : ℕ) → length file ≤ room
      → write_of d.metadata (records_bytes (draft_records d)) d.per_block d.per_index room ≡ answer file

pub record SessionByRules (stage : Stage) (session : Session) (output : List ℕ) : Type 0 where
  -- the figures stored are those counted from the bytes
  pub figures : stored_figures session ≡ counted_figures output
  -- zeros may be appended to the output
  pub grows : (more : ℕ) → Held stage session (output ++ zeros more)
  -- what stands once it is finished
  pub finished_file : (d : Draft) → stage ≡ finished d → FinishedByRules d (take session.next output)
