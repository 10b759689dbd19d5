-- What the pass over all blocks of a file reports.
use Rattle.std.specs.Prelude.{ℕ, Bool, ◌&&◌, leb, eqb, length}
use mathlib.Core.List.{List, flat_map}
use Rattle.outcome.specs.Outcome.{Outcome, answer, ◌>>=◌}
use Rattle.lists.specs.Lists.{keep, any}
use Rattle.framing.specs.declared.Frame.{Frame}
use Rattle.block.specs.declared.Survey.{Survey}
use Rattle.payload.specs.Payload.{Text}
use Rattle.block.specs.Block.{Block, is_ordinary, blocks_at}

-- the ordinary blocks, in file order
unfoldable pub ordinary : List Block → List Block
ordinary bs = keep (λ b. is_ordinary b.frame.level) bs

-- the records of the data blocks, joined in file order
unfoldable pub records_of : List Block → List Text
records_of bs = flat_map (λ b. b.records) bs

-- an index block with this start and this full size
unfoldable pub is_root : (root rootsize : ℕ) → Frame → Bool
is_root root rootsize f = (eqb f.start root && eqb f.size rootsize) && (leb 1 f.level && is_ordinary f.level)

-- how many ordinary blocks and records there are, and whether the root's place and size are an index block's
unfoldable pub surveyed : (root rootsize : ℕ) → List Block → Survey
surveyed root rootsize bs =
    record { blocks = length (ordinary bs); records = length (records_of bs); root = any (λ b. is_root root rootsize b.frame) bs }

-- the block stage: every block from an offset to the file's end, front to back
unfoldable pub survey_of : List ℕ → (from root rootsize : ℕ) → Outcome Survey
survey_of file from root rootsize = blocks_at file from >>= λ bs. answer (surveyed root rootsize bs)
