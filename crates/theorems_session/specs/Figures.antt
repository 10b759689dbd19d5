-- The three figures of a session: stored in it, and counted from the bytes of its output.
use Rattle.std.specs.Prelude.{ℕ, ◌+◌, Bool, ◌||◌, cond, List, map, length}
use Rattle.lists.specs.Groups.{last_or}
use Rattle.byte_string.specs.Order.{begins}
use Rattle.header.specs.Header.{magic, unfinished_magic, H}
use Rattle.block.specs.Block.{Block}
use Rattle.block.specs.Survey.{records_of}
use Rattle.block.specs.Laid.{laid_from}
use Rattle.session_value.specs.declared.Session.{Session}

-- the record count, the last record's offset and the next block's offset
pub record Figures : Type 0 where
  pub records : ℕ
  pub last : ℕ
  pub next : ℕ

unfoldable pub stored_figures : Session → Figures
stored_figures s = record { records = s.records; last = s.last; next = s.next }

-- of blocks from an offset on: the records of the data blocks, the offset of the last of them, 0 where there is none, and where the last block ends
unfoldable pub figures_of : (from : ℕ) → List Block → Figures
figures_of from bs =
    record {
      records = length (records_of bs);
      last = last_or 0 (map (λ r. r.at) (records_of bs));
      next = last_or from (map (λ b. b.frame.start + b.frame.size) bs);
    }

-- the magic of a file, finished or not
unfoldable pub has_magic : List ℕ → Bool
has_magic output = begins magic output || begins unfinished_magic output

-- Without a magic nothing is counted. Otherwise the blocks as they lie from 24 + H on, up to a byte that begins none, which is a zero, or the
-- output's end.
unfoldable pub counted_figures : List ℕ → Figures
counted_figures output =
    cond (has_magic output) (figures_of (24 + H output) (laid_from output (24 + H output))) (record { records = 0; last = 0; next = 0 })
