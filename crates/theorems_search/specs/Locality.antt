-- What a search depends on: the file's length, its header and the blocks that it opens.
use Rattle.std.specs.Prelude.{ℕ, ◌+◌, ◌≡◌, length, take}
use mathlib.Core.List.{List, Memᴰ}
use Rattle.outcome.specs.Outcome.{answer}
use Rattle.part.specs.Part.{part}
use Rattle.header.specs.Header.{H}
use Rattle.block.specs.Block.{Block, block_at}
use Rattle.query.specs.Query.{Query}
use Rattle.search.specs.declared.Found.{Found}
use Rattle.search.specs.Search.{search_of, search_answer, opened_list, result_list}

-- where the header ends and blocks begin
unfoldable pub header_end : List ℕ → ℕ
header_end file = 24 + H file

-- Two files that are the same where a search of the first looked, which opened these blocks: the same length, the same bytes up to the
-- header's end, and the same bytes in every opened block. Each of the offsets is that of a block that can be read (`opened_read`); b is that
-- block.
pub record SameWhereOpened (file other : List ℕ) (opened : List ℕ) : Type 0 where
  pub long : length other ≡ length file
  pub header : take (header_end file) other ≡ take (header_end file) file
  pub blocks : (offset : ℕ) → Memᴰ offset opened → (b : Block) → block_at file offset ≡ answer b
      → part other offset b.frame.size ≡ part file offset b.frame.size

-- Locality, of a search with this answer and these lists at exit: where it isn't refused, any other file that is the same in the blocks
-- listed gets the same answer to the same query with the same room.
unfoldable pub SearchedLocally : (file : List ℕ) → Query → (places room : ℕ) (r : Found) (list results : List ℕ) → Type 0
SearchedLocally file q places room r list results =
    r.number ≡ 0 → (other : List ℕ) → SameWhereOpened file other (take r.opened list)
    → (search_answer (search_of other q places room) ≡ r)
    × (opened_list places (search_of other q places room) ≡ list)
    × (result_list room (search_of other q places room) ≡ results)
