-- The check: refusals 1 to 25 in the checking order.
use Rattle.std.specs.Prelude.{ℕ, List, leb, length}
use Rattle.outcome.specs.Outcome.{Outcome, answer, ◌>>=◌, ◌>>◌, must, number_of, place_of, count_of}
use Rattle.header.specs.Header.{header_of, blocks_from}
use Rattle.block.specs.Block.{Block, blocks_at}
use Rattle.block.specs.Survey.{ordinary, records_of}
use Rattle.tree.specs.Stages.{tree_of, has_root}
use Rattle.check_names.specs.Names.{names_of}
use Rattle.check_walk.specs.Walk.{walked_of}
use Rattle.check_hash.specs.Hash.{hash_of}
use Rattle.checker.specs.declared.Checked.{Checked}

-- 1 to 9, then each block (10 to 16, 21), 17, a stage on the blocks, and 19 to 25. The answer is the file's blocks in file order.
unfoldable pub check_with : (stage : List Block → Outcome (Unit {0})) → List ℕ → Outcome (List Block)
check_with stage file = do
  h ← header_of file
  bs ← blocks_at file (blocks_from h)
  must (has_root h bs) 17 0
  stage bs
  tree_of file h bs
  answer bs

-- Acceptance: none of 1 to 17 and 19 to 25 applies. No work list comes in.
unfoldable pub accept_of : List ℕ → Outcome (List Block)
accept_of file = check_with (λ bs. answer tt) file

-- The check, with a work list of so many places: 18 comes after 17.
unfoldable pub check_of : (file : List ℕ) (places : ℕ) → Outcome (List Block)
check_of file places = check_with (λ bs. must (leb (length (ordinary bs)) places) 18 0) file

-- what `check` answers
unfoldable pub check_answer : Outcome (List Block) → Checked
check_answer o =
    record {
      number = number_of o;
      place = place_of o;
      blocks = count_of (λ bs. length (ordinary bs)) o;
      records = count_of (λ bs. length (records_of bs)) o;
    }

-- 18 to 25 as they are judged, on the blocks as they lie in the file
unfoldable pub laid_tree_of : (file : List ℕ) (from root places : ℕ) → Outcome (Unit {0})
laid_tree_of file from root places = do
  names_of file from root places
  walked_of file root
  hash_of file from
