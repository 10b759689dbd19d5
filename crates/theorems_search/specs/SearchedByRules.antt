-- What is claimed of the search of an accepted file: it is answered as reading front to back is, and opens the blocks of the rule.
use Rattle.std.specs.Prelude.{ℕ, ◌≤◌, ◌<◌, ◌≡◌, ◌↔◌, length}
use mathlib.Core.List.{List, ◌∷◌, Memᴰ}
use Rattle.byte_string.specs.Order.{AreBytes}
use Rattle.output_list.specs.OutputList.{padded}
use Rattle.outcome.specs.Outcome.{answer}
use Rattle.header.specs.Header.{field_at}
use Rattle.block.specs.Block.{Block}
use Rattle.block.specs.Survey.{records_of}
use Rattle.query.specs.Query.{Query}
use Rattle.matching.specs.Matching.{matching}
use Rattle.matching.specs.ResultList.{room_for}
use Rattle.reader.specs.Read.{read_of, read_answer, read_list}
use Rattle.search.specs.declared.Found.{Found}
use Rattle.tree.specs.Tree.{block_level}
use Rattle.checker.specs.Check.{accept_of}
use Rattle.theorems_tree.specs.Preorder.{Kept, Once}
use Rattle.theorems_search.specs.OpeningRule.{Opened, InVain, RuleOpens}

-- Start and prefix are byte strings. They and the file are slices of u8, so this holds of every call; the stop needn't be bytes, since no
-- matching string is made from it.
pub record QueryBytes (q : Query) : Type 0 where
  pub start : AreBytes q.start
  pub prefix : AreBytes q.prefix

-- The file has these blocks, and `opened` are those that the rule opens. r is the answer of a search on lists of so many places, `list` the
-- opened list at exit and `results` the result list.
pub record Searched (file : List ℕ) (bs : List Block) (q : Query) (opened : List ℕ) (places room : ℕ) (r : Found) (list results : List ℕ) : Type 0 where
  -- not refused
  pub number : r.number ≡ 0
  pub place : r.place ≡ 0
  -- equal to reading front to back: number, place, count of matches and every place of the result list
  pub same_number : r.number ≡ (read_answer (read_of file q room)).number
  pub same_place : r.place ≡ (read_answer (read_of file q room)).place
  pub same-matches : r.matches ≡ (read_answer (read_of file q room)).matches
  pub same_results : results ≡ read_list room (read_of file q room)
  -- the opened list holds the blocks that the rule opens, then zeros
  pub listed : list ≡ padded places opened
  pub counted : r.opened ≡ length opened
  -- an ordinary block is one of them exactly if the rule opens it
  pub exactly : (b : Block) → Memᴰ b bs → b.frame.level ≤ 63 → Memᴰ b.frame.start opened ↔ Opened bs (field_at file 16) q b.frame.start
  -- root first, each once
  pub root_first : (rest : List ℕ) × (opened ≡ field_at file 16 ∷ rest)
  pub once : Once opened
  -- on each level below the root at most two that lead to no match
  pub in_vain : (level : ℕ) → level < block_level bs (field_at file 16) → (vain : List ℕ) × Kept (InVain bs q level) opened vain × (length vain ≤ 2)

-- Demand 3, of a search with this answer and these lists at exit. For an accepted file the rule says which blocks are opened; with a place
-- for each of them and room for the records that match, the search is as claimed.
unfoldable pub SearchedByRules : (file : List ℕ) → Query → (places room : ℕ) (r : Found) (list results : List ℕ) → Type 0
SearchedByRules file q places room r list results =
    (bs : List Block) → accept_of file ≡ answer bs
    → (opened : List ℕ) × RuleOpens file bs q opened
    × (length opened ≤ places → room_for (length (matching q (records_of bs))) ≤ room → Searched file bs q opened places room r list results)
