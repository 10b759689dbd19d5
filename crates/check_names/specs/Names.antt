-- Refusals 18, 19 and 20, and how the work list carries them: which entries were seen, as counts in the words.
use Rattle.std.specs.Prelude.{ℕ, zero, suc, ◌+◌, ◌*◌, ◌/◌, ◌^◌, ◌≤◌, ◌<◌, ◌≡◌, Bool, true, false, cond, leb, ltb, eqb, length, get_or}
use Rattle.std.specs.Prelude.{Option, Some, None, Result, Ok}
use mathlib.Core.List.{List, ◌++◌, flat_map}
use Rattle.outcome.specs.Outcome.{Outcome, ◌>>◌, must}
use Rattle.outcome.specs.declared.Refusal.{Refusal}
use Rattle.outcome.specs.Fault.{said}
use Rattle.lists.specs.Lists.{keep, all}
use Rattle.payload.specs.Payload.{Entry}
use Rattle.block.specs.Block.{Block}
use Rattle.block.specs.Survey.{ordinary}
use Rattle.block.specs.Laid.{laid_from}
use Rattle.tree.specs.Tree.{names}
use Rattle.tree.specs.Stages.{each, entries_fit, naming_of}
use Rattle.check_names.specs.Starts.{starts_of}

-- 18, 19 and 20 of the blocks as they lie in the file, with a work list of so many places; 1 for a file of more than 2 ^ 30 bytes, whose
-- starts do not fit in a word
unfoldable pub names_of : (file : List ℕ) (from root places : ℕ) → Outcome (Unit {0})
names_of file from root places =
    let bs = laid_from file from in
    must (leb (length file) (2 ^ 30)) 1 0 >> (must (leb (length (ordinary bs)) places) 18 0 >> naming_of bs root)

-- ---- the words

-- the entries of these blocks, joined
unfoldable pub entries_of : List Block → List Entry
entries_of bs = flat_map (λ b. b.entries) bs

-- how many of these entries name the offset
unfoldable pub times_named : List Entry → ℕ → ℕ
times_named seen at = length (keep (λ e. eqb e.offset at) seen)

-- 2 for two or more
unfoldable pub up_to_two : ℕ → ℕ
up_to_two zero = 0
up_to_two (suc zero) = 1
up_to_two (suc (suc n)) = 2

-- the word of a start, where these entries were seen
unfoldable pub word_of : List Entry → ℕ → ℕ
word_of seen at = at + 2 ^ 30 * up_to_two (times_named seen at)

-- a word with one more naming
unfoldable pub marked : ℕ → ℕ
marked word = cond (ltb (word / 2 ^ 30) 2) (word + 2 ^ 30) word

-- the words are those of the file's ordinary blocks, where these entries were seen
pub record WordsKept (file : List ℕ) (from : ℕ) (seen : List Entry) (work : List ℕ) : Type 0 where
  pub short : length file ≤ 2 ^ 30
  pub many : length (starts_of (laid_from file from)) ≡ length work
  pub words : (i : ℕ) → i < length work → get_or work i 0 ≡ word_of seen (get_or (starts_of (laid_from file from)) i 0)

-- ---- what the passes answer

-- the block whose start stands at the index is the one that an entry names, and it fits
pub record Leads (bs : List Block) (level : ℕ) (e : Entry) (i : ℕ) : Type 0 where
  pub fits : names bs level e ≡ true
  pub placed : get_or (starts_of bs) i 0 ≡ e.offset

-- for one entry: the index of the word whose block it names, where it names one that fits
unfoldable pub Named : (bs : List Block) (level : ℕ) (e : Entry) → Option ℕ → Type 0
Named bs level e (Some i) = Leads bs level e i
Named bs level e None = names bs level e ≡ false

-- for some entries of a block of this level: whether all name a fitting block; if so, all are seen
pub record EntriesSeen (file : List ℕ) (from level : ℕ) (seen es : List Entry) (work : List ℕ) (r : Bool) : Type 0 where
  pub fit : r ≡ all (names (laid_from file from) level) es
  pub kept : r ≡ true → WordsKept file from (seen ++ es) work

-- for all blocks: 19; if all fit, all entries are seen
pub record AllSeen (file : List ℕ) (from : ℕ) (work : List ℕ) (r : Result (Unit {0}) Refusal) : Type 0 where
  pub fault : said r ≡ each (entries_fit (laid_from file from)) 19 (ordinary (laid_from file from))
  pub kept : r ≡ Ok tt → WordsKept file from (entries_of (ordinary (laid_from file from))) work
