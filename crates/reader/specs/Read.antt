-- Reading a file front to back under a query.
use Rattle.std.specs.Prelude.{ℕ, List, leb, length}
use Rattle.outcome.specs.declared.Refusal.{Refusal}
use Rattle.outcome.specs.Fault.{number}
use Rattle.outcome.specs.Outcome.{Outcome, answer, ◌>>=◌, ◌>>◌, must, number_of, place_of, count_of, list_of}
use Rattle.header.specs.declared.Header.{Header}
use Rattle.header.specs.Header.{header_of, blocks_from}
use Rattle.payload.specs.Payload.{Text}
use Rattle.block.specs.Block.{blocks_at}
use Rattle.block.specs.Survey.{records_of}
use Rattle.query.specs.Query.{Query}
use Rattle.matching.specs.Matching.{matching}
use Rattle.matching.specs.ResultList.{room_for, numbers_of}
use Rattle.reader.specs.declared.ReadAnswer.{ReadAnswer}

-- after the header: the block stage, then 27 exactly if the list has no room for the matches
unfoldable pub read_blocks : (file : List ℕ) (q : Query) (room : ℕ) → Header → Outcome (List Text)
read_blocks file q room h = do
  bs ← blocks_at file (blocks_from h)
  must (leb (room_for (length (matching q (records_of bs)))) room) 27 0
  answer (matching q (records_of bs))

-- reading front to back: refusals 1 to 9, then the blocks
unfoldable pub read_of : (file : List ℕ) (q : Query) (room : ℕ) → Outcome (List Text)
read_of file q room = header_of file >>= read_blocks file q room

-- what `read` answers, and what its list holds
unfoldable pub read_answer : Outcome (List Text) → ReadAnswer
read_answer o = record { number = number_of o; place = place_of o; matches = count_of length o }

unfoldable pub read_list : ℕ → Outcome (List Text) → List ℕ
read_list room o = list_of numbers_of room o

-- what it answers after this refusal
unfoldable pub refused_answer : Refusal → ReadAnswer
refused_answer r = record { number = number r.fault; place = r.place; matches = 0 }

-- how many records match
unfoldable pub counted : Outcome (List Text) → Outcome ℕ
counted o = o >>= λ ms. answer (length ms)
