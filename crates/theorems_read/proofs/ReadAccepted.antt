-- Reading an accepted file front to back: exactly the records that match.
-- Assumes nothing.
use mathlib.Core.Path.{◌≡◌}
use mathlib.Core.List.Memᴰ
use mathlib.Core.List.{List, [], ◌∷◌, map, Memᴰ}
use mathlib.Core.Logic.{◌⊎◌, inl, inr}
use Prim.Native.Nat.{ℕ, ◌+◌, ◌≤◌, ◌<◌}
use native.Mathlib.Omega.{arith}
use lib.ListN.{length}
use Rattle.outcome.specs.Outcome.{answer}
use Rattle.payload.specs.Payload.{Text}
use Rattle.block.specs.Block.{Block}
use Rattle.block.specs.Survey.{records_of}
use Rattle.query.specs.Query.{Query}
use Rattle.matching.specs.Matching.{matching}
use Rattle.matching.specs.ResultList.{room_for}
use Rattle.reader.specs.declared.ReadAnswer.{ReadAnswer}
use Rattle.reader.specs.Read.{read_of, read_answer, read_list}
use Rattle.reader.proofs.PlaceLaws.{LaidOut, laid_member}
use Rattle.checker.specs.Check.{accept_of, check_of, check_answer}
use Rattle.theorems_check.specs.Rules.{Rules, StandsIn, Rising, no_number, one_number}
use Rattle.theorems_check.proofs.AcceptLaws.{accepted⇒Accepted, Rules⇒accepted}
use Rattle.theorems_check.proofs.CheckTheorems.{number_0⇒Rules}
use Rattle.header.specs.Header.{header_numbers}
use Rattle.theorems_read.specs.ReadByRules.{GivesMatches, ReadByRules}
use Rattle.theorems_read.proofs.PairLaws.{placed⇒unpacks}
use Rattle.theorems_read.proofs.ReadTheorems.{is_read, read_answer_lem, read_whole, read_laid, read_placed}

-- records that lie one after the other begin at rising offsets
module _ (file : List ℕ) where
  laid⇒later : (ms : List Text) (from end : ℕ) → LaidOut file from ms end → (y : ℕ) → Memᴰ y (map (λ m. m.at) ms) → from < y
  unfolding LaidOut
  laid⇒later [] from end h y i = absurd (Memᴰ.not-nil i)
  laid⇒later (m ∷ ms) from end (s, h) y i = go (Memᴰ.cases_cons i) (laid⇒later ms _ end h y)
    where
      go : (y ≡ m.at) ⊎ Memᴰ y (map (λ m. m.at) ms) → (Memᴰ y (map (λ m. m.at) ms) → m.at + length m.bytes < y) → from < y
      go (inl same) rest = let first = s.after in omega arith
      go (inr later) rest = let first = s.after in let more = rest later in omega arith

  laid⇒Rising : (ms : List Text) (from end : ℕ) → LaidOut file from ms end → Rising (map (λ m. m.at) ms)
  unfolding LaidOut
  laid⇒Rising [] from end h = no_number
  laid⇒Rising (m ∷ ms) from end (s, h) = one_number {x = m.at} (λ y i. let more = laid⇒later ms _ end h y i in omega arith) (laid⇒Rising ms _ end h)

module _ (file : List ℕ) (bs : List Block) (accepted : accept_of file ≡ answer bs) (q : Query) (room : ℕ) (fits : room_for (length (matching q (records_of bs))) ≤ room) where
  -- with room for the matches it is not refused
  pub accepted⇒read : read_of file q room ≡ answer (matching q (records_of bs))
  accepted⇒read = let a = accepted⇒Accepted file bs accepted in read_whole file q room (header_numbers file) a.header bs a.blocks fits

  pub accepted⇒matches : GivesMatches file (matching q (records_of bs)) room (read_answer (read_of file q room)) (read_list room (read_of file q room))
  unfolding StandsIn
  accepted⇒matches =
      let ms = matching q (records_of bs) in
      let told = read_answer_lem file q room ms accepted⇒read in
      let laid = read_laid file q room ms (is_read file q room ms accepted⇒read) in
      record {
        answered = told.0;
        listed = told.1;
        unpack = λ m i. placed⇒unpacks m (read_placed file q room ms accepted⇒read m i);
        stand = λ m i. laid_member file m ms _ (length file) laid i;
        rising = laid⇒Rising file ms _ (length file) laid;
      }

-- a file that keeps the rules: not refused with room, exactly the records that match, and the list
pub Rules⇒read : (file : List ℕ) (bs : List Block) → Rules file bs → (q : Query) (room : ℕ) → room_for (length (matching q (records_of bs))) ≤ room
    → GivesMatches file (matching q (records_of bs)) room (read_answer (read_of file q room)) (read_list room (read_of file q room))
Rules⇒read file bs r q room fits = accepted⇒matches file bs (Rules⇒accepted file bs r) q room fits

-- a file that the check accepted, with whatever work list
pub checked⇒read : (file : List ℕ) (places : ℕ) → (check_answer (check_of file places)).number ≡ 0
    → (bs : List Block) × Rules file bs × ((q : Query) (room : ℕ) → room_for (length (matching q (records_of bs))) ≤ room
    → GivesMatches file (matching q (records_of bs)) room (read_answer (read_of file q room)) (read_list room (read_of file q room)))
checked⇒read file places z = let (bs, a) = number_0⇒Rules file places z in (bs, a.rules, Rules⇒read file bs a.rules)

-- of an answer and a list that are the reading's
pub read_by_rules : (file : List ℕ) (q : Query) (room : ℕ) (r : ReadAnswer) (results : List ℕ)
    → r ≡ read_answer (read_of file q room) → results ≡ read_list room (read_of file q room) → ReadByRules file q room r results
unfolding ReadByRules
read_by_rules file q room r results told result-list bs accepted fits = rw (told, result-list) (accepted⇒matches file bs accepted q room (omega arith))
