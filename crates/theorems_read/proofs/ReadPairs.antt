-- What packing keeps of a read: its results, unpacked, are those of a list with two places for each match.
-- Assumes nothing.
use mathlib.Core.Path.{◌≡◌, sym, ap, ◌∙◌, subst}
use mathlib.Core.Bool.{Bool}
use mathlib.Core.List.{List}
use Prim.Native.Nat.{ℕ, ◌/◌, ◌≤◌}
use lib.ListN.{length}
use Rattle.outcome.specs.Outcome.{answer, ◌>>◌, must}
use Rattle.outcome.proofs.OutcomeLaws.{bind_right}
use Rattle.header.specs.Header.{header_of, blocks_from}
use Rattle.payload.specs.Payload.{Text}
use Rattle.block.specs.Block.{blocks_at}
use Rattle.block.specs.Survey.{records_of}
use Rattle.query.specs.Query.{Query}
use Rattle.matching.specs.Matching.{matching}
use Rattle.matching.specs.ResultList.{room_for}
use Rattle.reader.specs.declared.ReadAnswer.{ReadAnswer}
use Rattle.reader.specs.Read.{read_blocks, read_of, read_answer, read_list}
use Rattle.theorems_read.specs.Pairs.{read_in_pairs, read_pairs, ReadUnpacks}
use Rattle.theorems_read.proofs.PairLaws.{pairs_room, packing_keeps}
use Rattle.theorems_read.proofs.ReadTheorems.{is_read, read_answer_lem, read_whole, read_placed}
use Rattle.theorems_read.proofs.ReadNumbers.{number_0⇒answered}

-- the old form has room for half as many matches as places
pub read_halves : (file : List ℕ) (q : Query) (places : ℕ) → read_in_pairs file q places ≡ read_of file q (places / 2)
unfolding read_in_pairs read_of read_blocks
read_halves file q places =
    bind_right (header_of file) _ _ (λ h. bind_right (blocks_at file (blocks_from h)) _ _
    (λ bs. ap (λ (b : Bool). must b 27 0 >> answer (matching q (records_of bs))) (pairs_room (length (matching q (records_of bs))) places)))

module _ (file : List ℕ) (q : Query) (room : ℕ) where
  -- an answer is the same with any other room for its matches
  pub read_other_room : (ms : List Text) → read_of file q room ≡ answer ms → (other : ℕ) → room_for (length ms) ≤ other → read_of file q other ≡ answer ms
  read_other_room ms e other fits =
      let r = is_read file q room ms e in
      read_whole file q other r.header r.header_accepted r.blocks r.blocks_accepted
      (subst (λ (l : List Text). room_for (length l) ≤ other) r.matches_are fits)
      ∙ ap answer (sym r.matches_are)

  -- of an answer and a list that are the reading's
  pub read_unpacks : (r : ReadAnswer) (results : List ℕ) → r ≡ read_answer (read_of file q room) → results ≡ read_list room (read_of file q room)
      → ReadUnpacks file q room r results
  unfolding ReadUnpacks read_pairs read_list
  read_unpacks r results told held =
      packing_keeps (λ ms. ms) read_answer (λ a. a.number) (λ a. a.matches) (read_of file q) (read_in_pairs file q) (read_halves file q) room
      (λ ms e. (is_read file q room ms e).room_enough) (read_placed file q room) read_other_room (number_0⇒answered file q room)
      (λ ms e. ap (λ (a : ReadAnswer). a.matches) (read_answer_lem file q room ms e).0) r results told held
