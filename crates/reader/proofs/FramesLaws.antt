-- Laws of the loop over the blocks of a file as they lie.
-- Assumes nothing.
use mathlib.Core.Path.{◌≡◌, refl, sym, ap, ◌∙◌}
use mathlib.Core.List.{List}
use Prim.Native.Nat.{ℕ, ◌+◌, ◌-◌, ◌^◌, ◌≤◌, ◌<◌}
use native.Mathlib.Omega.{arith}
use lib.ListN.{length, take, length-take}
use Rattle.outcome.specs.Outcome.{answer, refused}
use Rattle.framing.specs.declared.Frame.{Frame}
use Rattle.framing.specs.Frame.{frame_at}
use Rattle.framing.proofs.FrameLaws.{frame⇒Framed}
use Rattle.block.specs.Laid.{laid_in, laid_at, laid_from}
use Rattle.block.specs.Survey.{records_of}
use Rattle.block.proofs.LaidLaws.{laid_found, laid_refused, laid_no_records}
use Rattle.query.specs.Query.{Query}
use Rattle.matching.specs.Matching.{matching, records_from}
use Rattle.matching.specs.ResultList.{Stored, put_all}
use Rattle.matching.proofs.FrameRecordsLaws.{records_few, data_records}
use Rattle.matching.proofs.MatchLaws.{matching_nil, matching_few}
use Rattle.matching.proofs.ResultListLaws.{count_put_all, length_put_all}
use Rattle.matching.proofs.CollectLaws.{Collected, collected_more, collected_end, collected_refused}

module _ (file : List ℕ) (from : ℕ) (q : Query) (first : Stored) where
  -- each block is an item
  abbrev pub FramesCollected : ℕ → Stored → Type 0
  FramesCollected at stored = Collected (λ place. laid_at file) (λ b. b.records) q (length file) from first at stored

  -- the frame f was read at `at`
  module _ (at : ℕ) (stored : Stored) (p : FramesCollected at stored) (h : at < length file) (f : Frame) (e : frame_at file at ≡ answer f) where
    -- there are fewer matches, with those of the block, than a file of this length has bytes; and offsets and lengths can be packed
    pub frames_room : (limit : ℕ) → first.count + length file < limit → length file ≤ 2 ^ 30
        → (stored.count + (length (take f.end file) - (f.body + 1)) < limit) × (length (take f.end file) < 2 ^ 32)
    frames_room limit short small =
        let l = frame⇒Framed file at f e in
        let number = l.number in
        let some = l.some in
        let sized = l.sized in
        let within = l.within in
        let cut = length-take f.end file in
        let so_far = p.few in
        (omega arith, omega arith)

    -- the matching records of a data block are put
    pub frames_data : f.level ≡ 0 → (later : Stored) → later ≡ put_all stored (matching q (records_from f.start (take f.end file) (f.body + 1)))
        → FramesCollected (at + f.size) later
    unfolding laid_in
    frames_data level later is =
        let l = frame⇒Framed file at f e in
        let number = l.number in
        let some = l.some in
        let sized = l.sized in
        let within = l.within in
        let rs = records_from f.start (take f.end file) (f.body + 1) in
        let counted : later.count ≡ stored.count + length (matching q rs) = ap (λ (s : Stored). s.count) is ∙ count_put_all stored (matching q rs) in
        let few : length (matching q rs) ≤ length rs = matching_few q rs in
        let bytes : length rs ≤ length (take f.end file) - (f.body + 1) = records_few f.start (take f.end file) (f.body + 1) in
        let cut = length-take f.end file in
        let so_far = p.few in
        collected_more (λ place. laid_at file) (λ b. b.records) q (length file) from first at stored p h (record { item = laid_in file f; next = at + f.size })
        (λ place. laid_found file at f e) (omega arith) later
        (is ∙ ap (λ rs. put_all stored (matching q rs)) (sym (data_records file f level (omega arith))))
        (omega arith)
        (ap (λ (s : Stored). length s.list) is ∙ length_put_all stored (matching q rs))

    -- any other block has none
    pub frames_other : (f.level ≡ 0 → ⊥) → FramesCollected (at + f.size) stored
    unfolding put_all laid_in
    frames_other level =
        let l = frame⇒Framed file at f e in
        let number = l.number in
        let some = l.some in
        let sized = l.sized in
        let so_far = p.few in
        collected_more (λ place. laid_at file) (λ b. b.records) q (length file) from first at stored p h (record { item = laid_in file f; next = at + f.size })
        (λ place. laid_found file at f e) (omega arith) stored
        (sym (ap (λ rs. put_all stored (matching q rs)) (laid_no_records file f level) ∙ ap (put_all stored) (matching_nil q)))
        (omega arith)
        refl

  pub frames_end : (at : ℕ) (stored : Stored) → FramesCollected at stored → length file ≤ at
      → stored ≡ put_all first (matching q (records_of (laid_from file from)))
  unfolding records_of laid_from
  frames_end at stored p h = collected_end (λ place. laid_at file) (λ b. b.records) q (length file) from first at stored p h 0

  pub frames_refused : (at : ℕ) (stored : Stored) → FramesCollected at stored → at < length file
      → (number place : ℕ) → frame_at file at ≡ refused number place → stored ≡ put_all first (matching q (records_of (laid_from file from)))
  unfolding records_of laid_from
  frames_refused at stored p h number place e =
      collected_refused (λ place. laid_at file) (λ b. b.records) q (length file) from first at stored p h 0 number place (laid_refused file at number place e)
