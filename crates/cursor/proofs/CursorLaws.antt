-- Laws of the records that follow a cursor.
-- Assumes nothing.
use mathlib.Core.Path.{◌≡◌, refl, sym, ap, ◌∙◌, subst}
use mathlib.Core.Bool.{Bool, true, false, cond}
use mathlib.Core.List.{List, [], ◌∷◌, ◌++◌, flat_map}
use Prim.Native.Nat.{ℕ, min, ◌+◌, ◌-◌, ◌≤◌, ◌<◌}
use native.Mathlib.Omega.{arith}
use lib.ListN.{length, take, length-take}
use lib.Dec.{leb}
use lib.Seq.{take_all, take-length}
use borrow.Author.Tests.{eqb-true, eqb-false, leb-true, leb-false}
use Rattle.outcome.specs.Outcome.{answer, refused}
use Rattle.items.specs.Items.{sound_from}
use Rattle.items.proofs.ItemsLaws.{sound_end}
use Rattle.items.proofs.SoundLaws.{sound_same, sound_first, sound_none}
use Rattle.framing.specs.declared.Frame.{Frame}
use Rattle.framing.specs.Frame.{frame_at}
use Rattle.framing.proofs.FrameLaws.{frame⇒Framed}
use Rattle.part.specs.declared.Part.{Part}
use Rattle.part.proofs.PartLaws.{part-take}
use Rattle.payload.specs.Payload.{Text, text_at}
use Rattle.payload.specs.Answers.{text_in}
use Rattle.payload.proofs.ReadLaws.{text_any_place, text_forward, text_within}
use Rattle.block.specs.Block.{is_data}
use Rattle.block.specs.Laid.{laid_in, laid_at, laid_from, laid_records}
use Rattle.block.specs.Survey.{records_of}
use Rattle.block.proofs.LaidLaws.{laid_found, laid_refused, laid_forward, laid_no_records}
use Rattle.matching.specs.Matching.{records_from}
use Rattle.matching.proofs.FrameRecordsLaws.{data_records}
use Rattle.cursor.specs.declared.Cursor.{Cursor}
use Rattle.std.proofs.Common.{Some}
use Rattle.cursor.specs.declared.Found.{Found}
use Rattle.cursor.specs.Cursor.{following, behind, record_said, PartWithin, RecordWithin}

-- ---- the records of a payload

-- whatever place a refusal would have
records_any_place : (place p : ℕ) (s : List ℕ) (from : ℕ) → records_from place s from ≡ records_from p s from
unfolding records_from
records_any_place place p s from =
    sound_same (text_at place s) (text_at p s) (length s) (text_forward place s) (text_any_place place p s) (text_any_place p place s) (length s - from) (length s - from) from
    (omega arith) (omega arith)

-- none in a payload of no bytes
no_bytes : (from : ℕ) → records_from 0 [] from ≡ []
unfolding records_from
no_bytes from = sound_end (text_at 0 []) 0 (0 - from) from (omega arith)

-- ---- blocks as they lie

-- the records of the block at an offset, and of those after it
laid_records_lem : (file : List ℕ) (at : ℕ) (f : Frame) → frame_at file at ≡ answer f
    → records_of (laid_from file at) ≡ laid_records file f ++ records_of (laid_from file (at + f.size))
unfolding laid_from laid_in records_of flat_map
laid_records_lem file at f e =
    let l = frame⇒Framed file at f e in
    let number = l.number in
    let some = l.some in
    let sized = l.sized in
    let within = l.within in
    ap records_of (sound_first (laid_at file) (length file) (laid_forward file) at _ (omega arith) (laid_found file at f e))

-- none where no frame is found
laid_none : (file : List ℕ) (at number place : ℕ) → frame_at file at ≡ refused number place → records_of (laid_from file at) ≡ []
unfolding laid_from records_of flat_map
laid_none file at number place e = ap records_of (sound_none (laid_at file) (length file) at number place (laid_refused file at number place e))

-- ---- what follows a cursor

-- an end that is the payload's or 0
pub end_few : (b : Bool) (end n limit : ℕ) → n ≡ cond b end 0 → end ≤ limit → n ≤ limit
end_few true end n limit e h = omega arith
end_few false end n limit e h = omega arith

module _ (file : List ℕ) where
  abbrev pub follow : (at end block : ℕ) → List Text
  follow at end block = following file (record { at = at; end = end; block = block })

  pub follow_start : (from : ℕ) → follow 0 0 from ≡ records_of (laid_from file from)
  unfolding following records_from sound_from
  follow_start from = refl

  -- only the bytes before the end count
  pub follow_cut : (at end limit block : ℕ) → take limit file ≡ take end file → follow at limit block ≡ follow at end block
  unfolding following
  follow_cut at end limit block e = ap (λ (s : List ℕ). records_from 0 s at ++ records_of (laid_from file block)) e

  -- so the end may be the file's, where that comes first
  pub follow_within : (c : Cursor) (limit : ℕ) → limit ≡ min c.end (length file)
      → (limit ≤ length file) × (following file (record c { end = limit }) ≡ following file c)
  follow_within c limit e = (omega arith, follow_cut c.at c.end limit c.block (go (leb c.end (length file)) refl))
    where
      go : (b : Bool) → leb c.end (length file) ≡ b → take limit file ≡ take c.end file
      go true h = let few = leb-true c.end (length file) h in let is : limit ≡ c.end = omega arith in rw is
      go false h =
          let many = leb-false c.end (length file) h in
          let is : limit ≡ length file = omega arith in
          rw is (take-length file ∙ sym (take_all c.end file (omega arith)))

  -- a record is found in the payload
  pub follow_text : (at end block start n : ℕ) → text_at 0 (take end file) at ≡ answer (record { item = text_in (take end file) start n; next = start + n })
      → (start + n ≤ end) × (follow at end block ≡ text_in file start n ∷ follow (start + n) end block)
  unfolding following records_from text_in
  follow_text at end block start n e =
      let s = take end file in
      let within : start + n ≤ length s = text_within 0 s at _ e in
      let forward : at < start + n = text_forward 0 s at _ e in
      let cut = length-take end file in
      let first = sound_first (text_at 0 s) (length s) (text_forward 0 s) at _ (omega arith) e in
      let before : start + n ≤ end = omega arith in (
        before,
        ap (λ (l : List Text). l ++ records_of (laid_from file block)) first
            ∙ ap (λ (b : List ℕ). record { at = start; bytes = b } ∷ (records_from 0 s (start + n) ++ records_of (laid_from file block))) (part-take file end start n before),
      )

  -- no record is found there
  module _ (at end block number place : ℕ) (none : text_at 0 (take end file) at ≡ refused number place) where
    rest : follow at end block ≡ records_of (laid_from file block)
    unfolding following records_from
    rest = ap (λ (l : List Text). l ++ records_of (laid_from file block)) (sound_none (text_at 0 (take end file)) (length (take end file)) at number place none)

    -- going on with the next block
    pub follow_block : (f : Frame) → frame_at file block ≡ answer f → (limit : ℕ) → limit ≡ cond (is_data f.level) f.end 0
        → follow at end block ≡ follow (f.body + 1) limit (block + f.size)
    unfolding following is_data
    follow_block f e limit is =
        rest ∙ laid_records_lem file block f e ∙ ap (λ (l : List Text). l ++ records_of (laid_from file (block + f.size))) (go (is_data f.level) refl)
      where
        go : (b : Bool) → is_data f.level ≡ b → laid_records file f ≡ records_from 0 (take limit file) (f.body + 1)
        go true d =
            let l = frame⇒Framed file block f e in
            let sized = l.sized in
            let within = l.within in
            let cut : limit ≡ f.end = is ∙ ap (λ (b : Bool). cond b f.end 0) d in
            data_records file f (eqb-true f.level 0 d) (omega arith)
            ∙ records_any_place f.start 0 (take f.end file) (f.body + 1)
            ∙ ap (λ (n : ℕ). records_from 0 (take n file) (f.body + 1)) (sym cut)
        go false d =
            let cut : limit ≡ 0 = is ∙ ap (λ (b : Bool). cond b f.end 0) d in
            laid_no_records file f (eqb-false f.level 0 d) ∙ sym (ap (λ (n : ℕ). records_from 0 (take n file) (f.body + 1)) cut ∙ no_bytes (f.body + 1))

    -- no block follows
    pub follow_none : (n p : ℕ) → frame_at file block ≡ refused n p → follow at end block ≡ []
    follow_none n p e = rest ∙ laid_none file block n p e

-- ---- what an answer says

-- the record that it names lies within the file
pub within_told : (file : List ℕ) (f : Found) (p : Part) → f.text ≡ Some p → RecordWithin file f → p.offset + p.length ≤ length file
unfolding RecordWithin PartWithin
within_told file f p e h = subst (PartWithin file) e h

-- and is the first that follows
pub found_told : (file : List ℕ) (f : Found) (p : Part) → f.text ≡ Some p → record_said file f ≡ text_in file p.offset p.length ∷ following file (behind f.here p)
unfolding record_said
found_told file f p e = rw e
