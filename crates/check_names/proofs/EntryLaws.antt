-- Laws of one entry: whether it names a fitting block, as the search and the frame there tell.
-- Assumes nothing.
use mathlib.Core.Path.{◌≡◌, sym, ap, ◌∙◌}
use mathlib.Core.List.{List, Memᴰ}
use Prim.Native.Nat.{ℕ, ◌+◌, ◌<◌}
use native.Mathlib.Omega.{arith}
use lib.ListN.{length, get_or}
use Rattle.outcome.specs.Outcome.{answer, refused}
use Rattle.outcome.proofs.OutcomeLaws.{answer_injective, answer_not_refused}
use Rattle.framing.specs.declared.Frame.{Frame}
use Rattle.framing.specs.Frame.{frame_at}
use Rattle.payload.specs.Payload.{Entry}
use Rattle.block.specs.Block.{Block}
use Rattle.block.specs.Survey.{ordinary}
use Rattle.block.specs.Laid.{laid_from}
use Rattle.tree.proofs.StageLaws.{names_true, names_false}
use Rattle.std.specs.Prelude.{Some, None, Result, Ok, Err}
use Rattle.std.specs.Result.{result_ok}
use Rattle.outcome.specs.declared.Fault.{Fault}
use Rattle.outcome.specs.Fault.{number, said_at}
use Rattle.check_names.specs.Starts.{starts_of, StartsRise, Located}
use Rattle.check_names.specs.Names.{WordsKept, Named}
use Rattle.check_names.proofs.StartsLaws.{AtIndex, index_of, length_starts, ordinary_laid, ordinary_unique}
use Rattle.check_names.proofs.WordLaws.{kept_block, kept_start_at, kept_rise}

-- ---- the frame that the code reads

frame_told : (file : List ℕ) (at : ℕ) (r : Result Frame Fault) (f : Frame) → Some f ≡ result_ok r → said_at at r ≡ frame_at file at
    → frame_at file at ≡ answer f
unfolding said_at
frame_told file at (Ok g) f e told = let same : g ≡ f = cc in sym told ∙ ap answer same
frame_told file at (Err x) f e told = cc

no_frame_told : (file : List ℕ) (at : ℕ) (r : Result Frame Fault) → None ≡ result_ok r → said_at at r ≡ frame_at file at
    → (number : ℕ) × (frame_at file at ≡ refused number at)
unfolding said_at
no_frame_told file at (Ok g) e told = cc
no_frame_told file at (Err x) e told = (number x, sym told)

-- ---- the test of the code

module _ (file : List ℕ) (from : ℕ) (seen : List Entry) (work : List ℕ) (k : WordsKept file from seen work) (e : Entry) (level : ℕ) where
  abbrev bs : List Block
  bs = laid_from file from

  -- an offset that is not found is no block's
  pub named_none : (StartsRise work → Located work e.offset None) → Named bs level e None
  unfolding starts_of Located Named
  named_none s = names_false bs level e none
    where
      none : (c : Block) → Memᴰ c (ordinary bs) → c.frame.start ≡ e.offset → c.frame.size ≡ e.size → c.frame.level + 1 ≡ level → ⊥
      none c m start size lower =
          let at = index_of (ordinary bs) c m in
          let many = k.many in
          let long = length_starts bs in
          let inside = at.1 in
          let low : at.0 < length work = omega arith in
          s (kept_rise file from seen work k) at.0 low (kept_start_at file from seen work k at.0 low ∙ at.2 ∙ start)

  module _ (i : ℕ) (inside : i < length work) (s : StartsRise work → Located work e.offset (Some i)) where
    found : AtIndex (ordinary bs) i
    found = kept_block file from seen work k i inside

    place : get_or (starts_of bs) i 0 ≡ e.offset
    unfolding Located
    place = sym (kept_start_at file from seen work k i inside) ∙ s (kept_rise file from seen work k)

    found_start : found.block.frame.start ≡ e.offset
    unfolding starts_of
    found_start = sym found.starts ∙ place

    found_frame : frame_at file e.offset ≡ answer found.block.frame
    found_frame = ap (frame_at file) (sym found_start) ∙ (ordinary_laid file from found.block found.member).framed

    -- a frame can be read there
    pub named_framed : (number p : ℕ) → frame_at file e.offset ≡ refused number p → ⊥
    named_framed number p r = answer_not_refused found.block.frame number p (sym found_frame ∙ r)

    -- and the code reads it
    pub named_read : (r : Result Frame Fault) → None ≡ result_ok r → said_at e.offset r ≡ frame_at file e.offset → ⊥
    named_read r none told = let no = no_frame_told file e.offset r none told in named_framed no.0 e.offset no.1

    same_frame : (r : Result Frame Fault) (f : Frame) → Some f ≡ result_ok r → said_at e.offset r ≡ frame_at file e.offset → found.block.frame ≡ f
    same_frame r f some told = answer_injective found.block.frame f (sym found_frame ∙ frame_told file e.offset r f some told)

    -- another full size, or another level
    pub named_unfit : (r : Result Frame Fault) (f : Frame) → Some f ≡ result_ok r → said_at e.offset r ≡ frame_at file e.offset
        → (f.size ≡ e.size → f.level + 1 ≡ level → ⊥) → Named bs level e None
    unfolding Named
    named_unfit r f some told other = names_false bs level e none
      where
        same : found.block.frame ≡ f
        same = same_frame r f some told

        none : (c : Block) → Memᴰ c (ordinary bs) → c.frame.start ≡ e.offset → c.frame.size ≡ e.size → c.frame.level + 1 ≡ level → ⊥
        none c m start size lower =
            let one = ordinary_unique file from c m found.block found.member (start ∙ sym found_start) in
            let frame : c.frame ≡ f = ap (λ (b : Block). b.frame) one ∙ same in
            other (ap (λ (g : Frame). g.size) (sym frame) ∙ size) (ap (λ (g : Frame). g.level + 1) (sym frame) ∙ lower)

    pub named_fit : (r : Result Frame Fault) (f : Frame) → Some f ≡ result_ok r → said_at e.offset r ≡ frame_at file e.offset
        → f.size ≡ e.size → f.level + 1 ≡ level → Named bs level e (Some i)
    unfolding Named
    named_fit r f some told size lower =
        let same = same_frame r f some told in
        record {
          fits =
              names_true bs level e found.block found.member found_start (ap (λ (g : Frame). g.size) same ∙ size)
              (ap (λ (g : Frame). g.level + 1) same ∙ lower);
          placed = place;
        }
